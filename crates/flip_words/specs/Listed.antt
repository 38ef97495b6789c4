-- What a seat lists.
use Rattle.std.specs.Prelude.{ℕ, List, [], ◌∷◌, ◌++◌, Option, None, Some, flat_map}

-- the trees that were taken, each with the number of its taker; the trees that were seen taken,
-- each with its taker; the vertices that were set, each with its mate; and the vertices that were
-- looked at, each with the mate, or none, that it had then: all in order
pub record Listed : Type 0 where
  pub taken : List (ℕ × ℕ)
  pub seen : List (ℕ × ℕ)
  pub sets : List (ℕ × ℕ)
  pub looks : List (ℕ × Option ℕ)

abbrev pub nothing : Listed
nothing = record { taken = []; seen = []; sets = []; looks = [] }

-- a take that found the tree's word empty took the tree
abbrev pub with_taken : List (ℕ × ℕ) → ℕ → ℕ → Option ℕ → List (ℕ × ℕ)
with_taken list root number None = list ++ (root, number) ∷ []
with_taken list root number (Some found) = list

-- a take that found a taker has seen it
abbrev pub with_seen : List (ℕ × ℕ) → ℕ → Option ℕ → List (ℕ × ℕ)
with_seen list root None = list
with_seen list root (Some found) = list ++ (root, found) ∷ []

-- after a take by the seat of this number, where the tree's word held `found`
abbrev pub took : Listed → ℕ → ℕ → Option ℕ → Listed
took l root number found = record {
  taken = with_taken l.taken root number found;
  seen = with_seen l.seen root found;
  sets = l.sets;
  looks = l.looks;
}

-- after a set of a vertex
abbrev pub put : Listed → ℕ → ℕ → Listed
put l vertex mate = record {
  taken = l.taken;
  seen = l.seen;
  sets = l.sets ++ (vertex, mate) ∷ [];
  looks = l.looks;
}

-- after a look at a vertex
abbrev pub looked : Listed → ℕ → Option ℕ → Listed
looked l vertex mate = record {
  taken = l.taken;
  seen = l.seen;
  sets = l.sets;
  looks = l.looks ++ (vertex, mate) ∷ [];
}

-- two lists of each kind one after the other
abbrev pub followed_by : Listed → Listed → Listed
followed_by l m = record {
  taken = l.taken ++ m.taken;
  seen = l.seen ++ m.seen;
  sets = l.sets ++ m.sets;
  looks = l.looks ++ m.looks;
}

-- all of these, one after the other
abbrev pub all_listed : List Listed → Listed
all_listed ls = record {
  taken = flat_map (λ (l : Listed). l.taken) ls;
  seen = flat_map (λ (l : Listed). l.seen) ls;
  sets = flat_map (λ (l : Listed). l.sets) ls;
  looks = flat_map (λ (l : Listed). l.looks) ls;
}
