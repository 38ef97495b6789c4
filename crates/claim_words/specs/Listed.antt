-- What a seat lists.
use Rattle.std.specs.Prelude.{ℕ, List, [], ◌∷◌, ◌++◌, Option, None, Some, flat_map}

-- a word that a step found and did not write, and what it held then
pub data Sight : Type 0 where
  row_word : (row : ℕ) (col : Option ℕ) → Sight
  root_word : (root : ℕ) (leaf : Option ℕ) → Sight

-- the rows that were claimed, each with its column, the roots that were won, each with its leaf,
-- and what was seen, in order
pub record Listed : Type 0 where
  pub claims : List (ℕ × ℕ)
  pub wins : List (ℕ × ℕ)
  pub seen : List Sight

abbrev pub nothing : Listed
nothing = record { claims = []; wins = []; seen = [] }

-- an exchange that found its word empty wrote the value, which is listed
abbrev pub with_written : List (ℕ × ℕ) → ℕ → ℕ → Option ℕ → List (ℕ × ℕ)
with_written list i x None = list ++ (i, x) ∷ []
with_written list i x (Some found) = list

-- an exchange that found a value has seen it
abbrev pub with_found_col : List Sight → ℕ → Option ℕ → List Sight
with_found_col list row None = list
with_found_col list row (Some found) = list ++ row_word row (Some found) ∷ []

abbrev pub with_found_leaf : List Sight → ℕ → Option ℕ → List Sight
with_found_leaf list root None = list
with_found_leaf list root (Some found) = list ++ root_word root (Some found) ∷ []

-- after an exchange of a row's word, which held `found`, for a column
abbrev pub claimed : Listed → ℕ → ℕ → Option ℕ → Listed
claimed l row col found = record {
  claims = with_written l.claims row col found;
  wins = l.wins;
  seen = with_found_col l.seen row found;
}

-- after an exchange of a root's word, which held `found`, for a leaf
abbrev pub won : Listed → ℕ → ℕ → Option ℕ → Listed
won l root leaf found = record {
  claims = l.claims;
  wins = with_written l.wins root leaf found;
  seen = with_found_leaf l.seen root found;
}

-- after a load
abbrev pub looked : Listed → Sight → Listed
looked l sight = record { claims = l.claims; wins = l.wins; seen = l.seen ++ sight ∷ [] }

-- two lists of each kind one after the other
abbrev pub followed_by : Listed → Listed → Listed
followed_by l m = record {
  claims = l.claims ++ m.claims;
  wins = l.wins ++ m.wins;
  seen = l.seen ++ m.seen;
}

-- all of these, one after the other
abbrev pub all_listed : List Listed → Listed
all_listed ls = record {
  claims = flat_map (λ (l : Listed). l.claims) ls;
  wins = flat_map (λ (l : Listed). l.wins) ls;
  seen = flat_map (λ (l : Listed). l.seen) ls;
}
