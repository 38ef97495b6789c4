-- The order of components, by where they lead to and by their numbers.
use Rattle.std.specs.Prelude.{ℕ, ◌<◌, ◌≤◌, List, [], ◌∷◌, ◌++◌, length}
use Rattle.bip_defs.specs.Lists.{Among}
use Rattle.dm_fine.specs.Layout.{Layout, LeadsTo}

-- after those before, k leads to no other component, and is the least of all that lead to none
pub record IsNext (t : Layout) (before : List ℕ) (k : ℕ) : Type 0 where
  pub in_range : k < length t.cols
  pub fresh : ¬ Among k before
  pub free : (p : ℕ) → p < length t.cols → LeadsTo t k p → Among p before
  pub first : (j : ℕ) → j < length t.cols → ¬ Among j before
      → ((p : ℕ) → p < length t.cols → LeadsTo t j p → Among p before) → k ≤ j

-- each is the next after those before it
abbrev pub Follow : Layout → List ℕ → List ℕ → Type 0
Follow t before [] = Unit {0}
Follow t before (k ∷ ks) = IsNext t before k × Follow t (before ++ k ∷ []) ks

-- all components, in order
pub record AreOrdered (t : Layout) (ks : List ℕ) : Type 0 where
  pub follow : Follow t [] ks
  pub all : (k : ℕ) → k < length t.cols → Among k ks
