-- A tree of words: each word says which of the 64 words below it are not 0.
use Rattle.std.specs.Prelude.{◌≡◌, ◌≢◌, ◌⊎◌, ℕ, zero, suc, ◌+◌, ◌*◌, ◌<◌, ◌≤◌, ◌^◌, List, length, filter, slice_index, nat_eq}
use Rattle.bip_defs.specs.Matrix.{upto}
use Rattle.int_set.specs.Numbers.{Numbers}
use Rattle.int_set.specs.Words.{bit, IsSet}

-- the first word of a level: each level has 64 words for each of the one above it, and the first has one
abbrev pub start_of : ℕ → ℕ
start_of zero = 0
start_of (suc d) = 64 * start_of d + 1

-- word i + 1 is not 0 exactly where bit i is set; the bits from `first` on have no words
pub record IsTree (words : List ℕ) (first : ℕ) : Type 0 where
  pub full : (i : ℕ) → i + 1 < length words → IsSet words i → slice_index words (i + 1) ≢ 0
  pub empty : (i : ℕ) → i + 1 < length words → ¬ IsSet words i → slice_index words (i + 1) ≡ 0
  pub within : (i : ℕ) → IsSet words i → (i + 1 < length words) ⊎ (first ≤ i)

-- the lowest level has a bit for each number below the bound
pub record IsShaped (words : List ℕ) (depth first bound : ℕ) : Type 0 where
  pub lowest : first ≡ 64 * start_of depth
  pub a_word : 0 < length words
  pub fits : length words ≤ first + 1
  pub holds : first + bound < 64 * length words
  pub small : first < 2 ^ 40
  pub few : bound < 2 ^ 32

-- the numbers whose bits are set
abbrev pub members_of : List ℕ → ℕ → ℕ → List ℕ
members_of words first bound = filter (λ x. nat_eq (bit words (first + x)) 1) (upto bound)

abbrev pub numbers_of : List ℕ → ℕ → ℕ → Numbers
numbers_of words first bound = record { bound = bound; members = members_of words first bound }

-- a tree over the numbers below the bound
pub record IsSetOf (words : List ℕ) (depth first bound : ℕ) : Type 0 where
  pub shaped : IsShaped words depth first bound
  pub tree : IsTree words first
  pub below : (x : ℕ) → IsSet words (first + x) → x < bound

-- no bit from `from` up to `to` is set
abbrev pub NoneSet : List ℕ → ℕ → ℕ → Type 0
NoneSet words from to = (i : ℕ) → from ≤ i → i < to → ¬ IsSet words i
