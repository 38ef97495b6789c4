-- How lists of claims, or of wins, account for words: each entry of a list is a word and the value
-- that it got.
use Rattle.std.specs.Prelude.{◌≡◌, ◌⊎◌, ℕ, ◌≤◌, ◌==◌, if◌then◌else◌, List, [], ◌∷◌, Option, None, Some, length}
use Rattle.bip_defs.specs.Lists.{Among, AreDistinct, numbers_of}
use Rattle.bip_defs.specs.Occurrences.{times}
use Rattle.bip_defs.specs.WordValues.{held, is_added}

-- A word that was opened with a value holds it, and is not listed. A word that was opened empty is
-- empty and not listed, or holds the value that is listed for it, once
pub record Accounts (opened now : List (Option ℕ)) (listed : List (ℕ × ℕ)) : Type 0 where
  pub as_many : length now ≡ length opened
  pub stays : (i x : ℕ) → held opened i ≡ Some x → held now i ≡ Some x
  pub stands : (i x : ℕ) → Among (i, x) listed → held now i ≡ Some x
  pub once : (i : ℕ) → times i listed ≡ is_added (held opened i) (held now i)

-- what such a list tells of the words
pub record TellsOfWords (opened now : List (Option ℕ)) (listed : List (ℕ × ℕ)) : Type 0 where
  -- a word that is listed was opened empty, and holds what is listed
  pub stands : (i x : ℕ) → Among (i, x) listed → (held opened i ≡ None) × (held now i ≡ Some x)
  -- a word that holds a value was opened with it, or is listed with it
  pub from : (i x : ℕ) → held now i ≡ Some x → (held opened i ≡ Some x) ⊎ Among (i, x) listed
  -- each word is listed once, and no more words than there are
  pub once : AreDistinct (numbers_of listed)
  pub few : length listed ≤ length opened

-- the value that is first listed for a word
abbrev pub first_listed : ℕ → List (ℕ × ℕ) → Option ℕ
first_listed i [] = None
first_listed i (p ∷ ps) = if p.0 == i then Some p.1 else first_listed i ps

abbrev pub value_or : Option ℕ → Option ℕ → Option ℕ
value_or None other = other
value_or (Some x) other = Some x

-- what the lists tell of a word: the value with which it was opened, or else the one that is listed
-- for it
abbrev pub listed_word : List (Option ℕ) → List (ℕ × ℕ) → ℕ → Option ℕ
listed_word opened listed i = value_or (held opened i) (first_listed i listed)
