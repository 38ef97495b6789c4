-- How the lists of seats account for the words: each entry of a list is a tree or a vertex, and
-- what was written there.
use Rattle.std.specs.Prelude.{◌≡◌, ℕ, ◌≤◌, List, Option, None, Some, length}
use Rattle.bip_defs.specs.Lists.{Among}
use Rattle.bip_defs.specs.Occurrences.{times}
use Rattle.bip_defs.specs.WordValues.{held}
use Rattle.flip_words.specs.Listed.{Listed}

-- 1 where a word holds something, and else 0
abbrev pub is_held : Option ℕ → ℕ
is_held None = 0
is_held (Some x) = 1

-- A tree's word is empty and the tree is not listed, or it holds the number that is listed for the
-- tree, once
pub record Takes (trees : ℕ) (now : List (Option ℕ)) (listed : List (ℕ × ℕ)) : Type 0 where
  pub as_many : length now ≡ trees
  pub stands : (root number : ℕ) → Among (root, number) listed → held now root ≡ Some number
  pub once : (root : ℕ) → times root listed ≡ is_held (held now root)

-- A vertex has the mate that is listed for it, once, or it is not listed and has the mate with
-- which it was opened
pub record Sets (opened now : List (Option ℕ)) (listed : List (ℕ × ℕ)) : Type 0 where
  pub as_many : length now ≡ length opened
  pub stands : (v mate : ℕ) → Among (v, mate) listed → held now v ≡ Some mate
  pub stays : (v : ℕ) → times v listed ≡ 0 → held now v ≡ held opened v
  pub once : (v : ℕ) → times v listed ≤ 1

-- The lists account for the seats that took the trees and for the mates of vertices that were
-- opened with these, and each taker that was seen stands
pub record Settles (trees : ℕ) (opened : List (Option ℕ)) (takers mates : List (Option ℕ))
    (l : Listed) : Type 0 where
  pub takes : Takes trees takers l.taken
  pub seen : (root number : ℕ) → Among (root, number) l.seen → held takers root ≡ Some number
  pub sets : Sets opened mates l.sets
