-- Words, byte by byte.
use Rattle.std.proofs.Common.{◌≡◌, ℕ, true, false, cond, List, [], ◌∷◌, ◌++◌, filter, refl, ap, ◌∙◌, append-nil}
use Rattle.std.specs.List.{slice_split}
use Rattle.std.proofs.lemmas.List.Elements.{filter-append}
use Rattle.mm_defs.specs.Words.{Word, words, but_last, last_part, has_bytes, is_blank}
use Rattle.mm_defs.proofs.SplitLemmas.{split_cons, parts_are, split-push_yes, split-push_no, last_part-append, has_bytes-push}
use Rattle.mm_defs.proofs.WordLemmas.{empty_of}
use Rattle.mm_lines.specs.Lines.{in_word}

-- the words but for the last, where it may go on
abbrev pub closed_words : List ℕ → List Word
closed_words line = filter has_bytes (but_last (slice_split is_blank line))

-- the last word, where it may go on
abbrev pub open_word : List ℕ → List ℕ
open_word line = last_part (slice_split is_blank line)

abbrev pub if_any : List ℕ → List Word
if_any w = cond (has_bytes w) (w ∷ []) []

pub words-is : (line : List ℕ) → words line ≡ closed_words line ++ if_any (open_word line)
unfolding words
words-is line =
    let c = split_cons is_blank line in
    rw c.2 (ap (filter has_bytes) (parts_are c.0 c.1) ∙ filter-append has_bytes (but_last (c.0 ∷ c.1)) (last_part (c.0 ∷ c.1) ∷ []))

pub in_word-blank : (line : List ℕ) (b : ℕ) → is_blank b ≡ true → in_word (line ++ b ∷ []) ≡ false
in_word-blank line b e = rw (split-push_yes is_blank line b e) (ap has_bytes (last_part-append (slice_split is_blank line) [] []))

open_word-push : (line : List ℕ) (b : ℕ) → is_blank b ≡ false → open_word (line ++ b ∷ []) ≡ open_word line ++ b ∷ []
open_word-push line b e = rw (split-push_no is_blank line b e) (last_part-append (but_last (slice_split is_blank line)) (open_word line ++ b ∷ []) [])

if_any-push : (w : List ℕ) (b : ℕ) → if_any (w ++ b ∷ []) ≡ (w ++ b ∷ []) ∷ []
if_any-push w b = rw (has_bytes-push w b) refl

-- another byte goes on with the open word, or begins it
words-push : (line : List ℕ) (b : ℕ) → is_blank b ≡ false → words (line ++ b ∷ []) ≡ closed_words line ++ (open_word line ++ b ∷ []) ∷ []
unfolding words
words-push line b e =
    ap (filter has_bytes) (split-push_no is_blank line b e)
    ∙ filter-append has_bytes (but_last (slice_split is_blank line)) ((open_word line ++ b ∷ []) ∷ [])
    ∙ ap (λ (t : List Word). closed_words line ++ t) (if_any-push (open_word line) b)

pub in_word-push : (line : List ℕ) (b : ℕ) → is_blank b ≡ false → in_word (line ++ b ∷ []) ≡ true
in_word-push line b e = ap has_bytes (open_word-push line b e) ∙ has_bytes-push (open_word line) b

-- behind a blank a word begins
pub words-begin : (line : List ℕ) (b : ℕ) → is_blank b ≡ false → in_word line ≡ false → words (line ++ b ∷ []) ≡ words line ++ (b ∷ []) ∷ []
words-begin line b e out =
    let n : open_word line ≡ [] = empty_of (open_word line) out in
    let k : words line ≡ closed_words line = words-is line ∙ rw n (append-nil (closed_words line)) in
    words-push line b e ∙ rw (n, k) refl

-- a word that may go on
pub record GoesOn (line : List ℕ) (b : ℕ) : Type 0 where
  pub prefix : List Word
  pub first : ℕ
  pub others : List ℕ
  pub before : words line ≡ prefix ++ (first ∷ others) ∷ []
  pub after : words (line ++ b ∷ []) ≡ prefix ++ ((first ∷ others) ++ b ∷ []) ∷ []

-- and it goes on
pub words-go_on : (line : List ℕ) (b : ℕ) → is_blank b ≡ false → in_word line ≡ true → GoesOn line b
words-go_on line b e inside = by (open_word line) refl inside
  where
    by : (w : List ℕ) → open_word line ≡ w → has_bytes w ≡ true → GoesOn line b
    by [] is h = absurd cc
    by (a ∷ w) is h = record {
      prefix = closed_words line;
      first = a;
      others = w;
      before = words-is line ∙ rw is refl;
      after = words-push line b e ∙ rw is refl;
    }
