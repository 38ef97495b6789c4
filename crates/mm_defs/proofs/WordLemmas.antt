-- Words and digits, byte by byte.
use Rattle.std.proofs.Common.{◌≡◌, ℕ, ◌-◌, ◌≤◌, Bool, true, false, ◌&&◌, List, [], ◌∷◌, ◌++◌, filter, refl, ap, ◌∙◌, append-nil, arith, leb-true}
use Rattle.std.specs.Char.{is_ascii_digit, digit_value}
use Rattle.std.specs.List.{slice_split}
use Rattle.std.specs.Str.{all_ascii_digits}
use Rattle.std.proofs.lemmas.List.Elements.{filter-append}
use Rattle.std.proofs.lemmas.Str.{digit_value_digit}
use Rattle.mm_defs.specs.Words.{has_bytes, is_blank, words}
use Rattle.mm_defs.proofs.AnswerLemmas.{and_left, and_right}
use Rattle.mm_defs.proofs.SplitLemmas.{split-push_yes}

pub words-none : words [] ≡ []
unfolding words
words-none = refl

-- a blank ends the word
pub words-blank : (line : List ℕ) (b : ℕ) → is_blank b ≡ true → words (line ++ b ∷ []) ≡ words line
unfolding words
words-blank line b e =
    ap (filter has_bytes) (split-push_yes is_blank line b e) ∙ filter-append has_bytes (slice_split is_blank line) ([] ∷ []) ∙ append-nil (filter has_bytes (slice_split is_blank line))

pub empty_of : (w : List ℕ) → has_bytes w ≡ false → w ≡ []
empty_of [] h = refl
empty_of (a ∷ w) h = absurd cc

pub all_ascii_digits-push : (ds : List ℕ) (c : ℕ) → all_ascii_digits (ds ++ c ∷ []) ≡ (all_ascii_digits ds && is_ascii_digit c)
all_ascii_digits-push [] c = both (is_ascii_digit c)
  where
    both : (b : Bool) → (b && true) ≡ b
    both true = refl
    both false = refl
all_ascii_digits-push (d ∷ ds) c = ap (λ b. is_ascii_digit d && b) (all_ascii_digits-push ds c) ∙ assoc (is_ascii_digit d) (all_ascii_digits ds) (is_ascii_digit c)
  where
    assoc : (x y z : Bool) → (x && (y && z)) ≡ ((x && y) && z)
    assoc true y z = refl
    assoc false y z = refl

pub digit_at : (c : ℕ) → is_ascii_digit c ≡ true → digit_value c ≡ c - 48
digit_at c h =
    let low : 48 ≤ c = leb-true _ _ (and_left _ _ h) in
    let high : c ≤ 57 = leb-true _ _ (and_right _ _ h) in
    let e = digit_value_digit c (low, high) in
    omega arith
