-- What is kept of a word as a number, byte by byte.
use Rattle.std.proofs.Common.{◌≡◌, ℕ, ◌+◌, ◌*◌, ◌-◌, Bool, true, false, if◌then◌else◌, ◌&&◌, ◌==◌, List, [], ◌∷◌, ◌++◌, refl, sym, ap, ◌∙◌, arith}
use Rattle.std.specs.Char.{is_ascii_digit}
use Rattle.std.specs.Str.{all_ascii_digits}
use Rattle.std.proofs.lemmas.Int.Digits.{digits_value_push}
use Rattle.mm_defs.specs.Words.{has_bytes}
use Rattle.mm_defs.specs.Numbers.{value, bare}
use Rattle.mm_lines.specs.declared.number.Number.{Number}
use Rattle.mm_lines.specs.Tokens.{capped, number_facts, next_number}
use Rattle.mm_defs.proofs.SplitLemmas.{has_bytes-push}
use Rattle.mm_defs.proofs.WordLemmas.{all_ascii_digits-push, digit_at}

-- by the sign, and the bytes behind it
abbrev facts : Bool → List ℕ → Number
facts m ds = record {
  minus = m;
  some = has_bytes ds;
  digits = all_ascii_digits ds;
  value = if all_ascii_digits ds then capped (value ds) else 0;
}

cap_step : (v d : ℕ) → capped (capped (capped v * 10) + d) ≡ capped (v * 10 + d)
cap_step v d = omega arith

value_step : (ds : List ℕ) (c : ℕ) (a b : Bool) → all_ascii_digits ds ≡ a → is_ascii_digit c ≡ b
    → (if a && b then capped (capped ((if a then capped (value ds) else 0) * 10) + (c - 48)) else 0) ≡ (if a && b then capped (value (ds ++ c ∷ [])) else 0)
value_step ds c true true ea eb =
    let e : value (ds ++ c ∷ []) ≡ value ds * 10 + (c - 48) = digits_value_push 10 ds c ∙ rw (digit_at c eb) refl in
    rw e (cap_step (value ds) (c - 48))
value_step ds c true false ea eb = refl
value_step ds c false true ea eb = refl
value_step ds c false false ea eb = refl

facts-push : (m : Bool) (ds : List ℕ) (c : ℕ) → next_number (facts m ds) c ≡ facts m (ds ++ c ∷ [])
facts-push m ds c =
    let a = has_bytes-push ds c in
    let b = all_ascii_digits-push ds c in
    let v = value_step ds c (all_ascii_digits ds) (is_ascii_digit c) refl refl in
    rw (a, b) (ap (λ (n : ℕ). record { minus = m; some = true; digits = all_ascii_digits ds && is_ascii_digit c; value = n }) v)

bare-push : (b : ℕ) (bs : List ℕ) (c : ℕ) (minus plus : Bool) → (b == 45) ≡ minus → (b == 43) ≡ plus → bare ((b ∷ bs) ++ c ∷ []) ≡ bare (b ∷ bs) ++ c ∷ []
bare-push b bs c true plus m p = rw m refl
bare-push b bs c false true m p = rw (m, p) refl
bare-push b bs c false false m p = rw (m, p) refl

pub number_facts-push : (b : ℕ) (bs : List ℕ) (c : ℕ) → next_number (number_facts (b ∷ bs)) c ≡ number_facts ((b ∷ bs) ++ c ∷ [])
number_facts-push b bs c =
    let e = bare-push b bs c (b == 45) (b == 43) refl refl in
    facts-push (b == 45) (bare (b ∷ bs)) c ∙ ap (facts (b == 45)) (sym e)
