-- How a number within bounds is read.
use Rattle.std.proofs.Common.{◌≡◌, ◌≤◌, ◌<◌, ◌^◌, ℕ, Bool, true, false, List, Some, None, ap, refl, sym, ◌∙◌, subst}
use Rattle.std.specs.Prelude.{if◌then◌else◌}
use Rattle.std.specs.Str.Parse.{IsNumeral, digits_value, without_leading_plus}
use Rattle.clap.specs.ValueTests.{is_unsigned_in}
use Rattle.clap.specs.declared.builder.value_parser.ValueParser.TheVariants as vp
use Rattle.clap.proofs.ValueTestLemmas.{Accepts-accepts, accepts-Accepts}
use Rattle.btf_words.specs.Words.{number_within}

-- a text that spells a number within the bounds
pub spelt : (low high v : ℕ) (text : List ℕ) → IsNumeral 10 (without_leading_plus text) → v ≡ digits_value 10 (without_leading_plus text)
    → digits_value 10 (without_leading_plus text) < 2 ^ 64 → low ≤ v → v ≤ high → Some v ≡ number_within low high text
spelt low high v text numeral is fits least most =
    let D : ℕ = digits_value 10 (without_leading_plus text) in
    let passes : is_unsigned_in low high text ≡ true = Accepts-accepts false (vp.Unsigned low high) text
    (numeral, fits, subst (λ (n : ℕ). low ≤ n) is least, subst (λ (n : ℕ). n ≤ high) is most) in
    ap (λ (n : ℕ). Some n) is ∙ sym (ap (λ (b : Bool). if b then Some D else None) passes)

-- a text that spells none
pub not_spelt : (low high : ℕ) (text : List ℕ)
    → (IsNumeral 10 (without_leading_plus text) × (digits_value 10 (without_leading_plus text) < 2 ^ 64) → ⊥)
    → None ≡ number_within low high text
not_spelt low high text none = by (is_unsigned_in low high text) refl
  where
    by : (b : Bool) → is_unsigned_in low high text ≡ b → None ≡ (if b then Some (digits_value 10 (without_leading_plus text)) else None)
    by true e =
        let h = accepts-Accepts false (vp.Unsigned low high) text e in
        absurd (none (h.0, h.1))
    by false e = refl
