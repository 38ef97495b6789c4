use Rattle.std.proofs.Common.{inl, inr}
use Rattle.mm_reader.proofs.ValueWords.{pattern_values, real_values, integer_values_if, complex_values}
use Rattle.mm_reader.proofs.plain.values.Goals as goal

pub returns-in-Pattern : goal.returns-in-Pattern
returns-in-Pattern c = rw c.in-Pattern.is (pattern_values c.args.bytes.now c.args.from _ c.requires)

pub returns-in-Integer : goal.returns-in-Integer
returns-in-Integer c = rw c.in-Integer.is (integer_values_if c.args.bytes.now c.args.from c.next_integer.result c.next_integer.ensures)

pub returns-in-Complex : goal.returns-in-Complex
returns-in-Complex c =
    rw c.in-Complex.is (complex_values c.args.bytes.now c.args.from c.in_ok-end-in-Real.end c.in_ok-second_end-in-Real.second_end _ c.in_ok-end-in-Real.ensures c.in_ok-second_end-in-Real.ensures)

pub returns-in_default : goal.returns-in_default
returns-in_default c =
    elim c.in-Real.is [
      | inl e ↦ rw e (real_values c.args.bytes.now c.args.from c.in_ok-end-in-Real.end _ c.in_ok-end-in-Real.ensures)
      | inr e ↦ absurd (c.in_default.not-Complex e)
    ]
