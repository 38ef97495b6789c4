use Rattle.std.proofs.Common.{◌*◌, ◌+◌, ◌∙◌, sym, subst, arith, ℕ}
use Rattle.mm_reader.specs.Plain.{IsDigits}
use Rattle.mm_reader.proofs.PlainLaws.{digits_more, few_digits}
use Rattle.mm_reader.proofs.places.digits.Goals as goal

pub overflow_mul-value : goal.overflow_mul-value
overflow_mul-value c =
    let few = few_digits c.args.bytes.now c.args.from c.loop-at.at c.loop-at.value c.loop-at.invariant (omega arith) in
    omega arith

pub overflow_add-value : goal.overflow_add-value
overflow_add-value c =
    let few = few_digits c.args.bytes.now c.args.from c.loop-at.at c.loop-at.value c.loop-at.invariant (omega arith) in
    omega (arith, c.from.ensures, c.is_ascii_digit.ensures.bound)

pub loop-at-preserved : goal.loop-at-preserved
loop-at-preserved c =
    let h = digits_more c.args.bytes.now c.args.from c.loop-at.at c.loop-at.value c.loop-at.invariant (omega arith) (omega arith) (sym c.is_ascii_digit.ensures.value ∙ c.if-not-is_ascii_digit.false) in
    subst (λ (k : ℕ). IsDigits c.args.bytes.now c.args.from (c.loop-at.at + 1) (c.loop-at.value * 10 + k)) (sym c.from.ensures) h
