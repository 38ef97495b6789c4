use Rattle.std.proofs.Common.{◌*◌, ◌+◌, ap, ap₂, arith, drop, sym, ◌∙◌, Some, List, ℕ}
use Rattle.report_reader.specs.ReportGrammar.{digits_on}
use Rattle.report_reader.proofs.Digits.{digits_end, digits_more, digits_over, digits_stop, rest_of}
use Rattle.report_reader.proofs.numerals.digits_on.Goals as goal

pub returns-then-not-is_ascii_digit : goal.returns-then-not-is_ascii_digit
returns-then-not-is_ascii_digit c =
    sym c.loop-at.invariant.same ∙ digits_stop c.loop-at.value c.args.bytes.now c.loop-at.at _ c.loop-at-test.true (sym c.is_ascii_digit.ensures.value ∙ c.if-not-is_ascii_digit.true)
    ∙ ap (λ (rest : List ℕ). Some (c.loop-at.value, rest)) (sym (rest_of c.args.bytes.now c.loop-at.at))

pub returns-then-longer-from : goal.returns-then-longer-from
returns-then-longer-from c =
    sym c.loop-at.invariant.same
    ∙ digits_over c.loop-at.value c.args.bytes.now c.loop-at.at _ c.loop-at-test.true (sym c.is_ascii_digit.ensures.value ∙ c.if-not-is_ascii_digit.false)
    (omega (arith, c.if-longer-from.true, c.from.ensures, c.from-in-loop-at.ensures, c.from-in-loop-at-2.ensures))

pub loop-at-preserved : goal.loop-at-preserved
loop-at-preserved c = record {
  fits = omega (arith, c.if-longer-from.false, c.from-in-loop-at-2.ensures);
  same = ap₂ (λ (a b : ℕ). digits_on (a * 10 + b) (drop (c.loop-at.at + 1) c.args.bytes.now)) c.from.ensures c.from-in-loop-at.ensures
      ∙ sym (digits_more c.loop-at.value c.args.bytes.now c.loop-at.at 0 c.loop-at-test.true (sym c.is_ascii_digit.ensures.value ∙ c.if-not-is_ascii_digit.false)
      (omega (arith, c.if-longer-from.false, c.from.ensures, c.from-in-loop-at.ensures, c.from-in-loop-at-2.ensures)))
      ∙ c.loop-at.invariant.same;
}

pub returns : goal.returns
returns c =
    sym c.loop-at.invariant.same ∙ digits_end c.loop-at.value c.args.bytes.now c.loop-at.at c.loop-at-test.false
    ∙ ap (λ (rest : List ℕ). Some (c.loop-at.value, rest)) (sym (rest_of c.args.bytes.now _))
