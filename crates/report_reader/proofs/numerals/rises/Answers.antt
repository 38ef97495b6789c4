use Rattle.std.proofs.Common.{◌∙◌, ap, sym}
use Rattle.report_reader.proofs.Risen.{falls, rises_on, rises_through}
use Rattle.report_reader.proofs.Rising.{rises_tells}
use Rattle.report_reader.proofs.numerals.rises.Goals as goal

pub returns-then-number-least-clause-told : goal.returns-then-number-least-clause-told
returns-then-number-least-clause-told g c =
    sym (falls g.N.Id.number c.args.list.now _ c.id-item.result _ _ c.loop-id-test.true (c.from-number.ensures ∙ c.number.ensures ∙ ap g.N.Id.number c.id-item.is) c.if-number-least.true) ∙ c.loop-id.invariant

pub returns-then-number-least-clause-rising : goal.returns-then-number-least-clause-rising
returns-then-number-least-clause-rising g c = rises_tells _ _ (returns-then-number-least-clause-told g c)

pub loop-id-preserved : goal.loop-id-preserved
loop-id-preserved g c =
    sym (rises_on g.N.Id.number c.args.list.now _ c.id-item.result _ _ c.loop-id-test.true (c.from-number.ensures ∙ c.number.ensures ∙ ap g.N.Id.number c.id-item.is) c.if-number-least.false) ∙ c.loop-id.invariant

pub returns-clause-told : goal.returns-clause-told
returns-clause-told g c = sym (rises_through g.N.Id.number c.args.list.now _ _ c.loop-id-test.false) ∙ c.loop-id.invariant

pub returns-clause-rising : goal.returns-clause-rising
returns-clause-rising g c = rises_tells _ _ (returns-clause-told g c)
