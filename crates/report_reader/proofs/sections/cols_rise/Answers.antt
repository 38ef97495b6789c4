use Rattle.std.proofs.Common.{◌∙◌, ap, sym}
use Rattle.bip_defs.specs.Matrix.{Place}
use Rattle.report_reader.proofs.Risen.{falls, rises_on, rises_through}
use Rattle.report_reader.proofs.sections.cols_rise.Goals as goal

pub returns-then-number-least : goal.returns-then-number-least
returns-then-number-least c =
    sym (falls (λ (p : Place). p.1) c.args.pairs.now _ c.pair-item.result _ _ c.loop-pair-test.true (c.from-number.ensures ∙ ap (λ (p : Place). p.1) c.pair.view_is ∙ ap (λ (p : Place). p.1) c.pair-item.is) c.if-number-least.true) ∙ c.loop-pair.invariant

pub loop-pair-preserved : goal.loop-pair-preserved
loop-pair-preserved c =
    sym (rises_on (λ (p : Place). p.1) c.args.pairs.now _ c.pair-item.result _ _ c.loop-pair-test.true (c.from-number.ensures ∙ ap (λ (p : Place). p.1) c.pair.view_is ∙ ap (λ (p : Place). p.1) c.pair-item.is) c.if-number-least.false) ∙ c.loop-pair.invariant

pub returns : goal.returns
returns c = sym (rises_through (λ (p : Place). p.1) c.args.pairs.now _ _ c.loop-pair-test.false) ∙ c.loop-pair.invariant
