use Rattle.std.proofs.Common.{◌∙◌, sym}
use Rattle.mm_reader.proofs.PlainLaws.{run_more}
use Rattle.mm_reader.proofs.plain.word_end.Goals as goal

pub loop-at-preserved : goal.loop-at-preserved
loop-at-preserved c = run_more _ c.args.bytes.now c.args.from c.loop-at.at c.loop-at.invariant c.loop-at-test.true (sym c.is_visible.ensures ∙ c.if-not-is_visible.false)
