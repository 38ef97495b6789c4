use Rattle.std.proofs.Common.{◌∙◌, sym, subst}
use Rattle.claim_words.specs.WordCodes.{AllFit, code_by}
use Rattle.claim_words.proofs.WordCodes.{fits_more}
use Rattle.claim_words.proofs.Openings.{laid_more}
use Rattle.claim_words.proofs.board.lay.Goals as goal

pub loop-value-preserved : goal.loop-value-preserved
loop-value-preserved g c = record {
  words = c.in_ok-push.ensures.items ∙ laid_more (code_by g.I.Id.number) _ _ _ _ _ _ c.loop-value.invariant.words c.loop-value-test.true c.value-item.is c.code.ensures.code;
  fit = subst AllFit (sym c.in_ok-push.ensures.items) (fits_more _ _ c.loop-value.invariant.fit c.code.ensures.fits);
}
