use Rattle.std.proofs.Common.{subst}
use Rattle.std.specs.Prelude.{IfOk}
use Rattle.bip_defs.specs.Matrix.{Matrix}
use Rattle.blocktri_edits.specs.Edits.{AreRanksAfter, edit_list}
use Rattle.blocktri_edits.proofs.edited_ranks.ranks_after.Goals as goal

pub returns-clause-ranks : goal.returns-clause-ranks
returns-clause-ranks g c = subst (λ (a : Matrix). IfOk c.session_ranks.result (λ v. AreRanksAfter a (edit_list c.args.places.now) v.items)) c.in_ok-session.ensures.matrix c.session_ranks.ensures.ranks
