use Rattle.std.proofs.Common.{◌≡◌, take}
use Rattle.bip_defs.specs.EditedMatrix.{edited}
use Rattle.bip_defs.specs.Matrix.{cols}
use Rattle.blocktri_edits.specs.Edits.{edit_list}
use Rattle.blocktri_edits.proofs.EditSteps.{HaveRanks}
use Rattle.blocktri_edits.proofs.edited_ranks.session_ranks.Given as goal

abbrev pub invariant-loop-at : goal.invariant-loop-at
invariant-loop-at g l = record {
  ranks : HaveRanks l.fn.session.matrix (edit_list l.places) l.at l.ranks.items;
  matrix : l.session.matrix ≡ edited l.fn.session.matrix (take l.at (edit_list l.places));
  rows : l.session.matrix.rows ≡ l.fn.session.matrix.rows;
  cols_are : cols l.session.matrix ≡ cols l.fn.session.matrix;
}
