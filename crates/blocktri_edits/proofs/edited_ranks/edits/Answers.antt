use Rattle.std.proofs.Common.{◌≡◌, ℕ, List, subst, sym}
use Rattle.bip_defs.specs.Matrix.{Matrix}
use Rattle.blocktri.specs.Compressed.{matrix_given}
use Rattle.blocktri_edits.specs.Edits.{AreRanksAfter, edit_list}
use Rattle.blocktri_edits.proofs.edited_ranks.edits.Goals as goal

pub returns-clause-ranks : goal.returns-clause-ranks
returns-clause-ranks g c =
    let es = edit_list c.args.places.now in
    let found = c.in_ok-found.found.items in
    let same : c.copy_from_slice.new.self ≡ found = cc (c.copy_from_slice.ensures.after, c.as_slice.ensures.value) in
    record {
      compressed = c.in_ok-check.ensures.right;
      holds = subst (λ (xs : List ℕ). AreRanksAfter (matrix_given c.args.matrix.now) es xs) (sym same) (subst (λ (a : Matrix). AreRanksAfter a es found) c.in_ok-pattern.ensures c.in_ok-found.ensures.ranks);
    }
