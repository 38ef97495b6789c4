use Rattle.std.proofs.Common.{◌≡◌, ◌∙◌, ◌-◌, ◌<◌, Bool, true, false, length, ap, subst, sym}
use Rattle.blocktri.specs.Compressed.{CompressedLists, pick}
use Rattle.blocktri.proofs.PairLemmas.{entry_listed}
use Rattle.blocktri.proofs.given_pairs.has_entry.Goals as goal

pub has_id_of-requires-clause-list : goal.has_id_of-requires-clause-list
has_id_of-requires-clause-list g c =
    let l = c.args.matrix.now in
    let turned : l.by_rows ≡ true = sym (ap (λ (v : CompressedLists). v.by_rows) c.matrix.view_is) ∙ c.if-matrix.true in
    subst (λ (b : Bool). c.args.row < pick b (length l.starts - 1) l.others) turned c.requires.row

pub has_id_of-requires-else-matrix-clause-list : goal.has_id_of-requires-else-matrix-clause-list
has_id_of-requires-else-matrix-clause-list g c =
    let l = c.args.matrix.now in
    let turned : l.by_rows ≡ false = sym (ap (λ (v : CompressedLists). v.by_rows) c.matrix.view_is) ∙ c.if-matrix.false in
    subst (λ (b : Bool). c.args.col < pick b l.others (length l.starts - 1)) turned c.requires.col

pub returns-then-matrix : goal.returns-then-matrix
returns-then-matrix g c =
    let turned : c.args.matrix.now.by_rows ≡ true = sym (ap (λ (v : CompressedLists). v.by_rows) c.matrix.view_is) ∙ c.if-matrix.true in
    entry_listed c.args.matrix.now true c.has_id_of.result c.args.row c.args.col turned c.has_id_of.ensures

pub returns-else-matrix : goal.returns-else-matrix
returns-else-matrix g c =
    let turned : c.args.matrix.now.by_rows ≡ false = sym (ap (λ (v : CompressedLists). v.by_rows) c.matrix.view_is) ∙ c.if-matrix.false in
    entry_listed c.args.matrix.now false c.has_id_of-else-matrix.result c.args.row c.args.col turned c.has_id_of-else-matrix.ensures
