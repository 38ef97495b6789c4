use Rattle.std.proofs.Common.{◌≡◌, ℕ, ◌<◌, IsTrue, get_or}
use Rattle.bip_defs.specs.Matrix.{cols}
use Rattle.square_components.specs.Found.{finished_at}
use Rattle.square_components.specs.Numbers.{look}
use Rattle.square_components.proofs.NumberingLemmas.{AreLabelled, AreWritten}
use Rattle.square_components.proofs.numbering.by_least.Given as goal

abbrev pub invariant-loop-place : goal.invariant-loop-place
invariant-loop-place g l =
    let pairs = g.S.SquarePart.pairs l.part in
    let listed = g.S.SquarePart.cols l.part in
    record {
      written : AreWritten pairs listed l.fn.found.0.items (cols (g.C.ColumnLists.matrix l.fn.columns)) l.place l.of_rows.items l.of_cols.items;
      labelled : AreLabelled (finished_at pairs l.fn.found.0.items) listed l.fn.found.1 l.place l.of_cols.items l.anew.items l.count;
      in_order : IsTrue l.in_order → (i : ℕ) → i < l.place → look l.of_cols.items (get_or listed i 0) ≡ finished_at pairs l.fn.found.0.items (get_or listed i 0);
    }
