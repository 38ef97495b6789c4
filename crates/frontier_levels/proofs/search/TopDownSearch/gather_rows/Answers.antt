use Rattle.std.proofs.Common.{ℕ, List, sym, subst}
use Rattle.std.proofs.lemmas.List.{take_all}
use Rattle.bip_defs.specs.Lists.{Among}
use Rattle.bip_defs.specs.Matrix.{IsEntry, Matrix}
use Rattle.bip_defs.proofs.Slices.{each_more, read_among}
use Rattle.level_sharing.specs.Candidates.{IsCovered}
use Rattle.frontier_levels.proofs.SearchLemmas.{stays_on}
use Rattle.frontier_levels.proofs.search.TopDownSearch.gather_rows.Goals as goal

pub rows_of-row-items-requires : goal.rows_of-row-items-requires
rows_of-row-items-requires c = rw c.pattern.ensures (c.requires.root.inside.0)

pub gather_row-requires-clause-entry : goal.gather_row-requires-clause-entry
gather_row-requires-clause-entry c =
    let listed = read_among c.row-item.result c.rows_of-row-items.result.now c.loop-row.row-index c.loop-row-test.true c.row-item.is in
    subst (λ (a : Matrix). IsEntry a c.row-item.result c.args.col) c.pattern.ensures (c.rows_of-row-items.ensures.rows.sound c.row-item.result listed)

pub loop-row-preserved : goal.loop-row-preserved
loop-row-preserved c =
    let step = c.in_ok-gather_row.ensures in record {
      column_rows = c.loop-row.invariant.column_rows;
      progress = λ u p. step.progress u (c.loop-row.invariant.progress u p);
      gathered = step.gathered;
      stays = stays_on _ _ _ _ _ _ c.loop-row.invariant.stays step.stays;
      covered = each_more (λ r. IsCovered c.gather_row.new.worker c.gather_row.new.candidates.items r c.args.root) c.rows_of-row-items.result.now c.loop-row.row-index c.row-item.result c.loop-row-test.true c.row-item.is
          (λ r m. step.stays.covered r c.args.root (c.loop-row.invariant.covered r m)) step.row;
    }

pub returns-clause-rows : goal.returns-clause-rows
returns-clause-rows c r m = c.loop-row.invariant.covered r
    (subst (λ (l : List ℕ). Among r l) (sym (take_all c.loop-row.row-index c.rows_of-row-items.result.now c.loop-row-test.false)) (subst (λ (l : List ℕ). Among r l) (sym c.loop-row.invariant.column_rows) m))
