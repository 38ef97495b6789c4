use Rattle.std.proofs.Common.{◌≡◌, ℕ, slice_index, take}
use Rattle.bip_defs.specs.Lists.{Among}
use Rattle.bip_graph.specs.Matching.{none}
use Rattle.dm_fine.proofs.order.mark_off.Given as goal

abbrev pub invariant-loop-row : goal.invariant-loop-row
invariant-loop-row l = record {
  gone : (r : ℕ) → Among r (take l.row-index l.rows) → slice_index l.of_rows r ≡ none;
  others : (r : ℕ) → ¬ Among r (take l.row-index l.rows) → slice_index l.of_rows r ≡ slice_index l.fn.of_rows r;
}
