use Rattle.std.proofs.Common.{◌≡◌, false, take}
use Rattle.std.specs.List.{list_any}
use Rattle.sp_pattern.specs.Weights.{weight_at}
use Rattle.btf_text.proofs.NeighbourRows.{is_heavy}
use Rattle.btf_text.proofs.bottleneck.AboveRowLookup.has_entry_in.Given as goal

abbrev pub invariant-loop-col : goal.invariant-loop-col
invariant-loop-col l = list_any (is_heavy (weight_at l.self.weights.now) l.self.least l.hall l.row) (take l.col-index l.cols) ≡ false
