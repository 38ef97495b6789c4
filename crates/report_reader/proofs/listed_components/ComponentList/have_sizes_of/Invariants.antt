use Rattle.std.proofs.Common.{◌≡◌, ℕ, ◌<◌}
use Rattle.bip_defs.specs.Blocks.{block_at}
use Rattle.report_reader.specs.ComponentArrays.{height, width}
use Rattle.report_reader.proofs.listed_components.ComponentList.have_sizes_of.Given as goal

abbrev pub invariant-loop-at : goal.invariant-loop-at
invariant-loop-at l = record {
  heights : (k : ℕ) → k < l.at → height (block_at l.self k) ≡ height (block_at l.components k);
  widths : (k : ℕ) → k < l.at → width (block_at l.self k) ≡ width (block_at l.components k);
}
