use Rattle.std.proofs.Common.{◌≡◌, ℕ, ◌<◌}
use Rattle.bip_defs.specs.Blocks.{block_at}
use Rattle.btf_check.proofs.compare.same_blocks.Given as goal

abbrev pub invariant-loop-at : goal.invariant-loop-at
invariant-loop-at l = (k : ℕ) → k < l.at → block_at l.a k ≡ block_at l.b k
