use Rattle.std.proofs.Common.{refl, arith}
use Rattle.std.proofs.lemmas.List.{ext_get_or}
use Rattle.bip_defs.specs.Blocks.{no_block}
use Rattle.btf_check.proofs.compare.same_blocks.Goals as goal

pub returns : goal.returns
returns c = (λ t. ext_get_or no_block c.args.a.now c.args.b.now (omega arith) (λ k lt. c.loop-at.invariant k (omega arith)), λ e. refl)
