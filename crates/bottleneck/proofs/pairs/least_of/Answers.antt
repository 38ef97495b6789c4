use Rattle.std.proofs.Common.{◌+◌, List, length, take, sym, subst}
use Rattle.std.proofs.lemmas.List.{take_all}
use Rattle.bip_defs.specs.Lists.{Among}
use Rattle.bip_defs.specs.Matrix.{Place}
use Rattle.bip_defs.proofs.Sets.{among_at}
use Rattle.sp_pattern.specs.Weights.{weight_at}
use Rattle.bottleneck.proofs.PairLemmas.{IsLeast, least_reached, least_weight, positive, step_first, step_kept, step_less}
use Rattle.bottleneck.proofs.pairs.least_of.Goals as goal
use Rattle.bottleneck.proofs.pairs.least_of.Goals.{then-weight-least, else-weight-least}

pub weight-least-requires : goal.weight-least-requires
weight-least-requires c = c.requires.entries c.index-pairs-0.result.0 c.index-pairs-0.result.1 (subst (λ (z : Place). Among z c.args.pairs.now) (sym c.index-pairs-0.is) (among_at c.args.pairs.now 0 c.index-pairs-0.result (positive (length c.args.pairs.now) c.if-pairs-eq0.false)))

pub loop-k-init : goal.loop-k-init
loop-k-init c = step_first (weight_at c.args.weights.now) c.args.pairs.now c.index-pairs-0.result c.weight-least.result (positive (length c.args.pairs.now) c.if-pairs-eq0.false) c.index-pairs-0.is c.weight-least.ensures

pub weight-weight-requires : goal.weight-weight-requires
weight-weight-requires c = c.requires.entries c.index-pairs-k.result.0 c.index-pairs-k.result.1 (subst (λ (z : Place). Among z c.args.pairs.now) (sym c.index-pairs-k.is) (among_at c.args.pairs.now c.loop-k.k c.index-pairs-k.result c.loop-k-test.true))

pub loop-k-preserved : goal.loop-k-preserved
loop-k-preserved c =
    elim c.if-weight-least.branch [
      | then-weight-least w ↦ subst (λ n. IsLeast (weight_at c.args.weights.now) (take (c.loop-k.k + 1) c.args.pairs.now) n) (sym w.least-is) (step_less (weight_at c.args.weights.now) c.args.pairs.now c.loop-k.k c.index-pairs-k.result c.loop-k.least c.weight-weight.result c.loop-k.invariant c.loop-k-test.true c.index-pairs-k.is c.weight-weight.ensures w.if-weight-least.true)
      | else-weight-least w ↦ subst (λ n. IsLeast (weight_at c.args.weights.now) (take (c.loop-k.k + 1) c.args.pairs.now) n) (sym w.least-is) (step_kept (weight_at c.args.weights.now) c.args.pairs.now c.loop-k.k c.index-pairs-k.result c.loop-k.least c.weight-weight.result c.loop-k.invariant c.loop-k-test.true c.index-pairs-k.is c.weight-weight.ensures w.if-weight-least.false)
    ]

pub returns-then-least-bound : goal.returns-then-least-bound
returns-then-least-bound c = least_reached (weight_at c.args.weights.now) c.args.pairs.now c.loop-k.k c.loop-k.least c.args.bound c.loop-k.invariant c.requires.bound c.if-least-bound.true

pub returns : goal.returns
returns c = least_weight (weight_at c.args.weights.now) c.args.pairs.now c.loop-k.least (subst (λ (z : List Place). IsLeast (weight_at c.args.weights.now) z c.loop-k.least) (take_all c.loop-k.k c.args.pairs.now c.loop-k-test.false) c.loop-k.invariant)
