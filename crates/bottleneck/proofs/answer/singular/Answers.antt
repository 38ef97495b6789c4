use Rattle.std.proofs.Common.{◌≡◌, arith, length, subst}
use Rattle.bip_defs.specs.Lists.{Lists}
use Rattle.bip_defs.specs.Matrix.{Matrix, cols}
use Rattle.bip_defs.specs.Parts.{IsHorizontalCol}
use Rattle.bip_defs.proofs.FullMatchings.{short_singular}
use Rattle.bottleneck.proofs.answer.singular.Goals as goal

pub returns : goal.returns
returns c =
    let a = c.args.weights.now.matrix in
    let m = c.args.matching.now.pairs in
    let short = c.requires.short in
    short_singular a m c.in_ok-hall.hall.items c.size.result c.requires.square c.requires.maximum.maximum c.size.ensures.size (λ (same : length m ≡ cols a). absurd (omega (arith, same, short))) (subst (λ (z : Matrix). Lists (IsHorizontalCol z) c.in_ok-hall.hall.items) c.pattern.ensures c.in_ok-hall.ensures.horizontal)
