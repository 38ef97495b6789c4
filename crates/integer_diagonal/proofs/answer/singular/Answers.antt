use Rattle.std.proofs.Common.{sym, subst}
use Rattle.bip_defs.specs.Bottleneck.{IsSingular}
use Rattle.bip_defs.specs.Matrix.{Matrix}
use Rattle.bip_defs.proofs.FullMatchings.{short_singular}
use Rattle.integer_diagonal.proofs.answer.singular.Goals as goal

pub returns : goal.returns
returns c w e =
    subst (λ (z : Matrix). IsSingular z c.size.result c.in_ok-hall.hall.items) (sym e)
    (short_singular c.args.pattern.now c.args.maximum.now.pairs c.in_ok-hall.hall.items c.size.result c.requires.square c.requires.maximum.maximum c.size.ensures.size
    c.requires.short c.in_ok-hall.ensures.horizontal)
