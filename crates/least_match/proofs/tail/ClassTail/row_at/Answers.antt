use Rattle.std.proofs.Common.{ℕ, subst, sym}
use Rattle.bip_defs.specs.Lists.{Among}
use Rattle.bip_defs.specs.Matching.{cols_of}
use Rattle.least_match.proofs.tail.ClassTail.row_at.Goals as goal

pub mate-requires : goal.mate-requires
mate-requires c = subst (λ (x : ℕ × ℕ). Among x.0 (cols_of c.args.matching.now.pairs)) (sym c.at-col.ensures) (c.requires.matched _ c.requires.place)

pub returns-clause-in_range : goal.returns-clause-in_range
returns-clause-in_range c = (c.requires.matching.matching.entries _ _ c.mate.ensures.row).0
