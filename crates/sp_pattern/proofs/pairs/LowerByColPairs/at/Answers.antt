use Rattle.std.proofs.Common.{◌∙◌, refl}
use Rattle.sp_pattern.proofs.MirrorLemmas.{read_lower_at}
use Rattle.sp_pattern.proofs.pairs.LowerByColPairs.at.Goals as goal

pub returns : goal.returns
returns c = c.lower_by_col.ensures ∙ read_lower_at c.args.self.now.places.now c.args.k _ _ _ _ c.requires refl refl
