use Rattle.std.proofs.Common.{refl, length-set}
use Rattle.integer_diagonal.proofs.AmountTests.{not_less}
use Rattle.integer_diagonal.proofs.PhaseLemmas.{put_near}
use Rattle.integer_diagonal.proofs.distances.Distances.look.Goals as goal

pub returns : goal.returns
returns g c near = put_near _ c.args.farthest c.args.distance c.args.far c.args.self.now _ near c.requires (not_less c.args.farthest c.args.distance c.lt.result c.lt.ensures c.if-lt.false) (length-set c.args.self.now.of_far.items c.args.far c.args.distance) refl (λ e h. (c.in_ok-push.ensures e).0 h)
