use Rattle.std.proofs.Common.{◌≡◌, ◌∙◌, ap, length, arith}
use Rattle.std.proofs.lemmas.List.{length-set}
use Rattle.karp_sipser.proofs.neighbour_sums.NeighbourSums.leave_out.Goals as goal

pub lower-requires-clause-in_range : goal.lower-requires-clause-in_range
lower-requires-clause-in_range g c x h = let same : length c.as_mut_slice-words.result.now ≡ length c.args.self.now.words.items = ap length c.as_mut_slice-words.ensures.value ∙ length-set c.args.self.now.words.items c.args.matched _ in omega (arith, same, c.requires.in_range x h)
