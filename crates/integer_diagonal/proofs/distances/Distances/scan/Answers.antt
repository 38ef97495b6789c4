use Rattle.std.proofs.Common.{subst}
use Rattle.integer_diagonal.specs.Distances.{AreNear}
use Rattle.integer_diagonal.proofs.distances.Distances.scan.Goals as goal

pub scan_row-requires-clause-near : goal.scan_row-requires-clause-near
scan_row-requires-clause-near g c = subst (λ n. AreNear n c.args.assignment.now.top c.args.self.now) c.requires.square c.requires.near
