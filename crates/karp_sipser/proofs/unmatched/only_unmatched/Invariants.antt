use Rattle.std.proofs.Common.{map, take}
use Rattle.bip_defs.specs.Matching.{rows_of}
use Rattle.karp_sipser.proofs.Prefixes.{IsFound}
use Rattle.karp_sipser.proofs.unmatched.only_unmatched.Given as goal

abbrev pub invariant-loop-id : goal.invariant-loop-id
invariant-loop-id g l = IsFound l.found (rows_of (g.I.Opposite.seen l.matching).pairs) (take l.id-index (map g.I.Id.number l.ids))
