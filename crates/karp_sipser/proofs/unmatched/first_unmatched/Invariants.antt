use Rattle.std.proofs.Common.{ℕ, map, take}
use Rattle.bip_defs.specs.Lists.{Among}
use Rattle.bip_defs.specs.Matching.{rows_of}
use Rattle.karp_sipser.proofs.unmatched.first_unmatched.Given as goal

abbrev pub invariant-loop-id : goal.invariant-loop-id
invariant-loop-id g l = (x : ℕ) → Among x (take l.id-index (map g.I.Id.number l.ids)) → Among x (rows_of (g.I.Opposite.seen l.matching).pairs)
