use Rattle.std.proofs.Common.{map}
use Rattle.btf_check.proofs.MarkLemmas.{IsMarking, IsStriking}
use Rattle.btf_check.proofs.compare.are_once.Given as goal

abbrev pub invariant-loop-at : goal.invariant-loop-at
invariant-loop-at g l = IsMarking (map g.N.Id.number l.once) l.at l.bound l.waiting.items

abbrev pub invariant-loop-at-2 : goal.invariant-loop-at-2
invariant-loop-at-2 g l = IsStriking (map g.N.Id.number l.once) (map g.N.Id.number l.list) l.at l.bound l.waiting.items
