use Rattle.std.proofs.Common.{map, ◌≡◌}
use Rattle.sp_pattern.proofs.Orders.{IsCompressing, last_of}
use Rattle.sp_pattern.proofs.compress.compress.Given as goal

abbrev pub invariant-loop-k : goal.invariant-loop-k
invariant-loop-k g l = record {
  compressing : IsCompressing l.outer (g.P.Pairs.pairs l.pairs) l.k l.starts.items (map g.I.Id.number l.flat.items);
  last : l.last ≡ last_of (g.P.Pairs.pairs l.pairs) l.k;
}
