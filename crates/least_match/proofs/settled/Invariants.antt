use Rattle.std.proofs.Common.{◌≡◌}
use Rattle.bip_graph.specs.Matching.{IsMaximumOf}
use Rattle.least_match.specs.Extensions.{IsLeastBelow}
use Rattle.least_match.specs.Ready.{IsReady}
use Rattle.least_match.proofs.settled.Given as goal

abbrev pub invariant-loop-col : goal.invariant-loop-col
invariant-loop-col l = record {
  pattern : l.exchanges.pattern.now ≡ l.pattern;
  ready : IsReady l.pattern l.matching.pairs l.col l.exchanges;
  maximum : IsMaximumOf l.pattern l.matching;
  least : IsLeastBelow l.pattern l.col l.matching.pairs;
}
