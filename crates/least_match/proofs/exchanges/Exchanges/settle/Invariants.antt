use Rattle.std.proofs.Common.{◌≡◌}
use Rattle.least_match.specs.Ready.{IsReady}
use Rattle.least_match.proofs.ExtensionLemmas.{AreExcluded}
use Rattle.least_match.proofs.exchanges.Exchanges.settle.Given as goal

abbrev pub invariant-loop-row : goal.invariant-loop-row
invariant-loop-row l = record {
  same : l.matching ≡ l.fn.matching;
  ready : IsReady l.fn.self.pattern.now l.fn.matching.pairs l.col l.self;
  excluded : AreExcluded l.fn.self.pattern.now l.fn.matching.pairs l.col l.rows l.row-index;
}
