use Rattle.std.proofs.Common.{◌≡◌, ◌∙◌, ◌+◌, ◌≤◌, List, arith, subst}
use Rattle.bip_defs.specs.LeastMatching.{mate_or}
use Rattle.bip_defs.specs.Matrix.{Matrix, Place, cols}
use Rattle.bip_graph.specs.Matching.{IsMaximumOf}
use Rattle.least_match.specs.Extensions.{Extends, IsLeastBelow}
use Rattle.least_match.specs.Ready.{IsReady}
use Rattle.least_match.proofs.ExtensionLemmas.{least_end, least_more, least_start}
use Rattle.least_match.proofs.settled.Goals as goal

pub loop-col-init : goal.loop-col-init
loop-col-init c = record {
  pattern = (c.in_ok-exchanges.ensures.ready c.args.matching.pairs c.requires.maximum.maximum).pattern;
  ready = c.in_ok-exchanges.ensures.ready c.args.matching.pairs c.requires.maximum.maximum;
  maximum = c.requires.maximum;
  least = least_start c.args.pattern.now c.args.matching.pairs c.requires.maximum.maximum;
}

pub loop-col-preserved : goal.loop-col-preserved
loop-col-preserved c =
    let i = c.loop-col.invariant in
    let e = c.settle.ensures in
    record {
      pattern = e.pattern ∙ i.pattern;
      ready = subst (λ (z : Matrix). IsReady z c.settle.new.matching.pairs (c.loop-col.col + 1) c.settle.new.self) i.pattern e.ready;
      maximum = subst (λ (z : Matrix). IsMaximumOf z c.settle.new.matching) i.pattern e.maximum;
      least = least_more c.args.pattern.now c.loop-col.col c.loop-col.matching.pairs c.settle.new.matching.pairs i.least
          (subst (λ (z : Matrix). Extends z c.loop-col.matching.pairs c.loop-col.col c.settle.new.matching.pairs) i.pattern e.extends)
          (subst (λ (z : Matrix). (n : List Place) → Extends z c.loop-col.matching.pairs c.loop-col.col n → mate_or z.rows c.settle.new.matching.pairs c.loop-col.col ≤ mate_or z.rows n c.loop-col.col) i.pattern e.least);
    }

pub returns-clause-least : goal.returns-clause-least
returns-clause-least c =
    let past = c.loop-col-test.false in
    let fits = c.loop-col.auto.col-end in
    let all : c.loop-col.col ≡ cols c.args.pattern.now = omega (arith, past, fits, c.cols-col-end.ensures) in
    least_end c.args.pattern.now c.loop-col.matching.pairs (subst (λ n. IsLeastBelow c.args.pattern.now n c.loop-col.matching.pairs) all c.loop-col.invariant.least)
