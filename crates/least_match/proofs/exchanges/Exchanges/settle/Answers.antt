use Rattle.std.proofs.Common.{◌∙◌, ◌<◌, ◌≤◌, List, length, refl, slice_index, subst, sym}
use Rattle.std.proofs.lemmas.List.{get_or_read}
use Rattle.bip_defs.specs.LeastMatching.{mate_or}
use Rattle.bip_defs.specs.Matrix.{IsEntry, Matrix, Place}
use Rattle.bip_defs.proofs.Below.{below_more}
use Rattle.bip_graph.specs.Matching.{Pairing}
use Rattle.least_match.specs.Extensions.{Excludes, Extends}
use Rattle.least_match.proofs.EndLemmas.{excludes_same, has_same, ready_more, ready_same}
use Rattle.least_match.proofs.ExtensionLemmas.{extends_itself, least_at, least_none}
use Rattle.least_match.proofs.SearchLemmas.{row_entry}
use Rattle.least_match.proofs.exchanges.Exchanges.settle.Goals as goal

pub improve-requires-clause-entry : goal.improve-requires-clause-entry
improve-requires-clause-entry c = subst (λ (z : Matrix). IsEntry z c.row-item.result c.args.col) (sym c.loop-row.invariant.ready.pattern) (row_entry c.args.self.now.pattern.now c.rows_of-rows.result.now c.loop-row.row-index c.row-item.result c.args.col c.args.col c.rows_of-rows.ensures.rows c.row-item.is c.loop-row-test.true refl)

pub returns-then-improve-clause-ready : goal.returns-then-improve-clause-ready
returns-then-improve-clause-ready c =
    let i = c.loop-row.invariant in
    let has = has_same _ c.args.self.now.pattern.now c.loop-row.matching c.args.matching.now c.args.col c.row-item.result c.row-item.result c.improve.new.matching.pairs i.ready.pattern i.same refl c.if-improve.ensures.found in
    ready_more c.args.self.now.pattern.now c.args.matching.now.pairs c.improve.new.matching.pairs c.args.col c.improve.new.self (ready_same _ c.args.self.now.pattern.now c.loop-row.matching c.args.matching.now c.args.col c.improve.new.self i.ready.pattern i.same c.if-improve.ensures.ready) has.extends

pub returns-then-improve-clause-extends : goal.returns-then-improve-clause-extends
returns-then-improve-clause-extends c =
    let i = c.loop-row.invariant in
    (has_same _ c.args.self.now.pattern.now c.loop-row.matching c.args.matching.now c.args.col c.row-item.result c.row-item.result c.improve.new.matching.pairs i.ready.pattern i.same refl c.if-improve.ensures.found).extends

pub returns-then-improve-clause-least : goal.returns-then-improve-clause-least
returns-then-improve-clause-least c =
    let i = c.loop-row.invariant in
    let has = has_same _ c.args.self.now.pattern.now c.loop-row.matching c.args.matching.now c.args.col c.row-item.result (slice_index c.rows_of-rows.result.now c.loop-row.row-index) c.improve.new.matching.pairs i.ready.pattern i.same (get_or_read c.rows_of-rows.result.now c.loop-row.row-index c.row-item.result c.loop-row-test.true c.row-item.is 0) c.if-improve.ensures.found in
    least_at c.args.self.now.pattern.now c.args.matching.now.pairs c.improve.new.matching.pairs c.args.col c.loop-row.row-index c.rows_of-rows.result.now c.rows_of-rows.ensures.rows i.excluded c.loop-row-test.true has

pub loop-row-preserved : goal.loop-row-preserved
loop-row-preserved c =
    let i = c.loop-row.invariant in
    let none = c.if-improve.ensures.none in
    record {
      same = none.0 ∙ i.same;
      ready = ready_same _ c.args.self.now.pattern.now c.loop-row.matching c.args.matching.now c.args.col c.improve.new.self i.ready.pattern i.same c.if-improve.ensures.ready;
      excluded = below_more (λ k. k < length c.rows_of-rows.result.now → Excludes c.args.self.now.pattern.now c.args.matching.now.pairs c.args.col (slice_index c.rows_of-rows.result.now k)) c.loop-row.row-index i.excluded (λ lt. excludes_same _ c.args.self.now.pattern.now c.loop-row.matching c.args.matching.now c.args.col c.row-item.result (slice_index c.rows_of-rows.result.now c.loop-row.row-index) i.ready.pattern i.same (get_or_read c.rows_of-rows.result.now c.loop-row.row-index c.row-item.result c.loop-row-test.true c.row-item.is 0) none.1);
    }

pub returns-clause-ready : goal.returns-clause-ready
returns-clause-ready c =
    let i = c.loop-row.invariant in
    ready_more c.args.self.now.pattern.now c.args.matching.now.pairs c.loop-row.matching.pairs c.args.col c.loop-row.self i.ready (subst (λ (z : Pairing). Extends c.args.self.now.pattern.now c.args.matching.now.pairs c.args.col z.pairs) (sym i.same) (extends_itself c.args.self.now.pattern.now c.args.matching.now.pairs c.args.col c.requires.maximum.maximum))

pub returns-clause-extends : goal.returns-clause-extends
returns-clause-extends c = subst (λ (z : Pairing). Extends c.args.self.now.pattern.now c.args.matching.now.pairs c.args.col z.pairs) (sym c.loop-row.invariant.same) (extends_itself c.args.self.now.pattern.now c.args.matching.now.pairs c.args.col c.requires.maximum.maximum)

pub returns-clause-least : goal.returns-clause-least
returns-clause-least c =
    let i = c.loop-row.invariant in
    subst (λ (z : Pairing). (n : List Place) → Extends c.args.self.now.pattern.now c.args.matching.now.pairs c.args.col n → mate_or c.args.self.now.pattern.now.rows z.pairs c.args.col ≤ mate_or c.args.self.now.pattern.now.rows n c.args.col) (sym i.same) (least_none c.args.self.now.pattern.now c.args.matching.now.pairs c.args.col c.loop-row.row-index c.rows_of-rows.result.now c.requires.maximum.maximum c.rows_of-rows.ensures.rows i.excluded c.loop-row-test.false)
