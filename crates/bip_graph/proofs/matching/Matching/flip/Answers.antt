use Rattle.std.proofs.Common.{◌∙◌, ap, suc}
use Rattle.bip_defs.proofs.Exchange.{exchange_entries, exchange_keeps_col, exchange_keeps_row}
use Rattle.bip_defs.proofs.Sets.{rising_distinct}
use Rattle.bip_graph.proofs.PartlyExchanged.{halfway_col_free, halfway_col_in, halfway_end, halfway_last, halfway_more, halfway_row_free, halfway_row_in, halfway_row_taken, halfway_start, last_place}
use Rattle.bip_graph.proofs.matching.Matching.flip.Goals as goal

pub loop-i-init : goal.loop-i-init
loop-i-init c = halfway_start c.args.path.now c.args.self.now c.requires.path

pub give-requires-clause-row_in_range : goal.give-requires-clause-row_in_range
give-requires-clause-row_in_range c = halfway_row_in c.index-path-i.is c.requires.in_range c.loop-i.invariant

pub give-requires-clause-col_in_range : goal.give-requires-clause-col_in_range
give-requires-clause-col_in_range c = halfway_col_in c.index-path-i.is c.requires.in_range c.loop-i.invariant

pub give-requires-clause-row_taken : goal.give-requires-clause-row_taken
give-requires-clause-row_taken c = halfway_row_taken c.index-path-i.is c.loop-i.invariant c.loop-i-test.true

pub give-requires-clause-col_free : goal.give-requires-clause-col_free
give-requires-clause-col_free c = halfway_col_free c.index-path-i.is c.loop-i.invariant

pub loop-i-preserved : goal.loop-i-preserved
loop-i-preserved c = halfway_more c.index-path-i.is c.loop-i.invariant c.loop-i-test.true c.give.ensures.cols_differ c.give.ensures.pairs c.give.ensures.size c.give.ensures.sizes

pub pair-requires-clause-row_in_range : goal.pair-requires-clause-row_in_range
pair-requires-clause-row_in_range c = halfway_row_in c.index-path-last.is c.requires.in_range (halfway_last c.loop-i.invariant c.loop-i.auto.i-end c.loop-i-test.false)

pub pair-requires-clause-col_in_range : goal.pair-requires-clause-col_in_range
pair-requires-clause-col_in_range c = halfway_col_in c.index-path-last.is c.requires.in_range (halfway_last c.loop-i.invariant c.loop-i.auto.i-end c.loop-i-test.false)

pub pair-requires-clause-row_free : goal.pair-requires-clause-row_free
pair-requires-clause-row_free c = let last = halfway_last c.loop-i.invariant c.loop-i.auto.i-end c.loop-i-test.false in halfway_row_free c.index-path-last.is last (last_place last)

pub pair-requires-clause-col_free : goal.pair-requires-clause-col_free
pair-requires-clause-col_free c = halfway_col_free c.index-path-last.is (halfway_last c.loop-i.invariant c.loop-i.auto.i-end c.loop-i-test.false)

pub returns-clause-pairs : goal.returns-clause-pairs
returns-clause-pairs c = halfway_end c.pair.new.self.pairs c.index-path-last.is (halfway_last c.loop-i.invariant c.loop-i.auto.i-end c.loop-i-test.false) c.pair.ensures.pairs

pub returns-clause-size : goal.returns-clause-size
returns-clause-size c = c.pair.ensures.size ∙ ap suc c.loop-i.invariant.count

pub returns-clause-sizes : goal.returns-clause-sizes
returns-clause-sizes c = (c.pair.ensures.sizes.0 ∙ c.loop-i.invariant.rows, c.pair.ensures.sizes.1 ∙ c.loop-i.invariant.cols)

pub returns-clause-entries : goal.returns-clause-entries
returns-clause-entries c = λ a m on_path. record {
  entries = exchange_entries a c.args.path.now c.args.self.now.pairs c.pair.new.self.pairs (returns-clause-pairs c) on_path m.entries;
  rows_differ = c.pair.ensures.pairing.rows_differ;
  cols_differ = rising_distinct _ c.pair.ensures.pairing.cols_rise;
}

pub returns-clause-covered : goal.returns-clause-covered
returns-clause-covered c = record {
  rows = λ r. exchange_keeps_row c.args.path.now c.args.self.now.pairs c.pair.new.self.pairs r (returns-clause-pairs c);
  cols = λ d. exchange_keeps_col c.args.path.now c.args.self.now.pairs c.pair.new.self.pairs d c.is_matching.ensures.rows_differ c.requires.path (returns-clause-pairs c);
}
