use Rattle.bip_defs.proofs.Below.{entries_within}
use Rattle.path_search.proofs.ExchangeLemmas.{forest_exchanged}
use Rattle.path_search.proofs.forest.SearchForest.exchange.Goals as goal

pub flip-requires : goal.flip-requires
flip-requires g c = record {
  in_range = rw (c.requires.growing.matching.rows, c.requires.growing.matching.cols) (entries_within _ c.trace.new.self.path c.trace.ensures.path.entries);
  augmenting = c.trace.ensures.path.augmenting;
}

pub returns-clause-growing : goal.returns-clause-growing
returns-clause-growing g c =
    let flips = c.flip.ensures.flips in
    record {
      few_rows = c.requires.growing.few_rows;
      few_cols = c.requires.growing.few_cols;
      matching = flips.matching _ c.requires.growing.matching c.trace.ensures.path.entries;
      forest = rw (c.flip.ensures.same, c.trace.ensures.same) (forest_exchanged _ _ _ _ _ c.args.row _ c.trace.new.self.path _ c.requires.growing.matching.matching c.requires.growing.forest c.requires.ends.leaf c.trace.ensures.path flips.pairs flips.covered.cols);
    }
