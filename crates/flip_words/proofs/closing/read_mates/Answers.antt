use Rattle.std.proofs.Common.{◌∙◌, ◌+◌, length, take, ap}
use Rattle.std.proofs.lemmas.List.{length-set}
use Rattle.std.specs.Mem.Slots.{slots_items}
use Rattle.flip_words.proofs.Finished.{col_more, row_more}
use Rattle.flip_words.proofs.closing.read_mates.Goals as goal

pub loop-row-preserved : goal.loop-row-preserved
loop-row-preserved c = record {
  sizes = record {
    rows_are = ap length c.set_row.ensures.rows ∙ length-set c.loop-row.mates.rows c.loop-row.row c.as_col.result ∙ c.loop-row.invariant.sizes.rows_are;
    cols_are = ap length c.set_row.ensures.cols ∙ c.loop-row.invariant.sizes.cols_are;
  };
  rows = ap (take (c.loop-row.row + 1)) c.set_row.ensures.rows
      ∙ row_more c.args.rows c.args.cols (slots_items c.args.words.now.words) c.requires.many c.loop-row.mates.rows c.loop-row.row c.word-word.result c.as_col.result c.loop-row.invariant.sizes.rows_are c.loop-row-test.true c.word-word.ensures (c.as_col.ensures ∙ c.mate.ensures.mate) c.loop-row.invariant.rows;
}

pub loop-col-preserved : goal.loop-col-preserved
loop-col-preserved c = record {
  sizes = record {
    rows_are = ap length c.set_col.ensures.rows ∙ c.loop-col.invariant.sizes.rows_are;
    cols_are = ap length c.set_col.ensures.cols ∙ length-set c.loop-col.mates.cols c.loop-col.col c.as_row.result ∙ c.loop-col.invariant.sizes.cols_are;
  };
  rows = c.set_col.ensures.rows ∙ c.loop-col.invariant.rows;
  cols = ap (take (c.loop-col.col + 1)) c.set_col.ensures.cols
      ∙ col_more c.args.rows c.args.cols (slots_items c.args.words.now.words) c.requires.many c.loop-col.mates.cols c.loop-col.col c.word-word-in-loop-col.result c.as_row.result c.loop-col.invariant.sizes.cols_are c.loop-col-test.true c.word-word-in-loop-col.ensures (c.as_row.ensures ∙ c.mate-in-loop-col.ensures.mate)
      c.loop-col.invariant.cols;
}
