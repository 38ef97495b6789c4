use Rattle.bip_defs.proofs.Counts.{cols_count, horizontal_count, rank_count, rows_count, square_count, vertical_count}
use Rattle.bip_defs.proofs.parts_counted.Goals as goal

pub returns : goal.returns
returns c = record {
  all = λ a p h. record { rows = rows_count a p h; cols = cols_count a p h };
  surplus = λ a m p max h. record {
    square = square_count a m p.square_rows p.square_cols max h.square_rows h.square_cols;
    horizontal = horizontal_count a m p.horizontal_cols p.horizontal_rows max h.horizontal_cols h.horizontal_rows;
    vertical = vertical_count a m p.vertical_rows p.vertical_cols max h.vertical_rows h.vertical_cols;
  };
  rank = rank_count;
}
