use Rattle.bip_defs.proofs.Transposed.{transpose_is, turned_maximum, turned_vertical, turned_vertical_col, vertical_col_turned, vertical_turned}
use Rattle.bip_defs.proofs.transpose_turns_parts.Goals as goal

pub returns : goal.returns
returns c = record {
  entries = transpose_is;
  maximum = turned_maximum;
  rows = λ a b r t. (vertical_turned a b r t, turned_vertical a b r t);
  cols = λ a b c t. (vertical_col_turned a b c t, turned_vertical_col a b c t);
}
