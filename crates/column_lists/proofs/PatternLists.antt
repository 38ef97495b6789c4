-- The columns of a pattern as lists of rows, and its rows as those of the transpose.
use Rattle.std.proofs.Common.{ℕ, ◌^◌, ◌<◌, List, length, arith, subst}
use Rattle.bip_defs.specs.Lists.{IsRising, Among}
use Rattle.bip_defs.specs.Matrix.{Matrix, cols, column, row_list, transpose, upto}
use Rattle.bip_defs.proofs.Sets.{entry_col, few_distinct, rising_distinct, upto_length, upto_lists}
use Rattle.bip_defs.proofs.Transposed.{row_list_lists, transpose_cols, transpose_is}
use Rattle.sp_pattern.specs.Stored.{IsPattern}
use Rattle.column_lists.specs.Listed.{AreListed}

-- a rising list of numbers below n is no longer than n
short : (n : ℕ) (xs : List ℕ) → n < 2 ^ 32 → IsRising xs → ((x : ℕ) → Among x xs → x < n) → length xs < 2 ^ 32
short n xs few rising below =
    let under = few_distinct xs (upto n) (rising_distinct xs rising) (λ x h. (upto_lists n).complete x (below x h)) in
    let long = upto_length 0 n in
    omega (arith, under, long, few)

pub by_columns : (a : Matrix) → IsPattern a → AreListed a (λ c. column a c)
by_columns a k = record {
  few_rows = k.few_rows;
  few_cols = k.few_cols;
  few = λ c lt. let own = k.columns c in short a.rows (column a c) k.few_rows own.rising (λ r h. (own.sound r h).0);
  entries = λ r c lt. ((λ e. e.1), (λ h. (k.columns c).sound r h));
}

pub by_rows : (a : Matrix) → IsPattern a → AreListed (transpose a) (λ r. row_list a r)
by_rows a k = record {
  few_rows = k.few_cols;
  few_cols = rw (transpose_cols a) k.few_rows;
  few = λ r lt. let own = row_list_lists a r (inside r lt) in short (cols a) (row_list a r) k.few_cols own.rising (λ c h. entry_col a r c (own.sound c h));
  entries = λ c r lt.
      let own = row_list_lists a r (inside r lt) in
      ((λ e. own.complete c ((transpose_is a).back r c e)), (λ h. (transpose_is a).over r c (own.sound c h)));
}
  where
    inside : (r : ℕ) → r < cols (transpose a) → r < a.rows
    inside r lt = subst (λ n. r < n) (transpose_cols a) lt
