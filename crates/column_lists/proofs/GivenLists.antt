-- Compressed columns as lists of rows.
use Rattle.std.proofs.Common.{◌≡◌, ◌↔◌, ℕ, ◌+◌, ◌-◌, ◌^◌, ◌<◌, ◌≤◌, List, length, get_or, arith, subst}
use Rattle.bip_defs.specs.Lists.{Among}
use Rattle.bip_defs.specs.Matrix.{IsEntry, cols}
use Rattle.bip_defs.specs.Pieces.{piece}
use Rattle.bip_defs.proofs.Pieces.{length-slice_range, start_within}
use Rattle.bip_defs.proofs.Sets.{upto_mapped}
use Rattle.sp_pattern.specs.Columns.{AreColumns, matrix_of}
use Rattle.column_lists.specs.Listed.{AreListed}

module _ (rows : ℕ) (starts ids : List ℕ) (k : AreColumns rows starts ids) where
  pub wide : cols (matrix_of rows starts ids) ≡ length starts - 1
  wide = upto_mapped _ _

  pub start_below : (c : ℕ) → c < cols (matrix_of rows starts ids) → c + 1 < length starts
  start_below c lt = let w = wide in omega (arith, w, lt)

  pub ends_within : (c : ℕ) → c < cols (matrix_of rows starts ids) → get_or starts (c + 1) 0 ≤ length ids
  ends_within c lt = start_within starts ids k.starts_are (c + 1) (start_below c lt)

  short : (c : ℕ) → c < cols (matrix_of rows starts ids) → length (piece starts ids c) < 2 ^ 32
  short c lt =
      let long = length-slice_range ids (get_or starts c 0) (get_or starts (c + 1) 0) (ends_within c lt) in
      let within = ends_within c lt in
      let few = k.few_ids in
      omega (arith, long, within, few)

  pub listed : ((r c : ℕ) → IsEntry (matrix_of rows starts ids) r c ↔ ((c < length starts - 1) × Among r (piece starts ids c))) → AreListed (matrix_of rows starts ids) (λ c. piece starts ids c)
  listed entries = record {
    few_rows = k.few_rows;
    few_cols = let w = wide in let few = k.few_starts in let one = k.starts_are.one in omega (arith, w, few, one);
    few = short;
    entries = λ r c lt. ((λ e. ((entries r c).0 e).1), (λ h. (entries r c).1 (subst (λ n. c < n) wide lt, h)));
  }
