-- Columns whose row numbers rise.
use Rattle.std.proofs.Common.{◌≡◌, ◌↔◌, ℕ, ◌+◌, ◌-◌, ◌<◌, ◌≤◌, List, length, get_or, arith, sym, subst, ⊎_elim}
use Rattle.std.specs.List.{slice_range}
use Rattle.bip_defs.specs.Lists.{Among, IsRising, Lists}
use Rattle.bip_defs.specs.Matrix.{HasPlaces, IsEntry, column}
use Rattle.bip_defs.specs.Pieces.{piece}
use Rattle.bip_defs.proofs.Sets.{among_last, lists_unique, number_same, rising_last}
use Rattle.bip_defs.proofs.Slices.{slice_none, range_more}
use Rattle.sp_pattern.specs.Columns.{matrix_of, places_of}
use Rattle.blocktri.specs.RisingColumns.{AreRisingColumns}

-- a rising part, all of which is below a number
pub record IsRisingTo (xs : List ℕ) (from k next : ℕ) : Type 0 where
  pub ordered : from ≤ k
  pub rising : IsRising (slice_range xs from k)
  pub below : (x : ℕ) → Among x (slice_range xs from k) → x < next

pub rising_none : (xs : List ℕ) (from : ℕ) → IsRisingTo xs from from 0
rising_none xs from =
    let none = slice_none xs from from (omega arith) in record {
      ordered = omega arith;
      rising = subst IsRising (sym none) tt;
      below = λ x h. elim (subst (Among x) none h) [ ];
    }

pub rising_more : (xs : List ℕ) (from k next id : ℕ) → k < length xs → id ≡ get_or xs k 0 → next ≤ id → IsRisingTo xs from k next → IsRisingTo xs from (k + 1) (id + 1)
rising_more xs from k next id lt is le r =
    let grown = range_more xs from k r.ordered lt in record {
      ordered = let f = r.ordered in omega (arith, f);
      rising = subst IsRising (sym grown) (rising_last (slice_range xs from k) (get_or xs k 0) r.rising (λ x h. let b = r.below x h in omega (arith, b, le, is)));
      below = λ x h. ⊎_elim (λ (g : Among x (slice_range xs from k)). let b = r.below x g in omega (arith, b, le)) (λ (e : x ≡ get_or xs k 0). omega (arith, e, is)) (among_last x (get_or xs k 0) (slice_range xs from k) (subst (Among x) grown h));
    }

pub rising_column_more : (starts ids : List ℕ) (k : ℕ) → ((c : ℕ) → c < k → IsRising (piece starts ids c)) → IsRising (piece starts ids k) → (c : ℕ) → c < k + 1 → IsRising (piece starts ids c)
rising_column_more starts ids k before one c lt = ⊎_elim (λ (e : c ≡ k). subst (λ i. IsRising (piece starts ids i)) (sym e) one) (λ (ne : ¬ (c ≡ k)). before c (omega (arith, lt, ne))) (number_same c k)

-- what such columns list, and that it is the matrix's list
module _ (rows : ℕ) (starts ids : List ℕ) (k : AreRisingColumns rows starts ids) (entries : (r c : ℕ) → IsEntry (matrix_of rows starts ids) r c ↔ ((c < length starts - 1) × Among r (piece starts ids c))) where
  pub rising_lists : (c : ℕ) → c + 1 < length starts → Lists (λ r. IsEntry (matrix_of rows starts ids) r c) (piece starts ids c)
  rising_lists c lt = record {
    rising = k.rising c lt;
    sound = λ r h. (entries r c).1 (omega (arith, lt), h);
    complete = λ r e. ((entries r c).0 e).1;
  }

  pub rising_column : HasPlaces rows (length starts - 1) (places_of starts ids) (matrix_of rows starts ids) → (c : ℕ) → c + 1 < length starts → piece starts ids c ≡ column (matrix_of rows starts ids) c
  rising_column has c lt = lists_unique (λ r. IsEntry (matrix_of rows starts ids) r c) (piece starts ids c) (column (matrix_of rows starts ids) c) (rising_lists c lt) (has.columns c)
