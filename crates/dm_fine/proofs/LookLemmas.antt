-- A look at the entries of a component.
use Rattle.std.proofs.Common.{◌≡◌, ◌⊎◌, ◌∙◌, ℕ, ◌+◌, ◌^◌, ◌<◌, ◌≤◌, List, length, get_or, sym, ap, subst, inl, inr, ⊎_elim, arith}
use Rattle.std.proofs.Math.Decide.{dec_lt}
use Rattle.std.proofs.lemmas.List.{get_or_read}
use Rattle.bip_defs.specs.Matrix.{cols, upto}
use Rattle.bip_defs.proofs.Sets.{among_at, few_distinct, number_same, rising_distinct, upto_length, upto_lists}
use Rattle.bip_graph.specs.Matching.{none}
use Rattle.dm_fine.specs.Layout.{IsLayout, Layout}
use Rattle.dm_fine.specs.Waits.{IsPassed, StopsAt, line_of}
use Rattle.id_groups.specs.Groups.{group}

pub below_or : (i n : ℕ) → (i < n) ⊎ (n ≤ i)
below_or i n = elim (dec_lt i n) [ yes lt ↦ inl lt | no ge ↦ inr (omega (arith, ge)) ]

-- an item of a list that is the same as another one
pub item_is : (xs ys : List ℕ) (k x : ℕ) → xs ≡ ys → k < length xs → x ≡ get_or xs k x → get_or ys k 0 ≡ x
item_is xs ys k x same lt is = ap (λ zs. get_or zs k 0) (sym same) ∙ sym (get_or_read xs k x lt is 0)

pub width_fits : (t : Layout) (own : ℕ) → IsLayout t → own < length t.cols → length (group t.cols own) < 2 ^ 32
width_fits t own h lt =
    let few = few_distinct (group t.cols own) (upto (cols t.matrix)) (rising_distinct (group t.cols own) (h.by_col.rising own lt)) (λ c on. (upto_lists (cols t.matrix)).complete c (h.by_col.below own c lt on)) in
    let long = upto_length 0 (cols t.matrix) in
    let fits = h.listed.few_cols in
    omega (arith, few, long, fits)

pub col_within : (t : Layout) (own k : ℕ) → IsLayout t → own < length t.cols → k < length (group t.cols own) → get_or (group t.cols own) k 0 < cols t.matrix
col_within t own k h lt kt = h.by_col.below own (get_or (group t.cols own) k 0) lt (among_at (group t.cols own) k 0 kt)

pub row_within : (t : Layout) (own k i : ℕ) → IsLayout t → own < length t.cols → k < length (group t.cols own) → i < length (line_of t own k) → get_or (line_of t own k) i 0 < t.matrix.rows
row_within t own k i h lt kt it = ((h.listed.entries (get_or (line_of t own k) i 0) (get_or (group t.cols own) k 0) (col_within t own k h lt kt)).1 (among_at (line_of t own k) i 0 it)).0

pub line_fits : (t : Layout) (own k : ℕ) → IsLayout t → own < length t.cols → k < length (group t.cols own) → length (line_of t own k) < 2 ^ 32
line_fits t own k h lt kt = h.listed.few (get_or (group t.cols own) k 0) (col_within t own k h lt kt)

-- the rest of a column is passed
pub passed_column : (t : Layout) (marks : List ℕ) (own k from at on : ℕ) → IsPassed t marks own k from → StopsAt marks (line_of t own k) own from at on → on ≡ none → IsPassed t marks own (k + 1) 0
passed_column t marks own k from at on p s all = record {
  before = λ j i lt it. ⊎_elim
      (λ (e : j ≡ k). here j i e it)
      (λ ne. p.before j i (omega (arith, lt, ne)) it)
      (number_same j k);
  here = λ i lt it. absurd (omega (arith, lt));
}
  where
    within : (i : ℕ) → i < length (line_of t own k) → (i < from) ⊎ (from ≤ i) → (get_or marks (get_or (line_of t own k) i 0) 0 ≡ own) ⊎ (get_or marks (get_or (line_of t own k) i 0) 0 ≡ none)
    within i it (inl low) = p.here i low it
    within i it (inr high) = s.quiet i high it (inr all)

    here : (j i : ℕ) → j ≡ k → i < length (line_of t own j) → (get_or marks (get_or (line_of t own j) i 0) 0 ≡ own) ⊎ (get_or marks (get_or (line_of t own j) i 0) 0 ≡ none)
    here j i e it = subst (λ z. i < length (line_of t own z) → (get_or marks (get_or (line_of t own z) i 0) 0 ≡ own) ⊎ (get_or marks (get_or (line_of t own z) i 0) 0 ≡ none)) (sym e) (λ jt. within i jt (below_or i from)) it

-- up to where the look at a column stopped
pub passed_part : (t : Layout) (marks : List ℕ) (own k from at on : ℕ) → IsPassed t marks own k from → StopsAt marks (line_of t own k) own from at on → IsPassed t marks own k at
passed_part t marks own k from at on p s = record {
  before = p.before;
  here = λ i lt it. ⊎_elim (λ (low : i < from). p.here i low it) (λ high. s.quiet i high it (inl lt)) (below_or i from);
}

pub passed_end : (t : Layout) (marks : List ℕ) (own k from n : ℕ) → IsPassed t marks own k from → n ≤ k → IsPassed t marks own n 0
passed_end t marks own k from n p le = record {
  before = λ j i lt it. p.before j i (omega (arith, lt, le)) it;
  here = λ i lt it. absurd (omega (arith, lt));
}
