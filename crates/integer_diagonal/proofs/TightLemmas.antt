-- The tight entries: those that cost as much as their columns' dual variables.
use Rattle.std.proofs.Common.{◌≡◌, ◌∙◌, ℕ, slice_index, ◌+◌, ◌<◌, Bool, true, false, cond, List, [], ◌∷◌, ◌++◌, filter, length, get_or, take, sym, ap, arith, append-nil, append_assoc}
use Rattle.std.proofs.lemmas.List.{get_or_read}
use Rattle.std.proofs.lemmas.List.Elements.{filter_more}
use Rattle.bip_defs.specs.Matching.{Covers}
use Rattle.bip_defs.specs.Matrix.{column}
use Rattle.bip_graph.specs.Matching.{IsMatchingOf, Pairing}
use Rattle.integer_diagonal.proofs.Cheap.{cheap_cols}
use Rattle.integer_diagonal.specs.Duals.{IsAssigned, Priced, cheap}
use Rattle.sp_pattern.specs.Weights.{Weighing, weight_at}

-- Listing them.

-- the row at k is kept
pub keeping_yes : (test : ℕ → Bool) (k x : ℕ) (xs old items longer : List ℕ) → k < length xs → x ≡ get_or xs k x → test x ≡ true → items ≡ old ++ filter test (take k xs) → longer ≡ items ++ x ∷ [] → longer ≡ old ++ filter test (take (k + 1) xs)
keeping_yes test k x xs old items longer lt is passes was more =
    let read : x ≡ get_or xs k 0 = get_or_read xs k x lt is 0 in
    more ∙ ap (λ zs. zs ++ x ∷ []) was ∙ append_assoc old (filter test (take k xs)) (x ∷ [])
    ∙ ap (λ z. old ++ (filter test (take k xs) ++ z ∷ [])) read
    ∙ ap (λ b. old ++ (filter test (take k xs) ++ cond b (get_or xs k 0 ∷ []) [])) (sym (ap test (sym read) ∙ passes))
    ∙ ap (λ zs. old ++ zs) (sym (filter_more test xs k 0 lt))

-- it is not
pub keeping_no : (test : ℕ → Bool) (k x : ℕ) (xs old items longer : List ℕ) → k < length xs → x ≡ get_or xs k x → test x ≡ false → items ≡ old ++ filter test (take k xs) → longer ≡ items → longer ≡ old ++ filter test (take (k + 1) xs)
keeping_no test k x xs old items longer lt is fails was same =
    let read : x ≡ get_or xs k 0 = get_or_read xs k x lt is 0 in
    same ∙ was ∙ ap (λ zs. old ++ zs) (sym (append-nil (filter test (take k xs))))
    ∙ ap (λ b. old ++ (filter test (take k xs) ++ cond b (get_or xs k 0 ∷ []) [])) (sym (ap test (sym read) ∙ fails))
    ∙ ap (λ zs. old ++ zs) (sym (filter_more test xs k 0 lt))

-- the weight that is read at k is that of the row at k
pub weight_here : (w : Weighing) (col k r : ℕ) (rows weights : List ℕ) → rows ≡ column w.matrix col → length weights ≡ length (column w.matrix col) → ((j : ℕ) → j < length weights → slice_index weights j ≡ weight_at w (slice_index (column w.matrix col) j) col) → k < length rows → r ≡ get_or rows k r → slice_index weights k ≡ weight_at w r col
weight_here w col k r rows weights is long each lt read =
    let same = ap (λ (z : List ℕ). length z) is in
    let row : r ≡ slice_index (column w.matrix col) k = get_or_read rows k r lt read 0 ∙ ap (λ (z : List ℕ). get_or z k 0) is in
    each k (omega (arith, same, long, lt)) ∙ ap (λ z. weight_at w z col) (sym row)

-- Matching them.

-- the pairs are such entries
pub tight_matching : (x : Priced) (m : Pairing) → IsAssigned x m → IsMatchingOf (cheap x) m
tight_matching x m a = record { rows = a.rows_are; cols = a.cols_are ∙ sym (cheap_cols x); matching = a.matching }

-- more pairs of them, at the same prices
pub tight_assigned : (x : Priced) (m n : Pairing) → IsAssigned x m → IsMatchingOf (cheap x) n → Covers m.pairs n.pairs → IsAssigned x n
tight_assigned x m n a k covered = record {
  rows_are = k.rows;
  cols_are = k.cols ∙ cheap_cols x;
  feasible = a.feasible;
  matching = k.matching;
  bounded = record {
    free_rows = λ r free. a.bounded.free_rows r (λ on. free (covered.rows r on));
    free_cols = λ c free. a.bounded.free_cols c (λ on. free (covered.cols c on));
    prices = a.bounded.prices;
  };
}
