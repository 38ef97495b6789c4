-- How `diagonal` ends, from what it answers, and what sums past the limit are.
use Rattle.std.proofs.Common.{◌≡◌, ◌<◌, ◌+ℤ◌, ◌&&◌, ℕ, Bool, false, true, List, [], ◌∷◌, arith, if◌then◌else◌, inl, inr, map, nat_eq, nat_lt, refl, subst, sym}
use Rattle.std.proofs.lemmas.Bool.Decides.{nat_tests}
use Rattle.std.specs.Int.RustNames.{unsigned_abs}
use Rattle.bip_defs.specs.Lists.{Among}
use Rattle.bip_defs.specs.Matrix.{AreEntries, IsEntry, Matrix, Place}
use Rattle.bip_defs.proofs.Sets.{filter_complete}
use Rattle.bip_graph.specs.declared.answers.Heaviest.{Heaviest}
use Rattle.bip_graph.specs.declared.answers.Heaviest.TheVariants.{Diagonal, Rectangular, Singular}
use Rattle.btf_text.specs.Diagonals.{PairsAreEntries}
use Rattle.btf_tool.specs.declared.answers.Answer.{Answer}
use Rattle.btf_tool.specs.Diagonals.{IsDiagonalText, answer_on}
use Rattle.btf_tool.specs.Jobs.{IsMatrixOf}
use Rattle.btf_tool.specs.Refusals.{status_of_answer}
use Rattle.btf_tool.specs.Runs.{ComesToDiagonal, IsOrNoMemory}
use Rattle.btf_tool.proofs.FullMatchings.{FullHasRank, TellsFull, comes_to, tells_full, tells_rectangular, tells_singular}
use Rattle.integer_diagonal.specs.Heaviest.{IsHeaviest}
use Rattle.sp_ids.specs.Entries.{Entries, Triple, place, places}
use Rattle.sp_ids.specs.declared.outcomes.Status.{Status}
use Rattle.sp_pattern.specs.Weights.{AreWeightsOf, Weighing, sum_of, weight_limit, weight_of}

-- the answer tells whether the matrix has a full matching
heaviest_tells : FullHasRank → (w : Weighing) (h : Heaviest) → IsHeaviest w h → TellsFull w.matrix (answer_on h)
heaviest_tells full_rank w Rectangular is = tells_rectangular w.matrix is
heaviest_tells full_rank w (Singular rank hall) is = tells_singular w.matrix rank hall.items is
heaviest_tells full_rank w (Diagonal pairs u v sum) is = tells_full full_rank w.matrix pairs.items is.square is.full

-- the answer over the entries comes to their diagonal
pub comes_to_diagonal : FullHasRank → (drop_zeros : Bool) (t : Entries) (a : Matrix) (answer : Answer) (text : List ℕ) (status : Status) → IsMatrixOf drop_zeros t a → IsDiagonalText t a answer text
    → IsOrNoMemory status (status_of_answer answer) → ComesToDiagonal drop_zeros t status
comes_to_diagonal full_rank drop_zeros t a answer text status of h ends =
    comes_to drop_zeros t a answer status of
    (subst (λ (x : Answer). TellsFull a x) (sym h.answer_is) (subst (λ (x : Matrix). TellsFull x (answer_on h.heaviest)) h.are_weights.matrix_is (heaviest_tells full_rank h.weighing h.heaviest h.is_heaviest)))
    ends

test_same : (x y : ℕ) → nat_eq x y ≡ true → x ≡ y
test_same x y e = grind (arith, nat_tests)

test_above : (n : ℕ) → 0 < n → nat_lt 0 n ≡ true
test_above n h = grind (arith, nat_tests)

-- a place whose values do not add up to 0 is given
given_place : (ts : List Triple) (r c : ℕ) → 0 < unsigned_abs (sum_of ts r c) → Among (r, c) (map place ts)
given_place [] r c above = absurd (omega (arith, above))
given_place (t ∷ ts) r c above = by (given_place ts r c) (nat_eq t.row r) refl (nat_eq t.col c) refl above
  where
    by : (0 < unsigned_abs (sum_of ts r c) → Among (r, c) (map place ts)) → (p : Bool) → nat_eq t.row r ≡ p → (q : Bool) → nat_eq t.col c ≡ q
        → 0 < unsigned_abs (if p && q then t.value +ℤ sum_of ts r c else sum_of ts r c) → Among (r, c) (map place (t ∷ ts))
    by later true e true f h = let same : t.row ≡ r = test_same t.row r e in let also : t.col ≡ c = test_same t.col c f in inl (λ i. (sym same i, sym also i))
    by later true e false f h = inr (later h)
    by later false e q f h = inr (later h)

-- and an entry of the file's matrix, whether zeros are dropped or not
entry_above : (drop_zeros : Bool) (t : Entries) (a : Matrix) (r c : ℕ) → IsMatrixOf drop_zeros t a → 0 < weight_of t r c → IsEntry a r c
entry_above false t a r c of above = (of.entries r c).1 (given_place t.items r c above)
entry_above true t a r c of above =
    (of.entries r c).1 (filter_complete (λ (p : Place). nat_lt 0 (weight_of t p.0 p.1)) (r, c) (places t) (given_place t.items r c above) (test_above (weight_of t r c) above))

-- where the entries have weights no place's sum passes the limit
pub no_sum_past : (drop_zeros : Bool) (t : Entries) (a : Matrix) (w : Weighing) (r c : ℕ) → IsMatrixOf drop_zeros t a → AreWeightsOf t a w → weight_limit < weight_of t r c → ⊥
no_sum_past drop_zeros t a w r c of weights past =
    let within = weights.within r c (entry_above drop_zeros t a r c of (omega (arith, past))) in
    omega (arith, within, past)

-- the pairs of a diagonal are entries
pub heaviest_entries : (w : Weighing) (a : Matrix) (h : Heaviest) → w.matrix ≡ a → IsHeaviest w h → PairsAreEntries a h
heaviest_entries w a Rectangular of is = tt
heaviest_entries w a (Singular rank hall) of is = tt
heaviest_entries w a (Diagonal pairs u v sum) of is = subst (λ (x : Matrix). AreEntries x pairs.items) of is.full.matching.entries
