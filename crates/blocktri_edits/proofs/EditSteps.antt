-- Edits of lists, one after another.
use Rattle.std.proofs.Common.{◌≡◌, ◌∙◌, ℕ, ◌+◌, ◌<◌, List, [], ◌∷◌, ◌++◌, length, map, get_or, take, refl, sym, ap, subst, arith, below_more, length-append, zero-add}
use Rattle.std.proofs.lemmas.List.{get_or-map, length-set, take_more}
use Rattle.std.proofs.Math.ListN.{get_or-append}
use Rattle.std.proofs.Math.Seq.{get_or-append_seam}
use Rattle.bip_defs.specs.EditedMatrix.{Clear, Edit, Set, after_edit, edited, with_number, without_number}
use Rattle.bip_defs.specs.Matching.{IsRank}
use Rattle.bip_defs.specs.Matrix.{Matrix, cols, column, upto}
use Rattle.bip_defs.proofs.Sets.{upto_length, upto_mapped}
use Rattle.bip_defs.proofs.Transposed.{upto_at}
use Rattle.blocktri_edits.specs.Edits.{AreRanksAfter, EditLists, edit_at, edit_list}

-- an edit leaves the numbers of rows and columns
pub rows_after : (a : Matrix) (e : Edit) → (after_edit a e).rows ≡ a.rows
rows_after a (Set p) = refl
rows_after a (Clear p) = refl

pub cols_after : (a : Matrix) (e : Edit) → cols (after_edit a e) ≡ cols a
cols_after a (Set p) = length-set a.columns p.1 (with_number p.0 (column a p.1))
cols_after a (Clear p) = length-set a.columns p.1 (without_number p.0 (column a p.1))

-- the matrix after edits, and after more
edited_on : (a : Matrix) (es fs : List Edit) → edited a (es ++ fs) ≡ edited (edited a es) fs
edited_on a [] fs = refl
edited_on a (e ∷ es) fs = edited_on (after_edit a e) es fs

one_more : (a : Matrix) (es : List Edit) (i : ℕ) (d : Edit) → i < length es → edited a (take (i + 1) es) ≡ after_edit (edited a (take i es)) (get_or es i d)
one_more a es i d lt = ap (edited a) (take_more es i d lt) ∙ edited_on a (take i es) (get_or es i d ∷ [])

pub edit_count : (e : EditLists) → length (edit_list e) ≡ length e.sets
edit_count e = upto_mapped (edit_at e) (length e.sets)

edit_listed : (e : EditLists) (i : ℕ) (d : Edit) → i < length e.sets → get_or (edit_list e) i d ≡ edit_at e i
edit_listed e i d lt =
    let n = length e.sets in
    let long = upto_length 0 n in
    get_or-map (edit_at e) (upto n) i 0 d (omega (arith, long)) ∙ ap (edit_at e) (upto_at 0 n i 0 lt ∙ zero-add i)

-- the matrix b after the first i edits, and after one more
pub matrix_after : (a b : Matrix) (e : EditLists) (i : ℕ) → i < length e.sets → b ≡ edited a (take i (edit_list e)) → after_edit b (edit_at e i) ≡ edited a (take (i + 1) (edit_list e))
matrix_after a b e i lt is =
    let count = edit_count e in
    let d = edit_at e i in
    sym (one_more a (edit_list e) i d (omega (arith, count)) ∙ ap (after_edit (edited a (take i (edit_list e)))) (edit_listed e i d lt) ∙ ap (λ (m : Matrix). after_edit m d) (sym is))

-- the first n edits have their ranks
pub record HaveRanks (a : Matrix) (es : List Edit) (n : ℕ) (ranks : List ℕ) : Type 0 where
  pub long : length ranks ≡ n
  pub are : (i : ℕ) → i < n → IsRank (edited a (take (i + 1) es)) (get_or ranks i 0)

-- and one more
pub rank_more : (a b : Matrix) (es : List Edit) (n rank : ℕ) (ranks : List ℕ) → HaveRanks a es n ranks → b ≡ edited a (take (n + 1) es) → IsRank b rank → HaveRanks a es (n + 1) (ranks ++ rank ∷ [])
rank_more a b es n rank ranks have is ranked = record {
  long = simp length-append (omega (arith, have.long));
  are = below_more _ _ (λ i lt. rw (get_or-append ranks (rank ∷ []) 0 i (omega (arith, lt, have.long))) (have.are i lt)) (subst (IsRank (edited a (take (n + 1) es))) (sym last) (subst (λ (m : Matrix). IsRank m rank) is ranked));
}
  where
    last : get_or (ranks ++ rank ∷ []) n 0 ≡ rank
    last = subst (λ k. get_or (ranks ++ rank ∷ []) k 0 ≡ rank) have.long (get_or-append_seam ranks rank [] 0)

-- all edits have them
pub all_ranked : (a : Matrix) (e : EditLists) (n : ℕ) (ranks : List ℕ) → n ≡ length e.sets → HaveRanks a (edit_list e) n ranks → AreRanksAfter a (edit_list e) ranks
all_ranked a e n ranks all have i lt = have.are i (let count = edit_count e in omega (arith, count, all, lt))
