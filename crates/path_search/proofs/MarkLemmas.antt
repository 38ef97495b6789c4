-- HasMarked of rows.
use Rattle.std.proofs.Common.{◌≡◌, ◌≢◌, ◌∙◌, ℕ, ◌<◌, Bool, true, false, List, [], ◌∷◌, ◌++◌, length, set, slice_index_or, refl, sym, subst, inl, ⊎_elim, true≢false, get_or-set_same, get_or-set_other}
use Rattle.std.proofs.Math.ListN.{length-set}
use Rattle.bip_defs.proofs.Sets.{among_last, among_left, among_right, number_among, number_same}
use Rattle.bip_defs.specs.Matrix.{Matrix}
use Rattle.bip_defs.specs.Lists.{IsMarked}
use Rattle.bip_defs.specs.Marks.{IsExplored}
use Rattle.path_search.specs.Search.{HasMarked, Unmarks}

-- what was marked stays marked
abbrev pub Grows : List Bool → List Bool → Type 0
Grows old new = (r : ℕ) → IsMarked old r → IsMarked new r

-- a column whose entries are in marked rows stays so
pub explored_grows : (a : Matrix) (old new : List Bool) (c : ℕ) → Grows old new → IsExplored a old c → IsExplored a new c
explored_grows a old new c g s r e = g r (s r e)

pub marked_now : (marks : List Bool) (r : ℕ) → r < length marks → IsMarked (set marks r true) r
marked_now marks r lt = rw get_or-set_same refl

pub unmoved : (marks : List Bool) (r x : ℕ) → x ≢ r → slice_index_or (set marks r true) x false ≡ slice_index_or marks x false
unmoved marks r x ne = rw get_or-set_other refl

pub marked_grows : (marks : List Bool) (r : ℕ) → r < length marks → Grows marks (set marks r true)
marked_grows marks r lt x h = ⊎_elim (λ (e : x ≡ r). subst (λ y. IsMarked (set marks r true) y) (sym e) (marked_now marks r lt)) (λ (ne : x ≢ r). unmoved marks r x ne ∙ h) (number_same x r)

-- one row more
pub marks_more : (visited : List ℕ) (start now : List Bool) (r : ℕ) → r < length now → ¬ IsMarked now r → HasMarked visited start now → HasMarked (visited ++ r ∷ []) start (set now r true)
marks_more visited start now r lt un k = record {
  size = length-set now r true ∙ k.size;
  fresh = λ x h. ⊎_elim (λ g. k.fresh x g) (λ (e : x ≡ r). λ s. ⊎_elim (λ g. un (k.marked r g)) (λ g. un (k.others r g ∙ subst (λ y. IsMarked start y) e s)) (number_among r visited)) (among_last x r visited h);
  marked = λ x h. ⊎_elim (λ g. marked_grows now r lt x (k.marked x g)) (λ (e : x ≡ r). subst (λ y. IsMarked (set now r true) y) (sym e) (marked_now now r lt)) (among_last x r visited h);
  others = λ x nh. unmoved now r x (λ (e : x ≡ r). nh (among_right x visited (r ∷ []) (inl e))) ∙ k.others x (λ g. nh (among_left x visited (r ∷ []) g));
}

-- HasMarked that are taken away.

pub unmarks_more : (rows : List ℕ) (start now : List Bool) (r : ℕ) → r < length now → Unmarks rows start now → Unmarks (rows ++ r ∷ []) start (set now r false)
unmarks_more rows start now r lt k = record {
  size = length-set now r false ∙ k.size;
  gone = λ x h s. ⊎_elim (λ (e : x ≡ r). true≢false (sym s ∙ subst (λ y. slice_index_or (set now r false) y false ≡ false) (sym e) same)) (λ (ne : x ≢ r). ⊎_elim (λ g. k.gone x g (sym (off x ne) ∙ s)) ne (among_last x r rows h)) (number_same x r);
  others = λ x nh. off x (λ (e : x ≡ r). nh (among_right x rows (r ∷ []) (inl e))) ∙ k.others x (λ g. nh (among_left x rows (r ∷ []) g));
}
  where
    same : slice_index_or (set now r false) r false ≡ false
    same = rw get_or-set_same refl

    off : (x : ℕ) → x ≢ r → slice_index_or (set now r false) x false ≡ slice_index_or now x false
    off x ne = rw get_or-set_other refl
