-- The order of components: each one is the next.
use Rattle.std.proofs.Common.{ℕ, ◌<◌, ◌≤◌, List, [], ◌∷◌, ◌++◌, length, refl, sym, subst, inl, inr, arith, append_assoc}
use Rattle.std.proofs.lemmas.List.{append-nil}
use Rattle.bip_defs.specs.Lists.{Among, AreDistinct}
use Rattle.bip_defs.specs.Matrix.{upto}
use Rattle.bip_defs.proofs.Sets.{among_left, among_right, few_distinct, upto_length, upto_lists}
use Rattle.dm_fine.specs.BlockOrder.{Follow, IsNext}
use Rattle.dm_fine.specs.Layout.{Layout}

pub follow_range : (t : Layout) (before ks : List ℕ) (k : ℕ) → Follow t before ks → Among k ks → k < length t.cols
follow_range t before [] k f h = elim h [ ]
follow_range t before (j ∷ ks) k f (inl e) = subst (λ i. i < length t.cols) (sym e) f.0.in_range
follow_range t before (j ∷ ks) k f (inr h) = follow_range t (before ++ j ∷ []) ks k f.1 h

pub follow_fresh : (t : Layout) (before ks : List ℕ) (k : ℕ) → Follow t before ks → Among k ks → ¬ Among k before
follow_fresh t before [] k f h = elim h [ ]
follow_fresh t before (j ∷ ks) k f (inl e) = λ g. f.0.fresh (subst (λ i. Among i before) e g)
follow_fresh t before (j ∷ ks) k f (inr h) = λ g. follow_fresh t (before ++ j ∷ []) ks k f.1 h (among_left k before (j ∷ []) g)

pub follow_distinct : (t : Layout) (before ks : List ℕ) → Follow t before ks → AreDistinct ks
follow_distinct t before [] f = tt
follow_distinct t before (j ∷ ks) f = (λ h. follow_fresh t (before ++ j ∷ []) ks j f.1 h (among_right j before (j ∷ []) (inl refl)), follow_distinct t (before ++ j ∷ []) ks f.1)

pub follow_more : (t : Layout) (before ks : List ℕ) (k : ℕ) → Follow t before ks → IsNext t (before ++ ks) k → Follow t before (ks ++ k ∷ [])
follow_more t before [] k f next = (subst (λ z. IsNext t z k) (append-nil before) next, tt)
follow_more t before (j ∷ ks) k f next = (f.0, follow_more t (before ++ j ∷ []) ks k f.1 (subst (λ z. IsNext t z k) (sym (append_assoc before (j ∷ []) ks)) next))

-- there are no more of them than components
pub follow_few : (t : Layout) (ks : List ℕ) → Follow t [] ks → length ks ≤ length t.cols
follow_few t ks f =
    let few = few_distinct ks (upto (length t.cols)) (follow_distinct t [] ks f) (λ k h. (upto_lists (length t.cols)).complete k (follow_range t [] ks k f h)) in
    let long = upto_length 0 (length t.cols) in
    omega (arith, few, long)
