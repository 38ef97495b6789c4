-- Each event keeps a forest sound, and how the current matching grows.
use Rattle.std.proofs.Common.{◌≡◌, ◌⊎◌, ◌∙◌, ℕ, ◌+◌, List, [], ◌∷◌, ◌++◌, length, refl, sym, ap, subst, inl, inr, ⊎_elim, arith, length-append}
use Rattle.bip_defs.specs.Lists.{Among, AreDistinct}
use Rattle.bip_defs.specs.Matching.{IsMatching, cols_of, rows_of}
use Rattle.bip_defs.specs.Matrix.{IsEntry, Matrix, Place}
use Rattle.bip_defs.proofs.Sets.{among_last, among_left, among_right, distinct_last}
use Rattle.forest_core.specs.Current.{IsCurrent}
use Rattle.forest_core.specs.Events.{IsLegal, IsRenewed, Becomes, Runs, flips}
use Rattle.forest_core.specs.Sound.{AreClaims, IsLeaf, IsSound}
use Rattle.bip_defs.specs.Forest.{IsRootOfRow, State, new_forest, roots_of}
use Rattle.sp_ids.specs.declared.events.Event.{Event}
use Rattle.sp_ids.specs.declared.events.Event.TheVariants.{Claim, Win, Flip, Graft, Rebuild, Done}
use Rattle.forest_core.proofs.Currents.{current_grown, current_some}
use Rattle.forest_core.proofs.Grafts.{kept_claims}
use Rattle.forest_core.proofs.Members.{map_last}
use Rattle.forest_core.proofs.Roots.{root_more}

pub new_forest_sound : (a : Matrix) (m : List Place) → IsMatching a m → IsSound (new_forest a m)
new_forest_sound a m k = record { base = k; claims = tt; roots_differ = tt; leaves = λ x r h. elim h [ ]; flipped_differ = tt; flipped = λ x h. elim h [ ] }

-- One claim more.

claims_more : (a : Matrix) (base : List Place) (before : List ℕ) (claims : List Place) (r c : ℕ) → AreClaims a base before claims → ¬ Among r before → ¬ Among r (rows_of claims) → IsEntry a r c → (¬ Among c (cols_of base)) ⊎ ((q : ℕ) × Among (q, c) base × (Among q before ⊎ Among q (rows_of claims))) → AreClaims a base before (claims ++ (r, c) ∷ [])
claims_more a base before [] r c k nb nc e m = (nb, e, ⊎_elim (λ f. inl f) (λ (q, p, h). inr (q, p, ⊎_elim (λ g. g) (λ g. absurd g) h)) m, tt)
claims_more a base before (p ∷ claims) r c k nb nc e m = (
  k.0,
  k.1,
  k.2,
  claims_more a base (before ++ p.0 ∷ []) claims r c k.3 (λ h. ⊎_elim nb (λ (f : r ≡ p.0). nc (inl f)) (among_last r p.0 before h)) (λ h. nc (inr h)) e (⊎_elim (λ f. inl f) (λ (q, g, h). inr (q, g, still q h)) m),
)
  where
    still : (q : ℕ) → Among q before ⊎ Among q (p.0 ∷ rows_of claims) → Among q (before ++ p.0 ∷ []) ⊎ Among q (rows_of claims)
    still q (inl h) = inl (among_left q before (p.0 ∷ []) h)
    still q (inr (inl f)) = inl (among_right q before (p.0 ∷ []) (inl f))
    still q (inr (inr h)) = inr h

pub in_tree_more : (base claims : List Place) (p : Place) (x r : ℕ) → IsRootOfRow base claims x r → IsRootOfRow base (claims ++ p ∷ []) x r
in_tree_more base claims p x r (d, h, w) = (d, among_left (r, d) claims (p ∷ []) h, root_more base claims (claims ++ p ∷ []) (λ q g. among_left q claims (p ∷ []) g) w)

pub claimed_sound : (s : State) (r c : ℕ) → IsSound s → IsLegal s (Claim r c) → IsSound (record s { claims = s.claims ++ (r, c) ∷ [] })
claimed_sound s r c k (fresh, e, inside) = record {
  base = k.base;
  claims = claims_more s.matrix s.base [] s.claims r c k.claims (λ h. h) fresh e (⊎_elim (λ f. inl f) (λ (q, p, h). inr (q, p, inr h)) inside.1);
  roots_differ = k.roots_differ;
  leaves = λ x q h. let l = k.leaves x q h in record { root_unmatched = l.root_unmatched; leaf_unmatched = l.leaf_unmatched; in_tree = in_tree_more s.base s.claims (r, c) x q l.in_tree };
  flipped_differ = k.flipped_differ;
  flipped = k.flipped;
}

pub won_sound : (s : State) (x r : ℕ) → IsSound s → IsLegal s (Win x r) → IsSound (record s { leaves = s.leaves ++ (x, r) ∷ [] })
won_sound s x r k (free, new, unmatched, tree) = record {
  base = k.base;
  claims = k.claims;
  roots_differ = subst AreDistinct (sym (map_last (λ (p : ℕ × ℕ). p.0) s.leaves (x, r))) (distinct_last (roots_of s.leaves) x k.roots_differ new);
  leaves = λ y q h. ⊎_elim (λ g. same y q g) (λ (e : (y, q) ≡ (x, r)). subst (λ (p : Place). IsLeaf (record s { leaves = s.leaves ++ (x, r) ∷ [] }) p.0 p.1) (sym e) (record { root_unmatched = free; leaf_unmatched = unmatched; in_tree = tree })) (among_last (y, q) (x, r) s.leaves h);
  flipped_differ = k.flipped_differ;
  flipped = λ y h. subst (Among y) (sym (map_last (λ (p : ℕ × ℕ). p.0) s.leaves (x, r))) (among_left y (roots_of s.leaves) (x ∷ []) (k.flipped y h));
}
  where
    same : (y q : ℕ) → Among (y, q) s.leaves → IsLeaf (record s { leaves = s.leaves ++ (x, r) ∷ [] }) y q
    same y q g = let l = k.leaves y q g in record { root_unmatched = l.root_unmatched; leaf_unmatched = l.leaf_unmatched; in_tree = l.in_tree }

pub flipped_sound : (s : State) (x : ℕ) → IsSound s → IsLegal s (Flip x) → IsSound (record s { flipped = s.flipped ++ x ∷ [] })
flipped_sound s x k (has, new) = record {
  base = k.base;
  claims = k.claims;
  roots_differ = k.roots_differ;
  leaves = λ y q h. let l = k.leaves y q h in record { root_unmatched = l.root_unmatched; leaf_unmatched = l.leaf_unmatched; in_tree = l.in_tree };
  flipped_differ = distinct_last s.flipped x k.flipped_differ new;
  flipped = λ y h. ⊎_elim (k.flipped y) (λ (e : y ≡ x). subst (λ z. Among z (roots_of s.leaves)) (sym e) has) (among_last y x s.flipped h);
}

-- a base with claims alone
pub renewed_sound : (s t : State) → IsSound s → IsRenewed s t → AreClaims s.matrix t.base [] t.claims → IsSound t
renewed_sound s t k n c = record {
  base = subst (λ a. IsMatching a t.base) (sym n.matrix) (current_grown s t.base k n.base).matching;
  claims = subst (λ a. AreClaims a t.base [] t.claims) (sym n.matrix) c;
  roots_differ = subst (λ ls. AreDistinct (roots_of ls)) (sym n.leaves) tt;
  leaves = λ x r h. absurd (subst (Among (x, r)) n.leaves h);
  flipped_differ = subst AreDistinct (sym n.flipped) tt;
  flipped = λ x h. absurd (subst (Among x) n.flipped h);
}

pub event_sound : (s t : State) (e : Event) → IsSound s → IsLegal s e → Becomes s e t → IsSound t
event_sound s t (Claim r c) k l h = subst IsSound (sym h) (claimed_sound s r c k l)
event_sound s t (Win x r) k l h = subst IsSound (sym h) (won_sound s x r k l)
event_sound s t (Flip x) k l h = subst IsSound (sym h) (flipped_sound s x k l)
event_sound s t Graft k l (n, kept) = renewed_sound s t k n (kept_claims s k t.base t.claims n.base kept)
event_sound s t Rebuild k l (n, gone) = renewed_sound s t k n (subst (AreClaims s.matrix t.base []) (sym gone) tt)
event_sound s t Done k l h = subst IsSound (sym h) k

pub run_sound : (s t : State) (es : List Event) → IsSound s → Runs s es t → IsSound t
run_sound s t [] k h = subst IsSound (sym h) k
run_sound s t (e ∷ es) k (l, u, h, rest) = run_sound u t es (event_sound s u e k l h) rest

-- How many pairs the current matching has.

abbrev pub weight : State → ℕ
weight s = length s.base + length s.flipped

renewed_weight : (s t : State) → IsSound s → IsRenewed s t → weight t ≡ weight s
renewed_weight s t k n = let g = (current_grown s t.base k n.base).size in let none = ap length n.flipped in omega (arith, g, none)

event_weight : (s t : State) (e : Event) (es : List Event) → IsSound s → IsLegal s e → Becomes s e t → weight t + flips es ≡ weight s + flips (e ∷ es)
event_weight s t (Claim r c) es k l h = ap (λ u. weight u + flips es) h
event_weight s t (Win x r) es k l h = ap (λ u. weight u + flips es) h
event_weight s t (Flip x) es k l h = ap (λ u. weight u + flips es) h ∙ omega (arith, length-append s.flipped (x ∷ []))
event_weight s t Graft es k l (n, kept) = ap (λ w. w + flips es) (renewed_weight s t k n)
event_weight s t Rebuild es k l (n, gone) = ap (λ w. w + flips es) (renewed_weight s t k n)
event_weight s t Done es k l h = ap (λ u. weight u + flips es) h

pub run_weight : (s t : State) (es : List Event) → IsSound s → Runs s es t → weight t ≡ weight s + flips es
run_weight s t [] k h = ap weight h ∙ omega arith
run_weight s t (e ∷ es) k (l, u, h, rest) = run_weight u t es (event_sound s u e k l h) rest ∙ event_weight s u e es k l h

pub run_grown : (a : Matrix) (m n : List Place) (es : List Event) (s : State) → IsMatching a m → Runs (new_forest a m) es s → IsCurrent s n → length n ≡ length m + flips es
run_grown a m n es s k h cur =
    let first = new_forest_sound a m k in
    let g = (current_grown s n (run_sound (new_forest a m) s es first h) cur).size in
    let w = run_weight (new_forest a m) s es first h in
    omega (arith, g, w)

-- Runs.

pub event_matrix : (s t : State) (e : Event) → Becomes s e t → t.matrix ≡ s.matrix
event_matrix s t (Claim r c) h = ap (λ (u : State). u.matrix) h
event_matrix s t (Win x r) h = ap (λ (u : State). u.matrix) h
event_matrix s t (Flip x) h = ap (λ (u : State). u.matrix) h
event_matrix s t Graft (n, kept) = n.matrix
event_matrix s t Rebuild (n, gone) = n.matrix
event_matrix s t Done h = ap (λ (u : State). u.matrix) h

pub run_matrix : (s t : State) (es : List Event) → Runs s es t → t.matrix ≡ s.matrix
run_matrix s t [] h = ap (λ (u : State). u.matrix) h
run_matrix s t (e ∷ es) (l, u, h, rest) = run_matrix u t es rest ∙ event_matrix s u e h

-- one event more
pub run_last : (s t u : State) (es : List Event) (e : Event) → Runs s es t → IsLegal t e → Becomes t e u → Runs s (es ++ e ∷ []) u
run_last s t u [] e h l k = (subst (λ (v : State). IsLegal v e) h l, u, subst (λ (v : State). Becomes v e u) h k, refl)
run_last s t u (d ∷ es) e (l, v, h, rest) m k = (l, v, h, run_last v t u es e rest m k)

-- a current matching after a run
pub run_current : (a : Matrix) (m : List Place) (es : List Event) (s : State) → IsMatching a m → Runs (new_forest a m) es s → (n : List Place) × IsCurrent s n × IsMatching a n × (length n ≡ length m + flips es)
run_current a m es s k h =
    let (n, g) = current_some s (run_sound (new_forest a m) s es (new_forest_sound a m k) h) in
    (n, g.current, subst (λ b. IsMatching b n) (run_matrix (new_forest a m) s es h) g.matching, run_grown a m n es s k h g.current)
