-- What holds at the end of a search, the rows of claims, and what is known of an answer that is there.
use Rattle.std.proofs.Common.{◌≡◌, ◌∙◌, ◌==◌, ℕ, ◌<◌, Bool, true, true≢false, Option, None, Some, IfNone, IfSome, false, is_some, List, [], ◌∷◌, ◌++◌, length, slice_index_or, take, ◌⊎◌, refl, sym, subst, inl, inr, ⊎_elim, arith}
use Rattle.std.proofs.lemmas.Bool.{eqb-true}
use Rattle.std.proofs.lemmas.List.{get_or-map, length-map, map-append, take-map}
use Rattle.bip_defs.specs.Lists.{Among, AreDistinct}
use Rattle.bip_defs.specs.Matching.{cols_of, rows_of}
use Rattle.bip_defs.specs.Matrix.{IsEntry, Matrix, Place}
use Rattle.bip_defs.proofs.Closed.{closed_maximum}
use Rattle.bip_graph.specs.Matching.{IsMatchingOf, IsMaximumOf, Pairing}
use Rattle.bip_defs.proofs.Sets.{among_at, apart_from_front, among_last, among_left, among_right, row_among}
use Rattle.sp_ids.specs.declared.events.Event.TheVariants.{Done}
use Rattle.forest_core.specs.Events.{IsLegal}
use Rattle.bip_defs.specs.Forest.{InForest, IsRested, State, roots_of}
use Rattle.tree_graft.specs.PhaseSearch.{IsScanned}

-- where all columns in the forest are scanned and there is no leaf
pub closed : (s : State) → ((c : ℕ) → InForest s c → IsScanned s c) → s.leaves ≡ [] → IsLegal s Done
closed s scanned e = (e, λ c i r entry. ⊎_elim (λ (x, w, l). absurd (subst (λ ls. Among x (roots_of ls)) e l)) (λ all. all r entry) (scanned c i))

-- where no column without a base mate has an entry, and nothing is claimed
pub nothing_to_claim : (s : State) → IsRested s → s.claims ≡ [] → ((r c : ℕ) → IsEntry s.matrix r c → Among c (cols_of s.base)) → IsLegal s Done
nothing_to_claim s rested none covered = (rested.no_leaves, λ c i r e. absurd (out c i (covered r c e)))
  where
    out : (c : ℕ) → InForest s c → ¬ Among c (cols_of s.base)
    out c (lt, inl free) = free
    out c (lt, inr (q, m, h)) = absurd (subst (λ (ps : List Place). Among q (rows_of ps)) none h)

-- a matching that has each column with an entry is maximum
pub entries_matched_maximum : (a : Matrix) (m : Pairing) → IsMatchingOf a m → ((r c : ℕ) → IsEntry a r c → Among c (cols_of m.pairs)) → IsMaximumOf a m
entries_matched_maximum a m of covered = record {
  matching = of;
  maximum = closed_maximum a m.pairs [] of.matching (λ r marked. absurd (true≢false (sym marked))) (λ c lt free r e. absurd (free (covered r c e)));
}

-- Rows of claims.

-- the rows of one claim more
pub rows_more : (last : List Place) (p : Place) (r : ℕ) → Among r (rows_of (last ++ p ∷ [])) → Among r (rows_of last) ⊎ (r ≡ p.0)
rows_more last p r h = among_last r p.0 (rows_of last) (subst (Among r) (map-append (λ (q : Place). q.0) last (p ∷ [])) h)

pub rows_had : (last : List Place) (p : Place) (r : ℕ) → Among r (rows_of last) → Among r (rows_of (last ++ p ∷ []))
rows_had last p r h = subst (Among r) (sym (map-append (λ (q : Place). q.0) last (p ∷ []))) (among_left r (rows_of last) (p.0 ∷ []) h)

pub row_last : (last : List Place) (p : Place) → Among p.0 (rows_of (last ++ p ∷ []))
row_last last p = subst (Among p.0) (sym (map-append (λ (q : Place). q.0) last (p ∷ []))) (among_right p.0 (rows_of last) (p.0 ∷ []) (inl refl))

-- where the rows differ, a row is not among those before it
pub row_apart : (ps : List Place) (k : ℕ) (d : Place) → k < length ps → AreDistinct (rows_of ps) → ¬ Among (slice_index_or ps k d).0 (rows_of (take k ps))
row_apart ps k d lt differ h = apart_from_front k 0 (rows_of ps)
    (let long = length-map ps (λ (q : Place). q.0) in omega (arith, lt, long))
    differ
    (subst (λ z. Among z (take k (rows_of ps))) (sym (get_or-map (λ (q : Place). q.0) ps k d 0 lt)) (subst (Among (slice_index_or ps k d).0) (sym (take-map (λ (q : Place). q.0) k ps)) h))

-- the rows of the last claims differ where all do
pub last_differ : (xs ys : List Place) → AreDistinct (rows_of (xs ++ ys)) → AreDistinct (rows_of ys)
last_differ [] ys d = d
last_differ (x ∷ xs) ys d = last_differ xs ys d.1

-- the row of a claim that was read there
pub row_read : (p : Place) (ps : List Place) (k : ℕ) → k < length ps → p ≡ slice_index_or ps k p → Among p.0 (rows_of ps)
row_read p ps k lt e = row_among p.0 p.1 ps (subst (λ (q : Place). Among q ps) (sym e) (among_at ps k p lt))

pub none_listed : (xs : List Place) → (length xs == 0) ≡ true → xs ≡ []
none_listed [] e = refl
none_listed (x ∷ xs) e = absurd (let zero : length (x ∷ xs) ≡ 0 = eqb-true (length (x ∷ xs)) 0 e in omega arith)

pub none_among : (x : ℕ) (xs : List ℕ) {b : Bool} → b ≡ (length xs == 0) → b ≡ true → ¬ Among x xs
none_among x [] e f h = h
none_among x (y ∷ ys) e f h = let zero : length (y ∷ ys) ≡ 0 = eqb-true (length (y ∷ ys)) 0 (sym e ∙ f) in omega arith

-- what is known of an answer that is there
pub some_holds : (P : ℕ → Type 0) (o : Option ℕ) → is_some o ≡ true → IfSome o P → (x : ℕ) × P x
some_holds P None e h = absurd (true≢false (sym e))
some_holds P (Some x) e h = (x, h)

pub none_holds : (P : Type 0) (o : Option ℕ) → is_some o ≡ false → IfNone o P → P
none_holds P None e h = h
none_holds P (Some x) e h = absurd (true≢false e)
