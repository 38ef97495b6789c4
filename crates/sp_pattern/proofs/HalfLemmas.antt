-- The half of a symmetric matrix, compressed while it is looked through.
use Rattle.std.proofs.Common.{◌≡◌, ◌≢◌, ◌↔◌, ◌∙◌, ℕ, zero, suc, ◌+◌, ◌<◌, ◌≤◌, List, [], ◌∷◌, ◌++◌, length, get_or, map, take, refl, sym, ap, arith, subst, inl, inr, ⊎_elim, Bool, true, false, not, true≢false}
use Rattle.std.proofs.lemmas.List.{get_or-map, length-append, length-map, take_more}
use Rattle.bip_defs.specs.Lists.{Among}
use Rattle.bip_defs.specs.Matrix.{Place}
use Rattle.bip_defs.proofs.Sets.{among_last, among_left, among_right}
use Rattle.sp_pattern.specs.Mirror.{IsBehindMirror, lower, lowered}
use Rattle.sp_pattern.specs.Pairs.{AreInside, IsAtMost, IsBefore, IsCompressed, IsOrderOf, Pair, pair_at}
use Rattle.sp_pattern.proofs.MirrorLemmas.{col_read, lower_mirror, row_read}
use Rattle.sp_pattern.proofs.Orders.{at_most_trans, before_after, before_from_at_most, compressed_empty, compressed_push, order_from, same_found, same_is, same_pair}

-- What is read of the places.

pub length-halves : (pair : Place → Pair) (ps : List Place) → length (map pair (lowered ps)) ≡ length ps
length-halves pair ps = length-map (lowered ps) pair ∙ length-map ps lower

half_at : (pair : Place → Pair) (ps : List Place) (k : ℕ) → k < length ps → pair_at (map pair (lowered ps)) k ≡ pair (lower (get_or ps k (0, 0)))
half_at pair ps k lt =
    let long = length-map {B = Place} ps lower in
    get_or-map pair (lowered ps) k (0, 0) (0, 0) (omega (arith, long, lt)) ∙ ap pair (get_or-map lower ps k (0, 0) (0, 0) lt)

pub half_read : (pair : Place → Pair) (ps : List Place) (k : ℕ) (d e : Place) (r c : ℕ) → k < length ps → r ≡ (get_or ps k d).0 → c ≡ (get_or ps k e).1 → pair (lower (r, c)) ≡ pair_at (map pair (lowered ps)) k
half_read pair ps k d e r c lt row col =
    let a = row_read ps k d r lt row in
    let b = col_read ps k e c lt col in
    let same : ◌≡◌ {A = Place} (r, c) (get_or ps k (0, 0)) = λ t. (a t, b t) in
    ap (λ (p : Place). pair (lower p)) same ∙ sym (half_at pair ps k lt)

-- What the tests say.

not_false : (b : Bool) → not b ≡ false → b ≡ true
not_false true h = refl
not_false false h = sym h

pub pair_differs : (p last : Pair) (differs : Bool) → differs ≡ not (same_pair p last) → differs ≡ true → last ≢ p
pair_differs p last differs is so = λ e. true≢false (sym so ∙ is ∙ ap not (same_found p last (sym e)))

pub pair_again : (p last : Pair) (differs : Bool) → differs ≡ not (same_pair p last) → differs ≡ false → last ≡ p
pair_again p last differs is so = sym (same_is p last (not_false (same_pair p last) (sym is ∙ so)))

-- How far the pairs are compressed.

-- the first k pairs of ps stand in the flat list, each once, the last of them being `last`, than which none is greater
pub record IsHalved (m : ℕ) (ps : List Pair) (k : ℕ) (last : Pair) (starts flat : List ℕ) : Type 0 where
  pub pairs : List Pair
  pub compressed : IsCompressed pairs starts flat
  pub same : (p : Pair) → Among p pairs ↔ Among p (take k ps)
  pub greatest : (p : Pair) → Among p pairs → IsAtMost p last
  pub held : 0 < k → Among last pairs
  pub ahead : length starts ≤ last.0 + 1
  pub room : length starts ≤ m + 1
  pub few : length flat ≤ k

pub halved_start : (m : ℕ) (ps : List Pair) → IsHalved m ps 0 (0, 0) [] []
halved_start m ps = record {
  pairs = [];
  compressed = compressed_empty;
  same = λ p. ((λ h. h), λ h. h);
  greatest = λ p h. elim h [ ];
  held = λ lt. absurd (omega arith);
  ahead = omega arith;
  room = omega arith;
  few = omega arith;
}

-- the last pair once more adds none
pub halved_again : (m : ℕ) (ps : List Pair) (k : ℕ) (last : Pair) (starts opened flat : List ℕ) → IsHalved m ps k last starts flat → k < length ps → last ≡ pair_at ps k → 0 < k
    → length opened ≤ last.0 + 1 → length opened ≤ m + 1 → ((ds : List Pair) → IsCompressed ds starts flat → IsCompressed ds opened flat) → IsHalved m ps (k + 1) last opened flat
halved_again m ps k last starts opened flat h lt is some ahead room kept = record {
  pairs = h.pairs;
  compressed = kept h.pairs h.compressed;
  same = λ q. ((λ g. rw (take_more ps k (0, 0) lt) (among_left q (take k ps) (pair_at ps k ∷ []) ((h.same q).0 g))), λ g. back q (rw (take_more ps k (0, 0) lt) at g));
  greatest = h.greatest;
  held = λ more. h.held some;
  ahead = ahead;
  room = room;
  few = let f = h.few in omega arith;
}
  where
    back : (q : Pair) → Among q (take k ps ++ pair_at ps k ∷ []) → Among q h.pairs
    back q g = ⊎_elim (λ (f : Among q (take k ps)). (h.same q).1 f) (λ (e : q ≡ pair_at ps k). subst (λ z. Among z h.pairs) (is ∙ sym e) (h.held some)) (among_last q (pair_at ps k) (take k ps) g)

-- a greater pair, or the first one, is new
pub halved_more : (m : ℕ) (ps : List Pair) (k : ℕ) (last : Pair) (starts opened flat longer : List ℕ) (p : Pair) → IsHalved m ps k last starts flat → k < length ps → p ≡ pair_at ps k → IsAtMost last p
    → (0 < k → last ≢ p) → length opened ≡ p.0 + 1 → p.0 < m → ((ds : List Pair) → IsCompressed ds starts flat → IsCompressed ds opened flat) → longer ≡ flat ++ p.1 ∷ []
    → IsHalved m ps (k + 1) p opened longer
halved_more m ps k last starts opened flat longer p h lt is most new long inside kept more = record {
  pairs = h.pairs ++ p ∷ [];
  compressed = rw more (compressed_push h.pairs opened flat p long above (kept h.pairs h.compressed));
  same = λ q. ((λ g. rw (take_more ps k (0, 0) lt) (over q g)), λ g. back q (rw (take_more ps k (0, 0) lt) at g));
  greatest = λ q g. ⊎_elim (λ (f : Among q h.pairs). at_most_trans q last p (h.greatest q f) most) (λ (e : q ≡ p). inr (ap (λ (z : Pair). z.0) e, let second = ap (λ (z : Pair). z.1) e in omega (arith, second))) (among_last q p h.pairs g);
  held = λ some. among_right p h.pairs (p ∷ []) (inl refl);
  ahead = omega (arith, long);
  room = omega (arith, long, inside);
  few = let f = h.few in rw (more, length-append) (omega (arith, f));
}
  where
    over : (q : Pair) → Among q (h.pairs ++ p ∷ []) → Among q (take k ps ++ pair_at ps k ∷ [])
    over q g = ⊎_elim (λ (f : Among q h.pairs). among_left q (take k ps) (pair_at ps k ∷ []) ((h.same q).0 f)) (λ (e : q ≡ p). among_right q (take k ps) (pair_at ps k ∷ []) (inl (e ∙ is))) (among_last q p h.pairs g)

    back : (q : Pair) → Among q (take k ps ++ pair_at ps k ∷ []) → Among q (h.pairs ++ p ∷ [])
    back q g = ⊎_elim (λ (f : Among q (take k ps)). among_left q h.pairs (p ∷ []) ((h.same q).1 f)) (λ (e : q ≡ pair_at ps k). among_right q h.pairs (p ∷ []) (inl (e ∙ sym is))) (among_last q (pair_at ps k) (take k ps) g)

    some_before : (j : ℕ) (q : Pair) → Among q (take j ps) → 0 < j
    some_before zero q g = elim g [ ]
    some_before (suc j) q g = omega arith

    above : (q : Pair) → Among q h.pairs → IsBefore q p
    above q g = before_after q last p (h.greatest q g) (before_from_at_most last p most (new (some_before k q ((h.same q).0 g))))

-- what stands behind a place and its mirror image adds none
pub halved_behind : (m : ℕ) (pair : Place → Pair) (ps : List Place) (k next : ℕ) (last : Pair) (starts flat : List ℕ) → IsHalved m (map pair (lowered ps)) (k + 1) last starts flat → k < length ps
    → last ≡ pair_at (map pair (lowered ps)) k → IsBehindMirror ps k next → IsHalved m (map pair (lowered ps)) next last starts flat
halved_behind m pair ps k next last starts flat h lt is (inl b) = subst (λ j. IsHalved m (map pair (lowered ps)) j last starts flat) (sym b.0) h
halved_behind m pair ps k next last starts flat h lt is (inr b) =
    let behind = b.0 in
    let le = b.1 in
    let long = length-halves pair ps in
    let end : next ≡ k + 1 + 1 = omega (arith, behind) in
    subst (λ j. IsHalved m (map pair (lowered ps)) j last starts flat) (sym end)
    (halved_again m (map pair (lowered ps)) (k + 1) last starts starts flat h (omega (arith, behind, le, long))
    (is ∙ half_at pair ps k lt ∙ ap pair (sym (lower_mirror (get_or ps k (0, 0)).0 (get_or ps k (0, 0)).1) ∙ ap lower (sym b.2)) ∙ sym (half_at pair ps (k + 1) (omega (arith, behind, le))))
    (omega arith) h.ahead h.room (λ ds f. f))

pub halved_end : (m n : ℕ) (ps : List Pair) (k : ℕ) (last : Pair) (starts opened flat : List ℕ) → IsHalved m ps k last starts flat → length opened ≡ m + 1 → k ≡ length ps → AreInside m n ps
    → ((ds : List Pair) → IsCompressed ds starts flat → IsCompressed ds opened flat) → IsOrderOf m n ps opened flat
halved_end m n ps k last starts opened flat h long done inside kept = order_from m n ps h.pairs k starts opened flat h.compressed h.same h.few done long inside kept
