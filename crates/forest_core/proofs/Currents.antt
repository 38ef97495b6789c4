-- The current matching: there is one, and exchanging one path more.
use Rattle.std.proofs.Common.{◌≡◌, ◌⊎◌, ◌↔◌, ◌∙◌, ℕ, suc, ◌+◌, List, [], ◌∷◌, length, refl, sym, ap, subst, inl, inr, ⊎_elim, arith}
use Rattle.bip_defs.specs.Lists.{Among, AreDistinct}
use Rattle.bip_defs.specs.Matching.{IsMatching, cols_of, rows_of}
use Rattle.bip_defs.specs.Matrix.{AreEntries, Matrix, Place}
use Rattle.bip_defs.specs.Paths.{Alternates, BeginsUnmatched, Exchanges, Reassigns, IsAugmenting}
use Rattle.bip_defs.proofs.Exchange.{adds_pair, drops_gives, drops_pair, exchange_one, exchange_rest, rest_augments}
use Rattle.bip_defs.proofs.Sets.{col_among, col_pair, distinct_pairs, drops_gone, drops_length, drops_only, drops_rows, row_among, row_pair, taken}
use Rattle.forest_core.specs.Current.{IsCurrent, IsPairAfter, OnPath}
use Rattle.forest_core.specs.Paths.{ArePathPairs, IsPath, with_flipped}
use Rattle.forest_core.specs.Sound.{IsSound}
use Rattle.bip_defs.specs.Forest.{RootOf, State, roots_of}
use Rattle.forest_core.proofs.RootPaths.{has_path}
use Rattle.forest_core.proofs.Members.{same_length, same_matching}
use Rattle.forest_core.proofs.Roots.{claims_entries, one_claim, one_path, one_root, path_root, root_of_claimer}

-- What stays on the path of a root that is not flipped.

pub stays_matched : (s : State) → IsSound s → (xs : List ℕ) (now : List Place) (x r c : ℕ) → IsCurrent (with_flipped s xs) now → ¬ Among x xs → OnPath s.base s.claims s.leaves x r → Among (r, c) s.base → Among (r, c) now
stays_matched s k xs now x r c cur off on m = (cur.pairs (r, c)).1 (inr (m, λ (y, f, w). off (subst (λ z. Among z xs) (one_path s k w on) f)))

pub stays_unmatched_row : (s : State) → IsSound s → (xs : List ℕ) (now : List Place) (x r : ℕ) → IsCurrent (with_flipped s xs) now → ¬ Among x xs → OnPath s.base s.claims s.leaves x r → ¬ Among r (rows_of s.base) → ¬ Among r (rows_of now)
stays_unmatched_row s k xs now x r cur off on free h =
    let (c, p) = row_pair r now h in
    ⊎_elim (λ (g, (y, f, w)). off (subst (λ z. Among z xs) (one_path s k w on) f)) (λ (g, n). free (row_among r c s.base g)) ((cur.pairs (r, c)).0 p)

-- what a column of the root's tree has now it had in the base
pub was_matched : (s : State) → IsSound s → (xs : List ℕ) (now : List Place) (x r c : ℕ) → IsCurrent (with_flipped s xs) now → ¬ Among x xs → RootOf s.base s.claims x c → Among (r, c) now → Among (r, c) s.base
was_matched s k xs now x r c cur off w h = ⊎_elim (λ (g, (y, f, v)). absurd (off (subst (λ z. Among z xs) (one_root s k (root_of_claimer s k y r c (path_root s k v) g) w) f))) (λ (g, n). g) ((cur.pairs (r, c)).0 h)

alternates_on : (m n path : List Place) → ((r c : ℕ) → Among r (rows_of path) → Among (r, c) m → Among (r, c) n) → ((r : ℕ) → Among r (rows_of path) → ¬ Among r (rows_of m) → ¬ Among r (rows_of n)) → Alternates m path → Alternates n path
alternates_on m n [] over free h = h
alternates_on m n (p ∷ []) over free h = free p.0 (inl refl) h
alternates_on m n (p ∷ q ∷ path) over free h = (over p.0 q.1 (inl refl) h.0, alternates_on m n (q ∷ path) (λ r c g. over r c (inr g)) (λ r g. free r (inr g)) h.1)

begins_on : (m n path : List Place) → ((c : ℕ) → Among c (cols_of path) → ¬ Among c (cols_of m) → ¬ Among c (cols_of n)) → BeginsUnmatched m path → BeginsUnmatched n path
begins_on m n [] free h = h
begins_on m n (p ∷ path) free h = free p.1 (inl refl) h

-- the path of a root that is not flipped is augmenting in the current matching
pub path_augments : (s : State) → IsSound s → (xs : List ℕ) (now : List Place) (x : ℕ) (path : List Place) → IsCurrent (with_flipped s xs) now → ¬ Among x xs → IsPath s x path → IsAugmenting now path
path_augments s k xs now x path cur off b = record {
  begins = begins_on s.base now path free b.begins;
  alternates = alternates_on s.base now path (λ r c h m. stays_matched s k xs now x r c cur off (b.on_path r h) m) (λ r h n. stays_unmatched_row s k xs now x r cur off (b.on_path r h) n) b.alternates;
  rows_differ = b.rows_differ;
}
  where
    free : (c : ℕ) → Among c (cols_of path) → ¬ Among c (cols_of s.base) → ¬ Among c (cols_of now)
    free c h n g =
        let (q, on) = col_pair c path h in
        let (r, p) = col_pair c now g in
        n (col_among r c s.base (was_matched s k xs now x r c cur off (root_of_claimer s k x q c (path_root s k (b.on_path q (row_among q c path on))) (b.claimed (q, c) on)) p))

pub path_entries : (s : State) → IsSound s → (x : ℕ) (path : List Place) → ArePathPairs s x path → AreEntries s.matrix path
path_entries s k x path b r c h = claims_entries s.matrix s.base [] s.claims k.claims r c (b.claimed (r, c) h)

-- the path of one root more is exchanged
pub current_more : (s : State) → IsSound s → (xs ys : List ℕ) (now new : List Place) (x : ℕ) (path : List Place) → IsCurrent (with_flipped s xs) now → ¬ Among x xs → ArePathPairs s x path → Exchanges path now new → AreDistinct new → ((y : ℕ) → Among y ys ↔ ((y ≡ x) ⊎ Among y xs)) → IsCurrent (with_flipped s ys) new
current_more s k xs ys now new x path cur off b ex once more = record { pairs = λ p. (over p, back p); once = once }
  where
    over : (p : Place) → Among p new → IsPairAfter s ys p
    over p h = ⊎_elim (λ on. inl (b.claimed p on, (x, (more x).1 (inl refl), b.on_path p.0 (row_among p.0 p.1 path on)))) (λ (was, not_on). ⊎_elim (λ (g, (y, f, w)). inl (g, (y, (more y).1 (inr f), w))) (λ (g, n). inr (g, λ (y, f, w). ⊎_elim (λ (e : y ≡ x). not_on (b.complete p.0 (subst (λ z. OnPath s.base s.claims s.leaves z p.0) e w))) (λ i. n (y, i, w)) ((more y).0 f))) ((cur.pairs p).0 was)) ((ex p).0 h)

    by_flip : (p : Place) (y : ℕ) → Among p s.claims → OnPath s.base s.claims s.leaves y p.0 → (y ≡ x) ⊎ Among y xs → Among p new
    by_flip p y g w (inl e) =
        let (d, on) = row_pair p.0 path (b.complete p.0 (subst (λ z. OnPath s.base s.claims s.leaves z p.0) e w)) in
        (ex p).1 (inl (subst (λ (z : Place). Among z path) (λ i. (p.0, same_claim d (b.claimed (p.0, d) on) i)) on))
      where
        same_claim : (d : ℕ) → Among (p.0, d) s.claims → d ≡ p.1
        same_claim d h = one_claim s k p.0 d p.1 h g
    by_flip p y g w (inr i) = (ex p).1 (inr ((cur.pairs p).1 (inl (g, (y, i, w))), λ h. off (subst (λ z. Among z xs) (one_path s k w (b.on_path p.0 h)) i)))

    back : (p : Place) → IsPairAfter s ys p → Among p new
    back p (inl (g, (y, f, w))) = by_flip p y g w ((more y).0 f)
    back p (inr (g, n)) = (ex p).1 (inr ((cur.pairs p).1 (inr (g, λ (y, i, w). n (y, (more y).1 (inr i), w))), λ h. n (x, (more x).1 (inl refl), b.on_path p.0 h)))

-- An exchange as a list.

exchanged : (a : Matrix) (path m : List Place) → IsMatching a m → AreEntries a path → IsAugmenting m path → (n : List Place) × IsMatching a n × (length n ≡ suc (length m)) × Exchanges path m n
exchanged a [] m k e aug = absurd aug.begins
exchanged a (p ∷ []) m k e aug = (p ∷ m, adds_pair a p.0 p.1 m k (e p.0 p.1 (inl refl)) aug.alternates aug.begins, refl, exchange_one p m (p ∷ m) gives)
  where
    gives : Reassigns p m (p ∷ m)
    gives q = (λ h. ⊎_elim (λ (f : q ≡ p). inl f) (λ g. inr (g, λ (f : q.0 ≡ p.0). aug.alternates (subst (λ z. Among z (rows_of m)) f (row_among q.0 q.1 m g)))) h, λ h. ⊎_elim (λ (f : q ≡ p). inl f) (λ g. inr g.0) h)
exchanged a (p ∷ q ∷ path) m k e aug =
    let (n, d) = taken (p.0, q.1) m aug.alternates.0 in
    let gives : Reassigns p m (p ∷ n) = drops_gives p.0 p.1 q.1 m n k.rows_differ d in
    let step : IsMatching a (p ∷ n) = adds_pair a p.0 p.1 n (drops_pair a d k) (e p.0 p.1 (inl refl)) (drops_gone (drops_rows d) k.rows_differ) (λ h. let (r, g) = col_pair p.1 n h in aug.begins (col_among r p.1 m (drops_only d (r, p.1) g))) in
    let (more, l, s, ex) = exchanged a (q ∷ path) (p ∷ n) step (λ r c h. e r c (inr h)) (rest_augments p q path m (p ∷ n) k.cols_differ aug gives) in
    (more, l, s ∙ ap suc (sym (drops_length d)), exchange_rest p (q ∷ path) m (p ∷ n) more aug.rows_differ.0 gives ex)

-- The current matching.

pub none_flipped : (s : State) → IsSound s → (xs : List ℕ) → xs ≡ [] → IsCurrent (with_flipped s xs) s.base
none_flipped s k xs e = record {
  pairs = λ p. (λ h. inr (h, λ (y, f, w). subst (Among y) e f), λ h. ⊎_elim (λ (g, (y, f, w)). absurd (subst (Among y) e f)) (λ (g, n). g) h);
  once = distinct_pairs s.base k.base.rows_differ;
}

pub record IsGrown (s : State) (xs : List ℕ) (m : List Place) : Type 0 where
  pub current : IsCurrent (with_flipped s xs) m
  pub matching : IsMatching s.matrix m
  pub size : length m ≡ length s.base + length xs

-- where these roots are flipped, each with a leaf
pub grown : (s : State) → IsSound s → (xs : List ℕ) → AreDistinct xs → ((x : ℕ) → Among x xs → Among x (roots_of s.leaves)) → (m : List Place) × IsGrown s xs m
grown s k [] d within = (s.base, record { current = none_flipped s k [] refl; matching = k.base; size = omega arith })
grown s k (x ∷ xs) d within =
    let (m, g) = grown s k xs d.1 (λ y h. within y (inr h)) in
    let (r, h) = row_of_root x (within x (inl refl)) in
    let (path, b) = has_path s k x r h in
    let ps : ArePathPairs s x path = record { claimed = b.claimed; on_path = b.on_path; complete = b.complete } in
    let (n, l, e, ex) = exchanged s.matrix path m g.matching (path_entries s k x path ps) (path_augments s k xs m x path g.current d.0 b) in
    (n, record { current = current_more s k xs (x ∷ xs) m n x path g.current d.0 ps ex (distinct_pairs n l.rows_differ) (λ y. (λ i. i, λ i. i)); matching = l; size = (let before = g.size in omega arith) })
  where
    row_of_root : (x : ℕ) → Among x (roots_of s.leaves) → (r : ℕ) × Among (x, r) s.leaves
    row_of_root x h = row_pair x s.leaves h

pub current_some : (s : State) → IsSound s → (m : List Place) × IsGrown s s.flipped m
current_some s k = grown s k s.flipped k.flipped_differ k.flipped

-- each list of the current pairs
pub current_grown : (s : State) (m : List Place) → IsSound s → IsCurrent s m → IsGrown s s.flipped m
current_grown s m k cur =
    let (n, g) = current_some s k in
    let over : (p : Place) → Among p m → Among p n = λ p h. (g.current.pairs p).1 ((cur.pairs p).0 h) in
    let back : (p : Place) → Among p n → Among p m = λ p h. (cur.pairs p).1 ((g.current.pairs p).0 h) in
    record { current = cur; matching = same_matching s.matrix n m g.matching cur.once over; size = same_length m n cur.once (distinct_pairs n g.matching.rows_differ) over back ∙ g.size }
