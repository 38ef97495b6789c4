-- An augmenting path read backwards, with rows for columns, is one of the transpose.
use Rattle.std.proofs.Common.{◌≡◌, ◌∙◌, ◌⊎◌, ℕ, zero, suc, ◌+◌, ◌<◌, ◌≤◌, List, [], ◌∷◌, ◌++◌, length, reverse, set, slice_index_or, refl, sym, ap, subst, inl, inr, ⊎_elim, arith, append_assoc}
use Rattle.std.proofs.lemmas.List.{append-nil, get_or_default, map-append, reverse-append}
use Rattle.bip_defs.specs.Lists.{Among, AreDistinct}
use Rattle.bip_defs.specs.Matching.{IsMatching, cols_of, rows_of, transposed_places}
use Rattle.bip_defs.specs.Matrix.{AreEntries, IsTransposeOf, Matrix, Place, transpose}
use Rattle.bip_defs.specs.Paths.{Alternates, BeginsUnmatched, Exchanges, IsAugmenting}
use Rattle.bip_defs.proofs.Sets.{among_last, among_left, among_right, col_among, one_row, row_pair}
use Rattle.bip_defs.proofs.Transposed.{transpose_back, transpose_is, turned_among, turned_back, turned_cols, turned_matching, turned_rows, turned_twice}
use Rattle.bip_defs.proofs.Sets.{distinct_last}
use Rattle.bip_defs.proofs.Exchange.{path_cols_differ, later_col}

-- Columns of a path.

-- the mate of a column on the path is on the path
prior_row : (m path : List Place) (r c : ℕ) → AreDistinct (cols_of m) → IsAugmenting m path → Among c (cols_of path) → Among (r, c) m → Among r (rows_of path)
prior_row m [] r c one aug h pair = elim h [ ]
prior_row m (p ∷ path) r c one aug (inl e) pair = absurd (aug.begins (subst (λ x. Among x (cols_of m)) e (col_among r c m pair)))
prior_row m (p ∷ path) r c one aug (inr h) pair = let (s, on, mate) = later_col m p path c aug.alternates h in subst (λ x. Among x (rows_of (p ∷ path))) (one_row m one s r c mate pair) on

-- Read backwards.

reverse_more : {X : Type 0} (x : X) (xs : List X) → reverse (x ∷ xs) ≡ reverse xs ++ x ∷ []
reverse_more x xs = reverse-append (x ∷ []) xs

-- the path's pairs, turned, before those of a list
abbrev backwards_onto : List Place → List Place → List Place
backwards_onto [] after = after
backwards_onto (p ∷ path) after = backwards_onto path ((p.1, p.0) ∷ after)

onto_is : (path after : List Place) → backwards_onto path after ≡ transposed_places (reverse path) ++ after
onto_is [] after = refl
onto_is (p ∷ path) after = onto_is path ((p.1, p.0) ∷ after) ∙ sym (ap (λ (xs : List Place). transposed_places xs ++ after) (reverse_more {X = Place} p path) ∙ ap (λ (xs : List Place). xs ++ after) (map-append (λ (q : Place). (q.1, q.0)) (reverse path) (p ∷ [])) ∙ append_assoc (transposed_places (reverse path)) ((p.1, p.0) ∷ []) after)

onto_alternates : (m : List Place) (p : Place) (path after : List Place) → Alternates m (p ∷ path) → Alternates (transposed_places m) ((p.1, p.0) ∷ after) → Alternates (transposed_places m) (backwards_onto path ((p.1, p.0) ∷ after))
onto_alternates m p [] after alt back = back
onto_alternates m p (q ∷ path) after alt back = onto_alternates m q path ((p.1, p.0) ∷ after) alt.1 (turned_among p.0 q.1 m alt.0, back)

onto_begins : (m : List Place) (p : Place) (path after : List Place) → Alternates m (p ∷ path) → BeginsUnmatched (transposed_places m) (backwards_onto path ((p.1, p.0) ∷ after))
onto_begins m p [] after alt = λ h. alt (subst (λ xs. Among p.0 xs) (turned_cols m) h)
onto_begins m p (q ∷ path) after alt = onto_begins m q path ((p.1, p.0) ∷ after) alt.1

among_reverse : {X : Type 0} (x : X) (xs : List X) → Among x xs → Among x (reverse xs)
among_reverse x [] h = elim h [ ]
among_reverse x (y ∷ xs) (inl e) = subst (λ zs. Among x zs) (sym (reverse_more y xs)) (among_right x (reverse xs) (y ∷ []) (inl e))
among_reverse x (y ∷ xs) (inr h) = subst (λ zs. Among x zs) (sym (reverse_more y xs)) (among_left x (reverse xs) (y ∷ []) (among_reverse x xs h))

reverse_among : {X : Type 0} (x : X) (xs : List X) → Among x (reverse xs) → Among x xs
reverse_among x [] h = elim h [ ]
reverse_among x (y ∷ xs) h = ⊎_elim (λ g. inr (reverse_among x xs g)) (λ (e : x ≡ y). inl e) (among_last x y (reverse xs) (subst (λ zs. Among x zs) (reverse_more y xs) h))

reverse_differ : (xs : List ℕ) → AreDistinct xs → AreDistinct (reverse xs)
reverse_differ [] a = tt
reverse_differ (x ∷ xs) a = subst (λ zs. AreDistinct zs) (sym (reverse_more x xs)) (distinct_last (reverse xs) x (reverse_differ xs a.1) (λ h. a.0 (reverse_among x xs h)))

reverse_cols : (path : List Place) → cols_of (reverse path) ≡ reverse (cols_of path)
reverse_cols [] = refl
reverse_cols (p ∷ path) = ap cols_of (reverse_more {X = Place} p path) ∙ map-append (λ (q : Place). q.1) (reverse path) (p ∷ []) ∙ ap (λ (xs : List ℕ). xs ++ p.1 ∷ []) (reverse_cols path) ∙ sym (reverse_more p.1 (cols_of path))

abbrev pub backwards : List Place → List Place
backwards path = transposed_places (reverse path)

backwards_augments_turned : (m path : List Place) → AreDistinct (cols_of m) → IsAugmenting m path → IsAugmenting (transposed_places m) (backwards path)
backwards_augments_turned m path one aug = record {
  begins = begins path aug;
  alternates = alternates path aug;
  rows_differ = subst (λ xs. AreDistinct xs) (sym (turned_rows (reverse path) ∙ reverse_cols path)) (reverse_differ (cols_of path) (path_cols_differ m path one aug));
}
  where
    whole : (p : Place) (ps : List Place) → backwards_onto ps ((p.1, p.0) ∷ []) ≡ backwards (p ∷ ps)
    whole p ps = onto_is (p ∷ ps) [] ∙ append-nil (backwards (p ∷ ps))

    begins : (ps : List Place) → IsAugmenting m ps → BeginsUnmatched (transposed_places m) (backwards ps)
    begins [] g = absurd g.begins
    begins (p ∷ ps) g = subst (λ (z : List Place). BeginsUnmatched (transposed_places m) z) (whole p ps) (onto_begins m p ps [] g.alternates)

    alternates : (ps : List Place) → IsAugmenting m ps → Alternates (transposed_places m) (backwards ps)
    alternates [] g = absurd g.begins
    alternates (p ∷ ps) g = subst (λ (z : List Place). Alternates (transposed_places m) z) (whole p ps) (onto_alternates m p ps [] g.alternates (λ h. g.begins (subst (λ xs. Among p.1 xs) (turned_rows m) h)))

-- For a matching of the pattern, seen from the rows.

pub backwards_augments : (m path : List Place) → AreDistinct (rows_of m) → IsAugmenting (transposed_places m) path → IsAugmenting m (backwards path)
backwards_augments m path one aug = subst (λ (z : List Place). IsAugmenting z (backwards path)) (turned_twice m) (backwards_augments_turned (transposed_places m) path (subst (λ xs. AreDistinct xs) (sym (turned_cols m)) one) aug)

pub backwards_among : (r c : ℕ) (path : List Place) → Among (c, r) path → Among (r, c) (backwards path)
backwards_among r c path h = turned_among c r (reverse path) (among_reverse {X = Place} (c, r) path h)

pub backwards_back : (r c : ℕ) (path : List Place) → Among (r, c) (backwards path) → Among (c, r) path
backwards_back r c path h = reverse_among {X = Place} (c, r) path (subst (λ (z : List Place). Among (c, r) z) (turned_twice (reverse path)) (turned_among r c (backwards path) h))

-- what is exchanged is the same from both sides
pub backwards_exchanges : (m new path : List Place) → AreDistinct (rows_of m) → AreDistinct (cols_of m) → IsAugmenting (transposed_places m) path → Exchanges (backwards path) m new → Exchanges path (transposed_places m) (transposed_places new)
backwards_exchanges m new path rows cols aug x p = (over, back)
  where
    -- a pair whose column is on the path has its row there
    on_too : Among (p.1, p.0) m → Among p.1 (rows_of (backwards path)) → Among p.0 (rows_of path)
    on_too pair h = prior_row (transposed_places m) path p.0 p.1 (subst (λ xs. AreDistinct xs) (sym (turned_cols m)) rows) aug (let (c, on) = row_pair p.1 (backwards path) h in col_among c p.1 path (backwards_back p.1 c path on)) (turned_among p.1 p.0 m pair)

    -- and the other way round
    too_on : Among (p.1, p.0) m → Among p.0 (rows_of path) → Among p.1 (rows_of (backwards path))
    too_on pair h = prior_row m (backwards path) p.1 p.0 cols (backwards_augments m path rows aug) (let (c, on) = row_pair p.0 path h in col_among c p.0 (backwards path) (backwards_among c p.0 path on)) pair

    over : Among p (transposed_places new) → Among p path ⊎ (Among p (transposed_places m) × (¬ Among p.0 (rows_of path)))
    over h = ⊎_elim (λ on. inl (backwards_back p.1 p.0 path on)) (λ (had, off). inr (turned_among p.1 p.0 m had, λ on. off (too_on had on))) ((x (p.1, p.0)).0 (turned_back p.1 p.0 new h))

    back : Among p path ⊎ (Among p (transposed_places m) × (¬ Among p.0 (rows_of path))) → Among p (transposed_places new)
    back (inl on) = turned_among p.1 p.0 new ((x (p.1, p.0)).1 (inl (backwards_among p.1 p.0 path on)))
    back (inr (had, off)) = let pair = turned_back p.1 p.0 m had in turned_among p.1 p.0 new ((x (p.1, p.0)).1 (inr (pair, λ on. off (on_too pair on))))

-- what is a matching of each matrix from one side is one from the other
pub backwards_matching : (a : Matrix) (m new path : List Place) → IsMatching a (transposed_places m) → AreEntries a path → ((b : Matrix) → IsMatching b m → AreEntries b (backwards path) → IsMatching b new) → IsMatching a (transposed_places new)
backwards_matching a m new path k entries stays = turned_matching b a new (transpose_back a b t) (stays b (subst (λ (z : List Place). IsMatching b z) (turned_twice m) (turned_matching a b (transposed_places m) t k)) (λ r c h. t.over c r (entries c r (backwards_back r c path h))))
  where
    b : Matrix
    b = transpose a

    t : IsTransposeOf a b
    t = transpose_is a

-- In place.

-- the first k pairs are turned
abbrev pub turned_to : ℕ → List Place → List Place
turned_to zero xs = xs
turned_to (suc k) [] = []
turned_to (suc k) (p ∷ xs) = (p.1, p.0) ∷ turned_to k xs

turned_to_at : (k : ℕ) (xs : List Place) (d : Place) → slice_index_or (turned_to k xs) k d ≡ slice_index_or xs k d
turned_to_at zero xs d = refl
turned_to_at (suc k) [] d = refl
turned_to_at (suc k) (p ∷ xs) d = turned_to_at k xs d

turned_to_suc : (k : ℕ) (xs : List Place) (d : Place) → k < length xs → set (turned_to k xs) k ((slice_index_or xs k d).1, (slice_index_or xs k d).0) ≡ turned_to (suc k) xs
turned_to_suc k [] d lt = absurd (omega arith)
turned_to_suc zero (p ∷ xs) d lt = refl
turned_to_suc (suc k) (p ∷ xs) d lt = ap (λ (z : List Place). (p.1, p.0) ∷ z) (turned_to_suc k xs d (omega arith))

-- one pair more
pub turned_to_more : (k : ℕ) (xs now : List Place) (d e : Place) (row col : ℕ) → now ≡ turned_to k xs → k < length xs → row ≡ (slice_index_or now k d).0 → col ≡ (slice_index_or now k e).1 → set now k (col, row) ≡ turned_to (k + 1) xs
turned_to_more k xs now d e row col is lt = subst (λ (z : List Place). row ≡ (slice_index_or z k d).0 → col ≡ (slice_index_or z k e).1 → set z k (col, row) ≡ turned_to (k + 1) xs) (sym is) (λ r c. ap (λ (x : ℕ). set (turned_to k xs) k (x, row)) (c ∙ ap (λ (p : Place). p.1) (turned_to_at k xs e ∙ get_or_default xs k e d lt)) ∙ ap (λ (x : ℕ). set (turned_to k xs) k ((slice_index_or xs k d).1, x)) (r ∙ ap (λ (p : Place). p.0) (turned_to_at k xs d)) ∙ turned_to_suc k xs d lt ∙ ap (λ n. turned_to n xs) (let e : suc k ≡ k + 1 = omega arith in e))

pub turned_to_all : (k : ℕ) (xs : List Place) → length xs ≤ k → turned_to k xs ≡ transposed_places xs
turned_to_all k [] le = none k
  where
    none : (n : ℕ) → turned_to n [] ≡ []
    none zero = refl
    none (suc n) = refl
turned_to_all zero (p ∷ xs) le = absurd (omega arith)
turned_to_all (suc k) (p ∷ xs) le = ap (λ (z : List Place). (p.1, p.0) ∷ z) (turned_to_all k xs (omega arith))
