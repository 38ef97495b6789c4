-- Following a root's path up from its leaf, and exchanging it.
use Rattle.std.proofs.Common.{◌≡◌, ◌⊎◌, ◌↔◌, ◌∙◌, ℕ, zero, suc, ◌+◌, ◌<◌, ◌≤◌, List, [], ◌∷◌, ◌++◌, take, length, slice_index_or, Option, None, Some, refl, sym, ap, subst, inl, inr, ⊎_elim, arith}
use Rattle.std.proofs.lemmas.List.{length-map, take_more}
use Rattle.bip_defs.specs.Lists.{Among, AreDistinct}
use Rattle.bip_defs.specs.Matching.{IsMatching, cols_of, rows_of}
use Rattle.bip_defs.specs.Matrix.{Place, cols}
use Rattle.bip_defs.specs.Paths.{Alternates, Exchanges, IsAugmenting}
use Rattle.bip_defs.proofs.Sets.{among_last, among_left, among_right, apart_from_front, col_among, col_pair, distinct_pairs, entry_col, one_col, one_row, row_among, row_pair}
use Rattle.bip_graph.specs.Matching.{Pairing}
use Rattle.bip_graph.specs.Parents.{AreTrees, HasDepth, IsAncestor, IsTraced, child, itself, parent, root}
use Rattle.forest_core.specs.Current.{OnPath, leaf, up}
use Rattle.forest_core.specs.Adopted.{CanExchange, IsAdopted, Replaces}
use Rattle.forest_core.specs.declared.adopted.Adopted.{Adopted}
use Rattle.forest_core.specs.Paths.{ArePathPairs, CanTrace, HasHolder, IsColOfTrees, IsExchanged}
use Rattle.forest_core.specs.Sound.{IsSound}
use Rattle.bip_defs.specs.Forest.{RootOf, State, above, itself as own_root}
use Rattle.forest_core.specs.Tables.{beside}
use Rattle.forest_core.proofs.Currents.{current_more, none_flipped, path_entries, stays_matched, stays_unmatched_row, was_matched}
use Rattle.bip_defs.proofs.Full.{few_below}
use Rattle.forest_core.proofs.Roots.{one_claim, path_root, root_of_claimer}
use Rattle.forest_core.proofs.StoredForests.{beside_within, claim_in_range, leaf_in_range}

-- What the trees of the claims are to a search for the path.

pub trace_trees : (s : State) (xs : List ℕ) (x : ℕ) (m : Pairing) (holders : List (Option ℕ)) (l : ℕ) → CanTrace s xs x m holders l → AreTrees m.pairs (HasHolder holders)
trace_trees s xs x m holders l t = record {
  rows_differ = t.exchanged.matching.matching.rows_differ;
  cols_differ = t.exchanged.matching.matching.cols_differ;
  one_parent = λ r c d h g. one_claim s t.sound r c d ((t.held r c).0 h) ((t.held r d).0 g);
}

pub trace_col : (s : State) (xs : List ℕ) (x : ℕ) (m : Pairing) (holders : List (Option ℕ)) (l r c : ℕ) → CanTrace s xs x m holders l → HasHolder holders r c → IsColOfTrees m holders c
trace_col s xs x m holders l r c t h = record { in_range = below r c h; holders_in_range = below; cols_differ = t.exchanged.matching.matching.cols_differ }
  where
    below : (q d : ℕ) → HasHolder holders q d → d < m.cols
    below q d g = let lt = (claim_in_range s t.sound q d ((t.held q d).0 g)).1 in let e = t.exchanged.matching.cols in omega arith

pub leaf_held : (s : State) (xs : List ℕ) (x : ℕ) (m : Pairing) (holders : List (Option ℕ)) (l : ℕ) → CanTrace s xs x m holders l → (l < length holders) × (c : ℕ) × HasHolder holders l c
leaf_held s xs x m holders l t =
    let (c, h, w) = (t.sound.leaves x l t.leaf_is).in_tree in
    (beside_within holders l c ((t.held l c).1 h), c, (t.held l c).1 h)

pub leaf_free : (s : State) (xs : List ℕ) (x : ℕ) (m : Pairing) (holders : List (Option ℕ)) (r : ℕ) → CanTrace s xs x m holders r → ¬ Among r (rows_of m.pairs)
leaf_free s xs x m holders r t = stays_unmatched_row s t.sound xs m.pairs x r t.exchanged.current t.not_yet (leaf t.leaf_is) (t.sound.leaves x r t.leaf_is).leaf_unmatched

-- the leaf has no mate, so some row has none
pub trace_room : (s : State) (xs : List ℕ) (x : ℕ) (m : Pairing) (holders : List (Option ℕ)) (l : ℕ) → CanTrace s xs x m holders l → length m.pairs < length holders
trace_room s xs x m holders l t =
    let e = t.exchanged.matching.matching in
    let below : (r : ℕ) → Among r (l ∷ rows_of m.pairs) → r < s.matrix.rows = λ r h. ⊎_elim (λ (f : r ≡ l). (let lt = (leaf_in_range s t.sound x l t.leaf_is).1 in omega arith)) (λ g. let (c, p) = row_pair r m.pairs g in (e.entries r c p).0) h in
    let le = few_below s.matrix.rows (l ∷ rows_of m.pairs) (leaf_free s xs x m holders l t, e.rows_differ) below in
    omega (arith, le, length-map m.pairs (λ (p : Place). p.0), t.long)

-- each column of the root's tree on its path has a depth
depth_at : (s : State) (xs : List ℕ) (x : ℕ) (m : Pairing) (holders : List (Option ℕ)) (l : ℕ) → CanTrace s xs x m holders l → {c : ℕ} → RootOf s.base s.claims x c → (r : ℕ) → OnPath s.base s.claims s.leaves x r → Among (r, c) s.claims → (n : ℕ) × HasDepth m.pairs (HasHolder holders) c n
depth_at s xs x m holders l t (own_root free) r on h = (0, root (λ g. let (q, p) = col_pair x m.pairs g in free (col_among q x s.base (was_matched s t.sound xs m.pairs x q x t.exchanged.current t.not_yet (own_root free) p))))
depth_at s xs x m holders l t {c = c} (above {d = d} q p g w) r on h =
    let up_there = up r c on h p in
    let (n, deep) = depth_at s xs x m holders l t w q up_there g in
    (suc n, child q (stays_matched s t.sound xs m.pairs x q c t.exchanged.current t.not_yet up_there p) ((t.held q d).1 g) deep)

pub leaf_depth : (s : State) (xs : List ℕ) (x : ℕ) (m : Pairing) (holders : List (Option ℕ)) (r c : ℕ) → CanTrace s xs x m holders r → HasHolder holders r c → (n : ℕ) × HasDepth m.pairs (HasHolder holders) c n
leaf_depth s xs x m holders r c t e = let h = (t.held r c).0 e in depth_at s xs x m holders r t (root_of_claimer s t.sound x r c (t.sound.leaves x r t.leaf_is).in_tree h) r (leaf t.leaf_is) h

-- the mate of a column that has a depth was claimed
pub parent_held : (m : List Place) (holders : List (Option ℕ)) (c r : ℕ) → AreDistinct (cols_of m) → (n : ℕ) × HasDepth m (HasHolder holders) c n → Among (r, c) m → (d : ℕ) × HasHolder holders r d
parent_held m holders c r differ (zero, root free) h = absurd (free (col_among r c m h))
parent_held m holders c r differ (suc n, child {d = d} q p e deep) h = (d, subst (λ z. HasHolder holders z d) (one_row m differ q r c p h) e)

-- What was followed back from the leaf is the root's path.

-- the mate of a column that claimed a row of the path
mate_on_path : (s : State) (xs : List ℕ) (x : ℕ) (m : Pairing) (holders : List (Option ℕ)) (l : ℕ) → CanTrace s xs x m holders l → (r c q : ℕ) → OnPath s.base s.claims s.leaves x r → Among (r, c) s.claims → Among (q, c) m.pairs → OnPath s.base s.claims s.leaves x q
mate_on_path s xs x m holders l t r c q on h p = up r c on h (was_matched s t.sound xs m.pairs x q c t.exchanged.current t.not_yet (root_of_claimer s t.sound x r c (path_root s t.sound on) h) p)

-- each column above the leaf claimed a row of the path
claimed_on_path : (s : State) (xs : List ℕ) (x : ℕ) (m : Pairing) (holders : List (Option ℕ)) (r c : ℕ) → CanTrace s xs x m holders r → HasHolder holders r c → {d : ℕ} → IsAncestor m.pairs (HasHolder holders) c d → (q : ℕ) × OnPath s.base s.claims s.leaves x q × Among (q, d) s.claims
claimed_on_path s xs x m holders r c t e itself = (r, leaf t.leaf_is, (t.held r c).0 e)
claimed_on_path s xs x m holders r c t e (parent {d = b} {e = a} q below p f) =
    let (o, on, h) = claimed_on_path s xs x m holders r c t e below in
    (q, mate_on_path s xs x m holders r t o b q on h p, (t.held q a).0 f)

-- the mate of a column on an alternating path is the row before it

row_before : (m : List Place) (p : Place) (path : List Place) → AreDistinct (cols_of m) → Alternates m (p ∷ path) → (r c q : ℕ) → Among (r, c) path → Among (q, c) m → Among q (rows_of (p ∷ path))
row_before m p [] differ alt r c q h g = absurd h
row_before m p (o ∷ path) differ alt r c q (inl e) g = inl (one_row m differ q p.0 o.1 (subst (λ (z : Place). Among {X = Place} (q, z.1) m) e g) alt.0)
row_before m p (o ∷ path) differ alt r c q (inr h) g = inr (row_before m o path differ alt.1 r c q h g)

mate_before : (m path : List Place) → AreDistinct (cols_of m) → IsAugmenting m path → (r c q : ℕ) → Among (r, c) path → Among (q, c) m → Among q (rows_of path)
mate_before m [] differ a r c q h g = absurd h
mate_before m (p ∷ path) differ a r c q (inl e) g = absurd (a.begins (subst (λ (z : Place). Among z.1 (cols_of m)) e (col_among q c m g)))
mate_before m (p ∷ path) differ a r c q (inr h) g = row_before m p path differ a.alternates r c q h g

pub path_pairs : (s : State) (xs : List ℕ) (x : ℕ) (m : Pairing) (holders : List (Option ℕ)) (r c : ℕ) (path : List Place) → CanTrace s xs x m holders r → HasHolder holders r c → IsAugmenting m.pairs path → Among (r, c) path → ((p : Place) → Among p path → IsTraced m.pairs (HasHolder holders) r c p) → ArePathPairs s x path
path_pairs s xs x m holders r c path t e a last traced = record { claimed = claimed; on_path = λ q h. let (d, i) = row_pair q path h in on_pair (q, d) i; complete = λ q w. complete w }
  where
    claimed : (p : Place) → Among p path → Among p s.claims
    claimed p h = ⊎_elim (λ (f : p ≡ (r, c)). subst (λ (z : Place). Among z s.claims) (sym f) ((t.held r c).0 e)) (λ (d, below, g, f). (t.held p.0 p.1).0 f) (traced p h)

    on_pair : (p : Place) → Among p path → OnPath s.base s.claims s.leaves x p.0
    on_pair p h = ⊎_elim
        (λ (f : p ≡ (r, c)). subst (λ (z : Place). OnPath s.base s.claims s.leaves x z.0) (sym f) (leaf t.leaf_is))
        (λ (d, below, g, f). let (o, on, i) = claimed_on_path s xs x m holders r c t e below in mate_on_path s xs x m holders r t o d p.0 on i g)
        (traced p h)

    complete : {q : ℕ} → OnPath s.base s.claims s.leaves x q → Among q (rows_of path)
    complete {q = q} (leaf h) = subst (λ z. Among z (rows_of path)) (one_col s.leaves t.sound.roots_differ x r q t.leaf_is h) (row_among r c path last)
    complete {q = q} (up o d w h g) =
        let (b, i) = row_pair o path (complete w) in
        let j : Among (o, d) path = subst (λ z. Among {X = Place} (o, z) path) (one_claim s t.sound o b d (claimed (o, b) i) h) i in
        mate_before m.pairs path t.exchanged.matching.matching.cols_differ a o d q j (stays_matched s t.sound xs m.pairs x q d t.exchanged.current t.not_yet (up o d w h g) g)

-- Exchanging one path after another.

none_exchanged : (s : State) → IsSound s → (m : Pairing) → m ≡ record { rows = s.matrix.rows; cols = cols s.matrix; pairs = s.base } → IsExchanged s [] m
none_exchanged s k m e = subst (IsExchanged s []) (sym e) (record {
  current = none_flipped s k [] refl;
  matching = record { rows = refl; cols = refl; matching = k.base };
})

-- what stands in the base's place at first: the adopted matching, if there is one
pub exchanging_start : (s : State) (m new : Pairing) (adopted : Option Adopted) (holders leaf_of : List (Option ℕ)) (roots : List ℕ) (flips : ℕ) → CanExchange s m adopted holders leaf_of roots → Replaces adopted m new flips → (flips ≤ length roots) × IsExchanged s (take flips roots) new
exchanging_start s m new adopted holders leaf_of roots flips e by = start adopted e.adopted_is by
  where
    start : (a : Option Adopted) → IsAdopted s a → Replaces a m new flips → (flips ≤ length roots) × IsExchanged s (take flips roots) new
    start None is (same, none) = rw (same, none) (omega arith, none_exchanged s e.sound m e.base)
    start (Some a) is (same, flipped) = rw (same, flipped, sym e.roots_are) (is.few, is.exchanged)

-- a root of the list and its leaf

pub root_held : (s : State) (m : Pairing) (adopted : Option Adopted) (holders leaf_of : List (Option ℕ)) (roots : List ℕ) (x : ℕ) → CanExchange s m adopted holders leaf_of roots → Among x roots → (x < length leaf_of) × (v : ℕ) × (beside leaf_of x ≡ Some v)
root_held s m adopted holders leaf_of roots x e h =
    let on = e.sound.flipped x (subst (Among x) (sym e.roots_are) h) in
    let (r, g) = row_pair x s.leaves on in
    (let lt = (leaf_in_range s e.sound x r g).0 in let l = e.cols_long in omega arith, r, (e.won x r).1 g)

pub can_trace : (s : State) (m now : Pairing) (adopted : Option Adopted) (holders leaf_of : List (Option ℕ)) (roots : List ℕ) (i x l : ℕ) → CanExchange s m adopted holders leaf_of roots → IsExchanged s (take i roots) now → i < length roots → x ≡ slice_index_or roots i x → beside leaf_of x ≡ Some l → CanTrace s (take i roots) x now holders l
can_trace s m now adopted holders leaf_of roots i x l e g lt at is = record {
  sound = e.sound;
  long = e.rows_long;
  held = e.held;
  exchanged = g;
  not_yet = subst (λ z. ¬ Among z (take i roots)) (sym at) (apart_from_front i x roots lt (subst AreDistinct e.roots_are e.sound.flipped_differ));
  leaf_is = (e.won x l).0 is;
}

pub path_in_range : (s : State) (xs : List ℕ) (x : ℕ) (m : Pairing) (holders : List (Option ℕ)) (l : ℕ) (path : List Place) → CanTrace s xs x m holders l → ArePathPairs s x path → (r c : ℕ) → Among (r, c) path → (r < m.rows) × (c < m.cols)
path_in_range s xs x m holders l path t b r c h =
    let e = path_entries s t.sound x path b r c h in
    (let lt = e.0 in let l = t.exchanged.matching.rows in omega arith, let lt = entry_col s.matrix r c e in let l = t.exchanged.matching.cols in omega arith)

pub exchanging_more : (s : State) (m new : Pairing) (holders : List (Option ℕ)) (roots : List ℕ) (i x l : ℕ) (path : List Place) → CanTrace s (take i roots) x m holders l → i < length roots → x ≡ slice_index_or roots i x → ArePathPairs s x path → Exchanges path m.pairs new.pairs → (new.rows ≡ m.rows) × (new.cols ≡ m.cols) → IsMatching s.matrix new.pairs → IsExchanged s (take (i + 1) roots) new
exchanging_more s m new holders roots i x l path t lt at b ex sizes k = record {
  current = current_more s t.sound (take i roots) (take (i + 1) roots) m.pairs new.pairs x path t.exchanged.current t.not_yet b ex (distinct_pairs new.pairs k.rows_differ) members;
  matching = record { rows = sizes.0 ∙ t.exchanged.matching.rows; cols = sizes.1 ∙ t.exchanged.matching.cols; matching = k };
}
  where
    more : take (i + 1) roots ≡ take i roots ++ x ∷ []
    more = take_more roots i x lt ∙ ap (λ (y : ℕ). take i roots ++ y ∷ []) (sym at)

    members : (y : ℕ) → Among y (take (i + 1) roots) ↔ ((y ≡ x) ⊎ Among y (take i roots))
    members y = (
      λ h. ⊎_elim (λ g. inr g) (λ (e : y ≡ x). inl e) (among_last y x (take i roots) (subst (Among y) more h)),
      λ h. subst (Among y) (sym more) (⊎_elim (λ (e : y ≡ x). among_right y (take i roots) (x ∷ []) (inl e)) (λ g. among_left y (take i roots) (x ∷ []) g) h),
    )
