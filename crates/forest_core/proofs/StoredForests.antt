-- What the tables of a forest say of it, and that each change keeps them.
use Rattle.std.proofs.Common.{◌≡◌, ◌≢◌, ◌⊎◌, ◌↔◌, ◌∙◌, ℕ, ◌<◌, ◌≤◌, Bool, true, false, List, [], ◌∷◌, ◌++◌, length, length-append, length-set, set, slice_index_or, Option, None, Some, IfSome, IfNone, refl, sym, ap, subst, inl, inr, ⊎_elim, arith}
use Rattle.std.proofs.lemmas.List.{length-map, get_or-set_other, get_or-set_same, get_or_append_left, get_or_past, get_or_push}
use Rattle.std.proofs.lemmas.Option.{none-some, same_Some}
use Rattle.bip_defs.specs.Forest.{InForest, IsRootOfRow, RootOf, State, above, itself, roots_of}
use Rattle.bip_defs.specs.Lists.{Among}
use Rattle.bip_defs.specs.Matching.{rows_of}
use Rattle.bip_defs.specs.Matrix.{Place, cols}
use Rattle.bip_defs.proofs.Full.{few_below}
use Rattle.bip_defs.proofs.Sets.{among_at, among_last, among_left, among_right, col_among, entry_col, number_same, one_row, row_among, row_pair}
use Rattle.bip_graph.specs.Matching.{Pairing}
use Rattle.sp_ids.specs.declared.events.Event.TheVariants.{Claim, Win, Flip}
use Rattle.forest_core.specs.Events.{IsLegal}
use Rattle.forest_core.specs.Sound.{IsSound}
use Rattle.forest_core.specs.Stored.{AreClaimRoots, AreMarks, AreRowTrees, HasRootAt, IsStored, Tables}
use Rattle.forest_core.specs.Tables.{Claimed, IsTableOf, beside}
use Rattle.forest_core.proofs.Roots.{claims_differ, claims_entries, has_root, one_root_of_row, root_more, root_of_claimer}
use Rattle.forest_core.proofs.Soundness.{claimed_sound, flipped_sound, in_tree_more, won_sound}
use Rattle.forest_core.proofs.TableLemmas.{IsMadeTo, table_put}

-- What is known of a table's pairs.

pub table_found : (pairs : List Place) (t : List (Option ℕ)) (k v : ℕ) → IsTableOf pairs t → Some v ≡ beside t k → Among (k, v) pairs
table_found pairs t k v of e = (of k v).0 (sym e)

pub table_missed : (pairs : List Place) (t : List (Option ℕ)) (k : ℕ) → IsTableOf pairs t → None ≡ beside t k → ¬ Among k (rows_of pairs)
table_missed pairs t k of e h = let (v, g) = row_pair k pairs h in none-some _ (e ∙ (of k v).1 g)

pub table_there : (pairs : List Place) (t : List (Option ℕ)) (k : ℕ) → IsTableOf pairs t → Among k (rows_of pairs) → (v : ℕ) × (beside t k ≡ Some v)
table_there pairs t k of h = let (v, g) = row_pair k pairs h in (v, (of k v).1 g)

-- what is answered of a number
pub if_found : (pairs : List Place) (t : List (Option ℕ)) (k : ℕ) (o : Option ℕ) → IsTableOf pairs t → o ≡ beside t k → IfSome o (λ v. Among (k, v) pairs)
if_found pairs t k None of e = tt
if_found pairs t k (Some v) of e = table_found pairs t k v of e

pub if_missed : (pairs : List Place) (t : List (Option ℕ)) (k : ℕ) (o : Option ℕ) → IsTableOf pairs t → o ≡ beside t k → IfNone o (¬ Among k (rows_of pairs))
if_missed pairs t k None of e = table_missed pairs t k of e
if_missed pairs t k (Some v) of e = tt

pub if_missed_in : (pairs : List Place) (t : List (Option ℕ)) (k : ℕ) (o : Option ℕ) → IsTableOf pairs t → IfNone o (beside t k ≡ None) → IfNone o (¬ Among k (rows_of pairs))
if_missed_in pairs t k None of e = table_missed pairs t k of (sym e)
if_missed_in pairs t k (Some v) of e = tt

pub if_rooted : (s : State) (t : List (Option ℕ)) (r : ℕ) (o : Option ℕ) → AreRowTrees s t → o ≡ beside t r → IfSome o (λ x. IsRootOfRow s.base s.claims x r)
if_rooted s t r None are e = tt
if_rooted s t r (Some x) are e = (are r x).0 (sym e)

pub if_rooted_once : (s : State) (t : List (Option ℕ)) (r : ℕ) (o : Option ℕ) → IsSound s → AreRowTrees s t → o ≡ beside t r → IfSome o (λ x. (y : ℕ) → IsRootOfRow s.base s.claims y r → y ≡ x)
if_rooted_once s t r None k are e = tt
if_rooted_once s t r (Some x) k are e = λ y up. one_root_of_row s k y x r up ((are r x).0 (sym e))

-- what stands beside a number in a table lies within the table
pub beside_within : (t : List (Option ℕ)) (k v : ℕ) → beside t k ≡ Some v → k < length t
beside_within t k v e = ⊎_elim (λ (le : length t ≤ k). absurd (none-some _ (sym (get_or_past t k None le) ∙ e))) (λ lt. lt) (below k (length t))
  where
    below : (i n : ℕ) → (n ≤ i) ⊎ (i < n)
    below i n = grind arith

-- a table that was made in order, of which P holds of numbers below n alone
pub made_all : (P : ℕ → ℕ → Type 0) (n : ℕ) (t : List (Option ℕ)) → IsMadeTo P n t → ((k v : ℕ) → P k v → k < n) → (k v : ℕ) → (beside t k ≡ Some v) ↔ P k v
made_all P n t k below i v = (λ e. (k.are i v (omega (arith, beside_within t i v e, k.long))).0 e, λ p. (k.are i v (below i v p)).1 p)

-- Columns of the forest.

-- a root is in range where the column is
pub root_below : (s : State) → IsSound s → {x c : ℕ} → RootOf s.base s.claims x c → c < cols s.matrix → x < cols s.matrix
root_below s k (itself free) lt = lt
root_below s k (above {d = d} r m g w) lt = root_below s k w (entry_col s.matrix r d (claims_entries s.matrix s.base [] s.claims k.claims r d g))

pub root_in_range : (s : State) → IsSound s → (x r : ℕ) → IsRootOfRow s.base s.claims x r → x < cols s.matrix
root_in_range s k x r (d, h, w) = root_below s k w (entry_col s.matrix r d (claims_entries s.matrix s.base [] s.claims k.claims r d h))

pub claim_in_range : (s : State) → IsSound s → (r c : ℕ) → Among (r, c) s.claims → (r < s.matrix.rows) × (c < cols s.matrix)
claim_in_range s k r c h = let e = claims_entries s.matrix s.base [] s.claims k.claims r c h in (e.0, entry_col s.matrix r c e)

pub leaf_in_range : (s : State) → IsSound s → (x r : ℕ) → Among (x, r) s.leaves → (x < cols s.matrix) × (r < s.matrix.rows)
leaf_in_range s k x r h = let l = (k.leaves x r h).in_tree in (root_in_range s k x r l, (claim_in_range s k r l.0 l.1).0)

pub in_by_row : (s : State) (r c : ℕ) → c < cols s.matrix → Among (r, c) s.base → Among r (rows_of s.claims) → InForest s c
in_by_row s r c lt m h = (lt, inr (r, m, h))

pub base_row_claimed : (s : State) → IsSound s → (r c : ℕ) → Among (r, c) s.base → InForest s c → Among r (rows_of s.claims)
base_row_claimed s k r c m (lt, inl free) = absurd (free (col_among r c s.base m))
base_row_claimed s k r c m (lt, inr (q, p, h)) = subst (λ x. Among x (rows_of s.claims)) (one_row s.base k.base.cols_differ q r c p m) h

pub out_by_row : (s : State) → IsSound s → (r c : ℕ) → Among (r, c) s.base → ¬ Among r (rows_of s.claims) → ¬ InForest s c
out_by_row s k r c m n inside = n (base_row_claimed s k r c m inside)

pub root_by_row : (s : State) (r c x : ℕ) → Among (r, c) s.base → IsRootOfRow s.base s.claims x r → RootOf s.base s.claims x c
root_by_row s r c x m (d, h, w) = above r m h w

-- a column with a root is in the forest, and the other way round
pub root_inside : (s : State) {x c : ℕ} → RootOf s.base s.claims x c → c < cols s.matrix → InForest s c
root_inside s (itself free) lt = (lt, inl free)
root_inside s (above {d = d} r m h w) lt = (lt, inr (r, m, row_among r d s.claims h))

pub root_of_column : (s : State) → IsSound s → (c : ℕ) → InForest s c → (x : ℕ) × RootOf s.base s.claims x c
root_of_column s k c (lt, inl free) = (c, itself free)
root_of_column s k c (lt, inr (r, m, h)) = let (x, tree) = has_root s k r h in (x, root_by_row s r c x m tree)

-- claims, and the columns that made them
pub claimer_inside : (s : State) → IsSound s → (r c : ℕ) → Among (r, c) s.claims → InForest s c
claimer_inside s k r c h =
    let (x, tree) = has_root s k r (row_among r c s.claims h) in
    root_inside s (root_of_claimer s k x r c tree h) (claim_in_range s k r c h).1

pub claims_few : (s : State) → IsSound s → length s.claims ≤ s.matrix.rows
claims_few s k =
    let le = few_below s.matrix.rows (rows_of s.claims) (claims_differ s.matrix s.base [] s.claims k.claims) (λ r h. let (c, p) = row_pair r s.claims h in (claim_in_range s k r c p).0) in
    omega (arith, le, length-map s.claims (λ (p : Place). p.0))

-- Marks.

pub marks_more : (xs : List ℕ) (marks : List Bool) (x : ℕ) → AreMarks xs marks → x < length marks → AreMarks (xs ++ x ∷ []) (set marks x true)
marks_more xs marks x are lt y = ⊎_elim same other (number_same y x)
  where
    same : y ≡ x → (slice_index_or (set marks x true) y false ≡ true) ↔ Among y (xs ++ x ∷ [])
    same e = (λ f. among_right y xs (x ∷ []) (inl e), λ h. ap (λ i. slice_index_or (set marks x true) i false) e ∙ get_or-set_same marks x true false lt)

    other : y ≢ x → (slice_index_or (set marks x true) y false ≡ true) ↔ Among y (xs ++ x ∷ [])
    other ne = (
      λ f. among_left y xs (x ∷ []) ((are y).0 (sym (get_or-set_other marks x y true false ne) ∙ f)),
      λ h. get_or-set_other marks x y true false ne ∙ (are y).1 (⊎_elim (λ g. g) (λ (g : y ≡ x). absurd (ne g)) (among_last y x xs h)),
    )

-- The events that let trees grow.

-- one claim more, of a row that was not claimed
claim_roots_more : (roots : List (Option ℕ)) (claims : List Place) (xs : List ℕ) (r c x : ℕ) → AreClaimRoots roots claims xs → ¬ Among r (rows_of claims) → r < length roots → AreClaimRoots (set roots r (Some x)) (claims ++ (r, c) ∷ []) (xs ++ x ∷ [])
claim_roots_more roots claims xs r c x k new lt = record {
  long = omega (arith, k.long, length-append xs (x ∷ []), length-append claims ((r, c) ∷ []));
  are = λ i below. ⊎_elim (λ (e : i ≡ length claims). last i e) (λ (ne : i ≢ length claims). first i (omega (arith, ne, below, length-append claims ((r, c) ∷ [])))) (number_same i (length claims));
}
  where
    last : (i : ℕ) → i ≡ length claims → HasRootAt (set roots r (Some x)) (claims ++ (r, c) ∷ []) (xs ++ x ∷ []) i
    last i e = ap (λ (q : Place). beside (set roots r (Some x)) q.0) (get_or_push claims (r, c) (0, 0) i (sym e)) ∙ get_or-set_same roots r (Some x) None lt ∙ ap (λ (y : ℕ). Some y) (sym (get_or_push xs x 0 i (k.long ∙ sym e)))

    first : (i : ℕ) → i < length claims → HasRootAt (set roots r (Some x)) (claims ++ (r, c) ∷ []) (xs ++ x ∷ []) i
    first i below =
        let q = slice_index_or claims i (0, 0) in
        let other : q.0 ≢ r = λ e. new (subst (λ z. Among z (rows_of claims)) e (row_among q.0 q.1 claims (among_at claims i (0, 0) below))) in
        ap (λ (p : Place). beside (set roots r (Some x)) p.0) (get_or_append_left claims ((r, c) ∷ []) (0, 0) i below) ∙ get_or-set_other roots r q.0 (Some x) None other ∙ k.are i below ∙ ap (λ (y : ℕ). Some y) (sym (get_or_append_left xs (x ∷ []) 0 i (omega (arith, below, k.long))))

-- the tables after a claim
abbrev pub with_claim : Tables → Claimed → ℕ → Tables
with_claim t u x = record { claimed = u; claim_roots = t.claim_roots ++ x ∷ []; leaf_of = t.leaf_of; marks = t.marks }

stored_claim : (s : State) (m : Pairing) (t : Tables) (u : Claimed) (r c x : ℕ) → IsStored s m t → r < length t.claimed.roots → IsLegal s (Claim r c) → RootOf s.base s.claims x c → u.holders ≡ set t.claimed.holders r (Some c) → u.roots ≡ set t.claimed.roots r (Some x) → IsStored (record s { claims = s.claims ++ (r, c) ∷ [] }) m (with_claim t u x)
stored_claim s m t u r c x k long legal w holders_are roots_are = record {
  sound = sound;
  base_is = k.base_is;
  holders_long = ap length holders_are ∙ length-set t.claimed.holders r (Some c) ∙ k.holders_long;
  leaves_long = k.leaves_long;
  marks_long = k.marks_long;
  held = subst (IsTableOf (s.claims ++ (r, c) ∷ [])) (sym holders_are) (table_put s.claims t.claimed.holders r c k.held (let e = legal.1.0 in let l = k.holders_long in omega arith) legal.0);
  rooted = subst (AreRowTrees (record s { claims = s.claims ++ (r, c) ∷ [] })) (sym roots_are) (λ q y. ⊎_elim (here q y) (there q y) (number_same q r));
  listed = subst (λ z. AreClaimRoots z (s.claims ++ (r, c) ∷ []) (t.claim_roots ++ x ∷ [])) (sym roots_are) (claim_roots_more t.claimed.roots s.claims t.claim_roots r c x k.listed legal.0 long);
  won = k.won;
  marked = k.marked;
}
  where
    sound : IsSound (record s { claims = s.claims ++ (r, c) ∷ [] })
    sound = claimed_sound s r c k.sound legal

    more : RootOf s.base (s.claims ++ (r, c) ∷ []) x c
    more = root_more s.base s.claims (s.claims ++ (r, c) ∷ []) (λ p h. among_left p s.claims ((r, c) ∷ []) h) w

    here : (q y : ℕ) → q ≡ r → (beside (set t.claimed.roots r (Some x)) q ≡ Some y) ↔ IsRootOfRow s.base (s.claims ++ (r, c) ∷ []) y q
    here q y e =
        let at : beside (set t.claimed.roots r (Some x)) q ≡ Some x = ap (beside (set t.claimed.roots r (Some x))) e ∙ get_or-set_same t.claimed.roots r (Some x) None long in
        let new : IsRootOfRow s.base (s.claims ++ (r, c) ∷ []) x q = (c, subst (λ z. Among {X = Place} (z, c) (s.claims ++ (r, c) ∷ [])) (sym e) (among_right (r, c) s.claims ((r, c) ∷ []) (inl refl)), more) in (
          λ f. subst (λ z. IsRootOfRow s.base (s.claims ++ (r, c) ∷ []) z q) (same_Some _ _ (sym at ∙ f)) new,
          λ v. at ∙ ap (λ (z : ℕ). Some z) (one_root_of_row (record s { claims = s.claims ++ (r, c) ∷ [] }) sound x y q new v),
        )

    there : (q y : ℕ) → q ≢ r → (beside (set t.claimed.roots r (Some x)) q ≡ Some y) ↔ IsRootOfRow s.base (s.claims ++ (r, c) ∷ []) y q
    there q y ne =
        let at : beside (set t.claimed.roots r (Some x)) q ≡ beside t.claimed.roots q = get_or-set_other t.claimed.roots r q (Some x) None ne in (
          λ f. in_tree_more s.base s.claims (r, c) y q ((k.rooted q y).0 (sym at ∙ f)),
          λ v. at ∙ old (⊎_elim (λ h. row_among q v.0 s.claims h) (λ (e : (q, v.0) ≡ (r, c)). absurd (ne (ap (λ (p : Place). p.0) e))) (among_last (q, v.0) (r, c) s.claims v.1)) v,
        )
      where
        old : Among q (rows_of s.claims) → IsRootOfRow s.base (s.claims ++ (r, c) ∷ []) y q → beside t.claimed.roots q ≡ Some y
        old h v =
            let (z, tree) = has_root s k.sound q h in
            (k.rooted q z).1 tree ∙ ap (λ (i : ℕ). Some i) (one_root_of_row (record s { claims = s.claims ++ (r, c) ∷ [] }) sound z y q (in_tree_more s.base s.claims (r, c) z q tree) v)

stored_win : (s : State) (m : Pairing) (t : Tables) (x r : ℕ) → IsStored s m t → IsLegal s (Win x r) → IsStored (record s { leaves = s.leaves ++ (x, r) ∷ [] }) m (record t { leaf_of = set t.leaf_of x (Some r) })
stored_win s m t x r k legal = record {
  sound = won_sound s x r k.sound legal;
  base_is = k.base_is;
  holders_long = k.holders_long;
  leaves_long = length-set t.leaf_of x (Some r) ∙ k.leaves_long;
  marks_long = k.marks_long;
  held = k.held;
  rooted = k.rooted;
  listed = k.listed;
  won = table_put s.leaves t.leaf_of x r k.won (let lt = root_in_range s k.sound x r legal.3 in let l = k.leaves_long in omega arith) legal.1;
  marked = k.marked;
}

stored_flip : (s : State) (m : Pairing) (t : Tables) (x : ℕ) → IsStored s m t → IsLegal s (Flip x) → IsStored (record s { flipped = s.flipped ++ x ∷ [] }) m (record t { marks = set t.marks x true })
stored_flip s m t x k legal = record {
  sound = flipped_sound s x k.sound legal;
  base_is = k.base_is;
  holders_long = k.holders_long;
  leaves_long = k.leaves_long;
  marks_long = length-set t.marks x true ∙ k.marks_long;
  held = k.held;
  rooted = k.rooted;
  listed = k.listed;
  won = k.won;
  marked = marks_more s.flipped t.marks x k.marked (let (r, h) = row_pair x s.leaves legal.0 in let lt = (leaf_in_range s k.sound x r h).0 in let l = k.marks_long in omega arith);
}

-- Room for another claim, leaf and flipped root.

pub claim_room : (s : State) (r c : ℕ) → IsSound s → IsLegal s (Claim r c) → length s.claims < s.matrix.rows
claim_room s r c k legal =
    let le = few_below s.matrix.rows (r ∷ rows_of s.claims) (legal.0, claims_differ s.matrix s.base [] s.claims k.claims) (λ q h. ⊎_elim (λ (e : q ≡ r). (let lt = legal.1.0 in omega arith)) (λ g. let (d, p) = row_pair q s.claims g in (claim_in_range s k q d p).0) h) in
    omega (arith, le, length-map s.claims (λ (p : Place). p.0))

pub win_room : (s : State) (x r : ℕ) → IsSound s → IsLegal s (Win x r) → length s.leaves < cols s.matrix
win_room s x r k legal =
    let le = few_below (cols s.matrix) (x ∷ roots_of s.leaves) (legal.1, k.roots_differ) (λ y h. ⊎_elim (λ (e : y ≡ x). (let lt = root_in_range s k x r legal.3 in omega arith)) (λ g. let (q, p) = row_pair y s.leaves g in (leaf_in_range s k y q p).0) h) in
    omega (arith, le, length-map s.leaves (λ (p : Place). p.0))

pub root_with_leaf : (s : State) (x : ℕ) → IsSound s → Among x (roots_of s.leaves) → x < cols s.matrix
root_with_leaf s x k h = let (r, p) = row_pair x s.leaves h in (leaf_in_range s k x r p).0

pub flip_room : (s : State) (x : ℕ) → IsSound s → IsLegal s (Flip x) → length s.flipped < cols s.matrix
flip_room s x k legal =
    let le = few_below (cols s.matrix) (x ∷ s.flipped) (legal.1, k.flipped_differ) (λ y h. ⊎_elim (λ (e : y ≡ x). (let lt = root_with_leaf s x k legal.0 in omega arith)) (λ g. root_with_leaf s y k (k.flipped y g)) h) in
    omega (arith, le)

-- What is stored after an event, by the lists and tables that it leaves.

pub stored_claim_at : (s : State) (m : Pairing) (t : Tables) (u : Claimed) (r c x : ℕ) (claims : List Place) (claim_roots : List ℕ) → IsStored s m t → r < length t.claimed.roots → IsLegal s (Claim r c) → RootOf s.base s.claims x c → claims ≡ s.claims ++ (r, c) ∷ [] → claim_roots ≡ t.claim_roots ++ x ∷ [] → u.holders ≡ set t.claimed.holders r (Some c) → u.roots ≡ set t.claimed.roots r (Some x)
    → IsStored (record { matrix = s.matrix; base = s.base; claims = claims; leaves = s.leaves; flipped = s.flipped }) m (record { claimed = u; claim_roots = claim_roots; leaf_of = t.leaf_of; marks = t.marks })
stored_claim_at s m t u r c x claims claim_roots k long legal w e f g h = rw (e, f) (stored_claim s m t u r c x k long legal w g h)

pub stored_win_at : (s : State) (m : Pairing) (t : Tables) (leaf_of : List (Option ℕ)) (x r : ℕ) (leaves : List Place) → IsStored s m t → IsLegal s (Win x r) → leaves ≡ s.leaves ++ (x, r) ∷ [] → leaf_of ≡ set t.leaf_of x (Some r)
    → IsStored (record { matrix = s.matrix; base = s.base; claims = s.claims; leaves = leaves; flipped = s.flipped }) m (record { claimed = t.claimed; claim_roots = t.claim_roots; leaf_of = leaf_of; marks = t.marks })
stored_win_at s m t leaf_of x r leaves k legal e f = rw (e, f) (stored_win s m t x r k legal)

pub stored_flip_at : (s : State) (m : Pairing) (t : Tables) (marks : List Bool) (x : ℕ) (flipped : List ℕ) → IsStored s m t → IsLegal s (Flip x) → flipped ≡ s.flipped ++ x ∷ [] → marks ≡ set t.marks x true
    → IsStored (record { matrix = s.matrix; base = s.base; claims = s.claims; leaves = s.leaves; flipped = flipped }) m (record { claimed = t.claimed; claim_roots = t.claim_roots; leaf_of = t.leaf_of; marks = marks })
stored_flip_at s m t marks x flipped k legal e f = rw (e, f) (stored_flip s m t x k legal)
