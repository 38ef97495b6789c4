-- What is stored of a forest whose base matching was renewed.
use Rattle.std.proofs.Common.{◌≡◌, ◌∙◌, ℕ, ◌<◌, Bool, true, false, not, cond, List, [], ◌∷◌, length, slice_index_or, Option, None, Some, is_some, refl, sym, ap, subst, inl, inr, true≢false, arith}
use Rattle.bip_defs.specs.Lists.{Among}
use Rattle.bip_defs.specs.Matrix.{Place}
use Rattle.bip_defs.proofs.Sets.{among_at, place_among, row_among, row_pair}
use Rattle.bip_graph.specs.Matching.{Pairing}
use Rattle.forest_core.specs.Events.{AreKept, IsRenewed, drops, keeps, none}
use Rattle.forest_core.specs.Adopted.{CanExchange, IsAdopted}
use Rattle.forest_core.specs.declared.adopted.Adopted.{Adopted}
use Rattle.forest_core.specs.Paths.{IsExchanged}
use Rattle.forest_core.specs.Kept.{kept, root_has_leaf}
use Rattle.forest_core.specs.Sound.{AreClaims, IsSound}
use Rattle.bip_defs.specs.Forest.{IsRootOfRow, IsWon, RootOf, State, roots_of}
use Rattle.forest_core.specs.Stored.{AreClaimRoots, AreMarks, AreRowTrees, IsStored, Tables}
use Rattle.forest_core.specs.Tables.{AreAlike, IsTableOf, beside}
use Rattle.forest_core.proofs.Grafts.{kept_claims, kept_root, kept_sound}
use Rattle.forest_core.proofs.Roots.{has_root, one_root, root_of_claimer}
use Rattle.forest_core.proofs.Soundness.{renewed_sound}
use Rattle.forest_core.proofs.StoredForests.{claim_in_range, leaf_in_range, root_in_range}

-- What the tables say of a claim's root.

there_some : (o : Option ℕ) → is_some o ≡ true → (x : ℕ) × (o ≡ Some x)
there_some None e = absurd (true≢false (sym e))
there_some (Some x) e = (x, refl)

won_if : (s : State) → IsSound s → (roots leaf_of : List (Option ℕ)) (p : Place) → AreRowTrees s roots → IsTableOf s.leaves leaf_of → Among p s.claims → root_has_leaf leaf_of (beside roots p.0) ≡ true → IsWon s p.0
won_if s k roots leaf_of p are won h e =
    let (x, tree) = has_root s k p.0 (row_among p.0 p.1 s.claims h) in
    let (r, g) = there_some (beside leaf_of x) (ap (root_has_leaf leaf_of) (sym ((are p.0 x).1 tree)) ∙ e) in
    (x, tree, row_among x r s.leaves ((won x r).0 g))

won_only : (s : State) (roots leaf_of : List (Option ℕ)) (p : Place) → AreRowTrees s roots → IsTableOf s.leaves leaf_of → root_has_leaf leaf_of (beside roots p.0) ≡ false → ¬ IsWon s p.0
won_only s roots leaf_of p are won e (y, tree, leaf) =
    let (r, g) = row_pair y s.leaves leaf in
    true≢false (sym (ap is_some ((won y r).1 g)) ∙ ap (root_has_leaf leaf_of) (sym ((are p.0 y).1 tree)) ∙ e)

-- the claims that the tables keep are those whose root has no leaf
kept_from : (s : State) → IsSound s → (roots leaf_of : List (Option ℕ)) → AreRowTrees s roots → IsTableOf s.leaves leaf_of → (ps : List Place) → ((p : Place) → Among p ps → Among p s.claims) → AreKept s ps (kept roots leaf_of ps)
kept_from s k roots leaf_of are won [] all = none
kept_from s k roots leaf_of are won (p ∷ ps) all = by (root_has_leaf leaf_of (beside roots p.0)) refl (kept_from s k roots leaf_of are won ps (λ q h. all q (inr h)))
  where
    by : (b : Bool) → root_has_leaf leaf_of (beside roots p.0) ≡ b → AreKept s ps (kept roots leaf_of ps) → AreKept s (p ∷ ps) (cond (not b) (p ∷ kept roots leaf_of ps) (kept roots leaf_of ps))
    by true e rest = drops p (won_if s k roots leaf_of p are won (all p (inl refl)) e) rest
    by false e rest = keeps p (won_only s roots leaf_of p are won e) rest

pub kept_stored : (s : State) (m : Pairing) (t : Tables) → IsStored s m t → AreKept s s.claims (kept t.claimed.roots t.leaf_of s.claims)
kept_stored s m t k = kept_from s k.sound t.claimed.roots t.leaf_of k.rooted k.won s.claims (λ p h. h)

-- a row with a root is claimed
pub tables_alike : (s : State) (m : Pairing) (t : Tables) → IsStored s m t → AreAlike t.claimed
tables_alike s m t k r x e = let (d, h, w) = (k.rooted r x).0 e in (d, (k.held r d).1 h)

-- Exchanging.

can_exchange : (s : State) (m : Pairing) (adopted : Option Adopted) (t : Tables) → IsStored s m t → IsAdopted s adopted → CanExchange s m adopted t.claimed.holders t.leaf_of s.flipped
can_exchange s m adopted t k is = record {
  sound = k.sound;
  rows_long = k.holders_long;
  cols_long = k.leaves_long;
  held = k.held;
  won = k.won;
  base = k.base_is;
  adopted_is = is;
  roots_are = refl;
}

pub exchanged_by : (s : State) (m new : Pairing) (adopted : Option Adopted) (t : Tables) (xs : List ℕ) → IsStored s m t → IsAdopted s adopted → xs ≡ s.flipped → ((u : State) → CanExchange u m adopted t.claimed.holders t.leaf_of xs → IsExchanged u xs new) → IsExchanged s s.flipped new
exchanged_by s m new adopted t xs k is e f = subst (λ ys. IsExchanged s ys new) e (f s (subst (CanExchange s m adopted t.claimed.holders t.leaf_of) (sym e) (can_exchange s m adopted t k is)))

-- The renewed forest.

-- the base is the current matching, with these claims alone
abbrev pub renewed : State → Pairing → List Place → State
renewed s new qs = record { matrix = s.matrix; base = new.pairs; claims = qs; leaves = []; flipped = [] }

is_renewed : (s : State) (new : Pairing) (qs : List Place) → IsExchanged s s.flipped new → IsRenewed s (renewed s new qs)
is_renewed s new qs e = record { matrix = refl; base = e.current; leaves = refl; flipped = refl }

-- tables of these claims, without leaves and marks
pub record AreRenewed (t u : Tables) (qs : List Place) : Type 0 where
  pub held : IsTableOf qs u.claimed.holders
  pub alike : AreAlike u.claimed
  pub same : (r c : ℕ) → Among (r, c) qs → beside u.claimed.roots r ≡ beside t.claimed.roots r
  pub listed : AreClaimRoots u.claimed.roots qs u.claim_roots
  pub won : IsTableOf [] u.leaf_of
  pub marked : AreMarks [] u.marks
  pub holders_long : length u.claimed.holders ≡ length t.claimed.holders
  pub leaves_long : length u.leaf_of ≡ length t.leaf_of
  pub marks_long : length u.marks ≡ length t.marks

stored_renewed : (s : State) (m new : Pairing) (t u : Tables) (qs : List Place) → IsStored s m t → IsExchanged s s.flipped new → AreRenewed t u qs → AreClaims s.matrix new.pairs [] qs → ((r c x : ℕ) → Among (r, c) qs → Among (r, c) s.claims × (RootOf s.base s.claims x c → RootOf new.pairs qs x c)) → IsStored (renewed s new qs) new u
stored_renewed s m new t u qs k e n claims stay = record {
  sound = sound;
  base_is = λ i. record { rows = e.matching.rows i; cols = e.matching.cols i; pairs = new.pairs };
  holders_long = n.holders_long ∙ k.holders_long;
  leaves_long = n.leaves_long ∙ k.leaves_long;
  marks_long = n.marks_long ∙ k.marks_long;
  held = n.held;
  rooted = λ r x. (over r x, back r x);
  listed = n.listed;
  won = n.won;
  marked = n.marked;
}
  where
    sound : IsSound (renewed s new qs)
    sound = renewed_sound s (renewed s new qs) k.sound (is_renewed s new qs e) claims

    over : (r x : ℕ) → beside u.claimed.roots r ≡ Some x → IsRootOfRow new.pairs qs x r
    over r x f =
        let (c, h) = n.alike r x f in
        let on = (n.held r c).0 h in
        let (had, moves) = stay r c x on in
        (c, on, moves (root_of_claimer s k.sound x r c ((k.rooted r x).0 (sym (n.same r c on) ∙ f)) had))

    back : (r x : ℕ) → IsRootOfRow new.pairs qs x r → beside u.claimed.roots r ≡ Some x
    back r x (c, on, w) =
        let (y, tree) = has_root s k.sound r (row_among r c s.claims (stay r c x on).0) in
        let (had, moves) = stay r c y on in
        n.same r c on ∙ (k.rooted r y).1 tree ∙ ap (λ (z : ℕ). Some z) (one_root (renewed s new qs) sound (moves (root_of_claimer s k.sound y r c tree had)) w)

stored_graft : (s : State) (m new : Pairing) (t u : Tables) → IsStored s m t → IsExchanged s s.flipped new → AreRenewed t u (kept t.claimed.roots t.leaf_of s.claims) → IsStored (renewed s new (kept t.claimed.roots t.leaf_of s.claims)) new u
stored_graft s m new t u k e n = stored_renewed s m new t u (kept t.claimed.roots t.leaf_of s.claims) k e n (kept_claims s k.sound new.pairs (kept t.claimed.roots t.leaf_of s.claims) e.current are_kept) (λ r c x h. let (had, not_won) = kept_sound s are_kept (r, c) h in (had, λ w. kept_root s k.sound new.pairs (kept t.claimed.roots t.leaf_of s.claims) e.current are_kept r had not_won w))
  where
    are_kept : AreKept s s.claims (kept t.claimed.roots t.leaf_of s.claims)
    are_kept = kept_stored s m t k

stored_rebuild : (s : State) (m new : Pairing) (t u : Tables) → IsStored s m t → IsExchanged s s.flipped new → AreRenewed t u [] → IsStored (renewed s new []) new u
stored_rebuild s m new t u k e n = stored_renewed s m new t u [] k e n tt (λ r c x h. absurd h)

-- what the calls need of the tables

pub claims_within : (s : State) (m : Pairing) (t : Tables) → IsStored s m t → (r c : ℕ) → Among (r, c) s.claims → r < length t.claimed.holders
claims_within s m t k r c h = let lt = (claim_in_range s k.sound r c h).0 in let l = k.holders_long in omega arith

pub leaves_within : (s : State) (m : Pairing) (t : Tables) → IsStored s m t → (x r : ℕ) → Among (x, r) s.leaves → (x < length t.leaf_of) × (x < length t.marks)
leaves_within s m t k x r h =
    let lt = (leaf_in_range s k.sound x r h).0 in
    (let l = k.leaves_long in omega arith, let l = k.marks_long in omega arith)

pub marks_within : (s : State) (m : Pairing) (t : Tables) → IsStored s m t → (x : ℕ) → slice_index_or t.marks x false ≡ true → Among x (roots_of s.leaves)
marks_within s m t k x e = k.sound.flipped x ((k.marked x).0 e)

pub roots_within : (s : State) (m : Pairing) (t : Tables) → IsStored s m t → (x : ℕ) → Among x t.claim_roots → x < length t.leaf_of
roots_within s m t k x h =
    let (i, lt, e) = place_among x 0 t.claim_roots h in
    let below : i < length s.claims = omega (arith, lt, k.listed.long) in
    let tree = (k.rooted (slice_index_or s.claims i (0, 0)).0 x).0 (k.listed.are i below ∙ ap (λ (y : ℕ). Some y) e) in
    omega (arith, root_in_range s k.sound x (slice_index_or s.claims i (0, 0)).0 tree, k.leaves_long)

-- of rows whose root is the same in both tables
pub same_claim_roots : (old new : List (Option ℕ)) (claims : List Place) (xs : List ℕ) → AreClaimRoots old claims xs → ((r c : ℕ) → Among (r, c) claims → beside new r ≡ beside old r) → AreClaimRoots new claims xs
same_claim_roots old new claims xs k same = record {
  long = k.long;
  are = λ i lt. same (slice_index_or claims i (0, 0)).0 (slice_index_or claims i (0, 0)).1 (among_at claims i (0, 0) lt) ∙ k.are i lt;
}

pub are_cleared : (t u : Tables) (claims : List Place) → claims ≡ [] → u.claim_roots ≡ [] → IsTableOf [] u.claimed.holders → AreAlike u.claimed → IsTableOf [] u.leaf_of → AreMarks [] u.marks → length u.claimed.holders ≡ length t.claimed.holders → length u.leaf_of ≡ length t.leaf_of → length u.marks ≡ length t.marks → AreRenewed t u claims
are_cleared t u claims no_claims no_roots held alike won marked hl ll ml = rw no_claims (record {
  held = held;
  alike = alike;
  same = λ r c h. absurd h;
  listed = record { long = ap length no_roots; are = λ i lt. absurd (omega (arith, lt)) };
  won = won;
  marked = marked;
  holders_long = hl;
  leaves_long = ll;
  marks_long = ml;
})

-- by the lists that are left

pub stored_graft_at : (s : State) (m new : Pairing) (t u : Tables) (claims leaves : List Place) (flipped : List ℕ) → IsStored s m t → IsExchanged s s.flipped new → AreRenewed t u claims → claims ≡ kept t.claimed.roots t.leaf_of s.claims → leaves ≡ [] → flipped ≡ []
    → IsStored (record { matrix = s.matrix; base = new.pairs; claims = claims; leaves = leaves; flipped = flipped }) new u
stored_graft_at s m new t u claims leaves flipped k e n c l f = rw (c, l, f) (stored_graft s m new t u k e (subst (AreRenewed t u) c n))

pub stored_rebuild_at : (s : State) (m new : Pairing) (t u : Tables) (claims leaves : List Place) (flipped : List ℕ) → IsStored s m t → IsExchanged s s.flipped new → AreRenewed t u claims → claims ≡ [] → leaves ≡ [] → flipped ≡ []
    → IsStored (record { matrix = s.matrix; base = new.pairs; claims = claims; leaves = leaves; flipped = flipped }) new u
stored_rebuild_at s m new t u claims leaves flipped k e n c l f = rw (c, l, f) (stored_rebuild s m new t u k e (subst (AreRenewed t u) c n))
