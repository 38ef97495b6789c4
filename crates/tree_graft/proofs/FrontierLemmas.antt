-- Levels of a search: what is scanned after each, the columns of the next, and why there is a last.
use Rattle.std.proofs.Common.{◌≡◌, ◌⊎◌, ◌∙◌, ◌==◌, ℕ, ◌+◌, ◌^◌, ◌<◌, ◌≤◌, true, false, true≢false, List, [], ◌∷◌, ◌++◌, length, sym, ap, subst, inl, inr, ⊎_elim, arith, length-append}
use Rattle.std.proofs.lemmas.Bool.{eqb-true}
use Rattle.std.proofs.lemmas.List.{map-append}
use Rattle.bip_defs.specs.Lists.{Among, Lists}
use Rattle.bip_defs.specs.Matching.{IsMatching, cols_of, rows_of}
use Rattle.bip_defs.specs.Matrix.{IsEntry, Matrix, Place, cols}
use Rattle.bip_defs.proofs.Full.{few_below}
use Rattle.bip_defs.proofs.Sets.{among_either, among_last, among_left, among_right, distinct_last, entry_col, number_among, one_col, one_row, rising_distinct}
use Rattle.bip_defs.specs.Forest.{HasWon, InForest, IsWon, RootOf, State, above, roots_of}
use Rattle.forest_core.specs.Events.{Grows}
use Rattle.forest_core.specs.Trees.{HasTrees}
use Rattle.tree_graft.specs.PhaseSearch.{AreMatesOf, IsFrontier, IsGoneThrough, IsScanned, levels_left}
use Rattle.tree_graft.proofs.SearchLemmas.{row_last, rows_had, rows_more}

-- what is scanned stays scanned
pub scanned_more : (s t : State) → Grows s t → (c : ℕ) → IsScanned s c → IsScanned t c
scanned_more s t g c (inl won) = inl (g.won c won)
scanned_more s t g c (inr all) = inr (g.used_up c all)

-- The first frontier.

pub unmatched_are_frontier : (s : State) (f : List ℕ) → s.claims ≡ [] → cols s.matrix < 2 ^ 32 → Lists (λ c. (c < cols s.matrix) × (¬ Among c (cols_of s.base))) f → IsFrontier s f
unmatched_are_frontier s f none few k = record {
  few = let short = few_below (cols s.matrix) f (rising_distinct f k.rising) (λ c h. (k.sound c h).0) in omega (arith, short, few);
  once = rising_distinct f k.rising;
  inside = λ c h. ((k.sound c h).0, inl (k.sound c h).1);
  others = λ c i. inl (root c i);
}
  where
    root : (c : ℕ) → InForest s c → Among c f
    root c (lt, inl free) = k.complete c (lt, free)
    root c (lt, inr (r, m, h)) = absurd (subst (λ (ps : List Place). Among r (rows_of ps)) none h)

-- A level: every column that was in the forest is scanned.

-- a column is scanned where each of its rows is claimed or its root has a leaf
won_or_used_up : (t : State) → HasTrees t → (x c : ℕ) → RootOf t.base t.claims x c → ((r : ℕ) → IsEntry t.matrix r c → Among r (rows_of t.claims) ⊎ HasWon t c) → IsScanned t c
won_or_used_up t trees x c w rows = ⊎_elim (λ l. inl (x, w, l)) (λ none. inr (λ r e. ⊎_elim (λ h. h) (λ (y, v, l). absurd (none (subst (λ z. Among z (roots_of t.leaves)) (trees.one_root y x c v w) l))) (rows r e))) (number_among x (roots_of t.leaves))

pub scanned_after : (s t : State) → HasTrees t → Grows s t → (c : ℕ) → InForest s c → IsGoneThrough s t c → IsScanned t c
scanned_after s t trees g c i (inl before) = scanned_more s t g c before
scanned_after s t trees g c i (inr (inl now)) = now
scanned_after s t trees g c i (inr (inr rows)) =
    let (x, w) = trees.root c (g.inside c i) in
    won_or_used_up t trees x c w (λ r e. rows r (subst (λ (a : Matrix). IsEntry a r c) g.matrix e))

-- The next frontier.

claimed_or_last : (s t : State) (last : List Place) → t.claims ≡ s.claims ++ last → (r : ℕ) → Among r (rows_of t.claims) → Among r (rows_of s.claims) ⊎ Among r (rows_of last)
claimed_or_last s t last e r h = among_either r (rows_of s.claims) (rows_of last) (subst (Among r) (ap rows_of e ∙ map-append (λ (p : Place). p.0) s.claims last) h)

pub last_claimed : (s t : State) (last : List Place) → t.claims ≡ s.claims ++ last → (r : ℕ) → Among r (rows_of last) → Among r (rows_of t.claims)
last_claimed s t last e r h = subst (Among r) (sym (ap rows_of e ∙ map-append (λ (p : Place). p.0) s.claims last)) (among_right r (rows_of s.claims) (rows_of last) h)

-- a claimed row's root has a leaf, or has none
won_or_not : (s : State) → HasTrees s → (r : ℕ) → Among r (rows_of s.claims) → IsWon s r ⊎ (¬ IsWon s r)
won_or_not s trees r h = let (x, up) = trees.row_root r h in ⊎_elim
    (λ (l : Among x (roots_of s.leaves)). inl (x, up, l))
    (λ (none : ¬ Among x (roots_of s.leaves)). inr (λ (y, v, l). none (subst (λ z. Among z (roots_of s.leaves)) (trees.one_row_root y x r v up) l)))
    (number_among x (roots_of s.leaves))

pub next_is_frontier : (s t : State) (last : List Place) (f : List ℕ) → HasTrees t → Grows s t → t.claims ≡ s.claims ++ last → length t.claims < 2 ^ 32 → ((c : ℕ) → InForest s c → IsScanned t c) → AreMatesOf t last f → IsFrontier t f
next_is_frontier s t last f trees g e few scanned are = record {
  few = let short = are.few in let long = ap (λ (ps : List Place). length ps) e ∙ length-append s.claims last in omega (arith, few, short, long);
  once = are.mates.distinct;
  inside = λ c h. let (r, l, m, _) = are.mates.sound c h in (entry_col t.matrix r c (trees.sound.base.entries r c m), inr (r, m, last_claimed s t last e r l));
  others = λ c i. others c i;
}
  where
    before : (c : ℕ) → InForest s c → Among c f ⊎ IsScanned t c
    before c i = inr (scanned c i)

    others : (c : ℕ) → InForest t c → Among c f ⊎ IsScanned t c
    others c (lt, inl free) = before c (subst (λ (a : Matrix). c < cols a) g.matrix lt, inl (subst (λ (m : List Place). ¬ Among c (cols_of m)) g.base free))
    others c (lt, inr (r, m, h)) = ⊎_elim
        (λ l. before c (subst (λ (a : Matrix). c < cols a) g.matrix lt, inr (r, subst (λ (n : List Place). Among (r, c) n) g.base m, l)))
        (λ l. ⊎_elim
        (λ (w : IsWon t r). let (x, (d, i, up), leaf) = w in inr (inl (x, above r m i up, leaf)))
        (λ (none : ¬ IsWon t r). inl (are.mates.complete c (r, l, m, none)))
        (won_or_not t trees r h))
        (claimed_or_last s t last e r h)

-- The last level.

pub scanned_at_end : (s : State) (f : List ℕ) → (length f == 0) ≡ true → IsFrontier s f → (c : ℕ) → InForest s c → IsScanned s c
scanned_at_end s [] e k c i = ⊎_elim (λ h. absurd h) (λ h. h) (k.others c i)
scanned_at_end s (d ∷ ds) e k c i = absurd (let zero : length (d ∷ ds) ≡ 0 = eqb-true (length (d ∷ ds)) 0 e in omega arith)

-- each level claims a row or is the last
pub levels_fall : (s t : State) (f g : List ℕ) → (length f == 0) ≡ false → t.matrix ≡ s.matrix → length t.claims ≤ t.matrix.rows → length s.claims + length g ≤ length t.claims → levels_left t g < levels_left s f
levels_fall s t [] g ne same few more = absurd (true≢false ne)
levels_fall s t (d ∷ ds) [] ne same few more = let rows = ap (λ (a : Matrix). a.rows) same in omega (arith, rows, few, more)
levels_fall s t (d ∷ ds) (h ∷ hs) ne same few more = let rows = ap (λ (a : Matrix). a.rows) same in omega (arith, rows, few, more)

-- The mates of one claimed row after the other.

-- the mate is put on the list
pub mates_more : (s : State) (last : List Place) (f : List ℕ) (p : Place) (d : ℕ) → IsMatching s.matrix s.base → (¬ Among p.0 (rows_of last)) → AreMatesOf s last f → (¬ IsWon s p.0) → Among (p.0, d) s.base → AreMatesOf s (last ++ p ∷ []) (f ++ d ∷ [])
mates_more s last f p d k apart are none n = record {
  few = let le = are.few in omega (arith, le, length-append last (p ∷ []), length-append f (d ∷ []));
  mates = record {
    distinct = distinct_last f d are.mates.distinct (λ h. let (r, l, m, _) = are.mates.sound d h in apart (subst (λ z. Among z (rows_of last)) (one_row s.base k.cols_differ r p.0 d m n) l));
    sound = λ c h. ⊎_elim (λ i. let (r, l, m, w) = are.mates.sound c i in (r, rows_had last p r l, m, w)) (λ (e : c ≡ d). (p.0, row_last last p, subst (λ z. Among {X = Place} (p.0, z) s.base) (sym e) n, none)) (among_last c d f h);
    complete = λ c (r, h, m, w). ⊎_elim (λ l. among_left c f (d ∷ []) (are.mates.complete c (r, l, m, w))) (λ (e : r ≡ p.0). among_right c f (d ∷ []) (inl (one_col s.base k.rows_differ p.0 c d (subst (λ z. Among {X = Place} (z, c) s.base) e m) n))) (rows_more last p r h);
  };
}

-- the row's root has a leaf, or the row has no base mate
pub mates_same : (s : State) (last : List Place) (f : List ℕ) (p : Place) → AreMatesOf s last f → ((c : ℕ) → Among (p.0, c) s.base → IsWon s p.0) → AreMatesOf s (last ++ p ∷ []) f
mates_same s last f p are won = record {
  few = let le = are.few in omega (arith, le, length-append last (p ∷ []));
  mates = record {
    distinct = are.mates.distinct;
    sound = λ c h. let (r, l, m, w) = are.mates.sound c h in (r, rows_had last p r l, m, w);
    complete = λ c (r, h, m, w). ⊎_elim (λ l. are.mates.complete c (r, l, m, w)) (λ (e : r ≡ p.0). absurd (w (subst (IsWon s) (sym e) (won c (subst (λ z. Among {X = Place} (z, c) s.base) e m))))) (rows_more last p r h);
  };
}
