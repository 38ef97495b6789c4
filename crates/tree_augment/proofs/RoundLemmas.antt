-- One worker's round over the roots with a leaf.
use Rattle.std.proofs.Common.{◌≡◌, ◌≢◌, ◌⊎◌, ◌↔◌, ◌∙◌, ℕ, ◌+◌, ◌-◌, ◌<◌, ◌≤◌, List, [], ◌∷◌, ◌++◌, take, drop, get_or, take-append-drop, append_assoc, None, Some, length, refl, sym, ap, subst, inl, inr, ⊎_elim, arith}
use Rattle.std.proofs.Math.Decide.{dec_lt}
use Rattle.bip_defs.specs.Forest.{State, roots_of}
use Rattle.bip_defs.specs.Lists.{Among}
use Rattle.bip_defs.specs.Matrix.{Place}
use Rattle.bip_defs.specs.WordValues.{held}
use Rattle.bip_defs.proofs.Sets.{among_either, among_last, among_left, among_right, row_among, row_pair}
use Rattle.std.proofs.lemmas.List.{append-nil, map-append, take_all, take_more}
use Rattle.flip_words.specs.Board.{Board, col_vertex}
use Rattle.flip_words.specs.Seat.{HasSet, HasSetTo, KnowsTaker, Seat, Took, after_take}
use Rattle.tree_augment.specs.Augmented.{AreAsked, ExchangesItsPaths, HasAsked, HasMet, IsOnTakenPath, IsPathPair, none, saw, took}
use Rattle.tree_augment.specs.ForestBoards.{IsSoundBoardOf}
use Rattle.tree_augment.specs.Rounds.{AsksFor, HasExchanged}

-- A seat that takes a tree.

pub takes : (t : Seat) (x : ℕ) {u : Seat} → u ≡ after_take t x None → Took u x
takes t x e = subst (λ (v : Seat). Took v x) (sym e) (among_right (x, t.number) t.listed.taken ((x, t.number) ∷ []) (inl refl))

-- it has set no vertex of a tree that it did not know to be taken
pub not_set_yet : {s : State} {b : Board} {t u : Seat} {x : ℕ} → IsSoundBoardOf s b → ExchangesItsPaths s b t → ((number : ℕ) → KnowsTaker t x number → None ≡ Some number) → u ≡ after_take t x None → (v : ℕ) → held b.trees v ≡ Some x → ¬ HasSet u v
not_set_yet {s = s} {b = b} {t = t} {x = x} board was known e v tree (mate, h) = by (dec_lt v b.rows)
  where
    set : HasSetTo t v mate
    set = subst (λ (z : Seat). HasSetTo z v mate) e h

    -- it knows the taker of each tree that it took
    new : (y : ℕ) → Took t y → ¬ (held b.trees v ≡ Some y)
    new y his tree_of =
        let roots = sym tree_of ∙ tree in
        let same : y ≡ x = cc in
        let found = known t.number (inl (subst (λ i. Among (i, t.number) t.listed.taken) same his)) in
        cc

    row : ¬ (v < b.rows)
    row lt = let (y, his, (on, claim)) = (was.rows v mate lt).0 set in new y his ((board.board.row_trees v y lt).1 (board.trees.path_root y v on))

    col : (c : ℕ) → v ≢ col_vertex b c
    col c is =
        let (y, his, (on, claim)) = (was.cols mate c).0 (subst (λ i. HasSetTo t i mate) is set) in
        let lt = subst (λ n. c < n) (sym board.board.opened.cols) (board.trees.claim_in_range mate c claim).1 in
        let root = board.trees.claimer_root y mate c (board.trees.path_root y mate on) claim in
        new y his (subst (λ i. held b.trees i ≡ Some y) (sym is) ((board.board.col_trees c y lt).1 root))

    by : ¬ Dec (v < b.rows)
    by (yes lt) = row lt
    by (no nlt) = col (v - b.rows) (omega arith)

module _ {s : State} {b : Board} {x : ℕ} (t : Seat) {m u : Seat} (e : m ≡ after_take t x None) (h : HasExchanged s b x m u) where
  same_number : u.number ≡ t.number
  same_number = h.same.number ∙ ap (λ (v : Seat). v.number) e

  lists : u.listed.taken ≡ t.listed.taken ++ (x, t.number) ∷ []
  lists = h.taken ∙ ap (λ (v : Seat). v.listed.taken) e

  took_or : (y : ℕ) → Took u y → Took t y ⊎ (y ≡ x)
  took_or y g = ⊎_elim (λ i. inl i) (λ (f : (y, t.number) ≡ (x, t.number)). inr (ap (λ (p : ℕ × ℕ). p.0) f)) (among_last (y, t.number) (x, t.number) t.listed.taken (subst (Among (y, t.number)) lists (subst (λ n. Among (y, n) u.listed.taken) same_number g)))

  took_still : (y : ℕ) → Took t y → Took u y
  took_still y g = subst (λ n. Among (y, n) u.listed.taken) (sym same_number) (subst (Among (y, t.number)) (sym lists) (among_left (y, t.number) t.listed.taken ((x, t.number) ∷ []) g))

  pub took_it : Took u x
  took_it = subst (λ n. Among (x, n) u.listed.taken) (sym same_number) (subst (Among (x, t.number)) (sym lists) (among_right (x, t.number) t.listed.taken ((x, t.number) ∷ []) (inl refl)))

  -- the pairs of the paths of the trees that it had taken, and those of this one
  on_taken : (p : Place) → IsOnTakenPath s u p ↔ (IsOnTakenPath s t p ⊎ IsPathPair s x p)
  on_taken p = (
    λ (y, g, on). ⊎_elim (λ i. inl (y, i, on)) (λ (f : y ≡ x). inr (subst (λ i. IsPathPair s i p) f on)) (took_or y g),
    λ o. ⊎_elim (λ (k : IsOnTakenPath s t p). (k.0, took_still k.0 k.1, k.2)) (λ on. (x, took_it, on)) o,
  )

  had_set : (v mate : ℕ) → HasSetTo m v mate ↔ HasSetTo t v mate
  had_set v mate = (λ g. subst (λ (z : Seat). HasSetTo z v mate) e g, λ g. subst (λ (z : Seat). HasSetTo z v mate) (sym e) g)

  pub took_paths : Among x (roots_of s.leaves) → ExchangesItsPaths s b t → ExchangesItsPaths s b u
  took_paths leaf was = record {
    taken = λ y g. ⊎_elim (λ i. was.taken y i) (λ (f : y ≡ x). subst (λ i. Among i (roots_of s.leaves)) (sym f) leaf) (took_or y g);
    rows = λ r c lt. (
      λ g. (on_taken (r, c)).1 (⊎_elim (λ i. inl ((was.rows r c lt).0 ((had_set r c).0 i))) (λ on. inr on) ((h.rows r c lt).0 g)),
      λ g. (h.rows r c lt).1 (⊎_elim (λ i. inl ((had_set r c).1 ((was.rows r c lt).1 i))) (λ on. inr on) ((on_taken (r, c)).0 g)),
    );
    cols = λ r c. (
      λ g. (on_taken (r, c)).1 (⊎_elim (λ i. inl ((was.cols r c).0 ((had_set (col_vertex b c) r).0 i))) (λ on. inr on) ((h.cols r c).0 g)),
      λ g. (h.cols r c).1 (⊎_elim (λ i. inl ((had_set (col_vertex b c) r).1 ((was.cols r c).1 i))) (λ on. inr on) ((on_taken (r, c)).0 g)),
    );
  }

  pub took_asked : AsksFor (x ∷ []) t u
  took_asked = record {
    same = record {
      board = h.same.board ∙ ap (λ (v : Seat). v.board) e;
      number = same_number;
      seats = h.same.seats ∙ ap (λ (v : Seat). v.seats) e;
    };
    taken = (x, t.number) ∷ [];
    seen = [];
    asked = took x none;
    took = lists;
    saw = h.seen ∙ ap (λ (v : Seat). v.listed.seen) e ∙ sym (append-nil t.listed.seen);
  }

-- A seat that sees which seat took a tree.

pub saw_paths : {s : State} {b : Board} (t : Seat) {u : Seat} (x number : ℕ) → u ≡ after_take t x (Some number) → ExchangesItsPaths s b t → ExchangesItsPaths s b u
saw_paths {s = s} {b = b} t x number e was = subst (ExchangesItsPaths s b) (sym e) (record { taken = was.taken; rows = was.rows; cols = was.cols })

pub saw_asked : (t : Seat) {u : Seat} (x number : ℕ) → u ≡ after_take t x (Some number) → AsksFor (x ∷ []) t u
saw_asked t x number e = subst (AsksFor (x ∷ []) t) (sym e) (record {
  same = record { board = refl; number = refl; seats = refl };
  taken = [];
  seen = (x, number) ∷ [];
  asked = saw x number none;
  took = sym (append-nil t.listed.taken);
  saw = refl;
})

-- Many visits.

asked_then : {n : ℕ} {xs ys : List ℕ} {ts us ss vs : List (ℕ × ℕ)} → AreAsked n xs ts ss → AreAsked n ys us vs → AreAsked n (xs ++ ys) (ts ++ us) (ss ++ vs)
asked_then none b = b
asked_then (took x a) b = took x (asked_then a b)
asked_then (saw x holder a) b = saw x holder (asked_then a b)

pub asks_none : (t : Seat) → AsksFor [] t t
asks_none t = record {
  same = record { board = refl; number = refl; seats = refl };
  taken = [];
  seen = [];
  asked = none;
  took = sym (append-nil t.listed.taken);
  saw = sym (append-nil t.listed.seen);
}

pub asks_then : {xs ys : List ℕ} {t u v : Seat} → AsksFor xs t u → AsksFor ys u v → AsksFor (xs ++ ys) t v
asks_then {ys = ys} {t = t} a b = record {
  same = record { board = b.same.board ∙ a.same.board; number = b.same.number ∙ a.same.number; seats = b.same.seats ∙ a.same.seats };
  taken = a.taken ++ b.taken;
  seen = a.seen ++ b.seen;
  asked = asked_then a.asked (subst (λ n. AreAsked n ys b.taken b.seen) a.same.number b.asked);
  took = b.took ∙ ap (λ ps. ps ++ b.taken) a.took ∙ append_assoc t.listed.taken a.taken b.taken;
  saw = b.saw ∙ ap (λ ps. ps ++ b.seen) a.saw ∙ append_assoc t.listed.seen a.seen b.seen;
}

-- one root more was asked for
pub asks_more : {t u v : Seat} (i : ℕ) (part : List Place) (p : Place) → i < length part → p ≡ get_or part i p → AsksFor (roots_of (take i part)) t u → AsksFor (p.0 ∷ []) u v → AsksFor (roots_of (take (i + 1) part)) t v
asks_more {t = t} {v = v} i part p lt is a b =
    let more = take_more part i p lt ∙ ap (λ (q : Place). take i part ++ q ∷ []) (sym is) in
    subst (λ xs. AsksFor xs t v) (sym (ap roots_of more ∙ map-append (λ (q : Place). q.0) (take i part) (p ∷ []))) (asks_then a b)

pub asks_all : {t u : Seat} (i : ℕ) (part : List Place) → length part ≤ i → AsksFor (roots_of (take i part)) t u → AsksFor (roots_of part) t u
asks_all {t = t} {u = u} i part le a = subst (λ ps. AsksFor (roots_of ps) t u) (take_all i part le) a

-- The two parts of a round.

pub among_back : (i : ℕ) (p : Place) (whole : List Place) → Among p (drop i whole) → Among p whole
among_back i p whole h = subst (Among p) (take-append-drop i whole) (among_right p (take i whole) (drop i whole) h)

pub asks_round : {t u v : Seat} (prefix suffix : List Place) → AsksFor (roots_of suffix) t u → AsksFor (roots_of prefix) u v → AsksFor (roots_of (suffix ++ prefix)) t v
asks_round {t = t} {v = v} prefix suffix a b = subst (λ xs. AsksFor xs t v) (sym (map-append (λ (q : Place). q.0) suffix prefix)) (asks_then a b)

-- each root with a leaf stands in the round
pub round_has : (i : ℕ) (x : ℕ) (whole : List Place) → Among x (roots_of whole) → Among x (roots_of (drop i whole ++ take i whole))
round_has i x whole h =
    let (r, g) = row_pair x whole h in
    row_among x r (drop i whole ++ take i whole)
    (⊎_elim (λ k. among_right (x, r) (drop i whole) (take i whole) k) (λ k. among_left (x, r) (drop i whole) (take i whole) k) (among_either (x, r) (take i whole) (drop i whole) (subst (Among {X = Place} (x, r)) (sym (take-append-drop i whole)) g)))

-- What a seat asked for it took, or saw taken.

asked_listed : {n : ℕ} {xs : List ℕ} {ts ss : List (ℕ × ℕ)} (x : ℕ) → AreAsked n xs ts ss → Among x xs → Among (x, n) ts ⊎ ((k : ℕ) × Among (x, k) ss)
asked_listed x none h = absurd h
asked_listed {n = n} x (took y a) (inl e) = inl (inl (λ i. (e i, n)))
asked_listed x (took y a) (inr h) = ⊎_elim (λ g. inl (inr g)) (λ g. inr g) (asked_listed x a h)
asked_listed x (saw y k a) (inl e) = inr (k, inl (λ i. (e i, k)))
asked_listed x (saw y k a) (inr h) = ⊎_elim (λ g. inl g) (λ g. inr (g.0, inr g.1)) (asked_listed x a h)

pub asked_met : {xs : List ℕ} {t u : Seat} (x : ℕ) → AsksFor xs t u → Among x xs → HasMet u x
asked_met {t = t} {u = u} x a h =
    ⊎_elim
    (λ g. inl (subst (λ n. Among (x, n) u.listed.taken) (sym a.same.number) (subst (Among (x, t.number)) (sym a.took) (among_right (x, t.number) t.listed.taken a.taken g))))
    (λ g. inr (g.0, subst (Among (x, g.0)) (sym a.saw) (among_right (x, g.0) t.listed.seen a.seen g.1))) (asked_listed x a.asked h)

pub has_asked : {xs : List ℕ} {t u : Seat} → t.listed.taken ≡ [] → AsksFor xs t u → HasAsked xs u
has_asked {xs = xs} {t = t} {u = u} none_taken a = record {
  before = t.listed.seen;
  seen = a.seen;
  saw = a.saw;
  asked = subst (λ n. AreAsked n xs u.listed.taken a.seen) (sym a.same.number) (subst (λ ps. AreAsked t.number xs ps a.seen) (sym (a.took ∙ ap (λ ps. ps ++ a.taken) none_taken)) a.asked);
}
