-- Trees that grow: rows that are visited, and the mates that are reached.
use Rattle.std.proofs.Common.{◌≡◌, ◌≢◌, ◌∙◌, ℕ, ◌<◌, ◌≤◌, true, false, List, [], ◌∷◌, ◌++◌, length, set, refl, sym, ap, subst, inl, inr, ⊎_elim, arith, length-append, append_assoc}
use Rattle.std.proofs.Math.ListN.{length-set}
use Rattle.std.proofs.lemmas.List.{append-nil, length-map}
use Rattle.bip_defs.specs.Lists.{Among, IsMarked}
use Rattle.bip_defs.specs.Matching.{IsMatching, cols_of}
use Rattle.bip_defs.specs.Matrix.{IsEntry, Matrix, Place, cols}
use Rattle.bip_defs.proofs.Covers.{covers_more, covers_none}
use Rattle.bip_defs.proofs.Sets.{among_last, among_right, distinct_last, entry_col, number_same, one_row}
use Rattle.bip_graph.specs.Matching.{Pairing}
use Rattle.path_search.specs.Forests.{AreGrowing, Extends, GrowOn, IsFound, IsForest, IsLeafOf, LeadOn, Spreads, Trees, Visits, reached_at, reached_cols}
use Rattle.path_search.specs.declared.reached.Reached.{Reached}
use Rattle.bip_defs.proofs.Full.{few_below}
use Rattle.path_search.proofs.MarkLemmas.{marked_grows, marked_now, unmoved}
use Rattle.path_search.proofs.Queues.{at_before, at_last, before_or_last, each_place, found_before, grown_among, place_of, reached_last}

-- One row.

pub unreached : (a : Matrix) (m : List Place) (t : Trees) (r d : ℕ) → IsForest a m t → Among (r, d) m → ¬ IsMarked t.marks r → ¬ Among d (reached_cols t.queue)
unreached a m t r d f pair un h = un (f.mates_marked r d pair h)

reached_below : (a : Matrix) (m : List Place) (t : Trees) (c : ℕ) → IsForest a m t → Among c (reached_cols t.queue) → c < cols a
reached_below a m t c f h = let (i, lt, e) = place_of t.queue c h in subst (λ x. x < cols a) e (f.in_range i lt).0

-- there is room for the mate of an unmarked row
pub room_more : (a : Matrix) (m : List Place) (t : Trees) (r d : ℕ) → IsMatching a m → IsForest a m t → Among (r, d) m → ¬ IsMarked t.marks r → length t.queue < t.cols
room_more a m t r d k f pair un =
    let le = few_below (cols a) (d ∷ reached_cols t.queue) (unreached a m t r d f pair un, f.cols_differ) (λ x h. ⊎_elim (λ (e : x ≡ d). subst (λ y. y < cols a) (sym e) (entry_col a r d (k.entries r d pair))) (λ g. reached_below a m t x f g) h) in
    omega (arith, length-map t.queue (λ (y : Reached). y.col), f.cols_are)

pub forest_marked : (a : Matrix) (m : List Place) (t : Trees) (r : ℕ) → r < length t.marks → IsForest a m t → IsForest a m (record t { marks = set t.marks r true })
forest_marked a m t r lt f = record {
  rows_are = length-set t.marks r true ∙ f.rows_are;
  cols_are = f.cols_are;
  in_range = f.in_range;
  cols_differ = f.cols_differ;
  mates_marked = λ s c p h. marked_grows t.marks r lt s (f.mates_marked s c p h);
  found = f.found;
}

-- the tree with the row marked, and its mate reached from a place
abbrev pub next : Trees → ℕ → ℕ → ℕ → ℕ → Trees
next t r d place root = record t { marks = set t.marks r true; queue = t.queue ++ record { col = d; from = place; root = root } ∷ [] }

pub forest_reached : (a : Matrix) (m : List Place) (t : Trees) (r d place root : ℕ) → IsMatching a m → IsForest a m t → r < length t.marks → ¬ IsMarked t.marks r → Among (r, d) m → place < length t.queue → (reached_at t.queue place).root ≡ root → IsEntry a r (reached_at t.queue place).col → IsForest a m (next t r d place root)
forest_reached a m t r d place root k f lt un pair within tree entry = record {
  rows_are = length-set t.marks r true ∙ f.rows_are;
  cols_are = f.cols_are;
  in_range = each_place (λ i (y : Reached). (y.col < cols a) × (y.root < cols a)) t.queue last f.in_range (entry_col a r d (k.entries r d pair), subst (λ x. x < cols a) tree (f.in_range place within).1);
  cols_differ = rw reached_last (distinct_last (reached_cols t.queue) d f.cols_differ (unreached a m t r d f pair un));
  mates_marked = λ s c p h. ⊎_elim (λ g. marked_grows t.marks r lt s (f.mates_marked s c p g)) (λ (e : c ≡ d). subst (λ x. IsMarked (set t.marks r true) x) (one_row m k.cols_differ r s d pair (subst (λ x. Among {X = Place} (s, x) m) e p)) (marked_now t.marks r lt)) (among_last c d (reached_cols t.queue) (subst (λ xs. Among c xs) (reached_last t.queue last) h));
  found = λ i in_i free. ⊎_elim (λ before. found_before a m t.queue (last ∷ []) i before (f.found i before (subst (λ (y : Reached). ¬ Among y.root (cols_of m)) (at_before t.queue (last ∷ []) i before) free))) (λ (e : i ≡ length t.queue). subst (λ j. IsFound a m (t.queue ++ last ∷ []) j) (sym e) found_last) (before_or_last t.queue last i in_i);
}
  where
    last : Reached
    last = record { col = d; from = place; root = root }

    led : reached_at (t.queue ++ record { col = d; from = place; root = root } ∷ []) place ≡ reached_at t.queue place
    led = at_before t.queue (record { col = d; from = place; root = root } ∷ []) place within

    found_last : IsFound a m (t.queue ++ record { col = d; from = place; root = root } ∷ []) (length t.queue)
    found_last = inr (subst (λ (y : Reached). (y.from < length t.queue) × ((reached_at (t.queue ++ record { col = d; from = place; root = root } ∷ []) y.from).root ≡ y.root) × (s : ℕ) × Among {X = Place} (s, y.col) m × IsEntry a s (reached_at (t.queue ++ record { col = d; from = place; root = root } ∷ []) y.from).col) (sym (at_last t.queue (record { col = d; from = place; root = root }))) (within, ap (λ (y : Reached). y.root) led ∙ tree, r, pair, subst (λ (y : Reached). IsEntry a r y.col) (sym led) entry))

-- What is reached and marked later.

pub extends_none : (t : Trees) → Extends t t
extends_none t = record { more = ([], sym (append-nil t.queue)); marked = λ r h. h }

pub extends_more : (old mid new : Trees) → Extends old mid → Extends mid new → Extends old new
extends_more old mid new e f = record {
  more = let (xs, p) = e.more in let (ys, q) = f.more in (xs ++ ys, q ∙ ap (λ (z : List Reached). z ++ ys) p ∙ append_assoc old.queue xs ys);
  marked = λ r h. f.marked r (e.marked r h);
}

-- whatever stands in the path's place
pub extends_path : (old t : Trees) (path : List Place) → Extends old t → Extends old (record t { path = path })
extends_path old t path e = record { more = e.more; marked = e.marked }

pub grow_none : (a : Matrix) (m : Pairing) (t : Trees) → AreGrowing a m t → GrowOn a m m t t
grow_none a m t g = record { growing = g; extends = extends_none t; covered = covers_none m.pairs }

pub grow_more : (a : Matrix) (m n o : Pairing) (old mid new : Trees) → GrowOn a m n old mid → GrowOn a n o mid new → GrowOn a m o old new
grow_more a m n o old mid new e f = record { growing = f.growing; extends = extends_more old mid new e.extends f.extends; covered = covers_more e.covered f.covered }

pub extended_at : (old t : Trees) (i : ℕ) → Extends old t → i < length old.queue → reached_at t.queue i ≡ reached_at old.queue i
extended_at old t i s lt = let (more, e) = s.more in ap (λ (q : List Reached). reached_at q i) e ∙ at_before old.queue more i lt

pub extended_length : (old t : Trees) → Extends old t → length old.queue ≤ length t.queue
extended_length old t s = let (more, e) = s.more in omega (arith, ap length e, length-append old.queue more)

pub extended_among : (old t : Trees) (c : ℕ) → Extends old t → Among c (reached_cols old.queue) → Among c (reached_cols t.queue)
extended_among old t c s h = let (more, e) = s.more in subst (λ (q : List Reached). Among c (reached_cols q)) (sym e) (grown_among old.queue more c h)

-- What a list's rows lead to.

pub spreads_none : (root : ℕ) (t : Trees) → Spreads root t t
spreads_none root t = record { cols_stay = refl; more = ([], sym (append-nil t.queue), λ x h. absurd h); marked = λ r h. h }

pub spreads_marked : (root : ℕ) (old t : Trees) (r : ℕ) → r < length t.marks → Spreads root old t → Spreads root old (record t { marks = set t.marks r true })
spreads_marked root old t r lt s = record { cols_stay = s.cols_stay; more = s.more; marked = λ x h. marked_grows t.marks r lt x (s.marked x h) }

pub spreads_reached : (old t : Trees) (r d place root : ℕ) → r < length t.marks → Spreads root old t → Spreads root old (next t r d place root)
spreads_reached old t r d place root lt s = record {
  cols_stay = s.cols_stay;
  more = let (more, e, all) = s.more in (more ++ last ∷ [], ap (λ (q : List Reached). q ++ last ∷ []) e ∙ append_assoc old.queue more (last ∷ []), λ x h. ⊎_elim (λ g. all x g) (λ (e : x ≡ last). ap (λ (y : Reached). y.root) e) (among_last x last more h));
  marked = λ x h. marked_grows t.marks r lt x (s.marked x h);
}
  where
    last : Reached
    last = record { col = d; from = place; root = root }

pub spreads_extends : (root : ℕ) (old t : Trees) → Spreads root old t → Extends old t
spreads_extends root old t s = record { more = (s.more.0, s.more.1); marked = s.marked }

-- the rows so far are marked, and those that were marked since the start lead on
pub record IsScanning (a : Matrix) (m : List Place) (root : ℕ) (old t : Trees) (rows : List ℕ) : Type 0 where
  pub forest : IsForest a m t
  pub spreads : Spreads root old t
  pub lead_on : LeadOn m old t
  pub marked : (r : ℕ) → Among r rows → IsMarked t.marks r

pub scanning_start : (a : Matrix) (m : List Place) (root : ℕ) (t : Trees) → IsForest a m t → IsScanning a m root t t []
scanning_start a m root t f = record { forest = f; spreads = spreads_none root t; lead_on = λ r h. inl h; marked = λ r h. absurd h }

pub scanning_more : (a : Matrix) (m : List Place) (old t new : Trees) (rows : List ℕ) (r place root : ℕ) → IsMatching a m → IsScanning a m root old t rows → r < length t.marks → place < length old.queue → (reached_at old.queue place).root ≡ root → IsEntry a r (reached_at old.queue place).col → Visits m r place root t new false → IsScanning a m root old new (rows ++ r ∷ [])
scanning_more a m old t new rows r place root k s lt within tree entry (inl (marked, same)) = subst (λ (x : Trees). IsScanning a m root old x (rows ++ r ∷ [])) (sym same) (record {
  forest = s.forest;
  spreads = s.spreads;
  lead_on = s.lead_on;
  marked = λ x h. ⊎_elim (λ g. s.marked x g) (λ (e : x ≡ r). subst (λ y. IsMarked t.marks y) (sym e) marked) (among_last x r rows h);
})
scanning_more a m old t new rows r place root k s lt within tree entry (inr (un, d, pair, same)) = subst (λ (x : Trees). IsScanning a m root old x (rows ++ r ∷ [])) (sym same) (record {
  forest = forest_reached a m t r d place root k s.forest lt un pair (let le = extended_length old t (spreads_extends root old t s.spreads) in omega arith) (subst (λ (y : Reached). y.root ≡ root) (sym at) tree) (subst (λ (y : Reached). IsEntry a r y.col) (sym at) entry);
  spreads = spreads_reached old t r d place root lt s.spreads;
  lead_on = λ x h. ⊎_elim (λ (e : x ≡ r). inr (d, subst (λ y. Among {X = Place} (y, d) m) (sym e) pair, rw reached_last (among_right d (reached_cols t.queue) (d ∷ []) (inl refl)))) (λ (ne : x ≢ r). ⊎_elim (λ g. inl g) (λ g. inr (g.0, g.1, grown_among t.queue (record { col = d; from = place; root = root } ∷ []) g.0 g.2)) (s.lead_on x (sym (unmoved t.marks r x ne) ∙ h))) (number_same x r);
  marked = λ x h. ⊎_elim (λ g. marked_grows t.marks r lt x (s.marked x g)) (λ (e : x ≡ r). subst (λ y. IsMarked (set t.marks r true) y) (sym e) (marked_now t.marks r lt)) (among_last x r rows h);
})
  where
    at : reached_at t.queue place ≡ reached_at old.queue place
    at = extended_at old t place (spreads_extends root old t s.spreads) within

-- at an unmatched row
pub record HasFound (a : Matrix) (m : List Place) (root col : ℕ) (old new : Trees) (r : ℕ) : Type 0 where
  pub forest : IsForest a m new
  pub spreads : Spreads root old new
  pub leaf : IsLeafOf a m new col r

pub scanning_found : (a : Matrix) (m : List Place) (old t new : Trees) (rows : List ℕ) (r place root col : ℕ) → IsScanning a m root old t rows → r < length t.marks → IsEntry a r col → Visits m r place root t new true → HasFound a m root col old new r
scanning_found a m old t new rows r place root col s lt entry (un, free, same) = subst (λ (x : Trees). HasFound a m root col old x r) (sym same) (record {
  forest = forest_marked a m t r lt s.forest;
  spreads = spreads_marked root old t r lt s.spreads;
  leaf = record { entry = entry; unmatched = free; marked = marked_now t.marks r lt };
})
