-- The steps of a search: down by a row, to an unmatched row, back, and its end.
use Rattle.std.proofs.Common.{◌≡◌, ◌⊎◌, ◌∙◌, ℕ, suc, ◌<◌, ◌≤◌, Bool, true, List, [], ◌∷◌, ◌++◌, length, set, slice_index, refl, sym, subst, inl, inr, ⊎_elim, arith, length-append}
use Rattle.std.proofs.Math.ListN.{length-set}
use Rattle.bip_defs.specs.Lists.{Among, AreDistinct, IsMarked, Lists}
use Rattle.bip_defs.specs.Matching.{IsMatching, rows_of}
use Rattle.bip_defs.specs.Matrix.{IsEntry, Matrix, Place, column}
use Rattle.bip_defs.proofs.Sets.{among_last, among_left, among_right, distinct_last, entry_col, rising_distinct, marked_below}
use Rattle.path_search.specs.Advances.{Continues, Onward, HasFound}
use Rattle.bip_defs.specs.Marks.{IsExplored}
use Rattle.path_search.specs.Search.{Exhausts, SearchState}
use Rattle.path_search.specs.Trails.{IsSearchAt, HasPassed, Trail, read_place}
use Rattle.bip_defs.proofs.Full.{few_below}
use Rattle.path_search.proofs.MarkLemmas.{marked_grows, marked_now, marks_more, explored_grows}
use Rattle.path_search.proofs.TrailLemmas.{passed_all, passed_more, passed_none, rows_last, passed_grows, trail_alternates, trail_back, trail_begins, trail_empty, trail_entries, trail_grows, trail_matched, trail_on, trail_root, trail_walk}

abbrev pub entered : SearchState → ℕ → ℕ → SearchState
entered s r c = record s { marks = set s.marks r true; visited = s.visited ++ r ∷ []; path = s.path ++ (r, c) ∷ [] }

abbrev pub noted : SearchState → ℕ → SearchState
noted s k = record s { places = s.places ++ k ∷ [] }

abbrev pub left_from : SearchState → ℕ → ℕ → ℕ → SearchState
left_from s r d j = record s { path = s.path ++ (r, d) ∷ []; places = s.places ++ j ∷ [] }

pub unmarked_unvisited : (a : Matrix) (m : List Place) (reversed : Bool) (s : SearchState) (c k r : ℕ) → IsSearchAt a m reversed s c k → ¬ IsMarked s.marks r → ¬ Among r s.visited
unmarked_unvisited a m reversed s c k r f un h = un (f.visited_marked r h)

-- there is room for one row more
pub visited_room : (a : Matrix) (m : List Place) (reversed : Bool) (s : SearchState) (c k r : ℕ) → IsSearchAt a m reversed s c k → r < a.rows → ¬ Among r s.visited → suc (length s.visited) ≤ a.rows
visited_room a m reversed s c k r f lt un = few_below a.rows (r ∷ s.visited) (un, f.visited_differ) (λ x h. ⊎_elim (λ (e : x ≡ r). omega arith) (λ g. let below = marked_below s.marks x (f.visited_marked x g) in let e = f.rows_are in omega arith) h)

pub onward_entered : (s : SearchState) (r c : ℕ) → r < length s.marks → ¬ IsMarked s.marks r → Onward s (entered s r c)
onward_entered s r c lt un = record { cols_stay = refl; root_stays = refl; marks = λ start k. marks_more s.visited start s.marks r lt un k }

-- To an unmatched row.

row_on_path : (path : List Place) (x r c : ℕ) → Among x (rows_of (path ++ (r, c) ∷ [])) → Among x (rows_of path) ⊎ (x ≡ r)
row_on_path path x r c h = among_last x r (rows_of path) (subst (λ xs. Among x xs) (rows_last path (r, c)) h)

pub reaches_entered : (a : Matrix) (m : List Place) (reversed : Bool) (s : SearchState) (c k r : ℕ) → IsSearchAt a m reversed s c k → IsEntry a r c → ¬ Among r (rows_of m) → HasFound a m (entered s r c)
reaches_entered a m reversed s c k r f e free = record {
  augmenting = record {
    begins = trail_begins a m reversed s.marks s.root c r s.path s.places f.trail f.root_unmatched;
    alternates = trail_alternates a m reversed s.marks s.root c r s.path s.places f.trail free;
    rows_differ = rw rows_last (distinct_last (rows_of s.path) r f.rows_differ (λ h. free (trail_matched a m reversed s.marks s.root c s.path s.places r f.trail h)));
  };
  entries = λ x d h. ⊎_elim (λ g. trail_entries a m reversed s.marks s.root c s.path s.places f.trail x d g) (λ (g : (x, d) ≡ (r, c)). subst (λ (q : Place). IsEntry a q.0 q.1) (sym g) e) (among_last (x, d) (r, c) s.path h);
  from_root = trail_root a m reversed s.marks s.root c r s.path s.places f.trail;
  visited = λ x h. ⊎_elim (λ g. among_left x s.visited (r ∷ []) (f.path_visited x g)) (λ g. among_right x s.visited (r ∷ []) (inl g)) (row_on_path s.path x r c h);
}

-- Down.

pub goes_down : (a : Matrix) (m : List Place) (reversed : Bool) (s : SearchState) (c k r d i j : ℕ) → IsMatching a m → IsSearchAt a m reversed s c k → IsEntry a r c → ¬ IsMarked s.marks r → Among (r, d) m → HasPassed reversed s.marks (column a c) i → r ≡ slice_index (column a c) (read_place reversed (length (column a c)) i) → j ≡ suc i → Continues a m reversed s (noted (entered s r c) j) d 0
goes_down a m reversed s c k r d i j matching f e un mate passed at next = record {
  onward = let on = onward_entered s r c lt un in record { cols_stay = refl; root_stays = refl; marks = on.marks };
  search = record {
    cols_are = f.cols_are;
    rows_are = length-set s.marks r true ∙ f.rows_are;
    few_rows = f.few_rows;
    in_range = entry_col a r d (matching.entries r d mate);
    root_unmatched = f.root_unmatched;
    trail = trail_on a m reversed now s.root c r d j s.path s.places (trail_grows a m reversed s.marks now s.root c s.path s.places grows f.trail) e (subst (λ x. HasPassed reversed now (column a c) x) (sym next) (passed_more reversed now (column a c) i (passed_grows reversed s.marks now (column a c) i grows passed) (subst (λ x. IsMarked now x) at (marked_now s.marks r lt)))) mate;
    passed = passed_none reversed now (column a d);
    rows_differ = rw rows_last (distinct_last (rows_of s.path) r f.rows_differ (λ h. unvisited (f.path_visited r h)));
    path_visited = λ x h. ⊎_elim (λ g. among_left x s.visited (r ∷ []) (f.path_visited x g)) (λ g. among_right x s.visited (r ∷ []) (inl g)) (row_on_path s.path x r c h);
    visited_differ = distinct_last s.visited r f.visited_differ unvisited;
    visited_marked = λ x h. ⊎_elim (λ g. grows x (f.visited_marked x g)) (λ (g : x ≡ r). subst (λ y. IsMarked now y) (sym g) (marked_now s.marks r lt)) (among_last x r s.visited h);
    finished = λ x h. ⊎_elim (λ g. ⊎_elim (λ p. inl (rw rows_last (among_left x (rows_of s.path) (r ∷ []) p))) (λ p. inr (p.0, p.1, explored_grows a s.marks now p.0 grows p.2)) (f.finished x g)) (λ (g : x ≡ r). inl (rw rows_last (among_right x (rows_of s.path) (r ∷ []) (inl g)))) (among_last x r s.visited h);
    walked = λ x h. ⊎_elim (λ g. f.walked x g) (λ (g : x ≡ r). (c, trail_walk a m reversed s.marks s.root c s.path s.places f.trail, subst (λ y. IsEntry a y c) (sym g) e)) (among_last x r s.visited h);
    path_shorter = let le = f.path_shorter in omega (arith, length-append s.path ((r, c) ∷ []), length-append s.visited (r ∷ []));
  };
  falls = let room = visited_room a m reversed s c k r f e.0 unvisited in omega (arith, length-append s.path ((r, c) ∷ []), length-append s.visited (r ∷ []));
}
  where
    now : List Bool
    now = set s.marks r true

    lt : r < length s.marks
    lt = let same = f.rows_are in let below = e.0 in omega arith

    grows : (x : ℕ) → IsMarked s.marks x → IsMarked (set s.marks r true) x
    grows = marked_grows s.marks r (let same = f.rows_are in let below = e.0 in omega arith)

    unvisited : ¬ Among r s.visited
    unvisited = unmarked_unvisited a m reversed s c k r f un

-- Back.

pub goes_back : (a : Matrix) (m : List Place) (reversed : Bool) (t : SearchState) (c k r d j : ℕ) → IsSearchAt a m reversed (left_from t r d j) c k → IsExplored a t.marks c → Continues a m reversed (left_from t r d j) t d j
goes_back a m reversed t c k r d j f explored = record {
  onward = record { cols_stay = refl; root_stays = refl; marks = λ start h. h };
  search = record {
    cols_are = f.cols_are;
    rows_are = f.rows_are;
    few_rows = f.few_rows;
    in_range = entry_col a r d back.1;
    root_unmatched = f.root_unmatched;
    trail = back.0;
    passed = back.2;
    rows_differ = front_differs (rows_of t.path) (subst (λ xs. AreDistinct xs) (rows_last t.path (r, d)) f.rows_differ);
    path_visited = λ x h. f.path_visited x (rw rows_last (among_left x (rows_of t.path) (r ∷ []) h));
    visited_differ = f.visited_differ;
    visited_marked = f.visited_marked;
    finished = λ x h. ⊎_elim (λ g. ⊎_elim (λ p. inl p) (λ (e : x ≡ r). inr (c, subst (λ y. Among (y, c) m) (sym e) back.3, explored)) (row_on_path t.path x r d g)) (λ g. inr g) (f.finished x h);
    walked = f.walked;
    path_shorter = let le = f.path_shorter in omega (arith, length-append t.path ((r, d) ∷ []));
  };
  falls = omega (arith, length-append t.path ((r, d) ∷ []));
}
  where
    back : Trail a m reversed t.marks t.root t.path t.places d × IsEntry a r d × HasPassed reversed t.marks (column a d) j × Among (r, c) m
    back = trail_back a m reversed t.marks t.root c j (r, d) t.path t.places f.trail

    front_differs : (xs : List ℕ) → AreDistinct (xs ++ r ∷ []) → AreDistinct xs
    front_differs [] h = tt
    front_differs (x ∷ xs) h = (λ g. h.0 (among_left x xs (r ∷ []) g), front_differs xs h.1)

-- The end.

pub search_fails : (a : Matrix) (m : List Place) (reversed : Bool) (s : SearchState) (c k : ℕ) → IsSearchAt a m reversed s c k → IsExplored a s.marks c → s.path ≡ [] → Exhausts a m s.marks s.visited s.root
search_fails a m reversed s c k f explored empty = record {
  of_root = subst (λ x. IsExplored a s.marks x) (sym (trail_empty a m reversed s.marks s.root c s.places (subst (λ (path : List Place). Trail a m reversed s.marks s.root path s.places c) empty f.trail))) explored;
  of_mates = λ r h. ⊎_elim (λ g. absurd (subst (λ (path : List Place). Among r (rows_of path)) empty g)) (λ g. g) (f.finished r h);
  walked = f.walked;
}

-- The same, where the column's list is lent.

pub goes_down_by : (a : Matrix) (m : List Place) (reversed : Bool) (s : SearchState) (c k r d i j : ℕ) (rows : List ℕ) → IsMatching a m → IsSearchAt a m reversed s c k → IsEntry a r c → ¬ IsMarked s.marks r → Among (r, d) m → rows ≡ column a c → HasPassed reversed s.marks rows i → r ≡ slice_index rows (read_place reversed (length rows) i) → j ≡ suc i → Continues a m reversed s (noted (entered s r c) j) d 0
goes_down_by a m reversed s c k r d i j rows matching f e un mate same = subst (λ (xs : List ℕ). HasPassed reversed s.marks xs i → r ≡ slice_index xs (read_place reversed (length xs) i) → j ≡ suc i → Continues a m reversed s (noted (entered s r c) j) d 0) (sym same) (λ passed at next. goes_down a m reversed s c k r d i j matching f e un mate passed at next)

pub passed_all_by : (a : Matrix) (reversed : Bool) (marks : List Bool) (c k : ℕ) (rows : List ℕ) → rows ≡ column a c → length rows ≤ k → HasPassed reversed marks rows k → IsExplored a marks c
passed_all_by a reversed marks c k rows same = subst (λ (xs : List ℕ). length xs ≤ k → HasPassed reversed marks xs k → IsExplored a marks c) (sym same) (λ le p. passed_all a reversed marks c k le p)

-- a column's list is no longer than the matrix has rows
pub column_short : (a : Matrix) (rows : List ℕ) (c : ℕ) → Lists (λ r. IsEntry a r c) rows → length rows ≤ a.rows
column_short a rows c l = few_below a.rows rows (rising_distinct rows l.rising) (λ r h. (l.sound r h).0)

pub goes_back_by : (a : Matrix) (m : List Place) (reversed : Bool) (s t : SearchState) (c k r d j : ℕ) → s ≡ left_from t r d j → IsSearchAt a m reversed s c k → IsExplored a s.marks c → Continues a m reversed s t d j
goes_back_by a m reversed s t c k r d j e = subst (λ z. IsSearchAt a m reversed z c k → IsExplored a z.marks c → Continues a m reversed z t d j) (sym e) (λ f explored. goes_back a m reversed t c k r d j f explored)
