-- Columns in batches: their lists, the candidates among their rows, and what visiting these shows.
use Rattle.std.proofs.Common.{◌≡◌, ◌≢◌, ◌∙◌, ℕ, ◌+◌, ◌-◌, ◌<◌, ◌≤◌, Bool, true, false, not, List, [], ◌∷◌, ◌++◌, length, map, set, slice_index_or, take, refl, sym, ap, subst, inl, inr, ⊎_elim, arith, append_assoc, get_or-set_same, get_or-set_other}
use Rattle.std.specs.Int.{from_bool}
use Rattle.std.proofs.lemmas.List.{append-nil, get_or-map, get_or-take, length-map, length-take-le, map-set, map_more, take-map, take-set, take_more_set}
use Rattle.std.specs.Borrow.{Bor}
use Rattle.bip_defs.specs.Lists.{Among, IsMarked}
use Rattle.bip_defs.specs.Marks.{IsExplored}
use Rattle.bip_defs.specs.Matching.{Covers, IsMatching, cols_of}
use Rattle.bip_defs.specs.Matrix.{IsEntry, Matrix, Place}
use Rattle.bip_defs.proofs.Sets.{among_either, among_last, among_left, among_map, among_map_back, among_right, number_same}
use Rattle.bip_defs.proofs.Slices.{read_among}
use Rattle.bip_graph.specs.Matching.{Pairing}
use Rattle.path_search.specs.Batches.{FindNoPath, Follows, Gathers, HasRows, HaveRows, KeepsUnmarked, LeadsToRow, candidate, candidates_of, list_at, numbers_in}
use Rattle.path_search.specs.Forests.{EndsAt, Extends, HaveNoPath, IsForest, Progresses, Trees, Visits, reached_at}
use Rattle.path_search.specs.declared.batches.RowCandidate.{RowCandidate}
use Rattle.path_search.specs.declared.reached.Reached.{Reached}
use Rattle.path_search.proofs.GrownTrees.{IsScanning, extended_at, extended_length, forest_marked, scanning_more, scanning_start, spreads_extends}
use Rattle.path_search.proofs.MarkLemmas.{marked_grows, marked_now}
use Rattle.path_search.proofs.SweepLemmas.{no_path_explored, no_path_spread}

-- Lists that were looked up.

has_rows_later : (a : Matrix) (m n : List Place) (x : Reached) (rows : List ℕ) → Covers m n → HasRows a m x rows → HasRows a n x rows
has_rows_later a m n x rows k h = record { sound = h.sound; complete = λ free. h.complete (λ on. free (k.cols x.root on)) }

-- they serve while the trees grow
pub have_rows_later : (a : Matrix) (m n : List Place) (old new : Trees) (place count : ℕ) (lists : List (List ℕ)) → Covers m n → Extends old new → place + count ≤ length old.queue → HaveRows a m old.queue place count lists → HaveRows a n new.queue place count lists
have_rows_later a m n old new place count lists k e le h i lt = subst (λ (x : Reached). HasRows a n x (list_at lists i)) (sym (extended_at old new (place + i) e (omega arith))) (has_rows_later a m n (reached_at old.queue (place + i)) (list_at lists i) k (h i lt))

pub have_rows_front : {F : Type 0} (number : F → ℕ) (a : Matrix) (m : List Place) (q : List Reached) (place count : ℕ) (lists : List (Bor (List F))) → count ≤ length lists → HaveRows a m q place count (numbers_in number lists) → HaveRows a m q place (length (take count lists)) (numbers_in number (take count lists))
have_rows_front {F = F} number a m q place count lists le h = subst (λ (n : ℕ). HaveRows a m q place n (numbers_in number (take count lists))) (sym (length-take-le count lists le)) first
  where
    first : HaveRows a m q place count (numbers_in number (take count lists))
    first i lt = subst (λ (rows : List ℕ). HasRows a m (reached_at q (place + i)) rows) (sym (ap (λ (ls : List (List ℕ)). list_at ls i) (sym (take-map (λ (list : Bor (List F)). map number list.now) count lists)) ∙ get_or-take count (numbers_in number lists) i [] lt)) (h i lt)

-- a list more
have_rows_more : (a : Matrix) (m : List Place) (q : List Reached) (place count : ℕ) (lists : List (List ℕ)) (rows : List ℕ) → count < length lists → HaveRows a m q place count lists → HasRows a m (reached_at q (place + count)) rows → HaveRows a m q place (count + 1) (set lists count rows)
have_rows_more a m q place count lists rows within h last i lt = ⊎_elim (λ (e : i ≡ count). subst (λ j. HasRows a m (reached_at q (place + j)) (list_at (set lists count rows) j)) (sym e) (subst (λ (xs : List ℕ). HasRows a m (reached_at q (place + count)) xs) (sym (get_or-set_same lists count rows [] within)) last)) (λ (ne : i ≢ count). subst (λ (xs : List ℕ). HasRows a m (reached_at q (place + i)) xs) (sym (get_or-set_other lists count i rows [] ne)) (h i (omega arith))) (number_same i count)

pub numbers_at : {F : Type 0} (number : F → ℕ) (lists : List (Bor (List F))) (i : ℕ) (list : Bor (List F)) → i < length lists → list ≡ slice_index_or lists i list → list_at (numbers_in number lists) i ≡ map number list.now
numbers_at {F = F} number lists i list lt e = get_or-map (λ (x : Bor (List F)). map number x.now) lists i list [] lt ∙ ap (λ (x : Bor (List F)). map number x.now) (sym e)

pub have_rows_set : {F : Type 0} (number : F → ℕ) (a : Matrix) (m : List Place) (q : List Reached) (place count : ℕ) (lists : List (Bor (List F))) (list : Bor (List F)) → count < length lists → HaveRows a m q place count (numbers_in number lists) → HasRows a m (reached_at q (place + count)) (map number list.now) → HaveRows a m q place (count + 1) (numbers_in number (set lists count list))
have_rows_set {F = F} number a m q place count lists list within h last = subst (λ (ls : List (List ℕ)). HaveRows a m q place (count + 1) ls) (sym (map-set (λ (x : Bor (List F)). map number x.now) lists count list)) (have_rows_more a m q place count (numbers_in number lists) (map number list.now) (let same = length-map lists (λ (x : Bor (List F)). map number x.now) in omega arith) h last)

-- Candidates.

-- a row more is put behind the candidates
pub appended_more : (place len at : ℕ) (rows : List ℕ) (old now : List RowCandidate) → at < length rows → len + at < length now → take (len + at) now ≡ take len old ++ candidates_of place (take at rows) → take (len + (at + 1)) (set now (len + at) (candidate place (slice_index_or rows at 0))) ≡ take len old ++ candidates_of place (take (at + 1) rows)
appended_more place len at rows old now in_rows in_now e =
    let next : len + (at + 1) ≡ len + at + 1 = omega arith in
    ap (λ n. take n (set now (len + at) last)) next ∙ take_more_set now (len + at) last in_now ∙ ap (λ (xs : List RowCandidate). xs ++ last ∷ []) e ∙ append_assoc (take len old) (candidates_of place (take at rows)) (last ∷ []) ∙ ap (λ (xs : List RowCandidate). take len old ++ xs) (sym (map_more (λ (r : ℕ). candidate place r) rows at 0 in_rows))
  where
    last : RowCandidate
    last = candidate place (slice_index_or rows at 0)

-- what stands at a place is among the first
pub taken_among : (x : RowCandidate) (xs : List RowCandidate) (n at : ℕ) → at < n → n ≤ length xs → x ≡ slice_index_or xs at x → Among x (take n xs)
taken_among x xs n at lt le e = read_among x (take n xs) at (let long = length-take-le n xs le in omega arith) (e ∙ sym (get_or-take n xs at x lt))

pub gathers_none : (lists : List (List ℕ)) (place from : ℕ) → Gathers lists place from from []
gathers_none lists place from = record { sound = λ x h. absurd h; complete = λ i ge lt. absurd (omega arith) }

-- one list more
pub gathers_more : (lists : List (List ℕ)) (place from to : ℕ) (old : List RowCandidate) → from ≤ to → Gathers lists place from to old → Gathers lists place from (to + 1) (old ++ candidates_of (place + to) (list_at lists to))
gathers_more lists place from to old le g = record {
  sound = λ x h. ⊎_elim (λ before. let (i, ge, lt, e, on) = g.sound x before in (i, ge, omega arith, e, on)) (λ on. let (r, in_list, e) = among_map_back (λ (r : ℕ). candidate (place + to) r) x (list_at lists to) on in (to, le, omega arith, ap (λ (y : RowCandidate). y.place) (sym e), subst (λ (y : RowCandidate). Among y.row (list_at lists to)) e in_list)) (among_either x old (candidates_of (place + to) (list_at lists to)) h);
  complete = λ i ge lt r h. ⊎_elim (λ (e : i ≡ to). among_right (candidate (place + i) r) old (candidates_of (place + to) (list_at lists to)) (subst (λ j. Among (candidate (place + j) r) (candidates_of (place + to) (list_at lists to))) (sym e) (among_map (λ (s : ℕ). candidate (place + to) s) r (list_at lists to) (subst (λ j. Among r (list_at lists j)) e h)))) (λ (ne : i ≢ to). among_left (candidate (place + i) r) old (candidates_of (place + to) (list_at lists to)) (g.complete i ge (omega arith) r h)) (number_same i to);
}

pub keeps_none : (marks : List Bool) → KeepsUnmarked marks [] []
keeps_none marks = record { sound = λ x h. h; complete = λ x h. absurd h }

-- a candidate whose row is marked is left out
keeps_marked : (marks : List Bool) (x : RowCandidate) (old new : List RowCandidate) → IsMarked marks x.row → KeepsUnmarked marks old new → KeepsUnmarked marks (old ++ x ∷ []) new
keeps_marked marks x old new marked k = record {
  sound = λ y h. among_left y old (x ∷ []) (k.sound y h);
  complete = λ y h. ⊎_elim (λ g. k.complete y g) (λ (e : y ≡ x). inl (subst (λ (z : RowCandidate). IsMarked marks z.row) (sym e) marked)) (among_last y x old h);
}

-- and another is kept
keeps_unmarked : (marks : List Bool) (x : RowCandidate) (old new : List RowCandidate) → KeepsUnmarked marks old new → KeepsUnmarked marks (old ++ x ∷ []) (new ++ x ∷ [])
keeps_unmarked marks x old new k = record {
  sound = λ y h. ⊎_elim (λ g. among_left y old (x ∷ []) (k.sound y g)) (λ (e : y ≡ x). among_right y old (x ∷ []) (inl e)) (among_last y x new h);
  complete = λ y h. ⊎_elim (λ g. ⊎_elim (λ marked. inl marked) (λ on. inr (among_left y new (x ∷ []) on)) (k.complete y g)) (λ (e : y ≡ x). inr (among_right y new (x ∷ []) (inl e))) (among_last y x old h);
}

pub count_small : (b : Bool) (n : ℕ) → n ≡ from_bool (not b) → n ≤ 1
count_small true n e = omega (arith, e)
count_small false n e = omega (arith, e)

-- a candidate is stored behind those that were kept, and counts unless its row is marked
pub keeps_more : (marks : List Bool) (x : RowCandidate) (old now : List RowCandidate) (kept n : ℕ) (b : Bool) → slice_index_or marks x.row false ≡ b → n ≡ from_bool (not b) → kept < length now → KeepsUnmarked marks old (take kept now) → KeepsUnmarked marks (old ++ x ∷ []) (take (kept + n) (set now kept x))
keeps_more marks x old now kept n true marked none lt k =
    let same : kept + n ≡ kept = omega (arith, none) in
    subst (λ (ys : List RowCandidate). KeepsUnmarked marks (old ++ x ∷ []) ys) (sym (ap (λ i. take i (set now kept x)) same ∙ take-set now kept x)) (keeps_marked marks x old (take kept now) marked k)
keeps_more marks x old now kept n false unmarked one lt k =
    let more : kept + n ≡ kept + 1 = omega (arith, one) in
    subst (λ (ys : List RowCandidate). KeepsUnmarked marks (old ++ x ∷ []) ys) (sym (ap (λ i. take i (set now kept x)) more ∙ take_more_set now kept x lt)) (keeps_unmarked marks x old (take kept now) k)

-- Visits.

-- no unmatched row is found
visited_follows : (a : Matrix) (m : Pairing) (old new : Trees) (x : RowCandidate) (root : ℕ) → IsScanning a m.pairs root old new (x.row ∷ []) → ¬ Among root (cols_of m.pairs) → Follows a m m old new (x ∷ [])
visited_follows a m old new x root s free = inl (refl, λ place le f. (no_path_spread a m.pairs root old new place f le free s.spreads s.lead_on, λ y h. ⊎_elim (λ (e : y ≡ x). subst (λ (z : RowCandidate). IsMarked new.marks z.row) (sym e) (s.marked x.row (inl refl))) (λ g. absurd g) h))

pub visit_follows : (a : Matrix) (m : Pairing) (old new : Trees) (x : RowCandidate) (root : ℕ) → IsMatching a m.pairs → IsForest a m.pairs old → x.place < length old.queue → root ≡ (reached_at old.queue x.place).root → IsEntry a x.row (reached_at old.queue x.place).col → ¬ Among root (cols_of m.pairs) → Visits m.pairs x.row x.place root old new false → IsForest a m.pairs new × Extends old new × Follows a m m old new (x ∷ [])
visit_follows a m old new x root k f lt tree entry free v =
    let s = scanning_more a m.pairs old old new [] x.row x.place root k (scanning_start a m.pairs root old f) (subst (λ n. x.row < n) (sym f.rows_are) entry.0) lt (sym tree) entry v in
    (s.forest, spreads_extends root old new s.spreads, visited_follows a m old new x root s free)

-- an unmatched row is found
pub record FindsRow (a : Matrix) (m : List Place) (old new : Trees) (r place : ℕ) : Type 0 where
  pub forest : IsForest a m new
  pub extends : Extends old new
  pub ends : EndsAt a m new r place

pub visit_finds : (a : Matrix) (m : List Place) (old new : Trees) (r place root : ℕ) → IsForest a m old → place < length old.queue → root ≡ (reached_at old.queue place).root → IsEntry a r (reached_at old.queue place).col → ¬ Among root (cols_of m) → Visits m r place root old new true → FindsRow a m old new r place
visit_finds a m old new r place root f within tree entry free (un, none, same) = subst (λ (t : Trees). FindsRow a m old t r place) (sym same) (record {
  forest = forest_marked a m old r lt f;
  extends = record { more = ([], sym (append-nil old.queue)); marked = λ x h. marked_grows old.marks r lt x h };
  ends = record {
    within = within;
    leaf = record { entry = entry; unmatched = none; marked = marked_now old.marks r lt };
    unmatched = subst (λ x. ¬ Among x (cols_of m)) tree free;
  };
})
  where
    lt : r < length old.marks
    lt = subst (λ n. r < n) (sym f.rows_are) entry.0

-- the tree is done with
pub done_follows : (a : Matrix) (m : Pairing) (t : Trees) (x : RowCandidate) → x.place < length t.queue → Among (reached_at t.queue x.place).root (cols_of m.pairs) → Follows a m m t t (x ∷ [])
done_follows a m t x lt on = inl (refl, λ place le f. absurd (f.roots_unmatched x.place lt on))

pub follows_none : (a : Matrix) (m : Pairing) (t : Trees) → Follows a m m t t []
follows_none a m t = inl (refl, λ place le f. (f, λ x h. absurd h))

find_no_path_more : (a : Matrix) (m : List Place) (old mid new : Trees) (xs : List RowCandidate) (x : RowCandidate) → Extends old mid → Extends mid new → FindNoPath a m old mid xs → FindNoPath a m mid new (x ∷ []) → FindNoPath a m old new (xs ++ x ∷ [])
find_no_path_more a m old mid new xs x e f before here place le h =
    let (no_path, marked) = before place le h in
    let (still, last) = here place (let longer = extended_length old mid e in omega arith) no_path in
    (still, λ y on. ⊎_elim (λ g. f.marked y.row (marked y g)) (λ (same : y ≡ x). last y (inl same)) (among_last y x xs on))

pub follows_more : (a : Matrix) (m n o : Pairing) (old mid new : Trees) (xs : List RowCandidate) (x : RowCandidate) → Extends old mid → Extends mid new → Follows a m n old mid xs → Follows a n o mid new (x ∷ []) → Follows a m o old new (xs ++ x ∷ [])
follows_more a m n o old mid new xs x e f (inr grown) (inr more) = inr (omega arith)
follows_more a m n o old mid new xs x e f (inr grown) (inl stays) = inr (subst (λ (p : Pairing). length m.pairs < length p.pairs) (sym stays.0) grown)
follows_more a m n o old mid new xs x e f (inl stayed) (inr more) = inr (subst (λ (p : Pairing). length p.pairs < length o.pairs) stayed.0 more)
follows_more a m n o old mid new xs x e f (inl stayed) (inl stays) = inl (stays.0 ∙ stayed.0, find_no_path_more a m.pairs old mid new xs x e f stayed.1 (subst (λ (p : Pairing). FindNoPath a p.pairs mid new (x ∷ [])) stayed.0 stays.1))

-- A batch.

-- the candidates are rows of entries
pub gathered_entries : (a : Matrix) (m : List Place) (q : List Reached) (lists : List (List ℕ)) (place count from to : ℕ) (xs : List RowCandidate) → HaveRows a m q place count lists → to ≤ count → place + count ≤ length q → Gathers lists place from to xs → (x : RowCandidate) → Among x xs → LeadsToRow a q x
gathered_entries a m q lists place count from to xs rows le within g x h =
    let (i, ge, lt, e, on) = g.sound x h in
    record { within = omega arith; entry = subst (λ j. IsEntry a x.row (reached_at q j).col) (sym e) ((rows i (omega arith)).sound x.row on) }

-- where the candidates are visited the columns have been looked through
pub gathered_progresses : (a : Matrix) (m n : Pairing) (old new : Trees) (lists : List (List ℕ)) (place count from to : ℕ) (all xs : List RowCandidate) → HaveRows a m.pairs old.queue place count lists → to ≤ count → place + count ≤ length old.queue → from ≤ to → Gathers lists place from to all → KeepsUnmarked old.marks all xs → Extends old new → Follows a m n old new xs → Progresses a m n old new (place + from) (place + to)
gathered_progresses a m n old new lists place count from to all xs rows le within ge g k e (inr more) = inr more
gathered_progresses a m n old new lists place count from to all xs rows le within ge g k e (inl stays) = inl (stays.0, looked)
  where
    explored : (f : HaveNoPath a m.pairs old (place + from)) → ((x : RowCandidate) → Among x xs → IsMarked new.marks x.row) → (i : ℕ) → place + from ≤ i → i < place + to → IsExplored a new.marks (reached_at new.queue i).col
    explored f marked i low high r entry =
        let j : ℕ = i - place in
        let at : i ≡ place + j = omega arith in
        let same : reached_at new.queue i ≡ reached_at old.queue (place + j) = extended_at old new i e (omega arith) ∙ ap (λ k. reached_at old.queue k) at in
        let free = subst (λ k. ¬ Among (reached_at old.queue k).root (cols_of m.pairs)) at (f.roots_unmatched i (omega arith)) in
        let on = (rows j (omega arith)).complete free r (subst (λ (x : Reached). IsEntry a r x.col) same entry) in
        ⊎_elim (λ h. e.marked r h) (λ h. marked (candidate (place + j) r) h) (k.complete (candidate (place + j) r) (g.complete j (omega arith) (omega arith) r on))

    looked : HaveNoPath a m.pairs old (place + from) → HaveNoPath a m.pairs new (place + to)
    looked f = let (no_path, marked) = stays.1 (place + from) (omega arith) f in no_path_explored a m.pairs new (place + from) (place + to) no_path (explored f marked)
