-- A search that goes on to one column more.
use Rattle.std.proofs.Common.{◌≡◌, ◌≢◌, ◌⊎◌, ◌∙◌, ℕ, slice_index, ◌+◌, ◌^◌, ◌<◌, ◌≤◌, true, false, List, [], ◌∷◌, ◌++◌, length, set, get_or, refl, sym, ap, subst, inl, inr, ⊎_elim, arith, length-append, length-set, get_or-set_same, get_or-set_other}
use Rattle.std.proofs.Math.Decide.{dec_lt}
use Rattle.std.proofs.lemmas.List.{get_or_append_left, get_or_past, get_or_push}
use Rattle.bip_defs.specs.Lists.{Among, AreDistinct, IsMarked}
use Rattle.bip_defs.specs.Matching.{IsMatching, cols_of}
use Rattle.bip_defs.specs.Matrix.{IsEntry, Place, cols}
use Rattle.bip_defs.proofs.Counts.{distinct_append}
use Rattle.bip_defs.proofs.Sets.{among_last, col_among, entry_col, marked_more, number_same, one_row}
use Rattle.integer_diagonal.proofs.Bounds.{places_add, within_all}
use Rattle.integer_diagonal.proofs.Cheap.{cheap_entry}
use Rattle.integer_diagonal.proofs.SearchInvariant.{listed_same, listed_settled}
use Rattle.integer_diagonal.specs.declared.search.Nearest.{Nearest}
use Rattle.integer_diagonal.specs.Labels.{AreBeyond, AreKnown, AreListed, IsBest, IsKept, IsKnown, IsLabelled, IsSearch, Labels, Takes, distance_of}
use Rattle.integer_diagonal.specs.Duals.{IsBounded, Priced, cheap, cost, dual, paid}
use Rattle.integer_diagonal.specs.SearchTree.{IsGrown, IsLedTo, IsSearched, IsStuck, IsTaken, Reaches, Tree, depth, stop}
use Rattle.integer_diagonal.specs.Amounts.{HasRoom, infinity}
use Rattle.bip_defs.specs.Queues.{at, heads}
use Rattle.bip_defs.proofs.Queues.{at_push, heads_push, place_of}

-- a column more, at the end
abbrev pub more : Tree → ℕ → ℕ → ℕ → Tree
more t c p d = record { queue = t.queue ++ (c, p) ∷ []; depths = t.depths ++ d ∷ [] }

more_long : (t : Tree) (c p d : ℕ) → length (more t c p d).queue ≡ length t.queue + 1
more_long t c p d = length-append t.queue ((c, p) ∷ [])

more_at : (t : Tree) (c p d i : ℕ) → i < length t.queue → at (more t c p d).queue i ≡ at t.queue i
more_at t c p d i lt = at_push t.queue (c, p) i lt

more_stop : (t : Tree) (c p d i : ℕ) → i < length t.queue → stop (more t c p d) i ≡ stop t i
more_stop t c p d i lt = ap (λ (q : ℕ × ℕ). q.0) (more_at t c p d i lt)

more_depth : (t : Tree) (c p d i : ℕ) → length t.depths ≡ length t.queue → i < length t.queue → depth (more t c p d) i ≡ depth t i
more_depth t c p d i long lt = get_or_append_left t.depths (d ∷ []) 0 i (omega (arith, long, lt))

last_at : (t : Tree) (c p d : ℕ) → at (more t c p d).queue (length t.queue) ≡ (c, p)
last_at t c p d = get_or_push t.queue (c, p) (0, 0) (length t.queue) refl

last_depth : (t : Tree) (c p d : ℕ) → length t.depths ≡ length t.queue → depth (more t c p d) (length t.queue) ≡ d
last_depth t c p d long = get_or_push t.depths d 0 (length t.queue) long

pub reaches_more : (x : Priced) (t : Tree) (c p d r s e : ℕ) → length t.depths ≡ length t.queue → Reaches x t r s e → Reaches x (more t c p d) r s e
reaches_more x t c p d r s e long reaches =
    let stops = more_stop t c p d s reaches.within in
    let depths = more_depth t c p d s long reaches.within in
    record {
      within = (let l = more_long t c p d in let w = reaches.within in omega (arith, l, w));
      entry = subst (IsEntry x.weighing.matrix r) (sym stops) reaches.entry;
      long = (let was = reaches.long in let one = ap (dual x) stops in let two = ap (paid x r) stops in omega (arith, was, one, two, depths));
    }

pub grown_more : (x : Priced) (m : List Place) (root : ℕ) (t : Tree) (c r p d : ℕ) → IsGrown x m root t → ¬ Among c (heads t.queue) → c < cols x.weighing.matrix → Among (r, c) m → Reaches x t r p d → IsGrown x m root (more t c p d)
grown_more x m root t c r p d g new lt pair reaches = record {
  long = (let one = length-append t.depths (d ∷ []) in let two = more_long t c p d in let was = g.long in omega (arith, one, two, was));
  some = (let l = more_long t c p d in omega (arith, l));
  starts = more_stop t c p d 0 g.some ∙ g.starts;
  begins = more_depth t c p d 0 g.long g.some ∙ g.begins;
  free = g.free;
  in_range = λ e h. ⊎_elim (λ k. g.in_range e k) (λ (is : e ≡ c). omega (arith, is, lt)) (among_last e c (heads t.queue) (subst (Among e) (heads_push t.queue c p) h));
  distinct = subst AreDistinct (sym (heads_push t.queue c p)) (distinct_append (heads t.queue) (c ∷ []) g.distinct (λ h. h, tt) (λ e h k. ⊎_elim (λ (is : e ≡ c). new (subst (λ z. Among z (heads t.queue)) is h)) (λ z. z) k));
  led = λ i above within. led i above within (dec_lt i (length t.queue));
}
  where
    led : (i : ℕ) → 0 < i → i < length (more t c p d).queue → Dec (i < length t.queue) → IsLedTo x m (more t c p d) i
    led i above within (yes old) = moved (at t.queue i) refl (g.led i above old)
      where
        moved : (q : ℕ × ℕ) → at t.queue i ≡ q → IsLedTo x m t i → IsLedTo x m (more t c p d) i
        moved q e (s, on, earlier, way) =
            let same = more_at t c p d i old in
            (s, subst (λ z. Among {X = Place} (s, z) m) (sym (more_stop t c p d i old)) on, subst (λ (z : ℕ × ℕ). z.1 < i) (sym same) earlier, subst (λ (z : ℕ × ℕ). Reaches x (more t c p d) s z.1 (depth (more t c p d) i)) (sym same) (subst (λ z. Reaches x (more t c p d) s (at t.queue i).1 z) (sym (more_depth t c p d i g.long old)) (reaches_more x t c p d s (at t.queue i).1 (depth t i) g.long way)))
    led i above within (no nold) =
        let l = more_long t c p d in
        let is : i ≡ length t.queue = omega (arith, l, within, nold) in
        subst (IsLedTo x m (more t c p d)) (sym is) (r, subst (λ (z : ℕ × ℕ). Among {X = Place} (r, z.0) m) (sym (last_at t c p d)) pair, subst (λ (z : ℕ × ℕ). z.1 < length t.queue) (sym (last_at t c p d)) reaches.within, subst (λ (z : ℕ × ℕ). Reaches x (more t c p d) r z.1 (depth (more t c p d) (length t.queue))) (sym (last_at t c p d)) (subst (λ z. Reaches x (more t c p d) r p z) (sym (last_depth t c p d g.long)) (reaches_more x t c p d r p d g.long reaches)))

-- a row that is taken out stands at its distance
pub taken_distance : (x : Priced) (m : List Place) (t : Tree) (l k : Labels) (level d r limit : ℕ) → IsKept x m t l level → Takes l k d r limit → (distance_of l r ≡ d) × (level ≤ d)
taken_distance x m t l k level d r limit kept takes = by (kept.waits d r takes.was)
  where
    by : (level ≤ d) × (distance_of l r ≤ d) × (distance_of l r < infinity) → (distance_of l r ≡ d) × (level ≤ d)
    by (above, near, fits) = (⊎_elim (λ mark. absurd (takes.new mark)) (λ h. at_heap h (takes.keeps (distance_of l r, r) h)) (kept.waiting r fits), above)
      where
        at_heap : Among {X = ℕ × ℕ} (distance_of l r, r) l.waiting → (◌≡◌ {A = ℕ × ℕ} (distance_of l r, r) (d, r)) ⊎ (IsMarked l.settled r ⊎ Among {X = ℕ × ℕ} (distance_of l r, r) takes.heap) → distance_of l r ≡ d
        at_heap h (inl is) = ap (λ (z : ℕ × ℕ). z.0) is
        at_heap h (inr (inl mark)) = absurd (takes.new mark)
        at_heap h (inr (inr on)) = let low = (takes.holds (distance_of l r, r) on).1 in omega (arith, low, near)

-- its mate is a new column
pub taken_new : (x : Priced) (m : List Place) (root : ℕ) (t : Tree) (l k : Labels) (level d r c limit : ℕ) → IsKept x m t l level → IsGrown x m root t → Takes l k d r limit → Among (r, c) m → ¬ Among c (heads t.queue)
taken_new x m root t l k level d r c limit kept g takes pair h = by (place_of t.queue c h)
  where
    by : (i : ℕ) × (i < length t.queue) × (stop t i ≡ c) → ⊥
    by (i, lt, e) = ⊎_elim (λ (z : i ≡ 0). g.free (subst (λ y. Among y (cols_of m)) (sym e ∙ ap (stop t) z ∙ g.starts) (col_among r c m pair))) (λ (nz : i ≢ 0). takes.new (kept.entered i r (omega arith) lt (subst (λ y. Among {X = Place} (r, y) m) (sym e) pair))) (number_same i 0)

-- a row is settled
abbrev pub settle : Labels → ℕ → Labels
settle l r = record l { settled = set l.settled r true }

pub kept_more : (x : Priced) (m : List Place) (root : ℕ) (t : Tree) (l k : Labels) (level d r c p limit : ℕ) → IsMatching (cheap x) m → IsKept x m t l level → IsGrown x m root t → Takes l k d r limit → r < x.weighing.matrix.rows → Among (r, c) m → IsKept x m (more t c p d) (settle k r) d
kept_more x m root t l k level d r c p limit match kept g takes lt pair = subst (λ (z : Labels). IsKept x m (more t c p d) (settle z r) d) (sym takes.is) (record {
  distances_are = kept.distances_are;
  parents_are = kept.parents_are;
  settled_are = length-set l.settled r true ∙ kept.settled_are;
  reached = λ s near. reaches_more x t c p d s (slice_index l.parents s) (distance_of l s) g.long (kept.reached s near);
  matched = kept.matched;
  settled = λ s mark. settled s mark (number_same s r);
  entered = λ i s above within on. entered i s above within on (dec_lt i (length t.queue));
  waiting = λ s near. ⊎_elim (λ mark. inl (marked_more l.settled r s inside mark)) (λ h. waiting s (takes.keeps (distance_of l s, s) h)) (kept.waiting s near);
  waits = λ e s h. let was = takes.holds (e, s) h in let low = kept.waits e s was.0 in (was.1, low.1, low.2);
  depths = λ i within. depths i within (dec_lt i (length t.queue));
})
  where
    facts : (distance_of l r ≡ d) × (level ≤ d)
    facts = taken_distance x m t l k level d r limit kept takes

    inside : r < length l.settled
    inside = omega (arith, lt, kept.settled_are)

    settled : (s : ℕ) → IsMarked (set l.settled r true) s → (s ≡ r) ⊎ (s ≢ r) → (j : ℕ) × (0 < j) × (j < length (more t c p d).queue) × Among (s, stop (more t c p d) j) m × (depth (more t c p d) j ≡ distance_of l s)
    settled s mark (inl e) = (
      length t.queue,
      g.some,
      (let long = more_long t c p d in omega (arith, long)),
      subst (λ (z : ℕ × ℕ). Among {X = Place} (s, z.0) m) (sym (last_at t c p d)) (subst (λ z. Among {X = Place} (z, c) m) (sym e) pair),
      last_depth t c p d g.long ∙ sym facts.0 ∙ ap (distance_of l) (sym e),
    )
    settled s mark (inr ne) =
        let (j, above, within, on, same) = kept.settled s (sym (get_or-set_other l.settled r s true false ne) ∙ mark) in (
          j,
          above,
          (let long = more_long t c p d in omega (arith, long, within)),
          subst (λ z. Among {X = Place} (s, z) m) (sym (more_stop t c p d j within)) on,
          more_depth t c p d j g.long within ∙ same,
        )

    entered : (i s : ℕ) → 0 < i → i < length (more t c p d).queue → Among (s, stop (more t c p d) i) m → Dec (i < length t.queue) → IsMarked (set l.settled r true) s
    entered i s above within on (yes old) = marked_more l.settled r s inside (kept.entered i s above old (subst (λ z. Among {X = Place} (s, z) m) (more_stop t c p d i old) on))
    entered i s above within on (no nold) =
        let long = more_long t c p d in
        let is : i ≡ length t.queue = omega (arith, long, within, nold) in
        let mate : Among (s, c) m = subst (λ (z : ℕ × ℕ). Among {X = Place} (s, z.0) m) (ap (at (more t c p d).queue) is ∙ last_at t c p d) on in
        let same : s ≡ r = one_row m match.cols_differ s r c mate pair in
        ap (λ z. get_or (set l.settled r true) z false) same ∙ get_or-set_same l.settled r true false inside

    waiting : (s : ℕ) → (◌≡◌ {A = ℕ × ℕ} (distance_of l s, s) (d, r)) ⊎ (IsMarked l.settled s ⊎ Among {X = ℕ × ℕ} (distance_of l s, s) takes.heap) → IsMarked (set l.settled r true) s ⊎ Among {X = ℕ × ℕ} (distance_of l s, s) takes.heap
    waiting s (inl is) = inl (ap (λ z. get_or (set l.settled r true) z false) (ap (λ (z : ℕ × ℕ). z.1) is) ∙ get_or-set_same l.settled r true false inside)
    waiting s (inr (inl mark)) = inl (marked_more l.settled r s inside mark)
    waiting s (inr (inr on)) = inr on

    depths : (i : ℕ) → i < length (more t c p d).queue → Dec (i < length t.queue) → depth (more t c p d) i ≤ d
    depths i within (yes old) =
        let low = kept.depths i old in
        let same = more_depth t c p d i g.long old in
        let above = facts.1 in
        omega (arith, low, same, above)
    depths i within (no nold) =
        let long = more_long t c p d in
        let is : i ≡ length t.queue = omega (arith, long, within, nold) in
        let same = ap (depth (more t c p d)) is ∙ last_depth t c p d g.long in
        omega (arith, same)

pub best_more : {W : Type 0} (x : Priced) (m : List Place) (t : Tree) (n : Nearest W) (level c p d : ℕ) → length t.depths ≡ length t.queue → IsBest x m t n level → d < n.distance → IsBest x m (more t c p d) n d
best_more x m t n level c p d long best below = record { nearest = λ near. record { reaches = reaches_more x t c p d n.row n.place n.distance long (best.nearest near).reaches; free = (best.nearest near).free }; above = omega (arith, below); within = best.within }

pub known_more : (x : Priced) (t : Tree) (l : Labels) (limit c p d r : ℕ) → length t.depths ≡ length t.queue → AreKnown x t l limit (length t.queue) → AreKnown x (more t c p d) (settle l r) limit (length t.queue)
known_more x t l limit c p d r long known i s lt entry =
    let stops = more_stop t c p d i lt in
    let depths = more_depth t c p d i long lt in
    let one = ap (dual x) stops in
    let two = ap (paid x s) stops in
    ⊎_elim (λ h. inl (h.0, (let le = h.1 in omega (arith, le, one, two, depths)))) (λ le. inr (omega (arith, le, one, two, depths))) (known i s lt (subst (IsEntry x.weighing.matrix s) stops entry))

-- The end.

pub searched : {W : Type 0} (x : Priced) (m : List Place) (t : Tree) (l : Labels) (n : Nearest W) (root level : ℕ) (rows : List ℕ) → IsSearch x m root t l n rows level (length t.queue) → AreBeyond l n.distance → IsSearched x m t n.distance
searched x m t l n root level rows k beyond = record {
  depths = λ i lt. (let low = k.kept.depths i lt in let above = k.best.above in omega (arith, low, above));
  closed = λ i r lt entry. closed i r (k.known i r lt entry);
}
  where
    taken : (i r : ℕ) → IsMarked l.settled r → distance_of l r + dual x (stop t i) ≤ depth t i + paid x r (stop t i) → IsTaken x m t i r
    taken i r mark le = let (j, above, within, pair, e) = k.kept.settled r mark in (j, above, within, pair, omega (arith, le, e))

    closed : (i r : ℕ) → IsKnown x t l n.distance i r → IsTaken x m t i r ⊎ (n.distance + dual x (stop t i) ≤ depth t i + paid x r (stop t i))
    closed i r (inr le) = inr le
    closed i r (inl (near, le)) = ⊎_elim (λ mark. inl (taken i r mark le)) (λ h. ⊎_elim (λ mark. inl (taken i r mark le)) (λ low. inr (omega (arith, low, le))) (beyond (distance_of l r, r) h)) (k.kept.waiting r near)

-- no distance is as large as the one that stands for none
pub search_stuck : {W : Type 0} (x : Priced) (m : List Place) (root : ℕ) (t : Tree) (l : Labels) (n : Nearest W) (level limit : ℕ) (rows : List ℕ) → HasRoom (cols x.weighing.matrix) x.top limit → limit ≤ 2 ^ 100 → IsMatching (cheap x) m → IsBounded x m → IsSearch x m root t l n rows level (length t.queue) → AreBeyond l n.distance → n.distance ≡ infinity → IsStuck x m t
search_stuck x m root t l n level limit rows room small match bounded k beyond none i r lt entry = by ((searched x m t l n root level rows k beyond).closed i r lt entry)
  where
    by : IsTaken x m t i r ⊎ (n.distance + dual x (stop t i) ≤ depth t i + paid x r (stop t i)) → (j : ℕ) × (0 < j) × (j < length t.queue) × Among (r, stop t j) m
    by (inl (j, above, within, pair, le)) = (j, above, within, pair)
    by (inr le) =
        let near = (within_all x m root t match k.grown i lt).near in
        let part = places_add x m root t i k.grown lt in
        let low = bounded.prices r in
        let one : cost x.top x.weighing r (stop t i) ≤ x.top = omega arith in
        absurd (omega (arith, le, near, part, low, one, none, room, small))

-- A step of the search as a whole.

-- a row with a distance is in range
pub near_in : (l : Labels) (r : ℕ) → distance_of l r < infinity → r < length l.distances
near_in l r near = by (dec_lt r (length l.distances))
  where
    by : Dec (r < length l.distances) → r < length l.distances
    by (yes lt) = lt
    by (no nlt) = absurd (let e = get_or_past l.distances r infinity (omega arith) in omega (arith, e, near))

-- where the row that is taken out stands, and from where it is reached
pub taken_reaches : (x : Priced) (m : List Place) (t : Tree) (l k : Labels) (level d r limit : ℕ) → IsKept x m t l level → Takes l k d r limit → Reaches x t r (slice_index k.parents r) d
taken_reaches x m t l k level d r limit kept takes =
    let near = (kept.waits d r takes.was).2 in
    let same = (taken_distance x m t l k level d r limit kept takes).0 in
    subst (λ (z : Labels). Reaches x t r (slice_index z.parents r) d) (sym takes.is) (subst (Reaches x t r (slice_index l.parents r)) same (kept.reached r near))

pub taken_labelled : (x : Priced) (m : List Place) (t : Tree) (l k : Labels) (level d r limit : ℕ) → IsKept x m t l level → Takes l k d r limit → (r < x.weighing.matrix.rows) × IsLabelled m k r
taken_labelled x m t l k level d r limit kept takes =
    let near = (kept.waits d r takes.was).2 in
    let inside = near_in l r near in
    let rows = kept.distances_are in (
      omega (arith, inside, rows),
      subst (λ (z : Labels). IsLabelled m z r) (sym takes.is) (record {
        parent = let same = kept.parents_are in omega (arith, inside, rows, same);
        mark = let same = kept.settled_are in omega (arith, inside, rows, same);
        matched = kept.matched r near;
      }),
    )

pub record IsStep {W : Type 0} (x : Priced) (m : List Place) (root : ℕ) (t2 : Tree) (k2 : Labels) (n : Nearest W) (rows : List ℕ) (long : ℕ) : Type 0 where
  pub search : IsSearch x m root t2 k2 n rows (depth t2 long) long
  pub longer : length t2.queue ≡ long + 1

pub stepped : {W : Type 0} (x : Priced) (m : List Place) (root : ℕ) (t t1 t2 : Tree) (l k k2 : Labels) (n : Nearest W) (rows rows2 : List ℕ) (level d r c long : ℕ) → IsMatching (cheap x) m → IsSearch x m root t l n rows level (length t.queue) → Takes l k d r n.distance → t1 ≡ t → Among (r, c) m → t2 ≡ more t1 c (slice_index k.parents r) d → k2 ≡ settle k r → rows2 ≡ rows → long ≡ length t1.queue → IsStep x m root t2 k2 n rows2 long
stepped x m root t t1 t2 l k k2 n rows rows2 level d r c long match i takes same pair tree labels rows_are long_is =
    let g = i.grown in
    let kept = i.kept in
    let near = (kept.waits d r takes.was).2 in
    let reaches = taken_reaches x m t l k level d r n.distance kept takes in
    let inside = near_in l r near in
    let col = (cheap_entry x r c (match.entries r c pair)).0 in
    let p : ℕ = slice_index k.parents r in
    let grown = grown_more x m root t c r p d g (taken_new x m root t l k level d r c n.distance kept g takes pair) (entry_col x.weighing.matrix r c col) pair reaches in
    let whole : t2 ≡ more t c p d = tree ∙ ap (λ (z : Tree). more z c p d) same in
    let count : long ≡ length t.queue = long_is ∙ ap (λ (z : Tree). length z.queue) same in
    let kept2 = kept_more x m root t l k level d r c p n.distance match kept g takes col.0 pair in
    let known2 = known_more x t k n.distance c p d r g.long (subst (λ (z : Labels). AreKnown x t z n.distance (length t.queue)) (sym takes.is) i.known) in
    let listed2 = listed_settled l rows r i.listed near in
    let alike : AreListed (settle k r) rows = subst (λ (z : Labels). AreListed (settle z r) rows) (sym takes.is) (listed_same (settle l r) (settle (record l { waiting = takes.heap }) r) rows refl refl listed2) in
    let last : depth t2 long ≡ d = ap (λ (z : Tree). depth z long) whole ∙ ap (depth (more t c p d)) count ∙ last_depth t c p d g.long in
    record {
      search = subst (λ z. IsSearch x m root t2 k2 n rows2 z long) (sym last) (record {
        grown = subst (IsGrown x m root) (sym whole) grown;
        kept = subst (λ (z : Tree). IsKept x m z k2 d) (sym whole) (subst (λ (z : Labels). IsKept x m (more t c p d) z d) (sym labels) kept2);
        best = subst (λ (z : Tree). IsBest x m z n d) (sym whole) (best_more x m t n level c p d g.long i.best takes.below);
        known = subst (λ (z : Tree). AreKnown x z k2 n.distance long) (sym whole) (subst (λ (z : Labels). AreKnown x (more t c p d) z n.distance long) (sym labels) (subst (λ z. AreKnown x (more t c p d) (settle k r) n.distance z) (sym count) known2));
        listed = subst (λ (z : Labels). AreListed z rows2) (sym labels) (subst (AreListed (settle k r)) (sym rows_are) alike);
      });
      longer = (let one = ap (λ (z : Tree). length z.queue) whole in let two = more_long t c p d in omega (arith, one, two, count));
    }
