-- Each step takes a search to a search.
use Rattle.std.proofs.Common.{◌⊎◌, ◌≡◌, ◌≢◌, ◌∙◌, ℕ, suc, ◌+◌, ◌-◌, ◌<◌, ◌≤◌, List, [], ◌∷◌, ◌++◌, set, length, take, get_or, refl, sum_by, sym, ap, ap₂, subst, inl, inr, ⊎_elim, arith, length-append, get_or-set_same, get_or-set_other}
use Rattle.std.proofs.lemmas.List.Sums.{sum_by-cons}
use Rattle.std.proofs.lemmas.List.{get_or_append_left, get_or_push}
use Rattle.bip_defs.specs.Lists.{Among, IsRising, numbers_of}
use Rattle.bip_defs.specs.Matrix.{Matrix, Place}
use Rattle.bip_defs.specs.Parts.{IsSquareRow}
use Rattle.bip_defs.proofs.Sets.{among_at, among_last, among_left, among_right, number_among, number_same, place_among}
use Rattle.bip_graph.specs.Matching.{none}
use Rattle.square_components.specs.Found.{col_in}
use Rattle.square_components.specs.Numbers.{look}
use Rattle.square_components.specs.Stacks.{Graph, IsDepthFirst, IsInside, IsState, Leads, PathState, Settled, finished, free, next, one_free, outside, stacked, work}
use Rattle.square_components.specs.Steps.{AreBelow, Assigns, GoesBack, HasRoom, Leaves, Passes, StaysMet, begin, entering, finishes, finishing, goes_back, merging, more, with_top}
use Rattle.square_components.proofs.Changes.{none_above, number_of_pair, numbers_more, rising_end, rising_few, rising_most}
use Rattle.square_components.proofs.GraphLemmas.{inside_or, leads_join, leads_step, less, next_below}
use Rattle.square_components.proofs.LastComponent.{emitted}
use Rattle.square_components.proofs.PathLemmas.{entered, left_off, less_free, merged, not_free, reframed, to_top}

abbrev pub graph_of : {a : Matrix} {line : ℕ → List ℕ} {pairs : List Place} {s : PathState} → IsDepthFirst a line pairs s → Graph
graph_of {a} {line} {pairs} {s} k = record { matrix = a; line = line; pairs = pairs; square = k.square }

-- where each two elements are alike, the sums are one
sums_same : (f : ℕ → ℕ) (xs ys : List ℕ) → length xs ≡ length ys → ((i : ℕ) → i < length xs → f (look xs i) ≡ f (look ys i)) → sum_by f xs ≡ sum_by f ys
sums_same f [] [] e h = refl
sums_same f [] (y ∷ ys) e h = absurd (omega arith)
sums_same f (x ∷ xs) [] e h = absurd (omega arith)
sums_same f (x ∷ xs) (y ∷ ys) e h =
    let first : f x ≡ f y = h 0 (omega arith) in
    let rest : sum_by f xs ≡ sum_by f ys = sums_same f xs ys (omega arith) (λ i lt. h (suc i) (omega arith)) in
    sum_by-cons f x xs ∙ ap₂ (λ u v. u + v) first rest ∙ sym (sum_by-cons f y ys)

-- the last place is on the path, and no component starts after it
pub top_among : (s : PathState) (p l : ℕ) → Among p (numbers_of (s.frames ++ (p, l) ∷ []))
top_among s p l = number_of_pair (s.frames ++ (p, l) ∷ []) p l (among_right (p, l) s.frames ((p, l) ∷ []) (inl refl))

pub top_in : (a : Matrix) (line : ℕ → List ℕ) (pairs : List Place) (s : PathState) (p l : ℕ) → IsDepthFirst a line pairs (with_top s p l) → p < length s.stack
top_in a line pairs s p l k = k.state.todo_in p (top_among s p l)

pub top_most : (a : Matrix) (line : ℕ → List ℕ) (pairs : List Place) (s : PathState) (p l b : ℕ) → IsDepthFirst a line pairs (with_top s p l) → Among b s.starts → b ≤ p
top_most a line pairs s p l b k h = rising_most (numbers_of (s.frames ++ (p, l) ∷ [])) (numbers_of s.frames) p b k.state.todo_rises (numbers_more s.frames p l) (k.opened b h)

pub top_inside : (a : Matrix) (line : ℕ → List ℕ) (pairs : List Place) (s : PathState) (p l : ℕ) → IsDepthFirst a line pairs (with_top s p l) → IsSquareRow a (get_or s.stack p 0)
top_inside a line pairs s p l k = (k.state.on p (top_in a line pairs s p l k)).inside

pub top_first : (a : Matrix) (line : ℕ → List ℕ) (pairs : List Place) (s : PathState) (p l : ℕ) → IsDepthFirst a line pairs (with_top s p l) → Among 0 s.starts
top_first a line pairs s p l k = k.state.first (let lt = top_in a line pairs s p l k in omega arith)

-- rows that the last row leads to are in range
pub top_rows : (a : Matrix) (line : ℕ → List ℕ) (pairs : List Place) (s : PathState) (p l d : ℕ) → IsDepthFirst a line pairs (with_top s p l) → Among d (line (col_in pairs (get_or s.stack p 0))) → d < length s.state
top_rows a line pairs s p l d k h = let lt = next_below (graph_of k) (get_or s.stack p 0) d k.graph (top_inside a line pairs s p l k) h in let e = k.state.long in omega (arith, lt, e)

-- there is room for a row that was not met
pub some_free : (a : Matrix) (line : ℕ → List ℕ) (pairs : List Place) (s : PathState) (d : ℕ) → IsDepthFirst a line pairs s → d < length s.state → look s.state d ≡ 0 → 0 < free s
some_free a line pairs s d k lt fresh = let l = less_free s.state d 1 fresh lt (λ z. absurd (omega arith)) in omega arith

pub has_room : (a : Matrix) (line : ℕ → List ℕ) (pairs : List Place) (s : PathState) (d : ℕ) → IsDepthFirst a line pairs s → d < length s.state → look s.state d ≡ 0 → HasRoom s
has_room a line pairs s d k lt fresh =
    let f = k.state.few in
    let some = some_free a line pairs s d k lt fresh in
    let l = rising_few s.starts (length s.stack) k.state.starts_rise k.state.starts_in in
    record { few = k.state.small; stack = omega arith; starts = omega arith }

pub length_numbers : (fs : List (ℕ × ℕ)) → length (numbers_of fs) ≡ length fs
length_numbers [] = refl
length_numbers (f ∷ fs) = ap suc (length_numbers fs)

-- and for a place to come back to
pub has_frame : (a : Matrix) (line : ℕ → List ℕ) (pairs : List Place) (s : PathState) (p l : ℕ) → IsDepthFirst a line pairs (with_top s p l) → length s.frames < s.room
has_frame a line pairs s p l k =
    let z = rising_few (numbers_of (s.frames ++ (p, l) ∷ [])) (length s.stack) k.state.todo_rises k.state.todo_in in
    let y = length_numbers (s.frames ++ (p, l) ∷ []) in
    let x = length-append s.frames ((p, l) ∷ []) in
    let f = k.state.few in
    omega arith

enters : (a : Matrix) (line : ℕ → List ℕ) (pairs : List Place) (s : PathState) (d : ℕ) (k : IsDepthFirst a line pairs s) → IsSquareRow a d → look s.state d ≡ 0 → ((i : ℕ) → i < length s.stack → Leads (graph_of k) (get_or s.stack i 0) d) → IsDepthFirst a line pairs (with_top (entering s d) (length s.stack) 0)
enters a line pairs s d k inside fresh reach = record {
  square = k.square;
  graph = k.graph;
  state = entered (graph_of k) s d k.state inside fresh reach;
  opened = λ b h. subst (Among b) (sym (numbers_more s.frames (length s.stack) 0)) (⊎_elim (λ y. among_left b (numbers_of s.frames) (length s.stack ∷ []) (k.opened b y)) (λ (e : b ≡ length s.stack). among_right b (numbers_of s.frames) (length s.stack ∷ []) (inl e)) (among_last b (length s.stack) s.starts h));
}

-- nothing is on the path where no place is noted
pub path_empty : (a : Matrix) (line : ℕ → List ℕ) (pairs : List Place) (s : PathState) → IsDepthFirst a line pairs s → s.frames ≡ [] → length s.stack ≡ 0
path_empty a line pairs s k empty = ⊎_elim
    (λ (lt : 0 < length s.stack). absurd (subst (λ fs. Among 0 (numbers_of fs)) empty (k.opened 0 (k.state.first lt))))
    (λ (le : length s.stack ≤ 0). omega arith)
    (less 0 (length s.stack))

-- a row is entered where the path is empty
pub enters_first : (a : Matrix) (line : ℕ → List ℕ) (pairs : List Place) (s : PathState) (d : ℕ) → IsDepthFirst a line pairs s → IsSquareRow a d → look s.state d ≡ 0 → s.frames ≡ [] → IsDepthFirst a line pairs (with_top (entering s d) (length s.stack) 0)
enters_first a line pairs s d k inside fresh empty = enters a line pairs s d k inside fresh (λ i lt. absurd (let e = path_empty a line pairs s k empty in omega arith))

take_suc : (xs : List ℕ) (l d : ℕ) → l < length xs → Among d (take (suc l) xs) → Among d (take l xs) ⊎ (d ≡ get_or xs l 0)
take_suc [] l d lt h = absurd (omega arith)
take_suc (x ∷ xs) Prim.Native.Nat.zero d lt h = inr (⊎_elim (λ e. e) (λ y. absurd y) h)
take_suc (x ∷ xs) (suc l) d lt h = ⊎_elim (λ e. inl (inl e)) (λ y. ⊎_elim (λ z. inl (inr z)) (λ e. inr e) (take_suc xs l d (omega arith) y)) h

take_more : (xs : List ℕ) (l d : ℕ) → l < length xs → Among d (take (l + 1) xs) → Among d (take l xs) ⊎ (d ≡ get_or xs l 0)
take_more xs l d lt h = take_suc xs l d lt (let e : l + 1 ≡ suc l = omega arith in subst (λ n. Among d (take n xs)) e h)

-- the row at the last place has gone over one entry more
pub gone_more : (a : Matrix) (line : ℕ → List ℕ) (pairs : List Place) (s : PathState) (p l : ℕ) (k : IsDepthFirst a line pairs (with_top s p l)) → l < length (line (col_in pairs (get_or s.stack p 0))) → Settled (graph_of k) s p (get_or (line (col_in pairs (get_or s.stack p 0))) l 0) → IsDepthFirst a line pairs (with_top s p (l + 1))
gone_more a line pairs s p l k lt settled = record {
  square = k.square;
  graph = k.graph;
  state = reframed (graph_of k) (with_top s p l) (s.frames ++ (p, l + 1) ∷ []) k.state (numbers_more s.frames p (l + 1) ∙ sym (numbers_more s.frames p l)) over;
  opened = λ b h. subst (Among b) (numbers_more s.frames p l ∙ sym (numbers_more s.frames p (l + 1))) (k.opened b h);
}
  where
    list : List ℕ
    list = line (col_in pairs (get_or s.stack p 0))

    at_p : (d : ℕ) → Among d (take (l + 1) list) → Settled (graph_of k) (with_top s p l) p d
    at_p d h = ⊎_elim
        (λ y. k.state.gone_over p l d (among_right (p, l) s.frames ((p, l) ∷ []) (inl refl)) y)
        (λ (e : d ≡ get_or list l 0). subst (Settled (graph_of k) s p) (sym e) settled)
        (take_more list l d lt h)

    over : (i x d : ℕ) → Among (i, x) (s.frames ++ (p, l + 1) ∷ []) → Among d (take x (next (graph_of k) (get_or s.stack i 0))) → Settled (graph_of k) (with_top s p l) i d
    over i x d h y = ⊎_elim
        (λ z. k.state.gone_over i x d (among_left (i, x) s.frames ((p, l) ∷ []) z) y)
        (λ (e : (i, x) ≡ (p, l + 1)).
        let i_is : i ≡ p = ap (λ (q : ℕ × ℕ). q.0) e in
        let x_is : x ≡ l + 1 = ap (λ (q : ℕ × ℕ). q.1) e in
        subst (λ j. Settled (graph_of k) (with_top s p l) j d) (sym i_is) (at_p d (subst (λ j. Among d (take (l + 1) (next (graph_of k) (get_or s.stack j 0)))) i_is (subst (λ j. Among d (take j (next (graph_of k) (get_or s.stack i 0)))) x_is y))))
        (among_last (i, x) (p, l + 1) s.frames h)

-- one entry that leads to a row that was met
pub passes_one : (a : Matrix) (line : ℕ → List ℕ) (pairs : List Place) (s : PathState) (starts : List ℕ) (p l : ℕ) → IsDepthFirst a line pairs (with_top s p l) → l < length (line (col_in pairs (get_or s.stack p 0))) → look s.state (get_or (line (col_in pairs (get_or s.stack p 0))) l 0) ≢ 0 → AreBelow (look s.state (get_or (line (col_in pairs (get_or s.stack p 0))) l 0)) s.starts starts → IsDepthFirst a line pairs (with_top (merging s starts) p (l + 1))
passes_one a line pairs s starts p l k lt met up = ⊎_elim inside_too past (inside_or g d k.graph)
  where
    list : List ℕ
    list = line (col_in pairs (get_or s.stack p 0))

    d : ℕ
    d = get_or list l 0

    g : Graph
    g = graph_of k

    on_p : p < length s.stack
    on_p = top_in a line pairs s p l k

    -- the starts stay
    stays : ((b : ℕ) → Among b s.starts → b < look s.state d) → Settled g s p d → IsDepthFirst a line pairs (with_top (merging s starts) p (l + 1))
    stays below settled = subst (λ xs. IsDepthFirst a line pairs (with_top (merging s xs) p (l + 1))) (sym (none_above (look s.state d) s.starts starts k.state.starts_rise up below)) (gone_more a line pairs s p l k lt settled)

    past : ¬ IsInside g d → IsDepthFirst a line pairs (with_top (merging s starts) p (l + 1))
    past o = stays (λ b h. let e = k.state.outside d o in let li = k.state.starts_in b h in let f = k.state.few in let y = k.state.small in omega (arith, e, li)) (outside o)

    on_path : IsInside g d → look s.state d + s.count ≤ none → IsDepthFirst a line pairs (with_top (merging s starts) p (l + 1))
    on_path there le =
        let (t, lt_t, e) = k.state.placed d there met le in
        let place : look s.state d ≡ t + 1 = subst (λ x. look s.state x ≡ t + 1) e (k.state.on t lt_t).place in
        let onto : Leads g (get_or s.stack p 0) (get_or s.stack t 0) = subst (Leads g (get_or s.stack p 0)) (sym e) (leads_step g (get_or s.stack p 0) d k.graph (top_inside a line pairs s p l k) there (among_at list l 0 lt)) in
        let below : AreBelow (t + 1) s.starts starts = subst (λ x. AreBelow x s.starts starts) place up in
        let again : IsDepthFirst a line pairs (with_top (merging s starts) p l) = record {
          square = k.square;
          graph = k.graph;
          state = merged g (with_top s p l) starts p t k.state on_p (λ b h. top_most a line pairs s p l b k h) lt_t onto below;
          opened = λ b h. k.opened b (up.only b h).0;
        } in
        gone_more a line pairs (merging s starts) p l again lt (stacked t lt_t e (λ b h y. absurd (let z = (below.only b h).1 in omega arith)))

    inside_too : IsInside g d → IsDepthFirst a line pairs (with_top (merging s starts) p (l + 1))
    inside_too there = ⊎_elim
        (λ (lt_c : none < look s.state d + s.count). stays (λ b h. let li = k.state.starts_in b h in let f = k.state.few in let y = k.state.small in omega (arith, li, lt_c)) (finished lt_c))
        (λ (le : look s.state d + s.count ≤ none). on_path there le)
        (less none (look s.state d + s.count))

-- and all entries that were passed
pub passes : (a : Matrix) (line : ℕ → List ℕ) (pairs : List Place) (s : PathState) (p l at : ℕ) (starts : List ℕ) → IsDepthFirst a line pairs (with_top s p l) → Passes s.state (line (col_in pairs (get_or s.stack p 0))) l s.starts at starts → IsDepthFirst a line pairs (with_top (merging s starts) p at)
passes a line pairs s p l at starts k begin = k
passes a line pairs s p l at starts k (more {at = m} {new = new} before lt met up) = passes_one a line pairs (merging s new) starts p m (passes a line pairs s p l m new k before) lt met up

-- Where a row that was not met is found.

-- the row at the last place waits, and the row to which its next entry leads is entered
pub enters_next : (a : Matrix) (line : ℕ → List ℕ) (pairs : List Place) (s : PathState) (p l d : ℕ) → IsDepthFirst a line pairs (with_top s p l) → l < length (line (col_in pairs (get_or s.stack p 0))) → d ≡ get_or (line (col_in pairs (get_or s.stack p 0))) l 0 → look s.state d ≡ 0 → IsDepthFirst a line pairs (with_top (entering (with_top s p (l + 1)) d) (length s.stack) 0)
enters_next a line pairs s p l d k lt e fresh = record {
  square = after.square;
  graph = after.graph;
  state = reframed (graph_of after) (with_top (entering (with_top s p l) d) (length s.stack) 0) ((s.frames ++ (p, l + 1) ∷ []) ++ (length s.stack, 0) ∷ []) after.state same over;
  opened = λ b h. subst (Among b) (sym same) (after.opened b h);
}
  where
    g : Graph
    g = graph_of k

    list : List ℕ
    list = line (col_in pairs (get_or s.stack p 0))

    on_p : p < length s.stack
    on_p = top_in a line pairs s p l k

    there : Among d list
    there = subst (λ x. Among x list) (sym e) (among_at list l 0 lt)

    inside : IsSquareRow a d
    inside = ⊎_elim (λ h. h) (λ o. absurd (let z = k.state.outside d o in omega (arith, z, fresh))) (inside_or g d k.graph)

    after : IsDepthFirst a line pairs (with_top (entering (with_top s p l) d) (length s.stack) 0)
    after = enters a line pairs (with_top s p l) d k inside fresh (λ i li. leads_join g (get_or s.stack i 0) (get_or s.stack p 0) d (to_top g (with_top s p l) p i k.state on_p (λ b h. top_most a line pairs s p l b k h) li) (leads_step g (get_or s.stack p 0) d k.graph (top_inside a line pairs s p l k) inside there))

    same : numbers_of ((s.frames ++ (p, l + 1) ∷ []) ++ (length s.stack, 0) ∷ []) ≡ numbers_of ((s.frames ++ (p, l) ∷ []) ++ (length s.stack, 0) ∷ [])
    same = numbers_more (s.frames ++ (p, l + 1) ∷ []) (length s.stack) 0 ∙ ap (λ xs. xs ++ length s.stack ∷ []) (numbers_more s.frames p (l + 1) ∙ sym (numbers_more s.frames p l)) ∙ sym (numbers_more (s.frames ++ (p, l) ∷ []) (length s.stack) 0)

    longer : length (s.stack ++ d ∷ []) ≡ length s.stack + 1
    longer = length-append s.stack (d ∷ [])

    stack_p : get_or (s.stack ++ d ∷ []) p 0 ≡ get_or s.stack p 0
    stack_p = get_or_append_left s.stack (d ∷ []) 0 p on_p

    t : PathState
    t = with_top (entering (with_top s p l) d) (length s.stack) 0

    -- the new row is after the one that waits
    new : Settled (graph_of after) t p (get_or list l 0)
    new = stacked (length s.stack) (omega (arith, longer)) (get_or_push s.stack d 0 (length s.stack) refl ∙ e) (λ b h y. absurd (let z = after.state.starts_in b h in omega (arith, longer, y, z)))

    at_p : (x : ℕ) → Among x (take (l + 1) list) → Settled (graph_of after) t p x
    at_p x h = ⊎_elim
        (λ y. after.state.gone_over p l x (among_left (p, l) (s.frames ++ (p, l) ∷ []) ((length s.stack, 0) ∷ []) (among_right (p, l) s.frames ((p, l) ∷ []) (inl refl))) (subst (λ r. Among x (take l (line (col_in pairs r)))) (sym stack_p) y))
        (λ (f : x ≡ get_or list l 0). subst (Settled (graph_of after) t p) (sym f) new)
        (take_more list l x lt h)

    over : (i x c : ℕ) → Among (i, x) ((s.frames ++ (p, l + 1) ∷ []) ++ (length s.stack, 0) ∷ []) → Among c (take x (next (graph_of after) (get_or (s.stack ++ d ∷ []) i 0))) → Settled (graph_of after) t i c
    over i x c h y = ⊎_elim
        (λ z. ⊎_elim
        (λ w. after.state.gone_over i x c (among_left (i, x) (s.frames ++ (p, l) ∷ []) ((length s.stack, 0) ∷ []) (among_left (i, x) s.frames ((p, l) ∷ []) w)) y)
        (λ (f : (i, x) ≡ (p, l + 1)).
        let i_is : i ≡ p = ap (λ (q : ℕ × ℕ). q.0) f in
        let x_is : x ≡ l + 1 = ap (λ (q : ℕ × ℕ). q.1) f in
        let z1 = subst (λ j. Among c (take j (next (graph_of after) (get_or (s.stack ++ d ∷ []) i 0)))) x_is y in
        let z2 = subst (λ j. Among c (take (l + 1) (next (graph_of after) (get_or (s.stack ++ d ∷ []) j 0)))) i_is z1 in
        subst (λ j. Settled (graph_of after) t j c) (sym i_is) (at_p c (subst (λ r. Among c (take (l + 1) (line (col_in pairs r)))) stack_p z2)))
        (among_last (i, x) (p, l + 1) s.frames z))
        (λ w. after.state.gone_over i x c (among_right (i, x) (s.frames ++ (p, l) ∷ []) ((length s.stack, 0) ∷ []) (inl w)) y)
        (among_last (i, x) (length s.stack, 0) (s.frames ++ (p, l + 1) ∷ []) h)

-- there is less to do then
pub less_entered : (s : PathState) (p l d : ℕ) → d < length s.state → look s.state d ≡ 0 → work (entering (with_top s p l) d) < work s
less_entered s p l d lt fresh =
    let f = less_free s.state d (length s.stack + 1) fresh lt (λ y. absurd (omega arith)) in
    let e = length-append s.frames ((p, l) ∷ []) in
    omega arith

-- a row that was met stays so, and the new one is
pub entered_met : (s : PathState) (d : ℕ) → d < length s.state → StaysMet s.state (entering s d).state × (look (entering s d).state d ≢ 0)
entered_met s d lt = (stays, met)
  where
    at_d : look (set s.state d (length s.stack + 1)) d ≡ length s.stack + 1
    at_d = get_or-set_same s.state d (length s.stack + 1) none lt

    met : look (set s.state d (length s.stack + 1)) d ≢ 0
    met e = let z = at_d in omega arith

    stays : (r : ℕ) → look s.state r ≢ 0 → look (set s.state d (length s.stack + 1)) r ≢ 0
    stays r h e = ⊎_elim (λ (f : r ≡ d). met (subst (λ x. look (set s.state d (length s.stack + 1)) x ≡ 0) f e)) (λ ne. h (sym (get_or-set_other s.state d r (length s.stack + 1) none ne) ∙ e)) (number_same r d)

-- A row is left.

take_all : (xs : List ℕ) (l : ℕ) → length xs ≤ l → take l xs ≡ xs
take_all [] Prim.Native.Nat.zero le = refl
take_all [] (suc l) le = refl
take_all (x ∷ xs) Prim.Native.Nat.zero le = absurd (omega arith)
take_all (x ∷ xs) (suc l) le = ap (λ ys. x ∷ ys) (take_all xs l (omega arith))

pub has_start : (a : Matrix) (line : ℕ → List ℕ) (pairs : List Place) (s : PathState) (p l : ℕ) → IsDepthFirst a line pairs (with_top s p l) → s.starts ≢ []
has_start a line pairs s p l k e = subst (Among 0) e (top_first a line pairs s p l k)

pub count_few : (a : Matrix) (line : ℕ → List ℕ) (pairs : List Place) (s : PathState) (p l : ℕ) → IsDepthFirst a line pairs (with_top s p l) → s.count < none
count_few a line pairs s p l k = let lt = top_in a line pairs s p l k in let f = k.state.few in let y = k.state.small in omega arith

pub stack_within : (a : Matrix) (line : ℕ → List ℕ) (pairs : List Place) (s : PathState) (p l i : ℕ) → IsDepthFirst a line pairs (with_top s p l) → i < length s.stack → get_or s.stack i 0 < length s.state
stack_within a line pairs s p l i k lt = let in_range = (k.state.on i lt).inside.0 in let e = k.state.long in omega (arith, in_range, e)

-- the rows of the path were met, before and after
free_same : (g : Graph) (s : PathState) (b v : ℕ) (state : List ℕ) → IsState g s → v ≢ 0 → Assigns s.stack b (length s.stack) v s.state state → sum_by one_free state ≡ free s
free_same g s b v state k some given = sums_same one_free state s.state given.long alike
  where
    one : (r : ℕ) → (¬ Among r s.stack) → one_free (look state r) ≡ one_free (look s.state r)
    one r n = ap one_free (given.others r (λ i le li e. n (subst (λ x. Among x s.stack) e (among_at s.stack i 0 li))))

    two : (r i : ℕ) → i < length s.stack → get_or s.stack i 0 ≡ r → one_free (look state r) ≡ one_free (look s.state r)
    two r i li e =
        let was : look s.state r ≡ i + 1 = subst (λ x. look s.state x ≡ i + 1) e (k.on i li).place in
        let old : one_free (look s.state r) ≡ 0 = not_free (look s.state r) (λ z. absurd (omega (arith, was, z))) in
        ⊎_elim
        (λ (lt : i < b). ap one_free (given.others r (λ j le lj f. let z = subst (λ x. look s.state x ≡ j + 1) f (k.on j lj).place in absurd (omega (arith, z, was, le, lt)))))
        (λ (ge : b ≤ i). not_free (look state r) (λ z. some (sym (subst (λ x. look state x ≡ v) e (given.given i ge li)) ∙ z)) ∙ sym old)
        (less i b)

    alike : (r : ℕ) → r < length state → one_free (look state r) ≡ one_free (look s.state r)
    alike r lt = ⊎_elim
        (λ h. let (i, li, e) = place_among r 0 s.stack h in two r i li e)
        (λ n. one r n)
        (number_among r s.stack)

pub leaves : (a : Matrix) (line : ℕ → List ℕ) (pairs : List Place) (s t : PathState) (p l : ℕ) → IsDepthFirst a line pairs (with_top s p l) → length (line (col_in pairs (get_or s.stack p 0))) ≤ l → Leaves s p t → IsDepthFirst a line pairs t
leaves a line pairs s t p l k le how = by how
  where
    g : Graph
    g = graph_of k

    todo : numbers_of (s.frames ++ (p, l) ∷ []) ≡ numbers_of s.frames ++ p ∷ []
    todo = numbers_more s.frames p l

    off : IsState g s
    off = left_off g s p l k.state (λ d h. k.state.gone_over p l d (among_right (p, l) s.frames ((p, l) ∷ []) (inl refl)) (subst (Among d) (sym (take_all (line (col_in pairs (get_or s.stack p 0))) l le)) h))

    back_on : (starts : List ℕ) (b : ℕ) → s.starts ≡ starts ++ b ∷ [] → b ≢ p → IsDepthFirst a line pairs s
    back_on starts b e ne = record {
      square = k.square;
      graph = k.graph;
      state = off;
      opened = λ x h. ⊎_elim (λ y. y) (λ (z : x ≡ p). absurd (not_start (subst (λ y. Among y s.starts) z h))) (among_last x p (numbers_of s.frames) (subst (Among x) todo (k.opened x h)));
    }
      where
        last : Among b s.starts
        last = subst (Among b) (sym e) (among_right b starts (b ∷ []) (inl refl))

        not_start : ¬ Among p s.starts
        not_start h = let less_b = top_most a line pairs s p l b k last in let ge = rising_most s.starts starts b p k.state.starts_rise e h in ne (omega arith)

    done : (starts state : List ℕ) → s.starts ≡ starts ++ p ∷ [] → ((v : ℕ) → v + s.count ≡ none → Assigns s.stack p (length s.stack) v s.state state) → IsDepthFirst a line pairs (finishing s p starts state)
    done starts state e given =
        let v : ℕ = none - s.count in
        let small = count_few a line pairs s p l k in
        let value : v + s.count ≡ none = omega (arith, small) in
        let n = given v value in
        record {
          square = k.square;
          graph = k.graph;
          state = emitted g s p v starts state off e (λ i h. rising_end (numbers_of s.frames) p i (subst IsRising todo k.state.todo_rises) h) value (free_same g s p v state off (λ z. absurd (omega (arith, z, value, small))) n) n;
          opened = λ b h. ⊎_elim (λ y. y) (λ (z : b ≡ p). absurd (let lt = rising_end starts p b (subst IsRising e k.state.starts_rise) h in omega arith)) (among_last b p (numbers_of s.frames) (subst (Among b) todo (k.opened b (subst (Among b) (sym e) (among_left b starts (p ∷ []) h)))));
        }

    by : Leaves s p t → IsDepthFirst a line pairs t
    by (goes_back starts b e ne same) = subst (IsDepthFirst a line pairs) (sym same) (back_on starts b e ne)
    by (finishes starts state e given same) = subst (IsDepthFirst a line pairs) (sym same) (done starts state e given)

-- what was met stays so when a row is left
pub left_met : (a : Matrix) (line : ℕ → List ℕ) (pairs : List Place) (s t : PathState) (p l : ℕ) → IsDepthFirst a line pairs (with_top s p l) → Leaves s p t → StaysMet s.state t.state × (work t ≡ work s)
left_met a line pairs s t p l k (goes_back starts b e ne same) = subst (λ (x : PathState). StaysMet s.state x.state × (work x ≡ work s)) (sym same) ((λ r h. h), refl)
left_met a line pairs s t p l k (finishes starts state e given same) = subst (λ (x : PathState). StaysMet s.state x.state × (work x ≡ work s)) (sym same) (stays, let f = free_same (graph_of k) (with_top s p l) p v state k.state some n in omega arith)
  where
    v : ℕ
    v = none - s.count

    value : v + s.count ≡ none
    value = let small = count_few a line pairs s p l k in omega (arith, small)

    some : v ≢ 0
    some z = let small = count_few a line pairs s p l k in let y = value in omega (arith, z, y, small)

    n : Assigns s.stack p (length s.stack) v s.state state
    n = given v value

    stays : (r : ℕ) → look s.state r ≢ 0 → look state r ≢ 0
    stays r h z = ⊎_elim
        (λ y. let (i, li, f) = place_among r 0 s.stack y in ⊎_elim
        (λ (lt : i < p). h (sym (n.others r (λ j le lj q. let w = subst (λ x. look s.state x ≡ j + 1) q (k.state.on j lj).place in let u = subst (λ x. look s.state x ≡ i + 1) f (k.state.on i li).place in absurd (omega (arith, w, u, le, lt)))) ∙ z))
        (λ (ge : p ≤ i). some (sym (subst (λ x. look state x ≡ v) f (n.given i ge li)) ∙ z))
        (less i p))
        (λ y. h (sym (n.others r (λ i le li e. y (subst (λ x. Among x s.stack) e (among_at s.stack i 0 li)))) ∙ z))
        (number_among r s.stack)

-- the search goes on at the last place that was noted
pub goes_on : (a : Matrix) (line : ℕ → List ℕ) (pairs : List Place) (s t : PathState) (p l : ℕ) → IsDepthFirst a line pairs s → GoesBack s (p, l) t → IsDepthFirst a line pairs (with_top t p l)
goes_on a line pairs s t p l k e = subst (IsDepthFirst a line pairs) (ap (λ fs. record s { frames = fs }) e.frames ∙ ap (λ (x : PathState). record x { frames = t.frames ++ (p, l) ∷ [] }) (sym e.same)) k
