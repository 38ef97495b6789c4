-- The last component is finished.
use Rattle.std.proofs.Common.{◌⊎◌, ◌≡◌, ◌≢◌, ◌∙◌, ℕ, ◌+◌, ◌<◌, ◌≤◌, List, [], ◌∷◌, ◌++◌, take, length, get_or, refl, sum_by, sym, subst, inl, inr, ⊎_elim, arith, le_refl}
use Rattle.std.proofs.lemmas.List.{get_or-take, length-take-le}
use Rattle.bip_defs.specs.Lists.{Among, IsRising, numbers_of}
use Rattle.bip_defs.proofs.Sets.{among_at, among_last, among_left, among_right, number_among, number_same, place_among}
use Rattle.bip_graph.specs.Matching.{none}
use Rattle.square_components.specs.Numbers.{look}
use Rattle.square_components.specs.Stacks.{AreFinished, Clear, Graph, IsGraph, IsInside, IsOn, IsState, Leads, PathState, Settled, finished, free, next, one_free, outside, stacked}
use Rattle.square_components.specs.Stacks as names
use Rattle.square_components.specs.Steps.{Assigns, finishing}
use Rattle.square_components.proofs.Changes.{number_of_pair, rising_end, rising_front}
use Rattle.square_components.proofs.GraphLemmas.{less}
use Rattle.square_components.proofs.PathLemmas.{on_once}

abbrev IsIn : PathState → ℕ → ℕ → Type 0
IsIn s b r = (i : ℕ) × (b ≤ i) × (i < length s.stack) × (get_or s.stack i 0 ≡ r)

abbrev IsOut : PathState → ℕ → ℕ → Type 0
IsOut s b r = (i : ℕ) → b ≤ i → i < length s.stack → get_or s.stack i 0 ≢ r

in_or_out : (g : Graph) (s : PathState) (b r : ℕ) → IsState g s → IsIn s b r ⊎ IsOut s b r
in_or_out g s b r k = ⊎_elim
    (λ h. let (i, lt, e) = place_among r 0 s.stack h in ⊎_elim
    (λ (early : i < b). inr (λ j le lj f. let z = on_once g s i j k lt lj (e ∙ sym f) in omega arith))
    (λ (late : b ≤ i). inl (i, late, lt, e))
    (less i b))
    (λ n. inr (λ i le li e. n (subst (λ x. Among x s.stack) e (among_at s.stack i 0 li))))
    (number_among r s.stack)

pub emitted : (g : Graph) (s : PathState) (b v : ℕ) (starts state : List ℕ) → IsState g s → s.starts ≡ starts ++ b ∷ [] → ((i : ℕ) → Among i (numbers_of s.frames) → i < b) → v + s.count ≡ none → sum_by one_free state ≡ free s → Assigns s.stack b (length s.stack) v s.state state → IsState g (finishing s b starts state)
emitted g s b v starts state k split before value same_free given = record {
  long = given.long ∙ k.long;
  on = on;
  placed = placed;
  outside = λ r n. given.others r (λ i le li e. n (subst (IsInside g) e (k.on i li).inside)) ∙ k.outside r n;
  walks = walks;
  gone_over = gone_over;
  left = left;
  done = record { falling = falling; used = used; joined = joined };
  todo_in = λ i h. let lt = before i h in omega (arith, shorter);
  todo_rises = k.todo_rises;
  starts_in = λ x h. let lt = rising_end starts b x rising h in omega (arith, shorter);
  starts_rise = rising_front starts b rising;
  first = λ lt. ⊎_elim (λ h. h) (λ (e : 0 ≡ b). absurd (omega (arith, shorter))) (among_last 0 b starts (subst (Among 0) split (k.first (omega (arith, within)))));
  few = let f = k.few in omega (arith, same_free, shorter, within);
  small = k.small;
}
  where
    rising : IsRising (starts ++ b ∷ [])
    rising = subst IsRising split k.starts_rise

    on_b : Among b s.starts
    on_b = subst (Among b) (sym split) (among_right b starts (b ∷ []) (inl refl))

    within : b < length s.stack
    within = k.starts_in b on_b

    shorter : length (take b s.stack) ≡ b
    shorter = length-take-le b s.stack (omega (arith, within))

    -- a place of the path is below the numbers of finished components
    low : (i : ℕ) → i < length s.stack → i + 1 + s.count ≤ none
    low i li = let f = k.few in let y = k.small in omega (arith, li)

    sides : (r : ℕ) → IsIn s b r ⊎ IsOut s b r
    sides r = in_or_out g s b r k

    now : (r : ℕ) → IsIn s b r → look state r ≡ v
    now r y = subst (λ x. look state x ≡ v) y.3 (given.given y.0 y.1 y.2)

    was : (r : ℕ) → (y : IsIn s b r) → look s.state r ≡ y.0 + 1
    was r y = subst (λ x. look s.state x ≡ y.0 + 1) y.3 (k.on y.0 y.2).place

    -- what is finished is out
    apart : (r : ℕ) → none < look s.state r + s.count → IsOut s b r
    apart r lt i le li e = let z = was r (i, le, li, e) in let y = low i li in absurd (omega (arith, lt, z, y))

    -- the new number is new
    unused : (r : ℕ) → IsInside g r → IsOut s b r → look s.state r + s.count ≢ none
    unused r inside o e = ⊎_elim
        (λ (z : look s.state r ≡ 0). let y = low b within in omega (arith, e, z, y))
        (λ ne. let (i, li, f) = k.placed r inside ne (omega (arith, e)) in ⊎_elim
        (λ (lt : i < b). let z = subst (λ x. look s.state x ≡ i + 1) f (k.on i li).place in let y = low b within in omega (arith, e, z, y, lt))
        (λ (le : b ≤ i). o i le li f)
        (less i b))
        (number_same (look s.state r) 0)

    before_it : (r : ℕ) → IsInside g r → IsOut s b r → none < look state r + (s.count + 1) → none < look s.state r + s.count
    before_it r inside o lt = let e = given.others r o in let ne = unused r inside o in omega (arith, lt, e, ne)

    lower : (i : ℕ) → i < b → IsOut s b (get_or s.stack i 0)
    lower i lt j le lj e = let z = on_once g s j i k lj (omega (arith, within, lt)) e in omega (arith, z, lt, le)

    stack_is : (i : ℕ) → i < b → get_or (take b s.stack) i 0 ≡ get_or s.stack i 0
    stack_is i lt = get_or-take b s.stack i 0 lt

    on : (i : ℕ) → i < length (take b s.stack) → IsOn g (finishing s b starts state) i (get_or (take b s.stack) i 0)
    on i li =
        let lt : i < b = omega (arith, shorter) in
        let o = k.on i (omega (arith, within, lt)) in
        subst (IsOn g (finishing s b starts state) i) (sym (stack_is i lt)) (record { inside = o.inside; place = given.others (get_or s.stack i 0) (lower i lt) ∙ o.place })

    placed : (r : ℕ) → IsInside g r → look state r ≢ 0 → look state r + (s.count + 1) ≤ none → (i : ℕ) × (i < length (take b s.stack)) × (get_or (take b s.stack) i 0 ≡ r)
    placed r inside h le = ⊎_elim
        (λ y. absurd (let z = now r y in omega (arith, le, z, value)))
        (λ o.
        let e = given.others r o in
        let (i, li, f) = k.placed r inside (λ z. h (e ∙ z)) (omega (arith, le, e)) in
        let lt : i < b = ⊎_elim (λ (w : i < b). w) (λ (w : b ≤ i). absurd (o i w li f)) (less i b) in
        (i, omega (arith, shorter, lt), stack_is i lt ∙ f))
        (sides r)

    clear_old : (i j : ℕ) → j < b → Clear starts j i → i < b → Clear s.starts j i
    clear_old i j lj c li x h y = ⊎_elim (λ z. c x z y) (λ (e : x ≡ b). omega (arith, e, li)) (among_last x b starts (subst (Among x) split h))

    walks : (i j : ℕ) → i < length (take b s.stack) → j < length (take b s.stack) → Clear starts j i → Leads g (get_or (take b s.stack) i 0) (get_or (take b s.stack) j 0)
    walks i j li lj c =
        let lt : i < b = omega (arith, shorter, li) in
        let mt : j < b = omega (arith, shorter, lj) in
        subst (λ x. Leads g x (get_or (take b s.stack) j 0)) (sym (stack_is i lt)) (subst (λ x. Leads g (get_or s.stack i 0) x) (sym (stack_is j mt)) (k.walks i j (omega (arith, within, lt)) (omega (arith, within, mt)) (clear_old i j mt c lt)))

    again : (i d : ℕ) → Settled g s i d → Settled g (finishing s b starts state) i d
    again i d (finished z) = finished (let e = given.others d (apart d z) in omega (arith, e, z))
    again i d (outside z) = outside z
    again i d (stacked j lj e c) = ⊎_elim
        (λ (lt : j < b). stacked j (omega (arith, shorter, lt)) (stack_is j lt ∙ e) (λ x h y. c x (subst (Among x) (sym split) (among_left x starts (b ∷ []) h)) y))
        (λ (le : b ≤ j). finished (let z = now d (j, le, lj, e) in omega (arith, z, value)))
        (less j b)

    gone_over : (i l d : ℕ) → Among (i, l) s.frames → Among d (take l (next g (get_or (take b s.stack) i 0))) → Settled g (finishing s b starts state) i d
    gone_over i l d h y = again i d (k.gone_over i l d h (subst (λ x. Among d (take l (next g x))) (stack_is i (before i (number_of_pair s.frames i l h))) y))

    left : (i : ℕ) → i < length (take b s.stack) → Among i (numbers_of s.frames) ⊎ ((d : ℕ) → Among d (next g (get_or (take b s.stack) i 0)) → Settled g (finishing s b starts state) i d)
    left i li =
        let lt : i < b = omega (arith, shorter, li) in
        ⊎_elim (λ h. inl h) (λ h. inr (λ d y. again i d (h d (subst (λ x. Among d (next g x)) (stack_is i lt) y)))) (k.left i (omega (arith, within, lt)))

    -- where a row of the component leads
    new_falls : (i d : ℕ) → b ≤ i → i < length s.stack → Settled g s i d → v ≤ look state d
    new_falls i d le li (names.IsSettled.finished z) = let e = given.others d (apart d z) in omega (arith, e, z, value)
    new_falls i d le li (names.IsSettled.outside z) = let e = given.others d (λ j lj mj f. z (subst (IsInside g) f (k.on j mj).inside)) ∙ k.outside d z in omega (arith, e, value)
    new_falls i d le li (names.IsSettled.stacked j lj e c) = ⊎_elim
        (λ (lt : j < b). absurd (let w = c b on_b lt in omega (arith, w, le)))
        (λ (ge : b ≤ j). let z = now d (j, ge, lj, e) in omega (arith, z))
        (less j b)

    all : (i d : ℕ) → b ≤ i → i < length s.stack → Among d (next g (get_or s.stack i 0)) → Settled g s i d
    all i d le li h = ⊎_elim (λ y. absurd (let lt = before i y in omega (arith, lt, le))) (λ y. y d h) (k.left i li)

    falling : (r d : ℕ) → IsInside g r → none < look state r + (s.count + 1) → Among d (next g r) → look state r ≤ look state d
    falling r d inside lt h = ⊎_elim
        (λ y. let e = now r y in let le = new_falls y.0 d y.1 y.2 (all y.0 d y.1 y.2 (subst (λ x. Among d (next g x)) (sym y.3) h)) in omega (arith, e, le))
        (λ o.
        let past = before_it r inside o lt in
        let le = k.done.falling r d inside past h in
        let e = given.others r o in
        let f = given.others d (apart d (omega (arith, past, le))) in
        omega (arith, le, e, f))
        (sides r)

    used : (x : ℕ) → x < s.count + 1 → (r : ℕ) × IsInside g r × (look state r + x ≡ none)
    used x lt = ⊎_elim
        (λ (e : x ≡ s.count). (get_or s.stack b 0, (k.on b within).inside, (let z = given.given b (le_refl b) within in omega (arith, z, value, e))))
        (λ ne.
        let small : x < s.count = omega (arith, lt, ne) in
        let (r, inside, e) = k.done.used x small in
        (r, inside, (let f = given.others r (apart r (omega (arith, e, small))) in omega (arith, e, f))))
        (number_same x s.count)

    last : (i j : ℕ) → i < length s.stack → b ≤ j → Clear s.starts j i
    last i j li le x h lt = ⊎_elim (λ y. absurd (let w = rising_end starts b x rising y in omega (arith, w, le, lt))) (λ (e : x ≡ b). absurd (omega (arith, e, le, lt))) (among_last x b starts (subst (Among x) split h))

    joined : (r t : ℕ) → IsInside g r → IsInside g t → none < look state r + (s.count + 1) → look state r ≡ look state t → Leads g r t
    joined r t inside there lt e = ⊎_elim
        (λ y. ⊎_elim
        (λ z. subst (λ w. Leads g w t) y.3 (subst (λ w. Leads g (get_or s.stack y.0 0) w) z.3 (k.walks y.0 z.0 y.2 z.2 (last y.0 z.0 y.2 z.1))))
        (λ o. absurd (unused t there o (let f = now r y in let h = given.others t o in omega (arith, e, f, h, value))))
        (sides t))
        (λ o. ⊎_elim
        (λ z. absurd (unused r inside o (let f = now t z in let h = given.others r o in omega (arith, e, f, h, value))))
        (λ q. k.done.joined r t inside there (before_it r inside o lt) (sym (given.others r o) ∙ e ∙ given.others t q))
        (sides t))
        (sides r)
