-- Each step of the search keeps its state.
use Rattle.std.proofs.Common.{◌⊎◌, if◌then◌else◌, ◌≡◌, ◌≢◌, ◌∙◌, ℕ, ◌+◌, ◌<◌, ◌≤◌, List, [], ◌∷◌, ◌++◌, set, length, take, get_or, refl, sum_by, sym, ap, subst, inl, inr, ⊎_elim, arith, length-append, length-set, get_or-set_same, get_or-set_other}
use Rattle.std.proofs.lemmas.Bool.Decides.{eqb_tells}
use Rattle.std.proofs.lemmas.List.{get_or_append_left, get_or_push}
use Rattle.std.proofs.lemmas.List.Sums.{sum_by-set}
use Rattle.bip_defs.specs.Lists.{Among, IsRising, numbers_of}
use Rattle.bip_defs.specs.Walks.{stay}
use Rattle.bip_defs.proofs.Sets.{among_last, among_left, among_right, number_same, rising_last}
use Rattle.bip_graph.specs.Matching.{none}
use Rattle.square_components.specs.Numbers.{look}
use Rattle.square_components.specs.Stacks.{AreFinished, Clear, Graph, IsInside, IsOn, IsState, Leads, PathState, Settled, finished, free, next, one_free, outside, stacked}
use Rattle.square_components.specs.Steps.{AreBelow, entering, merging, with_top}
use Rattle.square_components.proofs.Changes.{number_of_pair, numbers_more, rising_front}
use Rattle.square_components.proofs.GraphLemmas.{leads_join, less}

pub not_free : (q : ℕ) → q ≢ 0 → one_free q ≡ 0
not_free q ne = ⊎_elim (λ h. absurd (ne h.1)) (λ h. ap (λ b. if b then 1 else 0) h.0) (eqb_tells q 0)

-- meeting a row leaves one less free
pub less_free : (state : List ℕ) (d at : ℕ) → look state d ≡ 0 → d < length state → at ≢ 0 → sum_by one_free (set state d at) + 1 ≡ sum_by one_free state
less_free state d at fresh lt ne =
    let e = sum_by-set one_free state d at none lt in
    let z = not_free at ne in
    let o : one_free (look state d) ≡ 1 = ap one_free fresh in
    omega arith

-- A row is entered.

pub entered : (g : Graph) (s : PathState) (d : ℕ) → IsState g s → IsInside g d → look s.state d ≡ 0 → ((i : ℕ) → i < length s.stack → Leads g (get_or s.stack i 0) d) → IsState g (with_top (entering s d) (length s.stack) 0)
entered g s d k inside fresh reach = record {
  long = length-set s.state d (length s.stack + 1) ∙ k.long;
  on = on;
  placed = placed;
  outside = λ r o. other r (λ e. o (subst (IsInside g) (sym e) inside)) ∙ k.outside r o;
  walks = walks;
  gone_over = gone_over;
  left = left;
  done = done;
  todo_in = λ i h. ⊎_elim (λ y. let lt = k.todo_in i y in omega (arith, longer)) (λ (e : i ≡ length s.stack). omega (arith, longer, e)) (among_last i (length s.stack) (numbers_of s.frames) (subst (Among i) todo h));
  todo_rises = subst IsRising (sym todo) (rising_last (numbers_of s.frames) (length s.stack) k.todo_rises k.todo_in);
  starts_in = λ b h. ⊎_elim (λ y. let lt = k.starts_in b y in omega (arith, longer)) (λ (e : b ≡ length s.stack). omega (arith, longer, e)) (among_last b (length s.stack) s.starts h);
  starts_rise = rising_last s.starts (length s.stack) k.starts_rise k.starts_in;
  first = λ lt. ⊎_elim (λ z. among_left 0 s.starts (length s.stack ∷ []) (k.first z)) (λ z. among_right 0 s.starts (length s.stack ∷ []) (inl (let e : 0 ≡ length s.stack = omega arith in e))) (less 0 (length s.stack));
  few = let f = k.few in omega (arith, one_less, longer);
  small = k.small;
}
  where
    longer : length (s.stack ++ d ∷ []) ≡ length s.stack + 1
    longer = length-append s.stack (d ∷ [])

    todo : numbers_of (s.frames ++ (length s.stack, 0) ∷ []) ≡ numbers_of s.frames ++ length s.stack ∷ []
    todo = numbers_more s.frames (length s.stack) 0

    old : (i : ℕ) → i < length (s.stack ++ d ∷ []) → i ≢ length s.stack → i < length s.stack
    old i lt ne = omega (arith, longer)

    within : d < length s.state
    within = let lt = inside.0 in omega (arith, k.long)

    at_d : look (set s.state d (length s.stack + 1)) d ≡ length s.stack + 1
    at_d = get_or-set_same s.state d (length s.stack + 1) none within

    other : (r : ℕ) → r ≢ d → look (set s.state d (length s.stack + 1)) r ≡ look s.state r
    other r ne = get_or-set_other s.state d r (length s.stack + 1) none ne

    stack_old : (i : ℕ) → i < length s.stack → get_or (s.stack ++ d ∷ []) i 0 ≡ get_or s.stack i 0
    stack_old i lt = get_or_append_left s.stack (d ∷ []) 0 i lt

    stack_new : (i : ℕ) → i ≡ length s.stack → get_or (s.stack ++ d ∷ []) i 0 ≡ d
    stack_new i e = get_or_push s.stack d 0 i (sym e)

    differs : (i : ℕ) → i < length s.stack → get_or s.stack i 0 ≢ d
    differs i lt e = let p = (k.on i lt).place in let f : look s.state (get_or s.stack i 0) ≡ 0 = subst (λ x. look s.state x ≡ 0) (sym e) fresh in omega (arith, p, f)

    one_less : sum_by one_free (set s.state d (length s.stack + 1)) + 1 ≡ free s
    one_less = less_free s.state d (length s.stack + 1) fresh within (λ z. absurd (omega arith))

    -- what is finished is not entered
    unlike : (r : ℕ) → none < look s.state r + s.count → r ≢ d
    unlike r lt e = let z : look s.state r ≡ 0 = ap (look s.state) e ∙ fresh in let f = k.few in let y = k.small in omega (arith, lt, z)

    finished_old : (r : ℕ) → none < look (set s.state d (length s.stack + 1)) r + s.count → r ≢ d
    finished_old r lt e = let z : look (set s.state d (length s.stack + 1)) r ≡ length s.stack + 1 = ap (look (set s.state d (length s.stack + 1))) e ∙ at_d in let f = k.few in let y = k.small in let o = one_less in omega (arith, lt, z)

    on : (i : ℕ) → i < length (s.stack ++ d ∷ []) → IsOn g (with_top (entering s d) (length s.stack) 0) i (get_or (s.stack ++ d ∷ []) i 0)
    on i lt = ⊎_elim
        (λ (e : i ≡ length s.stack). subst (IsOn g (with_top (entering s d) (length s.stack) 0) i) (sym (stack_new i e)) (record { inside = inside; place = at_d ∙ ap (λ x. x + 1) (sym e) }))
        (λ ne. let o = k.on i (old i lt ne) in subst (IsOn g (with_top (entering s d) (length s.stack) 0) i) (sym (stack_old i (old i lt ne))) (record { inside = o.inside; place = other (get_or s.stack i 0) (differs i (old i lt ne)) ∙ o.place }))
        (number_same i (length s.stack))

    placed : (r : ℕ) → IsInside g r → look (set s.state d (length s.stack + 1)) r ≢ 0 → look (set s.state d (length s.stack + 1)) r + s.count ≤ none → (i : ℕ) × (i < length (s.stack ++ d ∷ [])) × (get_or (s.stack ++ d ∷ []) i 0 ≡ r)
    placed r here h le = ⊎_elim
        (λ (f : r ≡ d). (length s.stack, omega (arith, longer), stack_new (length s.stack) refl ∙ sym f))
        (λ ne. let o = other r ne in let (i, lt, e) = k.placed r here (λ z. h (o ∙ z)) (omega (arith, le, o)) in (i, omega (arith, longer, lt), stack_old i lt ∙ e))
        (number_same r d)

    clear_old : (i j : ℕ) → Clear (s.starts ++ length s.stack ∷ []) j i → Clear s.starts j i
    clear_old i j h b y lt = h b (among_left b s.starts (length s.stack ∷ []) y) lt

    clear_more : (i j : ℕ) → i < length s.stack → Clear s.starts j i → Clear (s.starts ++ length s.stack ∷ []) j i
    clear_more i j lt h b y less_b = ⊎_elim (λ z. h b z less_b) (λ (e : b ≡ length s.stack). omega (arith, e)) (among_last b (length s.stack) s.starts y)

    walks : (i j : ℕ) → i < length (s.stack ++ d ∷ []) → j < length (s.stack ++ d ∷ []) → Clear (s.starts ++ length s.stack ∷ []) j i → Leads g (get_or (s.stack ++ d ∷ []) i 0) (get_or (s.stack ++ d ∷ []) j 0)
    walks i j li lj h = ⊎_elim to_new to_old (number_same j (length s.stack))
      where
        from_old : (ne : i ≢ length s.stack) → j ≡ length s.stack → Leads g (get_or (s.stack ++ d ∷ []) i 0) (get_or (s.stack ++ d ∷ []) j 0)
        from_old ne e = subst (λ x. Leads g x (get_or (s.stack ++ d ∷ []) j 0)) (sym (stack_old i (old i li ne))) (subst (λ x. Leads g (get_or s.stack i 0) x) (sym (stack_new j e)) (reach i (old i li ne)))

        to_new : j ≡ length s.stack → Leads g (get_or (s.stack ++ d ∷ []) i 0) (get_or (s.stack ++ d ∷ []) j 0)
        to_new e = ⊎_elim (λ (f : i ≡ length s.stack). subst (λ x. Leads g (get_or (s.stack ++ d ∷ []) i 0) x) (stack_new i f ∙ sym (stack_new j e)) stay) (λ ne. from_old ne e) (number_same i (length s.stack))

        both_old : (ne : i ≢ length s.stack) → (nf : j ≢ length s.stack) → Leads g (get_or (s.stack ++ d ∷ []) i 0) (get_or (s.stack ++ d ∷ []) j 0)
        both_old ne nf = subst (λ x. Leads g x (get_or (s.stack ++ d ∷ []) j 0)) (sym (stack_old i (old i li ne))) (subst (λ x. Leads g (get_or s.stack i 0) x) (sym (stack_old j (old j lj nf))) (k.walks i j (old i li ne) (old j lj nf) (clear_old i j h)))

        to_old : j ≢ length s.stack → Leads g (get_or (s.stack ++ d ∷ []) i 0) (get_or (s.stack ++ d ∷ []) j 0)
        to_old nf = ⊎_elim (λ (f : i ≡ length s.stack). absurd (let lt : j < length s.stack = old j lj nf in let z : i < length s.stack = h (length s.stack) (among_right (length s.stack) s.starts (length s.stack ∷ []) (inl refl)) lt in omega (arith, f, z))) (λ ne. both_old ne nf) (number_same i (length s.stack))

    settled : (i e : ℕ) → i < length s.stack → Settled g s i e → Settled g (with_top (entering s d) (length s.stack) 0) i e
    settled i e lt (finished z) = finished (let o = other e (unlike e z) in omega (arith, o, z))
    settled i e lt (outside z) = outside z
    settled i e lt (stacked j lj at c) = stacked j (omega (arith, longer, lj)) (stack_old j lj ∙ at) (clear_more i j lt c)

    gone_over : (i l e : ℕ) → Among (i, l) (s.frames ++ (length s.stack, 0) ∷ []) → Among e (take l (next g (get_or (s.stack ++ d ∷ []) i 0))) → Settled g (with_top (entering s d) (length s.stack) 0) i e
    gone_over i l e h y = ⊎_elim
        (λ z. let lt = k.todo_in i (number_of_pair s.frames i l z) in settled i e lt (k.gone_over i l e z (subst (λ x. Among e (take l (next g x))) (stack_old i lt) y)))
        (λ (f : (i, l) ≡ (length s.stack, 0)). absurd (subst (λ x. Among e (take x (next g (get_or (s.stack ++ d ∷ []) i 0)))) (ap (λ (p : ℕ × ℕ). p.1) f) y))
        (among_last (i, l) (length s.stack, 0) s.frames h)

    left : (i : ℕ) → i < length (s.stack ++ d ∷ []) → Among i (numbers_of (s.frames ++ (length s.stack, 0) ∷ [])) ⊎ ((e : ℕ) → Among e (next g (get_or (s.stack ++ d ∷ []) i 0)) → Settled g (with_top (entering s d) (length s.stack) 0) i e)
    left i lt = ⊎_elim
        (λ (e : i ≡ length s.stack). inl (subst (Among i) (sym todo) (among_right i (numbers_of s.frames) (length s.stack ∷ []) (inl e))))
        (λ ne. ⊎_elim
        (λ z. inl (subst (Among i) (sym todo) (among_left i (numbers_of s.frames) (length s.stack ∷ []) z)))
        (λ z. inr (λ e y. settled i e (old i lt ne) (z e (subst (λ x. Among e (next g x)) (stack_old i (old i lt ne)) y))))
        (k.left i (old i lt ne)))
        (number_same i (length s.stack))

    done : AreFinished g (set s.state d (length s.stack + 1)) s.count
    done = record {
      falling = λ r e here lt h.
          let ne = finished_old r lt in
          let o = other r ne in
          let was : none < look s.state r + s.count = omega (arith, lt, o) in
          let le = k.done.falling r e here was h in
          let apart : e ≢ d = λ z. absurd (let w : look s.state e ≡ 0 = ap (look s.state) z ∙ fresh in let f = k.few in let y = k.small in omega (arith, was, le, w)) in
          let p = other e apart in
          omega (arith, le, o, p);
      used = λ x lt. let (r, here, e) = k.done.used x lt in (r, here, ap (λ y. y + x) (other r (λ z. absurd (let w : look s.state r ≡ 0 = ap (look s.state) z ∙ fresh in let f = k.few in let y = k.small in omega (arith, lt, e, w)))) ∙ e);
      joined = λ r t here there lt e.
          let ne = finished_old r lt in
          let nf = finished_old t (subst (λ x. none < x + s.count) e lt) in
          let o = other r ne in
          k.done.joined r t here there (omega (arith, lt, o)) (sym o ∙ e ∙ other t nf);
    }

-- places of the stack have distinct rows
pub on_once : (g : Graph) (s : PathState) (i j : ℕ) → IsState g s → i < length s.stack → j < length s.stack → get_or s.stack i 0 ≡ get_or s.stack j 0 → i ≡ j
on_once g s i j k li lj e = let p = (k.on i li).place in let q = (k.on j lj).place in let f = ap (look s.state) e in omega arith

-- The same places have gone over other numbers of entries.

pub reframed : (g : Graph) (s : PathState) (frames : List (ℕ × ℕ)) → IsState g s → numbers_of frames ≡ numbers_of s.frames → ((i l d : ℕ) → Among (i, l) frames → Among d (take l (next g (get_or s.stack i 0))) → Settled g s i d) → IsState g (record s { frames = frames })
reframed g s frames k same over = record {
  long = k.long;
  on = λ i lt. record { inside = (k.on i lt).inside; place = (k.on i lt).place };
  placed = k.placed;
  outside = k.outside;
  walks = k.walks;
  gone_over = over;
  left = λ i lt. subst (λ xs. Among i xs ⊎ ((d : ℕ) → Among d (next g (get_or s.stack i 0)) → Settled g s i d)) (sym same) (k.left i lt);
  done = k.done;
  todo_in = λ i h. k.todo_in i (subst (Among i) same h);
  todo_rises = subst IsRising (sym same) k.todo_rises;
  starts_in = k.starts_in;
  starts_rise = k.starts_rise;
  first = k.first;
  few = k.few;
  small = k.small;
}

-- The row at the last place is left.

pub left_off : (g : Graph) (s : PathState) (p l : ℕ) → IsState g (with_top s p l) → ((d : ℕ) → Among d (next g (get_or s.stack p 0)) → Settled g s p d) → IsState g s
left_off g s p l k all = record {
  long = k.long;
  on = λ i lt. record { inside = (k.on i lt).inside; place = (k.on i lt).place };
  placed = k.placed;
  outside = k.outside;
  walks = k.walks;
  gone_over = λ i x d h y. k.gone_over i x d (among_left (i, x) s.frames ((p, l) ∷ []) h) y;
  left = left;
  done = k.done;
  todo_in = λ i h. k.todo_in i (subst (Among i) (sym todo) (among_left i (numbers_of s.frames) (p ∷ []) h));
  todo_rises = rising_front (numbers_of s.frames) p (subst IsRising todo k.todo_rises);
  starts_in = k.starts_in;
  starts_rise = k.starts_rise;
  first = k.first;
  few = k.few;
  small = k.small;
}
  where
    todo : numbers_of (s.frames ++ (p, l) ∷ []) ≡ numbers_of s.frames ++ p ∷ []
    todo = numbers_more s.frames p l

    left : (i : ℕ) → i < length s.stack → Among i (numbers_of s.frames) ⊎ ((d : ℕ) → Among d (next g (get_or s.stack i 0)) → Settled g s i d)
    left i lt = ⊎_elim
        (λ h. ⊎_elim
        (λ y. inl y)
        (λ (e : i ≡ p). inr (subst (λ x. (d : ℕ) → Among d (next g (get_or s.stack x 0)) → Settled g s x d) (sym e) all))
        (among_last i p (numbers_of s.frames) (subst (Among i) todo h)))
        (λ y. inr y)
        (k.left i lt)

-- The components after the place t are joined to that of t.

-- each row of the path leads to one of the last component
pub to_top : (g : Graph) (s : PathState) (p i : ℕ) → IsState g s → p < length s.stack → ((b : ℕ) → Among b s.starts → b ≤ p) → i < length s.stack → Leads g (get_or s.stack i 0) (get_or s.stack p 0)
to_top g s p i k lt top li = k.walks i p li lt (λ b h z. absurd (let y = top b h in omega arith))

pub merged : (g : Graph) (s : PathState) (starts : List ℕ) (p t : ℕ) → IsState g s → p < length s.stack → ((b : ℕ) → Among b s.starts → b ≤ p) → t < length s.stack → Leads g (get_or s.stack p 0) (get_or s.stack t 0) → AreBelow (t + 1) s.starts starts → IsState g (merging s starts)
merged g s starts p t k lt top within onto up = record {
  long = k.long;
  on = λ i li. record { inside = (k.on i li).inside; place = (k.on i li).place };
  placed = k.placed;
  outside = k.outside;
  walks = walks;
  gone_over = λ i l d h y. again i d (k.gone_over i l d h y);
  left = λ i li. ⊎_elim (λ h. inl h) (λ h. inr (λ d y. again i d (h d y))) (k.left i li);
  done = k.done;
  todo_in = k.todo_in;
  todo_rises = k.todo_rises;
  starts_in = λ b h. k.starts_in b (up.only b h).0;
  starts_rise = up.rising;
  first = λ z. up.kept 0 (k.first z) (omega arith);
  few = k.few;
  small = k.small;
}
  where
    again : (i d : ℕ) → Settled g s i d → Settled g (merging s starts) i d
    again i d (finished z) = finished z
    again i d (outside z) = outside z
    again i d (stacked j lj e c) = stacked j lj e (λ b h y. c b (up.only b h).0 y)

    through : (i j : ℕ) → i < length s.stack → j < length s.stack → Clear s.starts j t → Leads g (get_or s.stack i 0) (get_or s.stack j 0)
    through i j li lj c = leads_join g (get_or s.stack i 0) (get_or s.stack p 0) (get_or s.stack j 0) (to_top g s p i k lt top li) (leads_join g (get_or s.stack p 0) (get_or s.stack t 0) (get_or s.stack j 0) onto (k.walks t j within lj c))

    walks : (i j : ℕ) → i < length s.stack → j < length s.stack → Clear starts j i → Leads g (get_or s.stack i 0) (get_or s.stack j 0)
    walks i j li lj c = ⊎_elim
        (λ (early : i < t). k.walks i j li lj (λ b h z. ⊎_elim (λ (y : t < b). omega arith) (λ (le : b ≤ t). c b (up.kept b h (omega arith)) z) (less t b)))
        (λ (late : t ≤ i). through i j li lj (λ b h z. ⊎_elim (λ (y : t < b). y) (λ (le : b ≤ t). absurd (let y = c b (up.kept b h (omega arith)) z in omega arith)) (less t b)))
        (less i t)
