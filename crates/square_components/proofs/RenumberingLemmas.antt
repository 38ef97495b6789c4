-- Numbers given anew, place by place.
use Rattle.std.proofs.Common.{◌≡◌, ◌≢◌, ◌⊎◌, ◌∙◌, ℕ, ◌+◌, ◌^◌, ◌<◌, ◌≤◌, List, length, get_or, set, refl, sym, ap, subst, inl, inr, ⊎_elim, arith, get_or-set_same, get_or-set_other}
use Rattle.std.proofs.lemmas.List.{length-set}
use Rattle.bip_defs.proofs.Sets.{number_same}
use Rattle.bip_graph.specs.Matching.{none}
use Rattle.square_components.specs.Renumbering.{AreRenumbered, Gives, known, first}

-- the first k places have new numbers
pub record AreGiven (old : List ℕ) (count k : ℕ) (new anew : List ℕ) (next : ℕ) : Type 0 where
  pub long : length new ≡ length old
  pub wide : length anew ≡ count
  pub rest : (c : ℕ) → k ≤ c → get_or new c 0 ≡ get_or old c 0
  pub each : (c : ℕ) → c < k → get_or old c 0 < count → get_or new c 0 ≡ get_or anew (get_or old c 0) 0
  pub outside : (c : ℕ) → c < k → ¬ (get_or old c 0 < count) → get_or new c 0 ≡ get_or old c 0
  pub seen : (c : ℕ) → c < k → get_or old c 0 < count → get_or anew (get_or old c 0) 0 < next
  pub had : (i : ℕ) → i < count → get_or anew i 0 ≢ none → (c : ℕ) × (c < k) × (get_or old c 0 ≡ i)
  pub apart : (i j : ℕ) → i < count → j < count → get_or anew i 0 ≢ none → get_or anew i 0 ≡ get_or anew j 0 → i ≡ j
  pub used : (x : ℕ) → x < next → (c : ℕ) × (c < k) × (get_or old c 0 < count) × (get_or anew (get_or old c 0) 0 ≡ x)
  pub earlier : (c x : ℕ) → c < k → get_or old c 0 < count → x < get_or anew (get_or old c 0) 0 → (d : ℕ) × (d < c) × (get_or old d 0 < count) × (get_or anew (get_or old d 0) 0 ≡ x)
  pub few : next ≤ k

-- of a place to come, or of the one after those before
before_or : (k c : ℕ) → c < k + 1 → (c < k) ⊎ (c ≡ k)
before_or k c lt = ⊎_elim (λ e. inr e) (λ ne. inl (omega (arith, lt, ne))) (number_same c k)

-- a number that is not to be given anew
pub given_other : (old : List ℕ) (count k : ℕ) (new anew : List ℕ) (next : ℕ) → AreGiven old count k new anew next → ¬ (get_or old k 0 < count) → AreGiven old count (k + 1) new anew next
given_other old count k new anew next s off = record {
  long = s.long;
  wide = s.wide;
  rest = λ c le. s.rest c (omega (arith, le));
  each = λ c lt below. s.each c (front c lt below) below;
  outside = λ c lt out. ⊎_elim (λ h. s.outside c h out) (λ (e : c ≡ k). s.rest c (omega (arith, e))) (before_or k c lt);
  seen = λ c lt below. s.seen c (front c lt below) below;
  had = λ i lt some. let (c, h, e) = s.had i lt some in (c, omega (arith, h), e);
  apart = s.apart;
  used = λ x lt. let (c, h, below, e) = s.used x lt in (c, omega (arith, h), below, e);
  earlier = λ c x lt below less. s.earlier c x (front c lt below) below less;
  few = let le = s.few in omega (arith, le);
}
  where
    front : (c : ℕ) → c < k + 1 → get_or old c 0 < count → c < k
    front c lt below = ⊎_elim (λ h. h) (λ (e : c ≡ k). absurd (off (subst (λ i. get_or old i 0 < count) e below))) (before_or k c lt)

-- a number that has a new one
pub given_known : (old : List ℕ) (count k : ℕ) (new anew : List ℕ) (next : ℕ) → AreGiven old count k new anew next → k < length old → get_or old k 0 < count → get_or anew (get_or old k 0) 0 ≢ none → AreGiven old count (k + 1) (set new k (get_or anew (get_or old k 0) 0)) anew next
given_known old count k new anew next s inside below some = record {
  long = length-set new k (get_or anew (get_or old k 0) 0) ∙ s.long;
  wide = s.wide;
  rest = λ c le. get_or-set_other new k c (get_or anew (get_or old k 0) 0) 0 (omega (arith, le)) ∙ s.rest c (omega (arith, le));
  each = λ c lt b. ⊎_elim (λ (h : c < k). get_or-set_other new k c (get_or anew (get_or old k 0) 0) 0 (omega (arith, h)) ∙ s.each c h b) (λ (e : c ≡ k). ap (λ i. get_or (set new k (get_or anew (get_or old k 0) 0)) i 0) e ∙ get_or-set_same new k (get_or anew (get_or old k 0) 0) 0 (let long = s.long in omega (arith, long, inside)) ∙ ap (λ i. get_or anew (get_or old i 0) 0) (sym e)) (before_or k c lt);
  outside = λ c lt out. ⊎_elim (λ (h : c < k). get_or-set_other new k c (get_or anew (get_or old k 0) 0) 0 (omega (arith, h)) ∙ s.outside c h out) (λ (e : c ≡ k). absurd (out (subst (λ i. get_or old i 0 < count) (sym e) below))) (before_or k c lt);
  seen = λ c lt b. ⊎_elim (λ h. s.seen c h b) (λ (e : c ≡ k). let less = s.seen was.0 was.1 (subst (λ i. i < count) (sym was.2) below) in subst (λ i. get_or anew i 0 < next) (was.2 ∙ ap (λ i. get_or old i 0) (sym e)) less) (before_or k c lt);
  had = λ i lt h. let (c, at, e) = s.had i lt h in (c, omega (arith, at), e);
  apart = s.apart;
  used = λ x lt. let (c, h, b, e) = s.used x lt in (c, omega (arith, h), b, e);
  earlier = λ c x lt b less. ⊎_elim (λ h. s.earlier c x h b less) (λ (e : c ≡ k).
      let same : get_or old c 0 ≡ get_or old was.0 0 = ap (λ i. get_or old i 0) e ∙ sym was.2 in
      let (d, h, bd, at) = s.earlier was.0 x was.1 (subst (λ i. i < count) (sym was.2) below) (subst (λ i. x < get_or anew i 0) same less) in
      let early = was.1 in
      (d, omega (arith, h, early, e), bd, at)) (before_or k c lt);
  few = let le = s.few in omega (arith, le);
}
  where
    was : (c : ℕ) × (c < k) × (get_or old c 0 ≡ get_or old k 0)
    was = s.had (get_or old k 0) below some

-- a number that gets the next one
pub given_next : (old : List ℕ) (count k : ℕ) (new anew : List ℕ) (next : ℕ) → AreGiven old count k new anew next → k < length old → k < none → get_or old k 0 < count → get_or anew (get_or old k 0) 0 ≡ none → AreGiven old count (k + 1) (set new k next) (set anew (get_or old k 0) next) (next + 1)
given_next old count k new anew next s inside small below unset = record {
  long = length-set new k next ∙ s.long;
  wide = length-set anew (get_or old k 0) next ∙ s.wide;
  rest = λ c le. get_or-set_other new k c next 0 (omega (arith, le)) ∙ s.rest c (omega (arith, le));
  each = λ c lt b. ⊎_elim (λ (h : c < k). get_or-set_other new k c next 0 (omega (arith, h)) ∙ s.each c h b ∙ sym (stays c h b)) (λ (e : c ≡ k). ap (λ i. get_or (set new k next) i 0) e ∙ get_or-set_same new k next 0 (let long = s.long in omega (arith, long, inside)) ∙ sym (here c e)) (before_or k c lt);
  outside = λ c lt out. ⊎_elim (λ (h : c < k). get_or-set_other new k c next 0 (omega (arith, h)) ∙ s.outside c h out) (λ (e : c ≡ k). absurd (out (subst (λ i. get_or old i 0 < count) (sym e) below))) (before_or k c lt);
  seen = λ c lt b. ⊎_elim (λ (h : c < k). let is = stays c h b in let less = s.seen c h b in omega (arith, is, less)) (λ (e : c ≡ k). let is = here c e in omega (arith, is)) (before_or k c lt);
  had = λ i lt h. ⊎_elim (λ (e : i ≡ get_or old k 0). (k, omega arith, sym e)) (λ ne. let (c, at, e) = s.had i lt (λ z. h (get_or-set_other anew (get_or old k 0) i next 0 ne ∙ z)) in (c, omega (arith, at), e)) (number_same i (get_or old k 0));
  apart = λ i j it jt h e. ⊎_elim
      (λ (a : i ≡ get_or old k 0). ⊎_elim (λ (b : j ≡ get_or old k 0). a ∙ sym b) (λ b. let less = fresh j jt b in let is = at_number i a in let same = get_or-set_other anew (get_or old k 0) j next 0 b in absurd (less (sym same ∙ sym e ∙ is))) (number_same j (get_or old k 0)))
      (λ a. ⊎_elim (λ (b : j ≡ get_or old k 0). let less = fresh i it a in let is = at_number j b in let same = get_or-set_other anew (get_or old k 0) i next 0 a in absurd (less (sym same ∙ e ∙ is))) (λ b. s.apart i j it jt (λ z. h (get_or-set_other anew (get_or old k 0) i next 0 a ∙ z)) (sym (get_or-set_other anew (get_or old k 0) i next 0 a) ∙ e ∙ get_or-set_other anew (get_or old k 0) j next 0 b)) (number_same j (get_or old k 0)))
      (number_same i (get_or old k 0));
  used = λ x lt. ⊎_elim (λ (e : x ≡ next). (k, omega arith, below, here k refl ∙ sym e)) (λ ne. let (c, h, b, e) = s.used x (omega (arith, lt, ne)) in (c, omega (arith, h), b, stays c h b ∙ e)) (number_same x next);
  earlier = λ c x lt b less. ⊎_elim
      (λ (h : c < k). let (d, early, bd, e) = s.earlier c x h b (let is = stays c h b in omega (arith, is, less)) in (d, early, bd, stays d (omega (arith, early, h)) bd ∙ e))
      (λ (e : c ≡ k). let (d, early, bd, at) = s.used x (let is = here c e in omega (arith, is, less)) in (d, omega (arith, early, e), bd, stays d early bd ∙ at))
      (before_or k c lt);
  few = let le = s.few in omega (arith, le);
}
  where
    little : next < none
    little = let le = s.few in omega (arith, le, small)

    at_number : (i : ℕ) → i ≡ get_or old k 0 → get_or (set anew (get_or old k 0) next) i 0 ≡ next
    at_number i e = ap (λ j. get_or (set anew (get_or old k 0) next) j 0) e ∙ get_or-set_same anew (get_or old k 0) next 0 (let wide = s.wide in omega (arith, wide, below))

    here : (c : ℕ) → c ≡ k → get_or (set anew (get_or old k 0) next) (get_or old c 0) 0 ≡ next
    here c e = at_number (get_or old c 0) (ap (λ i. get_or old i 0) e)

    other : (c : ℕ) → c < k → get_or old c 0 < count → get_or old c 0 ≢ get_or old k 0
    other c h b e = let less = s.seen c h b in let same : get_or anew (get_or old c 0) 0 ≡ get_or anew (get_or old k 0) 0 = ap (λ i. get_or anew i 0) e in absurd (omega (arith, less, same, unset, little))

    stays : (c : ℕ) → c < k → get_or old c 0 < count → get_or (set anew (get_or old k 0) next) (get_or old c 0) 0 ≡ get_or anew (get_or old c 0) 0
    stays c h b = get_or-set_other anew (get_or old k 0) (get_or old c 0) next 0 (other c h b)

    -- no other number has the next one
    fresh : (j : ℕ) → j < count → j ≢ get_or old k 0 → get_or anew j 0 ≢ next
    fresh j lt ne e = let (c, h, is) = s.had j lt (λ z. absurd (omega (arith, e, z, little))) in let less = s.seen c h (subst (λ i. i < count) (sym is) lt) in let same : get_or anew (get_or old c 0) 0 ≡ get_or anew j 0 = ap (λ i. get_or anew i 0) is in absurd (omega (arith, less, same, e))

-- a place gets its new number: the one that it has, or the next one
pub given_step : (old : List ℕ) (count k : ℕ) (new anew : List ℕ) (next number : ℕ) (anew2 : List ℕ) (next2 : ℕ) → AreGiven old count k new anew next → k < length old → length old < 2 ^ 32 → get_or new k 0 < count
    → Gives (get_or new k 0) anew next number anew2 next2 → AreGiven old count (k + 1) (set new k number) anew2 next2
given_step old count k new anew next number anew2 next2 s inside small below (known some r t n) =
    let same = s.rest k (omega arith) in
    rw (r, t, n, same) (given_known old count k new anew next s inside (subst (λ i. i < count) same below) (subst (λ i. get_or anew i 0 ≢ none) same some))
given_step old count k new anew next number anew2 next2 s inside small below (first unset r t n) =
    let same = s.rest k (omega arith) in
    rw (r, t, n, same) (given_next old count k new anew next s inside (omega (arith, inside, small)) (subst (λ i. i < count) same below) (subst (λ i. get_or anew i 0 ≡ none) same unset))

-- all places have new numbers
pub given_all : (old : List ℕ) (count k : ℕ) (new anew : List ℕ) (next : ℕ) → AreGiven old count k new anew next → k ≡ length old → length old < 2 ^ 32 → AreRenumbered old count new next
given_all old count k new anew next s end small = record {
  long = s.long;
  below = λ c lt b. let is = s.each c (omega (arith, lt, end)) b in let less = s.seen c (omega (arith, lt, end)) b in omega (arith, is, less);
  same = λ c d ct dt cb db. ((λ e. s.apart (get_or old c 0) (get_or old d 0) cb db (some c ct cb) (sym (s.each c (omega (arith, ct, end)) cb) ∙ e ∙ s.each d (omega (arith, dt, end)) db)), (λ e. s.each c (omega (arith, ct, end)) cb ∙ ap (λ i. get_or anew i 0) e ∙ sym (s.each d (omega (arith, dt, end)) db)));
  outside = λ c lt off. s.outside c (omega (arith, lt, end)) off;
  used = λ x lt. let (c, h, b, e) = s.used x lt in (c, omega (arith, h, end), b, s.each c h b ∙ e);
  earlier = λ c x lt b less. let is = s.each c (omega (arith, lt, end)) b in let (d, h, bd, e) = s.earlier c x (omega (arith, lt, end)) b (omega (arith, is, less)) in (d, h, bd, s.each d (omega (arith, h, lt, end)) bd ∙ e);
  few = let le = s.few in omega (arith, le, end);
}
  where
    some : (c : ℕ) → c < length old → get_or old c 0 < count → get_or anew (get_or old c 0) 0 ≢ none
    some c lt b e = let less = s.seen c (omega (arith, lt, end)) b in let le = s.few in absurd (omega (arith, less, e, le, end, small))
