-- Lists of all seats, one after the other, where the lists of one seat change.
use Rattle.std.proofs.Common.{◌≡◌, ◌≢◌, ◌∙◌, ◌⊎◌, ℕ, zero, suc, ◌+◌, ◌<◌, ◌≤◌, ◌==◌, if◌then◌else◌, List, [], ◌∷◌, ◌++◌, set, flat_map, refl, sym, ap, subst, inl, inr, ⊎_elim, arith, append-nil, append_assoc}
use Rattle.std.proofs.lemmas.Grind.{flat_map-append}
use mathlib.Core.Option.{some, some-injective, some-ne-none}
use lib.ListN.{get_elem?}
use Rattle.atomic_table.proofs.Lists.{set_else}
use Rattle.bip_defs.specs.Lists.{Among}
use Rattle.bip_defs.specs.Occurrences.{times}
use Rattle.bip_defs.proofs.Occurrences.{one_else, one_here, times_append}
use Rattle.bip_defs.proofs.Sets.{among_either, among_last, among_left, among_right, number_same}

-- How often a number is listed.

pub times_some : (i x : ℕ) (ps : List (ℕ × ℕ)) → Among (i, x) ps → 0 < times i ps
times_some i x [] h = elim h [ ]
times_some i x (p ∷ ps) h = ⊎_elim (λ (e : ◌≡◌ {A = ℕ × ℕ} (i, x) p). let e0 : p.0 ≡ i = ap (λ (q : ℕ × ℕ). q.0) (sym e) in omega (arith, one_here p.0 i e0)) (λ t. let lt = times_some i x ps t in omega (arith, lt)) h

pub times_none : (i : ℕ) (ps : List (ℕ × ℕ)) → ((x : ℕ) → ¬ Among (i, x) ps) → times i ps ≡ 0
times_none i [] none = refl
times_none i (p ∷ ps) none = let ne : p.0 ≢ i = λ e. none p.1 (inl (λ k. (sym e k, p.1))) in let rest = times_none i ps (λ x h. none x (inr h)) in omega (arith, one_else p.0 i ne, rest)

pub times_one : (i : ℕ) (ps : List (ℕ × ℕ)) → 0 < times i ps → (x : ℕ) × Among (i, x) ps
times_one i [] lt = absurd (omega arith)
times_one i (p ∷ ps) lt = ⊎_elim (λ (e : p.0 ≡ i). (p.1, inl (λ k. (sym e k, p.1)))) (λ ne. let t = times_one i ps (omega (arith, one_else p.0 i ne)) in (t.0, inr t.1)) (number_same p.0 i)

-- two lists in the other order

pub times_turned : (i : ℕ) (xs ys : List (ℕ × ℕ)) → times i (xs ++ ys) ≡ times i (ys ++ xs)
times_turned i xs ys = omega (arith, times_append i xs ys, times_append i ys xs)

pub among_turned : {X : Type 0} (x : X) (xs ys : List X) → Among x (xs ++ ys) → Among x (ys ++ xs)
among_turned x xs ys h = ⊎_elim (among_right x ys xs) (among_left x ys xs) (among_either x xs ys h)

-- Lists of many.

module _ {L X : Type 0} (g : L → List X) where
  -- each element comes from the lists that have changed, or was there
  pub among_set : (ls : List L) (k : ℕ) (m : L) (x : X) → Among x (flat_map g (set ls k m)) → Among x (g m) ⊎ Among x (flat_map g ls)
  among_set [] k m x h = inr h
  among_set (l ∷ ls) zero m x h = ⊎_elim inl (λ (t : Among x (flat_map g ls)). inr (among_right x (g l) (flat_map g ls) t)) (among_either x (g m) (flat_map g ls) h)
  among_set (l ∷ ls) (suc k) m x h = ⊎_elim (λ (t : Among x (g l)). inr (among_left x (g l) (flat_map g ls) t)) (λ t. ⊎_elim inl (λ (u : Among x (flat_map g ls)). inr (among_right x (g l) (flat_map g ls) u)) (among_set ls k m x t)) (among_either x (g l) (flat_map g (set ls k m)) h)

  pub among_flat : (ls : List L) (k : ℕ) (l : L) (x : X) → get_elem? ls k ≡ some l → Among x (g l) → Among x (flat_map g ls)
  among_flat [] k l x at h = absurd (some-ne-none l (sym at))
  among_flat (m ∷ ls) zero l x at h = among_left x (g m) (flat_map g ls) (subst (λ n. Among x (g n)) (sym (some-injective m l at)) h)
  among_flat (m ∷ ls) (suc k) l x at h = among_right x (g m) (flat_map g ls) (among_flat ls k l x at h)

  -- one list is moved to before another
  pub among_moved : (ls : List L) (k j : ℕ) (l m both none : L) (x : X) → get_elem? ls k ≡ some l → j ≢ k → get_elem? (set ls k both) j ≡ some m → g both ≡ g m ++ g l → g none ≡ []
      → Among x (flat_map g (set (set ls k both) j none)) → Among x (flat_map g ls)
  among_moved ls k j l m both none x at ne there b n h = ⊎_elim (λ t. absurd (subst (Among x) n t)) (λ t. ⊎_elim (λ u. ⊎_elim from_other from_own (among_either x (g m) (g l) (subst (Among x) b u))) (λ u. u) (among_set ls k both x t)) (among_set (set ls k both) j none x h)
    where
      from_other : Among x (g m) → Among x (flat_map g ls)
      from_other = among_flat ls j m x (sym (set_else ls k j both ne) ∙ there)

      from_own : Among x (g l) → Among x (flat_map g ls)
      from_own = among_flat ls k l x at

  -- one element more at the end of one list
  pub from_last : (ls : List L) (k : ℕ) (l m : L) (y : X) → get_elem? ls k ≡ some l → g m ≡ g l ++ y ∷ [] → (x : X) → Among x (flat_map g (set ls k m)) → (x ≡ y) ⊎ Among x (flat_map g ls)
  from_last ls k l m y at e x h = ⊎_elim (λ (t : Among x (g m)). ⊎_elim (λ (u : Among x (g l)). inr (among_flat ls k l x at u)) inl (among_last x y (g l) (subst (Among x) e t))) inr (among_set ls k m x h)

  -- a list at the end that is empty
  pub flat_snoc : (ls : List L) (m : L) → g m ≡ [] → flat_map g (ls ++ m ∷ []) ≡ flat_map g ls
  flat_snoc ls m e = flat_map-append g ls (m ∷ []) ∙ ap (λ xs. flat_map g ls ++ (xs ++ [])) e ∙ append-nil (flat_map g ls)

  -- one list more at the end, and what follows all
  pub flat_last : (ls : List L) (l : L) (xs : List X) → flat_map g (ls ++ l ∷ []) ++ xs ≡ flat_map g ls ++ (g l ++ xs)
  flat_last ls l xs = ap (λ ys. ys ++ xs) (flat_map-append g ls (l ∷ []) ∙ ap (λ ys. flat_map g ls ++ ys) (append-nil (g l))) ∙ append_assoc (flat_map g ls) (g l) xs

  -- a list in the place of one that has the same elements
  pub flat_same : (ls : List L) (k : ℕ) (l m : L) → get_elem? ls k ≡ some l → g m ≡ g l → flat_map g (set ls k m) ≡ flat_map g ls
  flat_same [] k l m at e = refl
  flat_same (x ∷ ls) zero l m at e = ap (λ xs. xs ++ flat_map g ls) (e ∙ ap g (sym (some-injective x l at)))
  flat_same (x ∷ ls) (suc k) l m at e = ap (λ xs. g x ++ xs) (flat_same ls k l m at e)

module _ {L : Type 0} (g : L → List (ℕ × ℕ)) where
  pub times_set : (ls : List L) (k : ℕ) (l m : L) (i : ℕ) → get_elem? ls k ≡ some l → times i (flat_map g (set ls k m)) + times i (g l) ≡ times i (flat_map g ls) + times i (g m)
  times_set [] k l m i at = absurd (some-ne-none l (sym at))
  times_set (x ∷ ls) zero l m i at = subst (λ n. times i (flat_map g (m ∷ ls)) + times i (g n) ≡ times i (flat_map g (x ∷ ls)) + times i (g m)) (some-injective x l at) (omega (arith, times_append i (g m) (flat_map g ls), times_append i (g x) (flat_map g ls)))
  times_set (x ∷ ls) (suc k) l m i at = let e = times_set ls k l m i at in omega (arith, e, times_append i (g x) (flat_map g (set ls k m)), times_append i (g x) (flat_map g ls))

  -- one entry more at the end of one list
  pub times_more : (ls : List L) (k : ℕ) (l m : L) (i x : ℕ) → get_elem? ls k ≡ some l → g m ≡ g l ++ (i, x) ∷ [] → (j : ℕ) → times j (flat_map g (set ls k m)) ≡ times j (flat_map g ls) + (if i == j then 1 else 0)
  times_more ls k l m i x at e j =
      let all = times_set ls k l m j at in
      let own = ap (times j) e ∙ times_append j (g l) ((i, x) ∷ []) in
      omega (arith, all, own)

  pub times_moved : (ls : List L) (k j : ℕ) (l m both none : L) (i : ℕ) → get_elem? ls k ≡ some l → get_elem? (set ls k both) j ≡ some m → g both ≡ g m ++ g l → g none ≡ []
      → times i (flat_map g (set (set ls k both) j none)) ≡ times i (flat_map g ls)
  times_moved ls k j l m both none i at there b n =
      let first = times_set ls k l both i at in
      let second = times_set (set ls k both) j m none i there in
      let sum = ap (times i) b ∙ times_append i (g m) (g l) in
      let gone : times i (g none) ≡ 0 = ap (times i) n in
      omega (arith, first, second, sum, gone)

  -- what one list names, and what two name together, is named as often in all

  pub times_of : (ls : List L) (k : ℕ) (l : L) (i : ℕ) → get_elem? ls k ≡ some l → times i (g l) ≤ times i (flat_map g ls)
  times_of [] k l i at = absurd (some-ne-none l (sym at))
  times_of (x ∷ ls) zero l i at = subst (λ y. times i (g y) ≤ times i (flat_map g (x ∷ ls))) (some-injective x l at) (omega (arith, times_append i (g x) (flat_map g ls)))
  times_of (x ∷ ls) (suc k) l i at = let le = times_of ls k l i at in omega (arith, le, times_append i (g x) (flat_map g ls))

  pub times_two : (ls : List L) (k j : ℕ) (l m : L) (i : ℕ) → get_elem? ls k ≡ some l → get_elem? ls j ≡ some m → j ≢ k → times i (g l) + times i (g m) ≤ times i (flat_map g ls)
  times_two [] k j l m i at there ne = absurd (some-ne-none l (sym at))
  times_two (x ∷ ls) zero zero l m i at there ne = absurd (ne refl)
  times_two (x ∷ ls) zero (suc j) l m i at there ne = subst (λ y. times i (g y) + times i (g m) ≤ times i (flat_map g (x ∷ ls))) (some-injective x l at) (let le = times_of ls j m i there in omega (arith, le, times_append i (g x) (flat_map g ls)))
  times_two (x ∷ ls) (suc k) zero l m i at there ne = subst (λ y. times i (g l) + times i (g y) ≤ times i (flat_map g (x ∷ ls))) (some-injective x m there) (let le = times_of ls k l i at in omega (arith, le, times_append i (g x) (flat_map g ls)))
  times_two (x ∷ ls) (suc k) (suc j) l m i at there ne = let le = times_two ls k j l m i at there (λ e. ne (ap suc e)) in omega (arith, le, times_append i (g x) (flat_map g ls))
