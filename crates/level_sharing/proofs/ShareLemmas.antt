-- The shares of all workers cover a list.
use Rattle.std.specs.List.{slice_range}
use Rattle.std.proofs.Math.Decide.{dec_lt}
use Rattle.std.proofs.Math.Nat.{mul-div_cancel_left, zero-div}
use Rattle.std.proofs.Common.{◌≡◌, ℕ, zero, suc, ◌+◌, ◌-◌, ◌*◌, ◌/◌, ◌<◌, ◌≤◌, ◌∙◌, List, length, slice_index_or, take, drop, sym, subst, ap, arith, length-drop, length-take}
use Rattle.std.proofs.lemmas.List.{get_or-take, get_or-drop, take-append-drop}
use Rattle.bip_defs.specs.Lists.{Among}
use Rattle.bip_defs.proofs.Sets.{among_at, among_right, among_take, place_among}
use Rattle.level_sharing.specs.Shares.{share_of}

-- a number past the first bound and before the last is between two bounds that follow each other
between : (bound : ℕ → ℕ) (k w : ℕ) → bound 0 ≤ k → k < bound w → (i : ℕ) × (i < w) × (bound i ≤ k) × (k < bound (i + 1))
between bound k zero first last = absurd (omega (arith, first, last))
between bound k (suc w) first last = by (dec_lt k (bound w)) (between bound k w first)
  where
    by : Dec (k < bound w) → (k < bound w → (i : ℕ) × (i < w) × (bound i ≤ k) × (k < bound (i + 1))) → (i : ℕ) × (i < suc w) × (bound i ≤ k) × (k < bound (i + 1))
    by (yes lt) more = let (i, few, at, to) = more lt in (i, omega (arith, few), at, to)
    by (no nlt) more = (w, omega arith, omega (arith, nlt), subst (λ n. k < bound n) (let e : suc w ≡ w + 1 = omega arith in e) last)

among_range : {X : Type 0} (xs : List X) (a b k : ℕ) (d : X) → a ≤ k → k < b → k < length xs → Among (slice_index_or xs k d) (slice_range xs a b)
among_range xs a b k d from to inside =
    let there : k - a < length (take (b - a) (drop a xs)) = let t = length-take (b - a) (drop a xs) in let l = length-drop a xs in omega (arith, t, l, from, to, inside) in
    let here : slice_index_or (take (b - a) (drop a xs)) (k - a) d ≡ slice_index_or xs k d =
    get_or-take (b - a) (drop a xs) (k - a) d (omega (arith, from, to)) ∙ get_or-drop a xs (k - a) d ∙ ap (λ n. slice_index_or xs n d) (let e : a + (k - a) ≡ k = omega (arith, from) in e) in
    subst (λ y. Among y (take (b - a) (drop a xs))) here (among_at (take (b - a) (drop a xs)) (k - a) d there)

pub shares_cover_list : {X : Type 0} (xs : List X) (workers : ℕ) (x : X) → 0 < workers → Among x xs → (i : ℕ) × (i < workers) × Among x (share_of xs workers i)
shares_cover_list xs workers x some m =
    let (k, inside, at) = place_among x x xs m in
    let whole : workers * length xs / workers ≡ length xs = mul-div_cancel_left (length xs) some in
    let none : 0 * length xs / workers ≡ 0 = ap (λ n. n / workers) (let e : 0 * length xs ≡ 0 = omega arith in e) ∙ zero-div workers in
    let (i, few, from, to) = between (λ i. i * length xs / workers) k workers (omega (arith, none)) (subst (λ n. k < n) (sym whole) inside) in
    (i, few, subst (λ y. Among y (share_of xs workers i)) at (among_range xs _ _ k x from to inside))

pub among_drop : {X : Type 0} (n : ℕ) (x : X) (xs : List X) → Among x (drop n xs) → Among x xs
among_drop n x xs m = subst (λ ys. Among x ys) (take-append-drop n xs) (among_right x (take n xs) (drop n xs) m)

pub share_within : {X : Type 0} (xs : List X) (workers i : ℕ) (x : X) → Among x (share_of xs workers i) → Among x xs
share_within xs workers i x m = among_drop _ x xs (among_take _ x _ m)
