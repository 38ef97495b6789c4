-- Sums of numbers that have something, with a unit for each, modulo 2^32.
use Rattle.std.proofs.Common.{◌≡◌, ◌≢◌, ◌∙◌, ℕ, suc, ◌+◌, ◌-◌, ◌*◌, ◌%◌, ◌^◌, ◌<◌, ◌≤◌, List, [], ◌∷◌, length, slice_index, take, ap, sym, subst, refl, inl, inr, arith}
use Rattle.std.proofs.Math.Nat.{add-mod_right, mod-add-mod, mod-eq_of_lt, mul-le-mul_right}
use Rattle.std.proofs.lemmas.List.{take_more}
use Rattle.std.proofs.lemmas.List.Sums.{sum_by-cons, sum_by_push}
use Rattle.bip_defs.proofs.Sets.{below_each_from, below_each_sound, Drops, drops_gone, drops_kept, drops_only, here, later, lists_same, lists_unique, rising_distinct, taken}
use Rattle.bip_defs.specs.Lists.{Among, IsRising, Lists}
use Rattle.bip_defs.specs.Start.{IsOnly}
use Rattle.karp_sipser.specs.NeighbourSums.{IsShort, IsSum, LooksLikeOne, total, wrapping_sub}

total_next : (u x : ℕ) (xs : List ℕ) → total u (x ∷ xs) ≡ u + x + total u xs
total_next u x xs = sum_by-cons (λ x. u + x) x xs

pub sum_same : (u : ℕ) (P Q : ℕ → Type 0) (s : ℕ) → ((x : ℕ) → P x → Q x) → ((x : ℕ) → Q x → P x) → IsSum u P s → IsSum u Q s
sum_same u P Q s to from k = record { having = k.having; lists = lists_same P Q k.having to from k.lists; sum_is = k.sum_is }

drops_total : (u : ℕ) {x : ℕ} {xs ys : List ℕ} → Drops x xs ys → total u xs ≡ total u ys + (u + x)
drops_total u {x = x} (here {xs = xs}) = omega (arith, total_next u x xs)
drops_total u (later {xs = xs} {ys = ys} y d) = omega (arith, total_next u y xs, total_next u y ys, drops_total u d)

-- a number that is added and taken off again leaves the sum
pub sub_added : (s x : ℕ) → x < 2 ^ 32 → wrapping_sub ((s + x) % 2 ^ 32) x ≡ s % 2 ^ 32
sub_added s x lt = mod-add-mod (s + x) (2 ^ 32) (2 ^ 32 - x) ∙ ap (λ n. n % 2 ^ 32) (let e : s + x + (2 ^ 32 - x) ≡ s + 2 ^ 32 = omega arith in e) ∙ add-mod_right s (2 ^ 32)

-- the same of a number modulo 2^32
sub_rest : (s x : ℕ) → wrapping_sub ((s + x) % 2 ^ 32) (x % 2 ^ 32) ≡ s % 2 ^ 32
sub_rest s x = omega arith

drops_rising : {x : ℕ} {xs ys : List ℕ} → Drops x xs ys → IsRising xs → IsRising ys
drops_rising here up = up.1
drops_rising (later {xs = xs} {ys = ys} y d) up = (below_each_from y ys (λ z h. below_each_sound y z xs up.0 (drops_only d z h)), drops_rising d up.1)

-- the list without one that has P
lists_without : (P Q : ℕ → Type 0) (x : ℕ) (xs : List ℕ) → Lists P xs → P x → ((y : ℕ) → Q y → P y × (y ≢ x)) → ((y : ℕ) → P y → y ≢ x → Q y) → (ys : List ℕ) × Drops x xs ys × Lists Q ys
lists_without P Q x xs l p to from =
    let (ys, d) = taken x xs (l.complete x p) in (
      ys,
      d,
      record {
        rising = drops_rising d l.rising;
        sound = λ y h. from y (l.sound y (drops_only d y h)) (λ e. drops_gone d (rising_distinct xs l.rising) (subst (λ z. Among z ys) e h));
        complete = λ y q. let m = to y q in elim (drops_kept d y (l.complete y m.0)) [ inl e ↦ absurd (m.1 e) | inr h ↦ h ];
      },
    )

-- without one that has P, the sum is less by this one and a unit
pub sum_without : (u : ℕ) (P Q : ℕ → Type 0) (s x : ℕ) → IsSum u P s → P x → ((y : ℕ) → Q y → P y × (y ≢ x)) → ((y : ℕ) → P y → y ≢ x → Q y) → IsSum u Q (wrapping_sub s ((u + x) % 2 ^ 32))
sum_without u P Q s x k p to from =
    let (ys, d, l) = lists_without P Q x k.having k.lists p to from in
    record {
      having = ys;
      lists = l;
      sum_is = sym (sub_rest (total u ys) (u + x)) ∙ ap (λ n. wrapping_sub (n % 2 ^ 32) ((u + x) % 2 ^ 32)) (sym (drops_total u d)) ∙ ap (λ n. wrapping_sub n ((u + x) % 2 ^ 32)) k.sum_is;
    }

-- the sum of one number shows it
one_shown : (u x : ℕ) → u < 2 ^ 32 → x < 2 ^ 32 → wrapping_sub (total u (x ∷ []) % 2 ^ 32) u ≡ x
one_shown u x fits small = ap (λ n. wrapping_sub (n % 2 ^ 32) u) (let e : total u (x ∷ []) ≡ x + u = omega (arith, total_next u x []) in e) ∙ sub_added x u fits ∙ mod-eq_of_lt small

alone : (P : ℕ → Type 0) (x : ℕ) → IsOnly P x → Lists P (x ∷ [])
alone P x o = record {
  rising = (tt, tt);
  sound = λ y (h : Among y (x ∷ [])). elim h [ inl e ↦ subst P (sym e) o.0 | inr k ↦ absurd k ];
  complete = λ y p. inl (o.1 y p);
}

-- where one number alone has P, the sum looks like one number's
pub one_looks : (u : ℕ) (P : ℕ → Type 0) (s x : ℕ) → u < 2 ^ 32 → x < u → IsSum u P s → IsOnly P x → LooksLikeOne u s
one_looks u P s x fits lt k o =
    let shown : wrapping_sub s u ≡ x = ap (λ n. wrapping_sub n u) (sym k.sum_is) ∙ ap (λ xs. wrapping_sub (total u xs % 2 ^ 32) u) (lists_unique P k.having (x ∷ []) k.lists (alone P x o)) ∙ one_shown u x fits (omega arith) in
    omega (arith, shown, lt)

total_most : (u : ℕ) (xs : List ℕ) → ((x : ℕ) → Among x xs → x < u) → total u xs ≤ length xs * (u + u)
total_most u [] below = omega arith
total_most u (x ∷ xs) below =
    let more : suc (length xs) * (u + u) ≡ u + u + length xs * (u + u) = grind arith in
    omega (arith, total_next u x xs, below x (inl refl), total_most u xs (λ y h. below y (inr h)), more)

-- where at most so many numbers have P, all of them below the unit, a sum that looks like one number's is one's
shown_one : (u : ℕ) (P : ℕ → Type 0) (s n : ℕ) (xs : List ℕ) → 0 < u → u < 2 ^ 32 → Lists P xs → total u xs % 2 ^ 32 ≡ s → ((x : ℕ) → P x → x < u) → length xs ≤ n → IsShort u n → LooksLikeOne u s → IsOnly P (wrapping_sub s u)
shown_one u P s n [] some fits l is below few short looks =
    let least : u + u ≤ suc n * (u + u) = grind arith in
    let none : s ≡ 0 = sym is in
    absurd (omega (arith, least, short, none, looks))
shown_one u P s n (x ∷ []) some fits l is below few short looks =
    let p = l.sound x (inl refl) in
    let shown : x ≡ wrapping_sub s u = sym (one_shown u x fits (omega (arith, below x p))) ∙ ap (λ n. wrapping_sub n u) is in
    subst (IsOnly P) shown (p, λ y q. elim (l.complete y q) [ inl e ↦ e | inr k ↦ absurd k ])
shown_one u P s n (x ∷ y ∷ xs) some fits l is below few short looks =
    let most = total_most u (x ∷ y ∷ xs) (λ z h. below z (l.sound z h)) in
    let fewer : length (x ∷ y ∷ xs) * (u + u) ≤ n * (u + u) = mul-le-mul_right (u + u) few in
    let one_more : suc n * (u + u) ≡ u + u + n * (u + u) = grind arith in
    let whole : total u (x ∷ y ∷ xs) < 2 ^ 32 = omega (arith, most, fewer, one_more, short, some) in
    let least : u + u ≤ total u (x ∷ y ∷ xs) = omega (arith, total_next u x (y ∷ xs), total_next u y xs) in
    let same : total u (x ∷ y ∷ xs) ≡ s = sym (mod-eq_of_lt whole) ∙ is in
    absurd (omega (arith, whole, least, same, looks))

pub looks_only : (u : ℕ) (P : ℕ → Type 0) (s n : ℕ) → 0 < u → u < 2 ^ 32 → (k : IsSum u P s) → ((x : ℕ) → P x → x < u) → length k.having ≤ n → IsShort u n → LooksLikeOne u s → IsOnly P (wrapping_sub s u)
looks_only u P s n some fits k below few short looks = shown_one u P s n k.having some fits k.lists k.sum_is below few short looks

-- the sum of a prefix that has grown by one
pub sum_next : (u : ℕ) (xs : List ℕ) (i s n : ℕ) → i < length xs → slice_index xs i ≡ n → s ≡ total u (take i xs) % 2 ^ 32 → (s + (u + n) % 2 ^ 32) % 2 ^ 32 ≡ total u (take (i + 1) xs) % 2 ^ 32
sum_next u xs i s n lt at so =
    let more : total u (take (i + 1) xs) ≡ total u (take i xs) + (u + n) = ap (total u) (take_more xs i 0 lt) ∙ sum_by_push (λ x. u + x) (take i xs) (slice_index xs i) ∙ ap (λ k. total u (take i xs) + (u + k)) at in
    omega (arith, so, more)
