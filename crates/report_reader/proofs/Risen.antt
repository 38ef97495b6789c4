-- Lists that rise, number by number.
use Rattle.std.proofs.Common.{◌≡◌, ◌<◌, ◌≤◌, ◌+◌, ℕ, true, false, List, ◌∷◌, length, map, get_or, drop, refl, ap, ◌∙◌, arith, add-one, drop-cons, lt-ltb, le-ltb}
use Rattle.std.proofs.lemmas.List.{drop_all}
use Rattle.report_reader.specs.ReportGrammar.{rises_from}

prefix : {X : Type 0} (f : X → ℕ) (xs : List X) (i : ℕ) (d : X) → i < length xs → map f (drop i xs) ≡ f (get_or xs i d) ∷ map f (drop (i + 1) xs)
prefix f xs i d inside = rw (add-one, drop-cons xs i d) refl

-- too small a number stands there
pub falls : {X : Type 0} (f : X → ℕ) (xs : List X) (i : ℕ) (d : X) (least n : ℕ) → i < length xs → n ≡ f (get_or xs i d) → n < least → rises_from least (map f (drop i xs)) ≡ false
unfolding rises_from
falls f xs i d least n inside is less = ap (rises_from least) (prefix f xs i d inside) ∙ rw (← is, lt-ltb n least less) refl

-- a number that is large enough stands there
pub rises_on : {X : Type 0} (f : X → ℕ) (xs : List X) (i : ℕ) (d : X) (least n : ℕ) → i < length xs → n ≡ f (get_or xs i d) → least ≤ n
    → rises_from least (map f (drop i xs)) ≡ rises_from (n + 1) (map f (drop (i + 1) xs))
unfolding rises_from
rises_on f xs i d least n inside is more =
    ap (rises_from least) (prefix f xs i d inside) ∙ rw (← is, le-ltb n least more) (ap (λ (k : ℕ). rises_from k (map f (drop (i + 1) xs))) (omega arith))

pub rises_through : {X : Type 0} (f : X → ℕ) (xs : List X) (i least : ℕ) → length xs ≤ i → rises_from least (map f (drop i xs)) ≡ true
unfolding rises_from
rises_through f xs i least ended = rw (drop_all i xs ended) refl
