-- Places and values that are kept apart, seen as entries.
use Rattle.std.proofs.Common.{◌≡◌, ℕ, ℤ, pos, List, [], ◌∷◌, ◌++◌, length, get_or, map, subst, ◌<◌, ◌∙◌, ap, arith, refl, sym}
use Rattle.std.specs.List.{AllByRecursion}
use Rattle.std.proofs.lemmas.List.Elements.{All-get_or, All-push, All-from_recursion, recursion_from_All}
use Rattle.sp_ids.specs.Entries.{Triple, place, IsInside}
use Rattle.sp_ids.specs.Stored.{items_of}

pub length-items_of : (ps : List (ℕ × ℕ)) (vs : List ℤ) → length (items_of ps vs) ≡ length ps
length-items_of [] vs = refl
length-items_of (p ∷ ps) [] = grind (arith, length-items_of ps [])
length-items_of (p ∷ ps) (v ∷ vs) = grind (arith, length-items_of ps vs)

pub places-items_of : (ps : List (ℕ × ℕ)) (vs : List ℤ) → map place (items_of ps vs) ≡ ps
places-items_of [] vs = refl
places-items_of (p ∷ ps) [] = ap (λ (qs : List (ℕ × ℕ)). p ∷ qs) (places-items_of ps [])
places-items_of (p ∷ ps) (v ∷ vs) = ap (λ (qs : List (ℕ × ℕ)). p ∷ qs) (places-items_of ps vs)

pub values-items_of : (ps : List (ℕ × ℕ)) (vs : List ℤ) → length vs ≡ length ps
    → map (λ (t : Triple). t.value) (items_of ps vs) ≡ vs
values-items_of [] [] same = refl
values-items_of [] (v ∷ vs) same = grind arith
values-items_of (p ∷ ps) [] same = grind arith
values-items_of (p ∷ ps) (v ∷ vs) same = ap (λ (us : List ℤ). v ∷ us) (values-items_of ps vs (omega (arith, same)))

items_of-snoc : (ps : List (ℕ × ℕ)) (p : ℕ × ℕ)
    → items_of (ps ++ p ∷ []) [] ≡ items_of ps [] ++ record { row = p.0; col = p.1; value = pos 0 } ∷ []
items_of-snoc [] p = refl
items_of-snoc (q ∷ ps) p =
    ap (λ (ts : List Triple). record { row = q.0; col = q.1; value = pos 0 } ∷ ts) (items_of-snoc ps p)

items_of-snoc_both : (ps : List (ℕ × ℕ)) (vs : List ℤ) (p : ℕ × ℕ) (v : ℤ) → length vs ≡ length ps
    → items_of (ps ++ p ∷ []) (vs ++ v ∷ []) ≡ items_of ps vs ++ record { row = p.0; col = p.1; value = v } ∷ []
items_of-snoc_both [] [] p v same = refl
items_of-snoc_both [] (u ∷ vs) p v same = grind arith
items_of-snoc_both (q ∷ ps) [] p v same = grind arith
items_of-snoc_both (q ∷ ps) (u ∷ vs) p v same =
    ap (λ (ts : List Triple). record { row = q.0; col = q.1; value = u } ∷ ts)
    (items_of-snoc_both ps vs p v (omega (arith, same)))

-- one more place, and no values
pub items_of-place : (ps qs : List (ℕ × ℕ)) (vs : List ℤ) (p : ℕ × ℕ) (v : ℤ)
    → qs ≡ ps ++ p ∷ [] → vs ≡ [] → v ≡ pos 0
    → items_of qs vs ≡ items_of ps vs ++ record { row = p.0; col = p.1; value = v } ∷ []
items_of-place ps qs vs p v more none zero = rw (more, none, zero) (items_of-snoc ps p)

-- one more place with its value
pub items_of-both : (ps qs : List (ℕ × ℕ)) (vs us : List ℤ) (p : ℕ × ℕ) (v : ℤ)
    → qs ≡ ps ++ p ∷ [] → us ≡ vs ++ v ∷ [] → length vs ≡ length ps
    → items_of qs us ≡ items_of ps vs ++ record { row = p.0; col = p.1; value = v } ∷ []
items_of-both ps qs vs us p v more more_values same = rw (more, more_values) (items_of-snoc_both ps vs p v same)

-- an index reads a place that is inside
pub is_inside_at : (rows cols : ℕ) (ps : List (ℕ × ℕ)) (i : ℕ) (p : ℕ × ℕ)
    → AllByRecursion (IsInside rows cols) ps → i < length ps → p ≡ get_or ps i p → IsInside rows cols p
is_inside_at rows cols ps i p all h e =
    subst (IsInside rows cols) (sym e)
    (All-get_or (IsInside rows cols) ps i p h (All-from_recursion (IsInside rows cols) ps all))

-- one more place that is inside
pub all_inside_push : (rows cols : ℕ) (ps : List (ℕ × ℕ)) (p : ℕ × ℕ)
    → AllByRecursion (IsInside rows cols) ps → IsInside rows cols p → AllByRecursion (IsInside rows cols) (ps ++ p ∷ [])
all_inside_push rows cols ps p all one =
    recursion_from_All (IsInside rows cols) (ps ++ p ∷ [])
    (All-push (IsInside rows cols) ps p (All-from_recursion (IsInside rows cols) ps all) one)

-- there are entries where there are places
pub nil-items_of : (ps : List (ℕ × ℕ)) (vs : List ℤ) → length ps ≡ 0 → items_of ps vs ≡ []
nil-items_of [] vs none = refl
nil-items_of (p ∷ ps) vs none = grind arith

pub length-from_nil : (ps : List (ℕ × ℕ)) (vs : List ℤ) → items_of ps vs ≡ [] → length ps ≡ 0
length-from_nil ps vs none = sym (length-items_of ps vs) ∙ ap (length {A = Triple}) none
