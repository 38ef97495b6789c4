-- What is known of rows at one level and of others behind them.
use Rattle.std.proofs.Common.{◌≡◌, ◌⊎◌, ◌↔◌, ℕ, ◌≤◌, List, [], ◌∷◌, ◌++◌, arith, inl, inr, length, subst, sym}
use Rattle.std.proofs.lemmas.List.{map-append}
use Rattle.bip_defs.specs.Lists.{Among}
use Rattle.bip_defs.proofs.Sets.{among_either, among_last, among_left, among_right}
use Rattle.integer_diagonal.specs.Nearness.{at_level}

-- the second list has one more than the first
abbrev pub HasMore : ℕ × ℕ → List (ℕ × ℕ) → List (ℕ × ℕ) → Type 0
HasMore x xs ys = (e : ℕ × ℕ) → Among e ys ↔ ((e ≡ x) ⊎ Among e xs)

-- and so it is with others behind both, or before both
front_more : (x : ℕ × ℕ) (ns ms hs : List (ℕ × ℕ)) → HasMore x ns ms → HasMore x (ns ++ hs) (ms ++ hs)
front_more x ns ms hs more e = (λ h. there (among_either e ms hs h), back)
  where
    there : Among e ms ⊎ Among e hs → (e ≡ x) ⊎ Among e (ns ++ hs)
    there (inl on) = first ((more e).0 on)
      where
        first : (e ≡ x) ⊎ Among e ns → (e ≡ x) ⊎ Among e (ns ++ hs)
        first (inl is) = inl is
        first (inr in_ns) = inr (among_left e ns hs in_ns)
    there (inr on) = inr (among_right e ns hs on)

    back : (e ≡ x) ⊎ Among e (ns ++ hs) → Among e (ms ++ hs)
    back (inl is) = among_left e ms hs ((more e).1 (inl is))
    back (inr on) = either (among_either e ns hs on)
      where
        either : Among e ns ⊎ Among e hs → Among e (ms ++ hs)
        either (inl in_ns) = among_left e ms hs ((more e).1 (inr in_ns))
        either (inr in_hs) = among_right e ms hs in_hs

pub back_more : (x : ℕ × ℕ) (ns hs ks : List (ℕ × ℕ)) → HasMore x hs ks → HasMore x (ns ++ hs) (ns ++ ks)
back_more x ns hs ks more e = (λ h. there (among_either e ns ks h), back)
  where
    there : Among e ns ⊎ Among e ks → (e ≡ x) ⊎ Among e (ns ++ hs)
    there (inl on) = inr (among_left e ns hs on)
    there (inr on) = first ((more e).0 on)
      where
        first : (e ≡ x) ⊎ Among e hs → (e ≡ x) ⊎ Among e (ns ++ hs)
        first (inl is) = inl is
        first (inr in_hs) = inr (among_right e ns hs in_hs)

    back : (e ≡ x) ⊎ Among e (ns ++ hs) → Among e (ns ++ ks)
    back (inl is) = among_right e ns ks ((more e).1 (inl is))
    back (inr on) = either (among_either e ns hs on)
      where
        either : Among e ns ⊎ Among e hs → Among e (ns ++ ks)
        either (inl in_ns) = among_left e ns ks in_ns
        either (inr in_hs) = among_right e ns ks ((more e).1 (inr in_hs))

last_more : (x : ℕ × ℕ) (xs : List (ℕ × ℕ)) → HasMore x xs (xs ++ x ∷ [])
last_more x xs e = (λ h. there (among_last e x xs h), back)
  where
    there : Among e xs ⊎ (e ≡ x) → (e ≡ x) ⊎ Among e xs
    there (inl on) = inr on
    there (inr is) = inl is

    back : (e ≡ x) ⊎ Among e xs → Among e (xs ++ x ∷ [])
    back (inl is) = among_right e xs (x ∷ []) (inl is)
    back (inr on) = among_left e xs (x ∷ []) on

-- the rows at the level have one more
pub near_more : (l r : ℕ) (rs ss : List ℕ) (hs : List (ℕ × ℕ)) → ss ≡ rs ++ r ∷ [] → HasMore (l, r) (at_level l rs ++ hs) (at_level l ss ++ hs)
near_more l r rs ss hs is =
    front_more (l, r) (at_level l rs) (at_level l ss) hs
    (subst (λ (ts : List ℕ). HasMore (l, r) (at_level l rs) (at_level l ts)) (sym is)
    (subst (λ (ts : List (ℕ × ℕ)). HasMore (l, r) (at_level l rs) ts) (sym (map-append (λ k. (l, k)) rs (r ∷ []))) (last_more (l, r) (at_level l rs))))

-- there are none at the level
pub none_more : (l k : ℕ) (rs ss : List ℕ) (x : ℕ × ℕ) (hs ks : List (ℕ × ℕ)) → length rs ≡ 0 → length ss ≡ 0 → HasMore x hs ks → HasMore x (at_level k ss ++ hs) (at_level l rs ++ ks)
none_more l k [] [] x hs ks none empty more = more
none_more l k [] (s ∷ ss) x hs ks none empty more = absurd (omega (arith, empty))
none_more l k (r ∷ rs) ss x hs ks none empty more = absurd (omega (arith, none))

-- ---- the nearest

abbrev pub IsNearestOf : ℕ → List (ℕ × ℕ) → Type 0
IsNearestOf d xs = (e : ℕ × ℕ) → Among e xs → d ≤ e.0

-- what is no farther than the level, and than all behind it
pub level_nearest : (d l : ℕ) (rs : List ℕ) (hs : List (ℕ × ℕ)) → d ≤ l → IsNearestOf d hs → IsNearestOf d (at_level l rs ++ hs)
level_nearest d l [] hs below near e on = near e on
level_nearest d l (r ∷ rs) hs below near e (inl is) = subst (λ (x : ℕ × ℕ). d ≤ x.0) (sym is) below
level_nearest d l (r ∷ rs) hs below near e (inr on) = level_nearest d l rs hs below near e on

pub none_nearest : (d l : ℕ) (rs : List ℕ) (hs : List (ℕ × ℕ)) → length rs ≡ 0 → IsNearestOf d hs → IsNearestOf d (at_level l rs ++ hs)
none_nearest d l [] hs none near = near
none_nearest d l (r ∷ rs) hs none near = absurd (omega (arith, none))
