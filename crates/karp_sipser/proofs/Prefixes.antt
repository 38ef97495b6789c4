-- The prefix of a list of rows or columns that a loop has passed.
use Rattle.std.proofs.Common.{◌≡◌, ◌≢◌, ◌⊎◌, ◌∙◌, ℕ, zero, suc, ◌+◌, ◌<◌, ◌≤◌, List, [], ◌∷◌, Bool, true, false, not, Option, None, Some, IfNone, IfSome, is_some, map, take, take_all, length, slice_index, slice_index_or, slice_set, refl, ap, sym, subst, inl, inr, ⊎_elim, arith}
use Rattle.std.proofs.lemmas.Bool.{cases_eq, true≢false}
use Rattle.std.proofs.lemmas.List.{get_or-set_other, get_or-set_same, length-map, length-set, take_more}
use Rattle.bip_defs.proofs.Sets.{among_last, among_left, among_right, below_each_sound}
use Rattle.bip_defs.specs.Lists.{Among, IsRising}
use Rattle.bip_defs.specs.Start.{IsLeast, IsOnly}

-- what was asked of a matching: no mate, or one
pub none_found : {X : Type 0} (found : Option X) (none : Bool) (A : Type 0) → is_some found ≡ not none → none ≡ true → IfNone found A → A
none_found None none A is test h = h
none_found (Some x) none A is test h = absurd (let e : true ≡ false = is ∙ ap not test in true≢false e)

pub some_found : {X : Type 0} (found : Option X) (none : Bool) (P : X → Type 0) → is_some found ≡ not none → none ≡ false → IfSome found P → (x : X) × P x
some_found None none P is test h = absurd (let e : true ≡ false = sym (is ∙ ap not test) in true≢false e)
some_found (Some x) none P is test h = (x, h)

-- the same of tests that were negated, and what is known where there was none
pub some_is : {X : Type 0} (found : Option X) (some : Bool) (P : X → Type 0) → some ≡ is_some found → some ≡ true → IfSome found P → (x : X) × P x
some_is None some P is test h = absurd (true≢false (sym test ∙ is))
some_is (Some x) some P is test h = (x, h)

pub none_is : {X : Type 0} (found : Option X) (some : Bool) (A : Type 0) → some ≡ is_some found → some ≡ false → IfNone found A → A
none_is None some A is test h = h
none_is (Some x) some A is test h = absurd (true≢false (sym is ∙ test))

pub known_none : {X : Type 0} (found : Option X) (A : Type 0) → A → IfNone found A
known_none None A h = h
known_none (Some x) A h = tt

pub if_some_only : (found : Option ℕ) (P Q : ℕ → Type 0) → ((x : ℕ) → P x → Q x) → ((x : ℕ) → Q x → P x) → IfSome found (IsOnly P) → IfSome found (IsOnly Q)
if_some_only None P Q to from o = tt
if_some_only (Some x) P Q to from o = (to x o.0, λ y q. o.1 y (from y q))

pub if_none_only : (found : Option ℕ) (P Q : ℕ → Type 0) → ((x : ℕ) → P x → Q x) → ((x : ℕ) → Q x → P x) → IfNone found ((x : ℕ) → ¬ IsOnly P x) → IfNone found (¬ ((x : ℕ) × IsOnly Q x))
if_none_only None P Q to from none = λ o. none o.0 (from o.0 o.1.0, λ y p. o.1.1 y (to y p))
if_none_only (Some x) P Q to from none = tt

pub flips : (b : Bool) → not b ≡ false → b ≡ true
flips true e = refl
flips false e = absurd (true≢false e)

-- what was read at a place
pub read_at : (xs : List ℕ) (i x : ℕ) → i < length xs → x ≡ slice_index_or xs i x → slice_index xs i ≡ x
read_at [] i x lt e = absurd (omega arith)
read_at (y ∷ ys) zero x lt e = sym e
read_at (y ∷ ys) (suc i) x lt e = read_at ys i x (omega arith) e

-- the head of a rising list is the least
pub head_least : (x y : ℕ) (xs ys : List ℕ) → ys ≡ x ∷ xs → IsRising ys → Among y ys → x ≤ y
head_least x y xs ys e up h =
    let up' : IsRising (x ∷ xs) = subst IsRising e up in
    let h' : Among y (x ∷ xs) = subst (Among y) e h in
    elim h' [ inl same ↦ omega (arith, same) | inr k ↦ omega (arith, below_each_sound x y xs up'.0 k) ]

-- what is not the head is of the rest
pub of_rest : (x y : ℕ) (xs ys : List ℕ) → ys ≡ x ∷ xs → Among y ys → y ≢ x → Among y xs
of_rest x y xs ys e h ne =
    let h' : Among y (x ∷ xs) = subst (Among y) e h in
    elim h' [ inl same ↦ absurd (ne same) | inr k ↦ k ]

-- what holds of each number up to a place, where the number at the next place was written
pub each_next : (F : ℕ → ℕ → Type 0) (ns : List ℕ) (k n : ℕ) → k < length ns → ((x : ℕ) → x < k → F x (slice_index ns x)) → F k n
    → (x : ℕ) → x < k + 1 → F x (slice_index (slice_set ns k n) x)
each_next F ns k n inside before last x lt = elim (cases_eq x k) [
  | inl e ↦ subst (λ z. F z (slice_index (slice_set ns k n) z)) (sym e) (subst (F k) (sym (get_or-set_same ns k n 0 inside)) last)
  | inr ne ↦ subst (F x) (sym (get_or-set_other ns k x n 0 ne)) (before x (omega arith))
]

-- the number of an element that was read
pub number_at : {X : Type 0} (f : X → ℕ) (xs : List X) (i : ℕ) (x : X) → i < length xs → x ≡ slice_index_or xs i x → slice_index (map f xs) i ≡ f x
number_at f [] i x lt e = absurd (omega arith)
number_at f (y ∷ ys) zero x lt e = ap f (sym e)
number_at f (y ∷ ys) (suc i) x lt e = number_at f ys i x (omega arith) e

pub among_index : (xs : List ℕ) (i : ℕ) → i < length xs → Among (slice_index xs i) xs
among_index [] i lt = absurd (omega arith)
among_index (x ∷ xs) zero lt = inl refl
among_index (x ∷ xs) (suc i) lt = inr (among_index xs i (omega arith))

-- the prefix with one element more
pub front_next : (x i : ℕ) (xs : List ℕ) → i < length xs → Among x (take (i + 1) xs) → Among x (take i xs) ⊎ (x ≡ slice_index xs i)
front_next x i xs lt h = among_last x (slice_index xs i) (take i xs) (rw (← take_more xs i 0 lt) h)

-- what rises, from the start on
pub front_or_later : (y i : ℕ) (xs : List ℕ) → IsRising xs → i < length xs → Among y xs → Among y (take i xs) ⊎ (slice_index xs i ≤ y)
front_or_later y i [] up lt h = elim h [ ]
front_or_later y zero (x ∷ xs) up lt (inl e) = inr (omega (arith, e))
front_or_later y zero (x ∷ xs) up lt (inr h) = inr (omega (arith, below_each_sound x y xs up.0 h))
front_or_later y (suc i) (x ∷ xs) up lt (inl e) = inl (inl e)
front_or_later y (suc i) (x ∷ xs) up lt (inr h) = ⊎_elim (λ k. inl (inr k)) (λ k. inr k) (front_or_later y i xs up.1 (omega arith) h)

pub not_in_front : (i : ℕ) (xs : List ℕ) → IsRising xs → i < length xs → ¬ Among (slice_index xs i) (take i xs)
not_in_front i [] up lt = absurd (omega arith)
not_in_front zero (x ∷ xs) up lt = λ h. h
not_in_front (suc i) (x ∷ xs) up lt = λ (h : Among (slice_index xs i) (x ∷ take i xs)).
    elim h [
      | inl e ↦ let below = below_each_sound x (slice_index xs i) xs up.0 (among_index xs i (omega arith)) in absurd (omega (arith, e, below))
      | inr k ↦ not_in_front i xs up.1 (omega arith) k
    ]

-- what the prefix has, and the next element, the longer prefix has
pub front_kept : (x i : ℕ) (xs : List ℕ) → i < length xs → Among x (take i xs) → Among x (take (i + 1) xs)
front_kept x i xs lt h = rw (take_more xs i 0 lt) (among_left x (take i xs) (slice_index xs i ∷ []) h)

pub front_last : (i : ℕ) (xs : List ℕ) → i < length xs → Among (slice_index xs i) (take (i + 1) xs)
front_last i xs lt = rw (take_more xs i 0 lt) (among_right (slice_index xs i) (take i xs) (slice_index xs i ∷ []) (inl refl))

pub front_among : (x i : ℕ) (xs : List ℕ) → Among x (take i xs) → Among x xs
front_among x zero xs h = absurd h
front_among x (suc i) [] h = absurd h
front_among x (suc i) (y ∷ xs) (inl e) = inl e
front_among x (suc i) (y ∷ xs) (inr h) = inr (front_among x i xs h)

-- the least of a rising list that is not among others, where all of the prefix are
pub least_from_front : (others xs : List ℕ) (i : ℕ) → IsRising xs → i < length xs → ((x : ℕ) → Among x (take i xs) → Among x others) → ¬ Among (slice_index xs i) others
    → IsLeast (λ x. Among x xs × (¬ Among x others)) (slice_index xs i)
least_from_front others xs i up lt before here =
    ((among_index xs i lt, here), λ y h. ⊎_elim (λ k. absurd (h.1 (before y k))) (λ le. le) (front_or_later y i xs up lt h.0))

pub others_next : (others xs : List ℕ) (i : ℕ) → i < length xs → ((x : ℕ) → Among x (take i xs) → Among x others) → Among (slice_index xs i) others
    → (x : ℕ) → Among x (take (i + 1) xs) → Among x others
others_next others xs i lt before here x h = ⊎_elim (λ k. before x k) (λ e. rw e here) (front_next x i xs lt h)

-- the only one of the prefix that is not among others, if one was found
abbrev pub IsFound : Option ℕ → List ℕ → List ℕ → Type 0
IsFound None others front = (x : ℕ) → Among x front → Among x others
IsFound (Some y) others front = IsOnly (λ x. Among x front × (¬ Among x others)) y

pub found_same : (found : Option ℕ) (others xs : List ℕ) (i : ℕ) → i < length xs → IsFound found others (take i xs) → Among (slice_index xs i) others → IsFound found others (take (i + 1) xs)
found_same None others xs i lt f here = others_next others xs i lt f here
found_same (Some y) others xs i lt f here = (
  (front_kept y i xs lt f.0.0, f.0.1),
  λ z h. ⊎_elim (λ k. f.1 z (k, h.1)) (λ e. absurd (h.1 (rw e here))) (front_next z i xs lt h.0),
)

pub found_first : (found : Option ℕ) (some : Bool) (x : ℕ) (others xs : List ℕ) (i : ℕ) → i < length xs → slice_index xs i ≡ x → some ≡ is_some found → some ≡ false → IsFound found others (take i xs) → ¬ Among x others
    → IsFound (Some x) others (take (i + 1) xs)
found_first (Some y) some x others xs i lt at is test f apart = absurd (true≢false (sym is ∙ test))
found_first None some x others xs i lt at is test f apart = (
  (subst (λ z. Among z (take (i + 1) xs)) at (front_last i xs lt), apart),
  λ z h. ⊎_elim (λ k. absurd (h.1 (f z k))) (λ e. e ∙ at) (front_next z i xs lt h.0),
)

pub found_second : (found : Option ℕ) (some : Bool) (others xs : List ℕ) (i : ℕ) → IsRising xs → i < length xs → some ≡ is_some found → some ≡ true → IsFound found others (take i xs) → ¬ Among (slice_index xs i) others
    → (z : ℕ) → ¬ IsOnly (λ x. Among x xs × (¬ Among x others)) z
found_second None some others xs i up lt is test f apart z o = absurd (true≢false (sym test ∙ is))
found_second (Some y) some others xs i up lt is test f apart z o =
    let first = o.1 y (front_among y i xs f.0.0, f.0.1) in
    let second = o.1 (slice_index xs i) (among_index xs i lt, apart) in
    not_in_front i xs up lt (subst (λ w. Among w (take i xs)) (first ∙ sym second) f.0.0)

-- at the end of the list
pub found_only : (found : Option ℕ) (others xs : List ℕ) (i : ℕ) → length xs ≤ i → IsFound found others (take i xs) → IfSome found (IsOnly (λ x. Among x xs × (¬ Among x others)))
found_only None others xs i past f = tt
found_only (Some y) others xs i past f = subst (λ ys. IsOnly (λ x. Among x ys × (¬ Among x others)) y) (take_all i xs past) f

pub found_none : (found : Option ℕ) (others xs : List ℕ) (i : ℕ) → length xs ≤ i → IsFound found others (take i xs) → IfNone found ((x : ℕ) → ¬ IsOnly (λ y. Among y xs × (¬ Among y others)) x)
found_none (Some y) others xs i past f = tt
found_none None others xs i past f = λ x o. o.0.1 (f x (subst (λ ys. Among x ys) (sym (take_all i xs past)) o.0.0))

-- the numbers of the prefix are those of f, the others are as before
pub record IsChanged (f : ℕ → ℕ) (old new prefix : List ℕ) : Type 0 where
  pub long : length new ≡ length old
  pub changed : (x : ℕ) → Among x prefix → slice_index new x ≡ f (slice_index old x)
  pub kept : (x : ℕ) → ¬ Among x prefix → slice_index new x ≡ slice_index old x

changed_here : (f : ℕ → ℕ) (old new xs : List ℕ) (i : ℕ) → IsRising xs → i < length xs → slice_index xs i < length old → IsChanged f old new (take i xs)
    → IsChanged f old (slice_set new (slice_index xs i) (f (slice_index new (slice_index xs i)))) (take (i + 1) xs)
changed_here f old new xs i up lt inside s =
    let x = slice_index xs i in
    let n = f (slice_index new x) in
    let fresh = not_in_front i xs up lt in
    let room : x < length new = omega (arith, s.long) in
    let here : slice_index (slice_set new x n) x ≡ n = get_or-set_same new x n 0 room in
    let off : (y : ℕ) → y ≢ x → slice_index (slice_set new x n) y ≡ slice_index new y = λ y ne. get_or-set_other new x y n 0 ne in
    record {
      long = length-set new x n ∙ s.long;
      changed = λ y h. elim (cases_eq y x) [
        | inl e ↦ rw e (here ∙ ap f (s.kept x fresh))
        | inr ne ↦ off y ne ∙ s.changed y (⊎_elim (λ k. k) (λ e. absurd (ne e)) (front_next y i xs lt h))
      ];
      kept = λ y h. let ne : y ≢ x = λ e. h (rw (e, take_more xs i 0 lt) (among_right x (take i xs) (x ∷ []) (inl refl))) in off y ne ∙ s.kept y (λ k. h (rw (take_more xs i 0 lt) (among_left y (take i xs) (x ∷ []) k)));
    }

-- the same, of an element that was read
pub changed_next : (f : ℕ → ℕ) (old new xs : List ℕ) (i x n : ℕ) → IsRising xs → i < length xs → slice_index xs i ≡ x → x < length old → IsChanged f old new (take i xs) → n ≡ f (slice_index new x)
    → IsChanged f old (slice_set new x n) (take (i + 1) xs)
changed_next f old new xs i x n up lt at inside s is =
    subst (λ y. IsChanged f old (slice_set new y n) (take (i + 1) xs)) at
    (rw (let e : n ≡ f (slice_index new (slice_index xs i)) = rw at is in e) (changed_here f old new xs i up lt (rw at inside) s))

-- an element that was read is on the list, and its number is in range
pub read_among : {X : Type 0} (f : X → ℕ) (xs : List X) (i n : ℕ) (x : X) → i < length xs → x ≡ slice_index_or xs i x → ((y : ℕ) → Among y (map f xs) → y < n) → f x < n
read_among f xs i n x lt e within = within (f x) (rw (← number_at f xs i x lt e) (among_index (map f xs) i (rw length-map lt)))
