-- The parts of joined lists.
use Rattle.std.proofs.Common.{◌≡◌, ℕ, Bool, true, false, cond, if◌then◌else◌, List, [], ◌∷◌, ◌++◌, refl, sym, ap, ◌∙◌, append_assoc, append-nil}
use Rattle.std.specs.List.{slice_split, onto_first}
use Rattle.mm_defs.specs.Words.{but_last, but_empty_last, last_part, has_bytes}

-- the parts, the first of them behind these elements
abbrev pub joined_to : List ℕ → List (List ℕ) → List (List ℕ)
joined_to prefix [] = prefix ∷ []
joined_to prefix (part ∷ parts) = (prefix ++ part) ∷ parts

cons_case : (x : ℕ) (parts : List (List ℕ)) (b : Bool) → (first : List ℕ) × (others : List (List ℕ)) × (cond b ([] ∷ parts) (onto_first x parts) ≡ first ∷ others)
cons_case x parts true = ([], parts, refl)
cons_case x [] false = (x ∷ [], [], refl)
cons_case x (s ∷ ss) false = (x ∷ s, ss, refl)

-- there is a first part
pub split_cons : (p : ℕ → Bool) (xs : List ℕ) → (first : List ℕ) × (others : List (List ℕ)) × (slice_split p xs ≡ first ∷ others)
split_cons p [] = ([], [], refl)
split_cons p (x ∷ xs) = cons_case x (slice_split p xs) (p x)

onto_joined : (x : ℕ) (s : List ℕ) (ys : List (List ℕ)) → onto_first x (joined_to s ys) ≡ joined_to (x ∷ s) ys
onto_joined x s [] = refl
onto_joined x s (y ∷ ys) = refl

step : (x : ℕ) (s : List ℕ) (ss rs ys : List (List ℕ)) (b : Bool)
    → rs ≡ but_last (s ∷ ss) ++ joined_to (last_part (s ∷ ss)) ys
    → cond b ([] ∷ rs) (onto_first x rs) ≡ but_last (cond b ([] ∷ s ∷ ss) (onto_first x (s ∷ ss))) ++ joined_to (last_part (cond b ([] ∷ s ∷ ss) (onto_first x (s ∷ ss)))) ys
step x s ss rs ys true e = ap (λ (t : List (List ℕ)). [] ∷ t) e
step x s [] rs ys false e = ap (onto_first x) e ∙ onto_joined x s ys
step x s (q ∷ qs) rs ys false e = ap (onto_first x) e

-- a prefix's last part and the first part behind it are one
pub split-append : (p : ℕ → Bool) (xs ys : List ℕ) → slice_split p (xs ++ ys) ≡ but_last (slice_split p xs) ++ joined_to (last_part (slice_split p xs)) (slice_split p ys)
split-append p [] ys = let c = split_cons p ys in rw c.2 refl
split-append p (x ∷ xs) ys =
    let c = split_cons p xs in
    let e : slice_split p (xs ++ ys) ≡ but_last (c.0 ∷ c.1) ++ joined_to (last_part (c.0 ∷ c.1)) (slice_split p ys) = rw (← c.2) (split-append p xs ys) in
    rw c.2 (step x c.0 c.1 _ _ (p x) e)

pub but_last-append : (prefix : List (List ℕ)) (x : List ℕ) (bs : List (List ℕ)) → but_last (prefix ++ x ∷ bs) ≡ prefix ++ but_last (x ∷ bs)
but_last-append [] x bs = refl
but_last-append (a ∷ []) x bs = refl
but_last-append (a ∷ b ∷ prefix) x bs = ap (◌∷◌ a) (but_last-append (b ∷ prefix) x bs)

pub but_empty_last-append : (prefix : List (List ℕ)) (x : List ℕ) (bs : List (List ℕ)) → but_empty_last (prefix ++ x ∷ bs) ≡ prefix ++ but_empty_last (x ∷ bs)
but_empty_last-append [] x bs = refl
but_empty_last-append (a ∷ []) x bs = refl
but_empty_last-append (a ∷ b ∷ prefix) x bs = ap (◌∷◌ a) (but_empty_last-append (b ∷ prefix) x bs)

pub last_part-append : (prefix : List (List ℕ)) (x : List ℕ) (bs : List (List ℕ)) → last_part (prefix ++ x ∷ bs) ≡ last_part (x ∷ bs)
last_part-append [] x bs = refl
last_part-append (a ∷ []) x bs = refl
last_part-append (a ∷ b ∷ prefix) x bs = last_part-append (b ∷ prefix) x bs

-- the parts are all but the last, and the last
pub parts_are : (x : List ℕ) (xs : List (List ℕ)) → x ∷ xs ≡ but_last (x ∷ xs) ++ last_part (x ∷ xs) ∷ []
parts_are x [] = refl
parts_are x (y ∷ ys) = ap (λ (t : List (List ℕ)). x ∷ t) (parts_are y ys)

-- at the end the last part counts where it is not empty
pub but_empty_last-is : (parts : List (List ℕ)) → but_empty_last parts ≡ but_last parts ++ (if has_bytes (last_part parts) then last_part parts ∷ [] else [])
but_empty_last-is [] = refl
but_empty_last-is (x ∷ []) = refl
but_empty_last-is (x ∷ y ∷ parts) = ap (λ (t : List (List ℕ)). x ∷ t) (but_empty_last-is (y ∷ parts))

-- a list with one more byte has bytes
pub has_bytes-push : (xs : List ℕ) (b : ℕ) → has_bytes (xs ++ b ∷ []) ≡ true
has_bytes-push [] b = refl
has_bytes-push (x ∷ xs) b = refl

again : (x : List ℕ) (xs : List (List ℕ)) → but_last (x ∷ xs) ++ last_part (x ∷ xs) ∷ [] ∷ [] ≡ (x ∷ xs) ++ [] ∷ []
again x xs = sym (append_assoc (but_last (x ∷ xs)) (last_part (x ∷ xs) ∷ []) ([] ∷ [])) ∙ ap (λ (t : List (List ℕ)). t ++ [] ∷ []) (sym (parts_are x xs))

-- one more element, where the list is cut
pub split-push_yes : (p : ℕ → Bool) (xs : List ℕ) (b : ℕ) → p b ≡ true → slice_split p (xs ++ b ∷ []) ≡ slice_split p xs ++ [] ∷ []
split-push_yes p xs b e =
    let c = split_cons p xs in
    split-append p xs (b ∷ []) ∙ rw (e, c.2, append-nil) (again c.0 c.1)

-- one more element, where it is not cut
pub split-push_no : (p : ℕ → Bool) (xs : List ℕ) (b : ℕ) → p b ≡ false → slice_split p (xs ++ b ∷ []) ≡ but_last (slice_split p xs) ++ (last_part (slice_split p xs) ++ b ∷ []) ∷ []
split-push_no p xs b e = split-append p xs (b ∷ []) ∙ rw e refl
