-- The members are the numbers whose bits are set.
use Rattle.std.proofs.Common.{◌≡◌, ◌≢◌, ◌⊎◌, ◌↔◌, ◌∙◌, ℕ, zero, suc, ◌+◌, ◌-◌, ◌*◌, ◌/◌, ◌%◌, ◌^◌, ◌<◌, ◌≤◌, List, [], ◌∷◌, ◌++◌, length, take, drop, replicate, slice_index, nat_eq, eqb-true, eq-eqb, refl, sym, inl, inr, arith}
use Rattle.std.proofs.lemmas.Bool.{cases_eq, cases_lt}
use Rattle.std.proofs.lemmas.List.{get_or-replicate, get_or_past, length-replicate}
use Rattle.std.proofs.lemmas.Nat.Bits.{bit_at-zero}
use Rattle.std.specs.Int.{bit_at}
use Rattle.std.proofs.Math.Seq.{take-append_seam}
use Rattle.bip_defs.proofs.Sets.{filter_lists, below_each_from, rising_unique}
use Rattle.bip_defs.specs.Lists.{Among, IsRising}
use Rattle.int_set.specs.Tree.{IsSetOf, IsTree, members_of, start_of}
use Rattle.int_set.specs.Words.{bit, IsSet}

pub member_set : (words : List ℕ) (first bound x : ℕ) → Among x (members_of words first bound) → (x < bound) × IsSet words (first + x)
member_set words first bound x h =
    let s = (filter_lists (λ y. nat_eq (bit words (first + y)) 1) bound).sound x h in
    (s.0, eqb-true _ _ s.1)

pub set_member : (words : List ℕ) (first bound x : ℕ) → x < bound → IsSet words (first + x) → Among x (members_of words first bound)
set_member words first bound x lt set = (filter_lists (λ y. nat_eq (bit words (first + y)) 1) bound).complete x (lt, eq-eqb _ _ set)

pub members_rising : (words : List ℕ) (first bound : ℕ) → IsRising (members_of words first bound)
members_rising words first bound = (filter_lists (λ y. nat_eq (bit words (first + y)) 1) bound).rising

no_member : (xs : List ℕ) → ((x : ℕ) → ¬ Among x xs) → xs ≡ []
no_member [] none = refl
no_member (x ∷ xs) none = absurd (none x (inl refl))

-- where the first word is 0, no bit is set
none_below : (words : List ℕ) (first : ℕ) → IsTree words first → slice_index words 0 ≡ 0 → (n p : ℕ) → p < n → ¬ IsSet words p
unfolding bit
none_below words first tree top zero p lt set = absurd (omega arith)
none_below words first tree top (suc n) p lt set =
    let empty : slice_index words (p / 64) ≡ 0 = elim (cases_eq (p / 64) 0) [
      | inl e ↦ rw e top
      | inr ne ↦ elim (cases_lt (p / 64) (length words)) [
        | inl inside ↦
            let next : p / 64 - 1 + 1 ≡ p / 64 = omega arith in
            let above : slice_index words (p / 64 - 1 + 1) ≡ 0 = tree.empty (p / 64 - 1) (omega arith) (none_below words first tree top n (p / 64 - 1) (omega arith)) in
            rw (← next) above
        | inr past ↦ get_or_past words (p / 64) 0 past
      ]
    ] in
    let one : bit_at 0 (p % 64) ≡ 1 = rw (← empty) set in
    absurd (omega (arith, one, bit_at-zero (p % 64)))

pub no_members : (words : List ℕ) (first bound : ℕ) → IsTree words first → slice_index words 0 ≡ 0 → members_of words first bound ≡ []
no_members words first bound tree top = no_member _ (λ x h. none_below words first tree top (first + x + 1) (first + x) (omega arith) (member_set words first bound x h).1)

pub inserted : (old new : List ℕ) (first bound number : ℕ) → number < bound → IsSet new (first + number) → ((x : ℕ) → x ≢ number → bit new (first + x) ≡ bit old (first + x))
    → (x : ℕ) → Among x (members_of new first bound) ↔ ((x ≡ number) ⊎ Among x (members_of old first bound))
inserted old new first bound number lt set others x = (to, from)
  where
    to : Among x (members_of new first bound) → (x ≡ number) ⊎ Among x (members_of old first bound)
    to h = let s = member_set new first bound x h in elim (cases_eq x number) [
      | inl e ↦ inl e
      | inr ne ↦ inr (set_member old first bound x s.0 (sym (others x ne) ∙ s.1))
    ]

    from : (x ≡ number) ⊎ Among x (members_of old first bound) → Among x (members_of new first bound)
    from (inl e) = rw e (set_member new first bound number lt set)
    from (inr h) = let s = member_set old first bound x h in elim (cases_eq x number) [
      | inl e ↦ rw e (set_member new first bound number lt set)
      | inr ne ↦ set_member new first bound x s.0 (others x ne ∙ s.1)
    ]

pub removed : (old new : List ℕ) (first bound number : ℕ) → ¬ IsSet new (first + number) → ((x : ℕ) → x ≢ number → bit new (first + x) ≡ bit old (first + x))
    → (x : ℕ) → Among x (members_of new first bound) ↔ ((x ≢ number) × Among x (members_of old first bound))
removed old new first bound number clear others x = (to, from)
  where
    to : Among x (members_of new first bound) → (x ≢ number) × Among x (members_of old first bound)
    to h = let s = member_set new first bound x h in
        let ne : x ≢ number = λ e. clear (rw (← e) s.1) in
        (ne, set_member old first bound x s.0 (sym (others x ne) ∙ s.1))

    from : (x ≢ number) × Among x (members_of old first bound) → Among x (members_of new first bound)
    from h = let s = member_set old first bound x h.1 in set_member new first bound x s.0 (others x h.0 ∙ s.1)

-- what is left without the least member follows it
pub least_first : (old new : List ℕ) (x : ℕ) → IsRising old → IsRising new → Among x old → ((y : ℕ) → Among y old → x ≤ y) → ((y : ℕ) → Among y new ↔ ((y ≢ x) × Among y old)) → old ≡ x ∷ new
least_first old new x up up' h least left = rising_unique old (x ∷ new) up
    (below_each_from x new (λ y k. let m = (left y).0 k in let le = least y m.1 in let ne : y ≢ x = m.0 in omega arith), up')
    (λ y k. elim (cases_eq y x) [ inl e ↦ inl e | inr ne ↦ inr ((left y).1 (ne, k)) ])
    (λ y (k : Among y (x ∷ new)). elim k [ inl e ↦ rw e h | inr m ↦ ((left y).0 m).1 ])

-- no bit of words that are 0 is set
pub zeros_clear : (n p : ℕ) → ¬ IsSet (replicate n 0) p
unfolding bit
zeros_clear n p set =
    let empty : slice_index (replicate n 0) (p / 64) ≡ 0 = elim (cases_lt (p / 64) n) [
      | inl inside ↦ get_or-replicate n (p / 64) 0 0 inside
      | inr past ↦ get_or_past (replicate n 0) (p / 64) 0 (omega (arith, length-replicate {A = ℕ} n 0))
    ] in
    let one : bit_at 0 (p % 64) ≡ 1 = rw (← empty) set in
    absurd (omega (arith, one, bit_at-zero (p % 64)))

pub zeros_set : (lowest depth start bound : ℕ) → start ≡ start_of depth → bound < 64 * lowest → lowest ≤ 63 * start + 1 → start < 2 ^ 34 → bound < 2 ^ 32 → IsSetOf (replicate (start + lowest) 0) depth (64 * start) bound
zeros_set lowest depth start bound at room wide small few =
    let long = length-replicate {A = ℕ} (start + lowest) 0 in
    record {
      shaped = record {
        lowest = rw at refl;
        a_word = omega arith;
        fits = omega arith;
        holds = omega arith;
        small = omega arith;
        few = few;
      };
      tree = record {
        full = λ i lt set. absurd (zeros_clear (start + lowest) i set);
        empty = λ i lt unset. get_or-replicate (start + lowest) (i + 1) 0 0 (omega arith);
        within = λ i set. absurd (zeros_clear (start + lowest) i set);
      };
      below = λ x set. absurd (zeros_clear (start + lowest) (64 * start + x) set);
    }

pub zeros_empty : (n first bound : ℕ) → members_of (replicate n 0) first bound ≡ []
zeros_empty n first bound = no_member _ (λ x h. zeros_clear n (first + x) (member_set (replicate n 0) first bound x h).1)

-- a slice of a whole list that was written
pub written_back : (old new : List ℕ) (n : ℕ) → length new ≡ n → take n (new ++ drop (length new) old) ≡ new
written_back old new n a = rw (← a) (take-append_seam new (drop (length new) old))
