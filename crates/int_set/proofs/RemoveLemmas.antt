-- How clearing one bit after another, from below, keeps the tree.
use Rattle.std.proofs.Common.{◌≡◌, ◌≢◌, ◌⊎◌, ◌∙◌, ℕ, ◌+◌, ◌-◌, ◌*◌, ◌/◌, ◌<◌, ◌≤◌, List, length, slice_index, refl, sym, inl, inr, arith}
use Rattle.std.proofs.lemmas.Bool.{cases_eq}
use Rattle.int_set.specs.Tree.{IsTree}
use Rattle.int_set.specs.Words.{bit, IsSet}
use Rattle.int_set.proofs.Bits.{IsCleared}

-- a tree but at bit p, which is still to be cleared
pub record IsClearing (old words : List ℕ) (first number p : ℕ) : Type 0 where
  pub long : length words ≡ length old
  pub room : p < 64 * length words
  pub here : (p ≡ first + number) ⊎ ((p + 1 < length words) × (slice_index words (p + 1) ≡ 0))
  pub full : (i : ℕ) → i ≢ p → i + 1 < length words → IsSet words i → slice_index words (i + 1) ≢ 0
  pub empty : (i : ℕ) → i ≢ p → i + 1 < length words → ¬ IsSet words i → slice_index words (i + 1) ≡ 0
  pub within : (i : ℕ) → IsSet words i → (i + 1 < length words) ⊎ (first ≤ i)
  pub clear : p ≢ first + number → bit words (first + number) ≡ 0
  pub others : (x : ℕ) → x ≢ number → bit words (first + x) ≡ bit old (first + x)

pub clearing_begins : (words : List ℕ) (first number : ℕ) → IsTree words first → first + number < 64 * length words → IsClearing words words first number (first + number)
clearing_begins words first number tree room = record {
  long = refl;
  room = room;
  here = inl refl;
  full = λ i ne. tree.full i;
  empty = λ i ne. tree.empty i;
  within = tree.within;
  clear = λ ne. absurd (ne refl);
  others = λ x ne. refl;
}

not_here : (words new : List ℕ) (p i : ℕ) → IsCleared words new p → IsSet new i → i ≢ p
not_here words new p i m set e = let one : bit new p ≡ 1 = rw (← e) set in absurd (omega (arith, one, m.here))

-- below a bit that is set stands a word that is not 0, but for the word of bit p
full_still : (old words new : List ℕ) (first number p : ℕ) → IsClearing old words first number p → IsCleared words new p
    → (i : ℕ) → i + 1 ≢ p / 64 → i + 1 < length new → IsSet new i → slice_index new (i + 1) ≢ 0
full_still old words new first number p s m i off lt set none =
    let ne = not_here words new p i m set in
    let same : slice_index new (i + 1) ≡ slice_index words (i + 1) = m.words (i + 1) off in
    s.full i ne (omega (arith, m.long)) (rw (← m.others i ne) set) (sym same ∙ none)

-- above a word that is 0 stands a bit that is not set
empty_still : (old words new : List ℕ) (first number p : ℕ) → IsClearing old words first number p → IsCleared words new p → length words ≤ first + 1
    → (i : ℕ) → i + 1 < length new → ¬ IsSet new i → slice_index new (i + 1) ≡ 0
empty_still old words new first number p s m fits i lt unset = elim (cases_eq i p) [
  | inl e ↦ elim s.here [
    | inl at ↦ absurd (omega (arith, m.long))
    | inr k ↦ rw e (m.words (p + 1) (omega arith) ∙ k.1)
  ]
  | inr ne ↦
      let zero : slice_index words (i + 1) ≡ 0 = s.empty i ne (omega (arith, m.long)) (λ set. unset (m.others i ne ∙ set)) in
      elim (cases_eq (i + 1) (p / 64)) [
        | inl e ↦ rw e (m.none (rw (← e) zero))
        | inr off ↦ m.words (i + 1) off ∙ zero
      ]
]

within_still : (old words new : List ℕ) (first number p : ℕ) → IsClearing old words first number p → IsCleared words new p
    → (i : ℕ) → IsSet new i → (i + 1 < length new) ⊎ (first ≤ i)
within_still old words new first number p s m i set =
    let ne = not_here words new p i m set in
    elim (s.within i (rw (← m.others i ne) set)) [
      | inl lt ↦ inl (omega (arith, m.long))
      | inr le ↦ inr le
    ]

clear_still : (old words new : List ℕ) (first number p : ℕ) → IsClearing old words first number p → IsCleared words new p → bit new (first + number) ≡ 0
clear_still old words new first number p s m = elim (cases_eq p (first + number)) [
  | inl e ↦ rw (← e) m.here
  | inr ne ↦ m.others (first + number) (λ e. ne (sym e)) ∙ s.clear ne
]

others_still : (old words new : List ℕ) (first number p : ℕ) → IsClearing old words first number p → IsCleared words new p → length words ≤ first + 1
    → (x : ℕ) → x ≢ number → bit new (first + x) ≡ bit old (first + x)
others_still old words new first number p s m fits x ne =
    let off : first + x ≢ p = elim s.here [ inl at ↦ omega arith | inr k ↦ omega arith ] in
    m.others (first + x) off ∙ s.others x ne

-- what is left when a bit was cleared whose word is not 0 now, or is the first
pub record IsClearIn (old new : List ℕ) (first number : ℕ) : Type 0 where
  pub tree : IsTree new first
  pub clear : bit new (first + number) ≡ 0
  pub others : (x : ℕ) → x ≢ number → bit new (first + x) ≡ bit old (first + x)

pub clearing_ends : (old words new : List ℕ) (first number p : ℕ) → IsClearing old words first number p → IsCleared words new p → length words ≤ first + 1
    → (slice_index new (p / 64) ≢ 0) ⊎ (p / 64 ≡ 0) → IsClearIn old new first number
clearing_ends old words new first number p s m fits over = record {
  tree = record {
    full = λ i lt set. elim (cases_eq (i + 1) (p / 64)) [
      | inl e ↦ elim over [
        | inl some ↦ λ none. some (rw (← e) none)
        | inr top ↦ absurd (omega arith)
      ]
      | inr off ↦ full_still old words new first number p s m i off lt set
    ];
    empty = empty_still old words new first number p s m fits;
    within = within_still old words new first number p s m;
  };
  clear = clear_still old words new first number p s m;
  others = others_still old words new first number p s m fits;
}

pub clearing_goes_on : (old words new : List ℕ) (first number p : ℕ) → IsClearing old words first number p → IsCleared words new p → length words ≤ first + 1
    → slice_index new (p / 64) ≡ 0 → p / 64 ≢ 0 → IsClearing old new first number (p / 64 - 1)
clearing_goes_on old words new first number p s m fits zero below =
    let next : p / 64 - 1 + 1 ≡ p / 64 = omega arith in
    record {
      long = m.long ∙ s.long;
      room = omega (arith, m.long);
      here = inr (omega (arith, m.long), rw next zero);
      full = λ i ne. full_still old words new first number p s m i (omega arith);
      empty = λ i ne. empty_still old words new first number p s m fits i;
      within = within_still old words new first number p s m;
      clear = λ ne. clear_still old words new first number p s m;
      others = others_still old words new first number p s m fits;
    }
