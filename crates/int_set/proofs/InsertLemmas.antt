-- How setting one bit after another, from below, keeps the tree.
use Rattle.std.proofs.Common.{◌≡◌, ◌≢◌, ◌⊎◌, ◌∙◌, ℕ, ◌+◌, ◌-◌, ◌*◌, ◌/◌, ◌<◌, ◌≤◌, List, length, slice_index, refl, sym, inl, inr, arith}
use Rattle.std.proofs.lemmas.Bool.{cases_eq}
use Rattle.int_set.specs.Tree.{IsTree}
use Rattle.int_set.specs.Words.{bit, IsSet}
use Rattle.int_set.proofs.Bits.{IsMarked}

-- a tree but at bit p, which is still to be set
pub record IsMarking (old words : List ℕ) (first number p : ℕ) : Type 0 where
  pub long : length words ≡ length old
  pub room : p < 64 * length words
  pub here : (p ≡ first + number) ⊎ ((p + 1 < length words) × (slice_index words (p + 1) ≢ 0))
  pub full : (i : ℕ) → i ≢ p → i + 1 < length words → IsSet words i → slice_index words (i + 1) ≢ 0
  pub empty : (i : ℕ) → i ≢ p → i + 1 < length words → ¬ IsSet words i → slice_index words (i + 1) ≡ 0
  pub within : (i : ℕ) → IsSet words i → (i + 1 < length words) ⊎ (first ≤ i)
  pub set : p ≢ first + number → IsSet words (first + number)
  pub others : (x : ℕ) → x ≢ number → bit words (first + x) ≡ bit old (first + x)

pub marking_begins : (words : List ℕ) (first number : ℕ) → IsTree words first → first + number < 64 * length words → IsMarking words words first number (first + number)
marking_begins words first number tree room = record {
  long = refl;
  room = room;
  here = inl refl;
  full = λ i ne. tree.full i;
  empty = λ i ne. tree.empty i;
  within = tree.within;
  set = λ ne. absurd (ne refl);
  others = λ x ne. refl;
}

-- below a bit that is set stands a word that is not 0
full_still : (old words new : List ℕ) (first number p : ℕ) → IsMarking old words first number p → IsMarked words new p → length words ≤ first + 1
    → (i : ℕ) → i + 1 < length new → IsSet new i → slice_index new (i + 1) ≢ 0
full_still old words new first number p s m fits i lt set none = elim (cases_eq i p) [
  | inl e ↦ elim s.here [
    | inl at ↦ absurd (omega (arith, m.long))
    | inr k ↦ k.1 (let same : slice_index new (p + 1) ≡ slice_index words (p + 1) = m.words (p + 1) (omega arith) in let zero : slice_index new (p + 1) ≡ 0 = rw (← e) none in cc)
  ]
  | inr ne ↦ elim (cases_eq (i + 1) (p / 64)) [
    | inl e ↦ m.some (rw (← e) none)
    | inr off ↦ s.full i ne (omega (arith, m.long)) (rw (← m.others i ne) set) (let same : slice_index new (i + 1) ≡ slice_index words (i + 1) = m.words (i + 1) off in cc)
  ]
]

-- above a word that is 0 stands a bit that is not set, but for the word of bit p
empty_still : (old words new : List ℕ) (first number p : ℕ) → IsMarking old words first number p → IsMarked words new p
    → (i : ℕ) → i + 1 ≢ p / 64 → i + 1 < length new → ¬ IsSet new i → slice_index new (i + 1) ≡ 0
empty_still old words new first number p s m i off lt unset =
    let ne : i ≢ p = λ e. unset (rw e m.here) in
    m.words (i + 1) off ∙ s.empty i ne (omega (arith, m.long)) (λ set. unset (rw (m.others i ne) set))

within_still : (old words new : List ℕ) (first number p : ℕ) → IsMarking old words first number p → IsMarked words new p
    → (i : ℕ) → IsSet new i → (i + 1 < length new) ⊎ (first ≤ i)
within_still old words new first number p s m i set = elim (cases_eq i p) [
  | inl e ↦ elim s.here [
    | inl at ↦ inr (omega arith)
    | inr k ↦ inl (omega (arith, m.long))
  ]
  | inr ne ↦ elim (s.within i (rw (← m.others i ne) set)) [
    | inl lt ↦ inl (omega (arith, m.long))
    | inr le ↦ inr le
  ]
]

set_still : (old words new : List ℕ) (first number p : ℕ) → IsMarking old words first number p → IsMarked words new p → IsSet new (first + number)
set_still old words new first number p s m = elim (cases_eq p (first + number)) [
  | inl e ↦ rw (← e) m.here
  | inr ne ↦ m.others (first + number) (λ e. ne (sym e)) ∙ s.set ne
]

others_still : (old words new : List ℕ) (first number p : ℕ) → IsMarking old words first number p → IsMarked words new p → length words ≤ first + 1
    → (x : ℕ) → x ≢ number → bit new (first + x) ≡ bit old (first + x)
others_still old words new first number p s m fits x ne =
    let off : first + x ≢ p = elim s.here [ inl at ↦ omega arith | inr k ↦ omega arith ] in
    m.others (first + x) off ∙ s.others x ne

-- what is left when a bit was set whose word was not 0, or is the first
pub record IsSetIn (old new : List ℕ) (first number : ℕ) : Type 0 where
  pub tree : IsTree new first
  pub set : IsSet new (first + number)
  pub others : (x : ℕ) → x ≢ number → bit new (first + x) ≡ bit old (first + x)

pub marking_ends : (old words new : List ℕ) (first number p : ℕ) → IsMarking old words first number p → IsMarked words new p → length words ≤ first + 1
    → (slice_index words (p / 64) ≢ 0) ⊎ (p / 64 ≡ 0) → IsSetIn old new first number
marking_ends old words new first number p s m fits over = record {
  tree = record {
    full = full_still old words new first number p s m fits;
    empty = λ i lt unset. elim (cases_eq (i + 1) (p / 64)) [
      | inl e ↦ elim over [
        | inl some ↦ absurd (some (rw (← e) (let ne : i ≢ p = λ same. unset (rw same m.here) in s.empty i ne (omega (arith, m.long)) (λ set. unset (rw (m.others i ne) set)))))
        | inr top ↦ absurd (omega arith)
      ]
      | inr off ↦ empty_still old words new first number p s m i off lt unset
    ];
    within = within_still old words new first number p s m;
  };
  set = set_still old words new first number p s m;
  others = others_still old words new first number p s m fits;
}

pub marking_goes_on : (old words new : List ℕ) (first number p : ℕ) → IsMarking old words first number p → IsMarked words new p → length words ≤ first + 1
    → p / 64 ≢ 0 → IsMarking old new first number (p / 64 - 1)
marking_goes_on old words new first number p s m fits below =
    let next : p / 64 - 1 + 1 ≡ p / 64 = omega arith in
    record {
      long = m.long ∙ s.long;
      room = omega (arith, m.long);
      here = inr (omega (arith, m.long), rw next m.some);
      full = λ i ne. full_still old words new first number p s m fits i;
      empty = λ i ne. empty_still old words new first number p s m i (omega arith);
      within = within_still old words new first number p s m;
      set = λ ne. set_still old words new first number p s m;
      others = others_still old words new first number p s m fits;
    }
