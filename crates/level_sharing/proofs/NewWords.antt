-- What the entries tell by which the list of all words has grown.
use Rattle.std.proofs.Common.{◌≡◌, ◌∙◌, ◌↔◌, ◌⊎◌, ℕ, ◌+◌, ◌≤◌, Option, None, Some, List, ◌++◌, map, sym, ⊎_elim, inl, inr, arith}
use Rattle.std.proofs.lemmas.Option.{none-some}
use Rattle.bip_defs.specs.Lists.{Among, AreDistinct, AreNew}
use Rattle.bip_defs.specs.Occurrences.{times}
use Rattle.bip_defs.specs.WordValues.{held}
use Rattle.bip_defs.proofs.Sets.{among_either, among_left, among_right, row_pair}
use Rattle.bip_defs.proofs.WordValues.{added_few}
use Rattle.claim_words.specs.Accounts.{Accounts}
use Rattle.level_sharing.specs.Agreement.{AreListedWords, HoldThese}

-- what the board's laws tell of lists that account for words
pub record WordLaws : Type 0 where
  pub stands : (opened now : List (Option ℕ)) (listed : List (ℕ × ℕ)) (i x : ℕ) → Accounts opened now listed → Among (i, x) listed → (held opened i ≡ None) × (held now i ≡ Some x)
  pub from : (opened now : List (Option ℕ)) (listed : List (ℕ × ℕ)) (i x : ℕ) → Accounts opened now listed → held now i ≡ Some x → (held opened i ≡ Some x) ⊎ Among (i, x) listed
  pub listed : (i x : ℕ) (xs : List (ℕ × ℕ)) → Among (i, x) xs → 1 ≤ times i xs
  pub distinct : (xs : List (ℕ × ℕ)) → ((i : ℕ) → times i xs ≤ 1) → AreDistinct (map (λ (p : ℕ × ℕ). p.0) xs)

-- the list after has the entries before and the fresh ones
abbrev pub IsLonger : List (ℕ × ℕ) → List (ℕ × ℕ) → List (ℕ × ℕ) → Type 0
IsLonger before after fresh = (p : ℕ × ℕ) → Among p after ↔ (Among p before ⊎ Among p fresh)

-- so often as both have them, and it accounts for the words
pub record IsExtended (opened now : List (Option ℕ)) (before after fresh : List (ℕ × ℕ)) : Type 0 where
  pub at_last : Accounts opened now after
  pub adds : (i : ℕ) → times i after ≡ times i before + times i fresh
  pub longer : IsLonger before after fresh

times_few : (opened now : List (Option ℕ)) (before after fresh : List (ℕ × ℕ)) → IsExtended opened now before after fresh → (i : ℕ) → times i before + times i fresh ≤ 1
times_few opened now before after fresh x i = let few = added_few (held opened i) (held now i) in let once = x.at_last.once i in let adds = x.adds i in omega (arith, few, once, adds)

pub fresh_new : (l : WordLaws) (opened now : List (Option ℕ)) (old before after fresh : List (ℕ × ℕ)) → IsExtended opened now before after fresh → AreListedWords old opened before → AreNew old fresh
fresh_new l opened now old before after fresh x are = record {
  differ = l.distinct fresh (λ i. let few = times_few opened now before after fresh x i in omega (arith, few));
  apart = λ i h g. let (c, m) = row_pair i fresh h in let (d, n) = row_pair i old g in
      ⊎_elim
      (λ (e : held opened i ≡ Some d). none-some _ (sym ((l.stands opened now after i c x.at_last ((x.longer (i, c)).1 (inr m))).0) ∙ e))
      (λ k. let one = l.listed i d before k in let two = l.listed i c fresh m in let few = times_few opened now before after fresh x i in absurd (omega (arith, one, two, few)))
      ((are i d).1 n);
}

-- what was listed and what is fresh is listed
pub listed_more : (opened : List (Option ℕ)) (old before after fresh : List (ℕ × ℕ)) → IsLonger before after fresh → AreListedWords old opened before → AreListedWords (old ++ fresh) opened after
listed_more opened old before after fresh longer are i x = (to, back)
  where
    to : (held opened i ≡ Some x) ⊎ Among (i, x) after → Among (i, x) (old ++ fresh)
    to (inl e) = among_left (i, x) old fresh ((are i x).0 (inl e))
    to (inr m) = ⊎_elim
        (λ (k : Among (i, x) before). among_left (i, x) old fresh ((are i x).0 (inr k)))
        (λ (k : Among (i, x) fresh). among_right (i, x) old fresh k)
        ((longer (i, x)).0 m)

    back : Among (i, x) (old ++ fresh) → (held opened i ≡ Some x) ⊎ Among (i, x) after
    back h = ⊎_elim
        (λ (k : Among (i, x) old). ⊎_elim
        (λ (e : held opened i ≡ Some x). inl e)
        (λ (m : Among (i, x) before). inr ((longer (i, x)).1 (inl m)))
        ((are i x).1 k))
        (λ (k : Among (i, x) fresh). inr ((longer (i, x)).1 (inr k)))
        (among_either (i, x) old fresh h)

-- the words that lists account for hold what is listed
pub listed_held : (l : WordLaws) (opened now : List (Option ℕ)) (pairs listed : List (ℕ × ℕ)) → Accounts opened now listed → AreListedWords pairs opened listed → HoldThese pairs now
listed_held l opened now pairs listed a are i x = (
  λ e. (are i x).0 (l.from opened now listed i x a e),
  λ h. ⊎_elim (λ (e : held opened i ≡ Some x). a.stays i x e) (λ m. a.stands i x m) ((are i x).1 h),
)

-- and what they hold is listed
pub held_listed : (from : (opened now : List (Option ℕ)) (listed : List (ℕ × ℕ)) (i x : ℕ) → Accounts opened now listed → held now i ≡ Some x → (held opened i ≡ Some x) ⊎ Among (i, x) listed)
    (opened now : List (Option ℕ)) (pairs listed : List (ℕ × ℕ)) → Accounts opened now listed → HoldThese pairs now → AreListedWords pairs opened listed
held_listed from opened now pairs listed a holds i x = (
  λ h. (holds i x).0 (⊎_elim (λ (e : held opened i ≡ Some x). a.stays i x e) (λ m. a.stands i x m) h),
  λ h. from opened now listed i x a ((holds i x).1 h),
)
