-- One more word that is listed, and lists in another order.
use Rattle.std.proofs.Common.{◌≡◌, ◌≢◌, ◌∙◌, ◌⊎◌, ℕ, ◌+◌, ◌<◌, ◌==◌, if◌then◌else◌, Option, None, Some, List, set, length, refl, sym, ap, subst, ⊎_elim, arith, length-set, get_or-set_same, get_or-set_other}
use Rattle.std.proofs.lemmas.Option.{none-some}
use Rattle.bip_defs.specs.Lists.{Among}
use Rattle.bip_defs.specs.Occurrences.{times}
use Rattle.bip_defs.specs.WordValues.{held, is_added}
use Rattle.bip_defs.proofs.Occurrences.{one_else, one_here}
use Rattle.bip_defs.proofs.Sets.{number_same}
use Rattle.bip_defs.proofs.WordValues.{held_grows}
use Rattle.claim_words.specs.Accounts.{Accounts}

-- a word that was opened with a value is not empty
opened_empty : (opened now : List (Option ℕ)) (i : ℕ) → ((x : ℕ) → held opened i ≡ Some x → held now i ≡ Some x) → held now i ≡ None → held opened i ≡ None
opened_empty opened now i stays empty = by (held opened i) refl
  where
    by : (o : Option ℕ) → held opened i ≡ o → o ≡ None
    by None e = refl
    by (Some x) e = absurd (none-some _ (sym empty ∙ stays x e))

-- one word more, which was empty
pub accounts_added : (opened now : List (Option ℕ)) (listed more : List (ℕ × ℕ)) (i x : ℕ) → Accounts opened now listed → i < length now → held now i ≡ None
    → ((j : ℕ) → times j more ≡ times j listed + (if i == j then 1 else 0)) → ((p : ℕ × ℕ) → Among p more → (p ≡ (i, x)) ⊎ Among p listed)
    → Accounts opened (set now i (Some x)) more
accounts_added opened now listed more i x a lt empty count from = record {
  as_many = length-set now i (Some x) ∙ a.as_many;
  stays = λ j y e. held_grows now i x j y empty (a.stays j y e);
  stands = λ j y h. ⊎_elim (λ (e : ◌≡◌ {A = ℕ × ℕ} (j, y) (i, x)). subst (λ (p : ℕ × ℕ). held (set now i (Some x)) p.0 ≡ Some p.1) (sym e) (get_or-set_same now i (Some x) None lt)) (λ t. held_grows now i x j y empty (a.stands j y t)) (from (j, y) h);
  once = λ j. ⊎_elim (here j) (other j) (number_same i j);
}
  where
    before : times i listed ≡ 0
    before = a.once i ∙ subst (λ o. is_added o (held now i) ≡ 0) (sym (opened_empty opened now i (a.stays i) empty)) (subst (λ o. is_added None o ≡ 0) (sym empty) refl)

    here_at : times i more ≡ is_added (held opened i) (held (set now i (Some x)) i)
    here_at =
        let added : is_added (held opened i) (held (set now i (Some x)) i) ≡ 1 = subst (λ o. is_added o (held (set now i (Some x)) i) ≡ 1) (sym (opened_empty opened now i (a.stays i) empty)) (subst (λ o. is_added None o ≡ 1) (sym (get_or-set_same now i (Some x) None lt)) refl) in
        omega (arith, count i, one_here i i refl, before, added)

    here : (j : ℕ) → i ≡ j → times j more ≡ is_added (held opened j) (held (set now i (Some x)) j)
    here j e = subst (λ k. times k more ≡ is_added (held opened k) (held (set now i (Some x)) k)) e here_at

    other : (j : ℕ) → i ≢ j → times j more ≡ is_added (held opened j) (held (set now i (Some x)) j)
    other j ne =
        let same : is_added (held opened j) (held (set now i (Some x)) j) ≡ is_added (held opened j) (held now j) = ap (is_added (held opened j)) (get_or-set_other now i j (Some x) None (λ e. ne (sym e))) in
        let was = a.once j in
        omega (arith, count j, one_else i j ne, same, was)

-- the same entries in another order
pub accounts_moved : (opened now : List (Option ℕ)) (listed moved : List (ℕ × ℕ)) → Accounts opened now listed → ((i : ℕ) → times i moved ≡ times i listed) → ((p : ℕ × ℕ) → Among p moved → Among p listed) → Accounts opened now moved
accounts_moved opened now listed moved a count from = record {
  as_many = a.as_many;
  stays = a.stays;
  stands = λ i x h. a.stands i x (from (i, x) h);
  once = λ i. count i ∙ a.once i;
}
