-- What a seat shows after a step.
use Rattle.std.proofs.Common.{◌≡◌, ◌∙◌, ℕ, Option, None, Some, List, [], ◌∷◌, ◌++◌, refl, sym, ap, subst, inl, inr, arith}
use Rattle.std.proofs.lemmas.Option.{none-some}
use Rattle.atomic_table.specs.Seated.{TableId}
use Rattle.atomic_table.specs.Table.{Me}
use Rattle.bip_defs.specs.Lists.{Among}
use Rattle.bip_defs.specs.Occurrences.{times}
use Rattle.bip_defs.specs.WordValues.{value_of}
use Rattle.bip_defs.proofs.Occurrences.{one_here, times_append}
use Rattle.claim_words.specs.Listed.{Listed, claimed, looked, root_word, row_word, won}
use Rattle.claim_words.specs.Rule.{Known, nobody}
use Rattle.claim_words.specs.Seat.{KnowsRoot, KnowsRow, Seat, after_claim, after_look, after_win, with_listed}
use Rattle.claim_words.specs.Steps.{KnewRoot, KnewRow, Tells, knowing}
use Rattle.claim_words.specs.Stored.{IsStored, shown}
use Rattle.board_seats.proofs.Flat.{times_none}
use Rattle.board_seats.specs.View.{known_or}

pub open_after : {S : Type 0} {number : ℕ} {me now : Me S (Option Known)} {Knew : ℕ → Type 0} {l : Listed} {found : ℕ} → IsStored number me → Tells (known_or nobody me.0) Knew l found me now → IsStored number now
open_after {number = number} stored fact = subst (IsStored number) (sym fact.after_is) (record { live = (refl, stored.live.1); number_is = stored.number_is; below = stored.below; few = stored.few })

times_last : (i x : ℕ) (ps : List (ℕ × ℕ)) → ((y : ℕ) → ¬ Among (i, y) ps) → times i (ps ++ (i, x) ∷ []) ≡ 1
times_last i x ps none = let all = times_append i ps ((i, x) ∷ []) in let before = times_none i ps none in omega (arith, all, before, one_here i i refl)

module _ {S : Type 0} (table after : TableId) (me now : Me S (Option Known)) (s : Seat) (same : after ≡ table) (view : shown table (known_or nobody me.0) ≡ s) where
  shown_after : (f : Listed → Listed) → now ≡ (knowing (known_or nobody me.0) (f (known_or nobody me.0).listed), me.1) → shown after (known_or nobody now.0) ≡ with_listed s (f s.listed)
  shown_after f e = subst (λ t. shown t (known_or nobody now.0) ≡ with_listed s (f s.listed)) (sym same)
      (subst (λ (m : Me S (Option Known)). shown table (known_or nobody m.0) ≡ with_listed s (f s.listed)) (sym e) (ap (λ (t : Seat). with_listed t (f t.listed)) view))

  -- what a claim ensures: the seat lists what the step found, a value that it knew was found, and what it got is listed once
  pub claim_answer : (row col found : ℕ) (answer : Option ℕ) → answer ≡ value_of found → Tells (known_or nobody me.0) (KnewRow (known_or nobody me.0) row) (claimed (known_or nobody me.0).listed row col (value_of found)) found me now
      → (shown after (known_or nobody now.0) ≡ after_claim s row col answer) × ((x : ℕ) → KnowsRow s row x → answer ≡ Some x) × (answer ≡ None → times row (known_or nobody now.0).listed.claims ≡ 1)
  claim_answer row col found answer e fact = (seat, knows, (λ none. subst (λ (t : Seat). times row t.listed.claims ≡ 1) (sym seat) (subst (λ o. times row (after_claim s row col o).listed.claims ≡ 1) (sym none) (times_last row col s.listed.claims (λ y h. none-some _ (sym none ∙ knows y (inr (inl h))))))))
    where
      seat : shown after (known_or nobody now.0) ≡ after_claim s row col answer
      seat = subst (λ o. shown after (known_or nobody now.0) ≡ after_claim s row col o) (sym e) (shown_after (λ l. claimed l row col (value_of found)) fact.after_is)

      knows : (x : ℕ) → KnowsRow s row x → answer ≡ Some x
      knows x knew = e ∙ fact.same x (subst (λ t. KnowsRow t row x) (sym view) knew)

  pub win_answer : (root leaf found : ℕ) (answer : Option ℕ) → answer ≡ value_of found → Tells (known_or nobody me.0) (KnewRoot (known_or nobody me.0) root) (won (known_or nobody me.0).listed root leaf (value_of found)) found me now
      → (shown after (known_or nobody now.0) ≡ after_win s root leaf answer) × ((x : ℕ) → KnowsRoot s root x → answer ≡ Some x) × (answer ≡ None → times root (known_or nobody now.0).listed.wins ≡ 1)
  win_answer root leaf found answer e fact = (seat, knows, (λ none. subst (λ (t : Seat). times root t.listed.wins ≡ 1) (sym seat) (subst (λ o. times root (after_win s root leaf o).listed.wins ≡ 1) (sym none) (times_last root leaf s.listed.wins (λ y h. none-some _ (sym none ∙ knows y (inr (inl h))))))))
    where
      seat : shown after (known_or nobody now.0) ≡ after_win s root leaf answer
      seat = subst (λ o. shown after (known_or nobody now.0) ≡ after_win s root leaf o) (sym e) (shown_after (λ l. won l root leaf (value_of found)) fact.after_is)

      knows : (x : ℕ) → KnowsRoot s root x → answer ≡ Some x
      knows x knew = e ∙ fact.same x (subst (λ t. KnowsRoot t root x) (sym view) knew)

  -- what a look ensures
  pub row_answer : (row found : ℕ) (answer : Option ℕ) → answer ≡ value_of found → Tells (known_or nobody me.0) (KnewRow (known_or nobody me.0) row) (looked (known_or nobody me.0).listed (row_word row (value_of found))) found me now
      → (shown after (known_or nobody now.0) ≡ after_look s (row_word row answer)) × ((x : ℕ) → KnowsRow s row x → answer ≡ Some x)
  row_answer row found answer e fact = (
    subst (λ o. shown after (known_or nobody now.0) ≡ after_look s (row_word row o)) (sym e) (shown_after (λ l. looked l (row_word row (value_of found))) fact.after_is),
    (λ x knew. e ∙ fact.same x (subst (λ t. KnowsRow t row x) (sym view) knew)),
  )

  pub root_answer : (root found : ℕ) (answer : Option ℕ) → answer ≡ value_of found → Tells (known_or nobody me.0) (KnewRoot (known_or nobody me.0) root) (looked (known_or nobody me.0).listed (root_word root (value_of found))) found me now
      → (shown after (known_or nobody now.0) ≡ after_look s (root_word root answer)) × ((x : ℕ) → KnowsRoot s root x → answer ≡ Some x)
  root_answer root found answer e fact = (
    subst (λ o. shown after (known_or nobody now.0) ≡ after_look s (root_word root o)) (sym e) (shown_after (λ l. looked l (root_word root (value_of found))) fact.after_is),
    (λ x knew. e ∙ fact.same x (subst (λ t. KnowsRoot t root x) (sym view) knew)),
  )
