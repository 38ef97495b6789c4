-- What numbered words hold, and what they hold after one of them is written.
use Rattle.std.proofs.Common.{◌≡◌, ◌∙◌, ℕ, suc, ◌+◌, ◌≤◌, ◌==◌, Option, None, Some, List, set, slice_index, refl, sym, ap, subst, ⊎_elim, arith, ne_eqb, one-add, get_or-set_other}
use Rattle.std.proofs.lemmas.List.{set-get_or}
use Rattle.std.proofs.lemmas.Option.{none-some}
use prog.Atomic.{either}
use Rattle.bip_defs.specs.WordValues.{held, is_added, value_of}
use Rattle.bip_defs.proofs.Sets.{number_same}

-- a word that was empty gets a value, and what stood stands
pub held_grows : (now : List (Option ℕ)) (i x j y : ℕ) → held now i ≡ None → held now j ≡ Some y → held (set now i (Some x)) j ≡ Some y
held_grows now i x j y empty e = ⊎_elim (λ (s : j ≡ i). absurd (none-some y (sym empty ∙ subst (λ k. held now k ≡ Some y) s e))) (λ ne. get_or-set_other now i j (Some x) None ne ∙ e) (number_same j i)

-- a word that is 1 more than a value holds it
pub value_there : (x : ℕ) → value_of (1 + x) ≡ Some x
value_there x = subst (λ n. value_of n ≡ Some x) (sym (one-add x)) refl

-- a word that held a value stays
pub unwritten : (ws : List ℕ) (i new y : ℕ) → slice_index ws i ≡ suc y → set ws i (either (suc y == 0) new (suc y)) ≡ ws
unwritten ws i new y e = ap (λ b. set ws i (either b new (suc y))) (ne_eqb (suc y) 0 (λ f. omega arith)) ∙ ap (set ws i) (sym e) ∙ set-get_or ws i 0

-- of one word, no more than one value is added
pub added_few : (o n : Option ℕ) → is_added o n ≤ 1
added_few None None = omega arith
added_few None (Some x) = omega arith
added_few (Some y) n = omega arith
