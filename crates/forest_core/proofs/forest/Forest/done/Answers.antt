use Rattle.std.proofs.Common.{◌≡◌, ◌∙◌, List, [], ◌∷◌, ◌==◌, length, refl, sym, true, arith}
use Rattle.std.proofs.lemmas.Bool.{eqb-true}
use Rattle.bip_defs.specs.Matrix.{Place}
use Rattle.forest_core.proofs.forest.Forest.done.Goals as goal

none : (xs : List Place) → (length xs == 0) ≡ true → xs ≡ []
none [] e = refl
none (x ∷ xs) e = absurd (let zero : length (x ∷ xs) ≡ 0 = eqb-true (length (x ∷ xs)) 0 e in omega arith)

pub returns-then-is_empty : goal.returns-then-is_empty
returns-then-is_empty c = (
  λ h. (sym c.leaves.ensures.leaves ∙ none c.leaves.result.now (sym c.is_empty.ensures ∙ c.if-is_empty.true), c.is_closed.ensures.0 h),
  λ l. c.is_closed.ensures.1 l.1,
)
