-- What comparisons of amounts show.
use Rattle.std.proofs.Common.{◌≡◌, ◌≢◌, ◌∙◌, ℕ, ◌<◌, ◌≤◌, Bool, true, false, sym, rules}
use Rattle.std.proofs.lemmas.Bool.Decides.{Decides-eqb, not_from_Decides}
use Rattle.std.specs.Prelude.{◌==◌}
use Rattle.std.specs.Ordering.{as_partial_cmp, nat_cmp, partial_ge, partial_lt}

pub equal : (a b : ℕ) (r : Bool) → r ≡ (a == b) → r ≡ true → a ≡ b
equal a b r is holds = (Decides-eqb a b).0 (sym is ∙ holds)

pub unequal : (a b : ℕ) (r : Bool) → r ≡ (a == b) → r ≡ false → a ≢ b
unequal a b r is not = not_from_Decides (a == b) (Decides-eqb a b) (sym is ∙ not)

pub at_least : (a b : ℕ) (r : Bool) → r ≡ partial_ge (as_partial_cmp nat_cmp) a b → r ≡ true → b ≤ a
at_least a b r is holds = search rules

pub less : (a b : ℕ) (r : Bool) → r ≡ partial_ge (as_partial_cmp nat_cmp) a b → r ≡ false → a < b
less a b r is not = search rules

pub not_less : (a b : ℕ) (r : Bool) → r ≡ partial_lt (as_partial_cmp nat_cmp) a b → r ≡ false → b ≤ a
not_less a b r is not = search rules
