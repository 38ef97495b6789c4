-- The pairs of some of the columns.
use Rattle.std.specs.Prelude.{ℕ, List, filter, nat_eq, nat_lt}
use Rattle.bip_defs.specs.Matrix.{Place}

abbrev pub pairs_at : ℕ → List Place → List Place
pairs_at c m = filter (λ (p : Place). nat_eq p.1 c) m

abbrev pub pairs_before : ℕ → List Place → List Place
pairs_before c m = filter (λ (p : Place). nat_lt p.1 c) m
