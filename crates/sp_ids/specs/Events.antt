-- Lists of events.
use Rattle.std.specs.Prelude.{ℕ, List, ◌++◌, map}
use Rattle.sp_ids.specs.declared.events.Event.{Event}
use Rattle.sp_ids.specs.declared.events.Event.TheVariants.{Claim, Win}

-- a claim of each row by its column
abbrev pub claim_events : List (ℕ × ℕ) → List Event
claim_events ps = map (λ (p : ℕ × ℕ). Claim p.0 p.1) ps

-- a win of each root with its leaf
abbrev pub win_events : List (ℕ × ℕ) → List Event
win_events ps = map (λ (p : ℕ × ℕ). Win p.0 p.1) ps

-- these claims, and then these wins
abbrev pub claims_then_wins : List (ℕ × ℕ) → List (ℕ × ℕ) → List Event
claims_then_wins claims wins = claim_events claims ++ win_events wins
