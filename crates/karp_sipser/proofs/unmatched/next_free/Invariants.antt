use Rattle.std.proofs.Common.{ℕ, ◌<◌, ◌≤◌}
use Rattle.bip_defs.specs.Start.{IsFree}
use Rattle.karp_sipser.proofs.unmatched.next_free.Given as goal

abbrev pub invariant-loop-at : goal.invariant-loop-at
invariant-loop-at l = (r c : ℕ) → l.from ≤ c → c < l.at → ¬ IsFree l.pattern l.matching.pairs r c
