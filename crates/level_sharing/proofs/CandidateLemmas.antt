-- Candidates that are claimed one after the other.
use Rattle.std.proofs.Common.{◌≡◌, ℕ, subst}
use Rattle.claim_words.specs.WorkerState.{WorkerState}
use Rattle.level_sharing.specs.Candidates.{IsDecided}

pub decided_same : (w : WorkerState) (row root row' root' : ℕ) → row ≡ row' → root ≡ root' → IsDecided w row root → IsDecided w row' root'
decided_same w row root row' root' e f d = subst (λ r. IsDecided w r root') e (subst (λ x. IsDecided w row x) f d)
