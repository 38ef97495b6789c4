-- What one worker has done in the midst of its share.
use Rattle.std.proofs.Common.{◌≡◌, ◌∙◌, ℕ, ◌<◌, List, get_or, length, refl, subst}
use Rattle.bip_defs.specs.Forest.{InForest, State}
use Rattle.bip_defs.specs.Lists.{Among, Lists}
use Rattle.bip_defs.specs.Matrix.{IsEntry, Matrix}
use Rattle.bip_defs.proofs.Slices.{read_among}
use Rattle.claim_words.specs.WorkerState.{WorkerState}
use Rattle.bottom_up.specs.Candidates.{StaysThrough}
use Rattle.level_sharing.specs.Candidates.{HasAdvanced}
use Rattle.level_sharing.specs.Progress.{GoesOn, HasSettled, KnowsWon}
use Rattle.level_sharing.specs.Shares.{Share}

-- it has looked at these columns
pub record HasLooked (s : State) (cols : List ℕ) (v w : WorkerState) : Type 0 where
  pub progress : (own : Share) → GoesOn s own v w
  pub stays : StaysThrough s v w
  pub settled : HasSettled s w
  pub won : (c : ℕ) → Among c cols → InForest s c → KnowsWon s w c

pub stays_here : (s : State) (v : WorkerState) → StaysThrough s v v
stays_here s v = record { seat = refl; won = λ c k. k; rows = λ r k. k }

pub step_stays : (s : State) (own : Share) (v w : WorkerState) → w.seat.board ≡ v.seat.board → HasAdvanced s own v w → StaysThrough s v w
step_stays s own v w e a = record { seat = e; won = a.remembers.won; rows = a.remembers.through_row }

pub stays_both : (s : State) (u v w : WorkerState) → StaysThrough s u v → StaysThrough s v w → StaysThrough s u w
stays_both s u v w p q = record { seat = q.seat ∙ p.seat; won = λ c k. q.won c (p.won c k); rows = λ r k. q.rows r (p.rows r k) }

-- a column of a row's entries
pub entry_at : (a b : Matrix) (r : ℕ) (cols : List ℕ) (i c : ℕ) → a ≡ b → Lists (λ d. IsEntry a r d) cols → i < length cols → c ≡ get_or cols i c → IsEntry b r c
entry_at a b r cols i c same lists lt is = subst (λ (m : Matrix). IsEntry m r c) same (lists.sound c (read_among c cols i lt is))
