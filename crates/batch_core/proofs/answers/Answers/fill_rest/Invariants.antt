use Rattle.std.proofs.Common.{◌≡◌, ◌≢◌, ◌<◌, ℕ, None}
use Rattle.batch_core.specs.Shares.{FillsOnly, slot_at}
use Rattle.batch_core.proofs.answers.Answers.fill_rest.Given as goal

abbrev pub invariant-loop-file : goal.invariant-loop-file
invariant-loop-file g l = (l.self.files ≡ l.initial.self.files)
    × FillsOnly l.initial.self.slots l.self.slots
    × ((i : ℕ) → i < l.file → slot_at l.self.slots i ≢ None)
