use Rattle.std.proofs.Common.{◌≡◌, ◌-◌, ◌≤◌, ◌∷◌}
use Rattle.flip_words.specs.Listed.{nothing}
use Rattle.flip_words.specs.Seat.{first_seat, more_seats}
use Rattle.flip_words.proofs.board.FlipBoard.split_off.Given as goal

pub record invariant-loop-number (l : goal.Live-loop-number) : Type 0 where
  pub some : 1 ≤ l.number
  pub seats : l.all.items ≡ first_seat l.self l.number nothing ∷ more_seats nothing l.self 1 (l.number - 1)
