use Rattle.std.proofs.Common.{◌≡◌, drop, take}
use Rattle.std.specs.Mem.Slots.{slots_items}
use Rattle.flip_words.specs.WordCodes.{mates_in}
use Rattle.flip_words.specs.Stored.{AreSized}
use Rattle.flip_words.proofs.closing.read_mates.Given as goal

pub record invariant-loop-row (l : goal.Live-loop-row) : Type 0 where
  pub sizes : AreSized l.mates l.rows l.cols
  pub rows : take l.row l.mates.rows ≡ take l.row (mates_in l.cols (slots_items l.words.words))

pub record invariant-loop-col (l : goal.Live-loop-col) : Type 0 where
  pub sizes : AreSized l.mates l.rows l.cols
  pub rows : l.mates.rows ≡ take l.rows (mates_in l.cols (slots_items l.words.words))
  pub cols : take l.col l.mates.cols ≡ take l.col (drop l.rows (mates_in l.cols (slots_items l.words.words)))
