-- What the readings of this crate leave of a window and of its source.
use Rattle.std.specs.Prelude.{◌≡◌, ◌++◌, ℕ, List, Option, IsTrue, Result, OnOk}
use Rattle.std.specs.Result.{IsErrOf}
use Rattle.sp_ports.specs.Bytes.{GivesPrefix, IsAtEnd, WhereKnown}
use Rattle.sp_ports.specs.Device.{Device, seen}
use Rattle.mm_defs.specs.declared.answers.End.{End}
use Rattle.mm_defs.specs.declared.answers.End.TheVariants.{File}
use Rattle.mm_defs.specs.declared.answers.ReadError.{ReadError}
use Rattle.mm_defs.specs.declared.answers.ReadError.TheVariants.{TooLong}
use Rattle.mm_defs.specs.Calls.{LacksLf, TakesAtMostOnePast}
use Rattle.mm_reader.specs.declared.window.Window.{Window}
use Rattle.mm_reader.specs.Inputs.{FailsByReadFault}
use Rattle.mm_reader.specs.Windows.{ahead_of, HasCounted, IsInRoom, IsOnePast, IsWindow, KeepsWindow, OnCallOf}

-- The window may be read on: where a read has given no bytes, its source is at its end.
pub record CanGoOn (left : Option (List ℕ)) (w : Window) : Type 0 where
  pub window : IsWindow w
  pub at_end : IsTrue w.at_end → IsAtEnd left

-- Where a read has given no bytes, the source is not asked again.
pub record AsksOnce {S : Type 0} (left : S → Option (List ℕ)) (before after : S)
    (old new : Window) : Type 0 where
  pub at_end : IsTrue new.at_end → IsAtEnd (left after)
  pub unasked : IsTrue old.at_end → after ≡ before
  pub stays : IsTrue old.at_end → IsTrue new.at_end

-- What a reading leaves, whatever it answers: what the source has left is the end of what it had,
-- at most one byte was taken past the room, and what was used was counted.
pub record Leaves {S : Type 0} (left : S → Option (List ℕ)) (faults : S → ℕ) (before after : S)
    (old new : Window) : Type 0 where
  pub gave : GivesPrefix (left before) (left after)
  pub most : OnCallOf old (seen left faults before after) TakesAtMostOnePast
  pub counted : WhereKnown (left before) (left after) (λ first last. HasCounted old new first last)
  pub window : KeepsWindow old new
  pub asks : AsksOnce left before after old new

-- At Ok no read has failed and all bytes ahead may be used, and an Err has its cause.
pub record HasCause {T : Type 0} (source : Device) (new : Window)
    (result : Result T ReadError) : Type 0 where
  pub fault : FailsByReadFault source result
  pub past : IsErrOf result TooLong → IsOnePast new
  pub in_room : OnOk result (IsInRoom new)

-- A read has given none where the file was read to its end, and where the last line used has no LF.
pub record EndsFor (end : End) (left_before left_after : Option (List ℕ))
    (old new : Window) : Type 0 where
  pub ended : end ≡ File → IsTrue new.at_end
  pub last_line : WhereKnown left_before left_after (λ before after.
      LacksLf (ahead_of old ++ before) (ahead_of new ++ after) → IsTrue new.at_end)
