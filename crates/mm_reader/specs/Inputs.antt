-- What callers see of an input.
use Rattle.std.specs.Prelude.{◌≡◌, ◌≤◌, ◌+◌, ◌-◌, ◌++◌, ◌↔◌, ℕ, List, Option, length, true, IsTrue, Some, Result, IsOk, OnOk}
use Rattle.std.specs.List.{count_by}
use Rattle.std.specs.Result.{IsErrOf}
use Rattle.sp_ids.specs.Entries as entries
use Rattle.sp_ports.specs.Bytes.{GivesPrefix, IsAtEnd, WhereKnown}
use Rattle.sp_ports.specs.Device.{CountHasNotFallen, Device, HasReadFault, IsSteady, seen}
use Rattle.mm_defs.specs.Words.{is_lf}
use Rattle.mm_defs.specs.declared.answers.End.{End}
use Rattle.mm_defs.specs.declared.answers.End.TheVariants.{File}
use Rattle.mm_defs.specs.File.{Fault}
use Rattle.mm_defs.specs.declared.answers.ReadError.{ReadError}
use Rattle.mm_defs.specs.declared.answers.ReadError.TheVariants.{ReadFault, TooLong}
use Rattle.mm_defs.specs.Calls.{Call, Intake, call_on, first_bad, room, FellShort, IsAnswer, IsAnswerTo, IsNear, LacksLf, TakesAtMostOnePast}
use Rattle.mm_reader.specs.declared.input.Input.TheInside.{Inside}
use Rattle.mm_reader.specs.Windows.{ahead_of, IsInRoom, IsWindow}

abbrev pub intake_of : Inside → Intake
intake_of i = record {
  limit = i.limit;
  taken = (i.limit - i.window.room) + length (ahead_of i.window);
  ahead = ahead_of i.window;
  at_end = i.window.at_end;
  lines = i.window.lines;
  good = i.good;
}

-- what may still be used is within the limit, and so are the lines of what was used; all bytes
-- ahead of a good input may be used
pub record IsInput (i : Inside) : Type 0 where
  pub window : IsWindow i.window
  pub room : i.window.room ≤ i.limit
  pub lines : i.window.lines + i.window.room ≤ i.limit
  pub in_room : i.good ≡ true → IsInRoom i.window

-- what holds of a call on an input, where its source tells its bytes
abbrev pub OnCall : Intake → Device → (Call → Type 0) → Type 0
OnCall input source P = WhereKnown source.before source.after
    (λ before after.
    P (call_on (room input) input.ahead source.failed_before source.failed_after before after))

-- At Ok the source's count of failures is as before, and ReadFault is answered only where it rose. It never falls.
pub record FailsByReadFault {T : Type 0} (source : Device)
    (result : Result T ReadError) : Type 0 where
  pub counts : CountHasNotFallen source
  pub steady : OnOk result (IsSteady source)
  pub failed : IsErrOf result ReadFault → HasReadFault source

-- ---- the reading calls

-- No call on the input has failed, and where a read has given no bytes its source is at its end.
pub record CanRead (left : Option (List ℕ)) (input : Intake) : Type 0 where
  pub good : IsTrue input.good
  pub at_end : IsTrue input.at_end → IsAtEnd left

-- Where a read has given no bytes, the source is not asked again; the input's limit stays.
pub record Asks {S : Type 0} (left : S → Option (List ℕ)) (before after : S)
    (old new : Intake) : Type 0 where
  pub at_end : IsTrue new.at_end → IsAtEnd (left after)
  pub unasked : IsTrue old.at_end → after ≡ before
  pub stays : IsTrue old.at_end → IsTrue new.at_end
  pub limit : new.limit ≡ old.limit

-- What a call takes from its source, whatever it answers: what is left is the end of what there
-- was, and at most one byte was taken past the limit.
pub record Draws {S : Type 0} (left : S → Option (List ℕ)) (faults : S → ℕ) (before after : S)
    (old new : Intake) : Type 0 where
  pub gave : GivesPrefix (left before) (left after)
  pub most : OnCall old (seen left faults before after) TakesAtMostOnePast
  pub asks : Asks left before after old new

-- the LFs of what was used were counted, and the bytes that were taken
pub record Counts (left_before left_after : Option (List ℕ)) (old new : Intake) : Type 0 where
  pub lines : WhereKnown left_before left_after (λ before after.
      new.lines + count_by is_lf (new.ahead ++ after)
      ≡ old.lines + count_by is_lf (old.ahead ++ before))
  pub taken : WhereKnown left_before left_after (λ before after.
      new.taken + length after ≡ old.taken + length before)
  pub most_taken : new.taken ≤ new.limit + 1

-- At Ok all is well with the input and its source, and an Err has its cause.
pub record Fares {T : Type 0} (source : Device) (new : Intake)
    (result : Result T ReadError) : Type 0 where
  pub good : IsTrue new.good ↔ IsOk result
  pub cause : FailsByReadFault source result
  pub past : IsErrOf result TooLong → new.taken ≡ new.limit + 1

-- What a reading of a matrix says of the bytes: the answer, that a bad line is answered and the
-- first one, how near behind it the reading stopped, and that a matrix had not ended before.
pub record Tells (end : End) (old : Intake) (source : Device) (ahead : List ℕ)
    (result : Result entries.Entries ReadError) : Type 0 where
  pub answer : OnCall old source (λ call. IsAnswer end call (ahead ++ call.after) result)
  pub bad : OnCall old source
      (λ call. (fault : Fault) → first_bad end call ≡ Some fault → IsAnswerTo fault result)
  pub near : OnCall old source (λ call. IsNear call result)
  pub short : OnCall old source (λ call. FellShort end call result)

-- A read has given none where the file was read to its end, and where the last line used has no LF.
pub record EndsBy (end : End) (left_before left_after : Option (List ℕ))
    (old new : Intake) : Type 0 where
  pub ended : end ≡ File → IsTrue new.at_end
  pub last_line : WhereKnown left_before left_after (λ before after.
      LacksLf (old.ahead ++ before) (new.ahead ++ after) → IsTrue new.at_end)
