-- The bytes of a source that were taken and are not used yet.
use Rattle.std.specs.Prelude.{◌≡◌, ◌≤◌, ◌<◌, ◌+◌, ◌-◌, ◌^◌, ℕ, Bool, true, false, List, [], ◌++◌, length, take, drop, vec_len, IsTrue, IsFalse, Option, Some, Result}
use Rattle.std.specs.List.{count_by}
use Rattle.sp_ids.specs.Entries as entries
use Rattle.sp_ports.specs.Bytes.{Gives, IsAtEnd, WhereKnown}
use Rattle.sp_ports.specs.Device.{Device}
use Rattle.mm_defs.specs.declared.answers.End.{End}
use Rattle.mm_defs.specs.declared.answers.ReadError.{ReadError}
use Rattle.mm_defs.specs.declared.answers.ReadError.TheVariants as errors
use Rattle.mm_defs.specs.Words.{lines, is_lf}
use Rattle.mm_defs.specs.Faults.{is_limit}
use Rattle.mm_defs.specs.File.{Fault, line_faults, first_fault, behind}
use Rattle.mm_defs.specs.Calls.{Call, call_on, FellShort, IsAnswer, IsNear, LacksLines}
use Rattle.mm_reader.specs.BadLines.{answer_to}
use Rattle.mm_reader.specs.declared.machine.Machine.{Machine}
use Rattle.mm_reader.specs.declared.machine.Stop.{Stop}
use Rattle.mm_reader.specs.declared.machine.Stop.TheVariants as stops
use Rattle.mm_reader.specs.declared.window.Window.{Window}
use Rattle.mm_reader.specs.Machine.{IsReady, is_complete}
use Rattle.mm_reader.specs.Stages.{begun_lines, IsAfter, EndsBad, StandsSomewhere}

-- the bytes ahead
abbrev pub ahead_of : Window → List ℕ
ahead_of w = take (w.to - w.from) (drop w.from w.buffer.items)

-- all bytes ahead may be used
abbrev pub IsInRoom : Window → Type 0
IsInRoom w = w.to ≤ w.from + w.room

-- the buffer has its size, the counts fit, and where not all bytes ahead may be used, none may be
-- and one is ahead
pub record IsWindow (w : Window) : Type 0 where
  pub long : vec_len w.buffer ≡ 65536
  pub in_order : w.from ≤ w.to
  pub within : w.to ≤ 65536
  pub fits : w.lines + w.room < 2 ^ 64
  pub asked : w.to ≤ w.from + w.room + 1
  pub in_room : 0 < w.room → IsInRoom w

-- A read gave so many bytes, which are all that is ahead now, and none only at the end.
pub record Refills (left_before left_after : Option (List ℕ)) (new : Window)
    (count : ℕ) : Type 0 where
  pub bytes : Gives left_before left_after (ahead_of new)
  pub count_is : count ≡ length (ahead_of new)
  pub some : IsFalse new.at_end → 0 < count
  pub end : IsTrue new.at_end → IsAtEnd left_after

-- A read failed: the source has what it had, and nothing is ahead.
pub record StaysEmpty (left_before left_after : Option (List ℕ))
    (old new : Window) : Type 0 where
  pub kept : left_after ≡ left_before
  pub same : new.at_end ≡ old.at_end
  pub none : ahead_of new ≡ []

-- so many of the bytes ahead were used, and their LFs counted
pub record Uses (old new : Window) (n : ℕ) : Type 0 where
  pub some : n ≤ length (ahead_of old)
  pub ahead_is : ahead_of new ≡ drop n (ahead_of old)
  pub room_is : new.room + n ≡ old.room
  pub lines_are : new.lines ≡ old.lines + count_by is_lf (take n (ahead_of old))
  pub at_end_same : new.at_end ≡ old.at_end

-- some of the bytes ahead were used, or none
abbrev pub UsesSome : Window → Window → Type 0
UsesSome old new = (n : ℕ) × Uses old new n

-- the bytes ahead are one more than may be used
abbrev pub IsOnePast : Window → Type 0
IsOnePast w = length (ahead_of w) ≡ w.room + 1

-- The machine may go on with so many bytes: it stands behind some, and its matrix is not read yet.
pub record CanConsume (end : End) (m : Machine) (room : ℕ) : Type 0 where
  pub ready : IsReady m.phase m.triples
  pub unfinished : is_complete end m.phase ≡ false
  pub number : begun_lines m + room < 2 ^ 64
  pub stands : StandsSomewhere end m

-- the machine got a prefix of the bytes ahead, and is ready for more or has its matrix
pub record Consumes (end : End) (old new : Window) (before after : Machine)
    (done : Bool) : Type 0 where
  pub count : ℕ
  pub uses : Uses old new count
  pub stands : (bytes : List ℕ) → IsAfter end before bytes
      → IsAfter end after (bytes ++ take count (ahead_of old))
  pub done_is : done ≡ is_complete end after.phase
  pub all : done ≡ false → ahead_of new ≡ []
  pub closed : done ≡ true → after.begun ≡ false
  pub number : begun_lines after ≤ begun_lines before + count
  pub ready : IsReady after.phase after.triples

-- a prefix of these bytes, within the room, ends with the one bad line
pub record HasBadPrefix (end : End) (bytes ahead : List ℕ) (room : ℕ) (fault : Fault) : Type 0 where
  pub prefix : List ℕ
  pub rest : List ℕ
  pub ahead_is : ahead ≡ prefix ++ rest
  pub short : length prefix ≤ room
  pub ends : EndsBad end fault (bytes ++ prefix)

-- why the bytes ahead are refused
abbrev pub Refuses : End → List ℕ → List ℕ → ℕ → ReadError → Type 0
Refuses end bytes ahead room (errors.Malformed line kind) = HasBadPrefix end bytes ahead room
    (record { line = line; kind = kind }) × (is_limit kind ≡ false)
Refuses end bytes ahead room (errors.Limit line kind) = HasBadPrefix end bytes ahead room
    (record { line = line; kind = kind }) × (is_limit kind ≡ true)
Refuses end bytes ahead room errors.TooLong = (room < length ahead)
    × (line_faults end (lines false (bytes ++ take room ahead)) ≡ [])
    × LacksLines end (lines false (bytes ++ take room ahead))
Refuses end bytes ahead room errors.ReadFault = ⊥
Refuses end bytes ahead room errors.OutOfMemory = Unit {0}

-- why bytes are refused with which the input ended
abbrev pub RefusesAtEnd : End → List ℕ → ReadError → Type 0
RefusesAtEnd end bytes (errors.Malformed line kind) = (first_fault end true bytes
    ≡ Some (record { line = line; kind = kind })) × (behind line bytes ≡ [])
    × (is_limit kind ≡ false)
RefusesAtEnd end bytes (errors.Limit line kind) = (first_fault end true bytes
    ≡ Some (record { line = line; kind = kind })) × (behind line bytes ≡ [])
    × (is_limit kind ≡ true)
RefusesAtEnd end bytes errors.TooLong = ⊥
RefusesAtEnd end bytes errors.ReadFault = ⊥
RefusesAtEnd end bytes errors.OutOfMemory = Unit {0}

-- how a stop is answered
abbrev pub refusal_of : Stop → ReadError
refusal_of (stops.Bad fault) = answer_to fault
refusal_of stops.Memory = errors.OutOfMemory

-- what holds of the call, where the source tells its bytes
abbrev pub OnCallOf : Window → Device → (Call → Type 0) → Type 0
OnCallOf w source P = WhereKnown source.before source.after
    (λ before after.
    P (call_on w.room (ahead_of w) source.failed_before source.failed_after before after))

-- what was used was counted, and so were its LFs
pub record HasCounted (old new : Window) (before after : List ℕ) : Type 0 where
  pub bytes : new.room + length (ahead_of old ++ before) ≡ old.room + length (ahead_of new ++ after)
  pub lfs : new.lines + count_by is_lf (ahead_of new ++ after)
      ≡ old.lines + count_by is_lf (ahead_of old ++ before)

-- what a reading leaves of a window, whatever it answers
pub record KeepsWindow (old new : Window) : Type 0 where
  pub window : IsWindow new
  pub room : new.room ≤ old.room
  pub counts : new.lines + new.room ≤ old.lines + old.room

-- what a reading of a matrix answers, of a source that tells its bytes
pub record Answers (end : End) (call : Call) (new : Window)
    (result : Result entries.Entries ReadError) : Type 0 where
  pub answer : IsAnswer end call (ahead_of new ++ call.after) result
  pub near : IsNear call result
  pub short : FellShort end call result

-- ---- the reading of all that follows

-- the bytes ahead were added to these
pub record TakesAhead (old new : Window) (before after : List ℕ) : Type 0 where
  pub bytes_are : after ≡ before ++ ahead_of old
  pub ahead_is : ahead_of new ≡ []
  pub room_is : new.room + length (ahead_of old) ≡ old.room
  pub lines_are : new.lines ≡ old.lines + count_by is_lf (ahead_of old)

-- why the bytes ahead were not added
abbrev pub RefusesAhead : Window → ReadError → Type 0
RefusesAhead w (errors.Malformed line kind) = ⊥
RefusesAhead w (errors.Limit line kind) = ⊥
RefusesAhead w errors.TooLong = w.room < length (ahead_of w)
RefusesAhead w errors.ReadFault = ⊥
RefusesAhead w errors.OutOfMemory = Unit {0}
