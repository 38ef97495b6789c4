-- What a call on an input was given, and what its answers say.
use Rattle.std.specs.Prelude.{◌≡◌, ◌≢◌, ℕ, Bool, true, false, not, ◌==◌, ◌&&◌, ◌+◌, ◌-◌, ◌<◌, ◌≤◌, nat_le, List, [], ◌++◌, length, take, Option, Some, None, Result, Ok, Err}
use Rattle.sp_ids.specs.Entries as entries
use Rattle.mm_defs.specs.declared.answers.End.{End}
use Rattle.mm_defs.specs.declared.answers.End.TheVariants.{File, LastEntry}
use Rattle.mm_defs.specs.declared.answers.ReadError.{ReadError}
use Rattle.mm_defs.specs.declared.answers.ReadError.TheVariants as errors
use Rattle.mm_defs.specs.Words.{has_bytes, lines, open_line}
use Rattle.mm_defs.specs.Faults.{is_limit}
use Rattle.mm_defs.specs.File.{Fault, Reads, first_fault, behind, missing}

-- What contracts see of an input: how many bytes it may use in all, how many it took, those that are not used yet,
-- whether a read gave none, how many LFs were used, and whether no call has failed.
pub record Intake : Type 0 where
  pub limit : ℕ
  pub taken : ℕ
  pub ahead : List ℕ
  pub at_end : Bool
  pub lines : ℕ
  pub good : Bool

-- how many more bytes may be used
abbrev pub room : Intake → ℕ
room input = input.limit - (input.taken - length input.ahead)

-- A call on an input, seen from outside: how many bytes it may use, the bytes ahead, those that the source had before
-- and has afterwards, and the source's count of failures at its start and at its end.
pub record Call : Type 0 where
  pub room : ℕ
  pub ahead : List ℕ
  pub before : List ℕ
  pub after : List ℕ
  pub failures_before : ℕ
  pub failures_after : ℕ

-- all that the call could come to: the bytes ahead, and those of the source
abbrev pub offered : Call → List ℕ
offered call = call.ahead ++ call.before

-- the bytes ahead, and those that the source gave
abbrev pub got : Call → List ℕ
got call = call.ahead ++ take (length call.before - length call.after) call.before

-- those of them that the limit lets the call use
abbrev pub given : Call → List ℕ
given call = take call.room (got call)

-- nothing past the limit came, the source has nothing left, and no read failed
abbrev pub ended : Call → Bool
ended call = nat_le (length (got call)) call.room && not (has_bytes call.after) &&
    (call.failures_before == call.failures_after)

-- the first bad line among those that the call was given
abbrev pub first_bad : End → Call → Option Fault
first_bad end call = first_fault end (ended call) (given call)

-- what was used of these bytes, where this is left
abbrev pub used : List ℕ → List ℕ → List ℕ
used bytes left = take (length bytes - length left) bytes

-- the last line of what was used has no LF
abbrev pub LacksLf : List ℕ → List ℕ → Type 0
LacksLf bytes left = open_line (used bytes left) ≢ []

-- all that the call could use is a good file within the limit, and what follows it is left
pub record ReadsAll (end : End) (call : Call) (t : entries.Entries) (rest : List ℕ) : Type 0 where
  pub reads : Reads (offered call) end t rest
  pub within : length (offered call) - length rest ≤ call.room

-- What each answer says, of a source that tells its bytes; rest is what is left to be used.
abbrev pub IsAnswer : End → Call → List ℕ → Result entries.Entries ReadError → Type 0
IsAnswer end call rest (Ok t) = ReadsAll end call t rest
IsAnswer end call rest (Err (errors.Malformed line kind)) = (first_bad end call
    ≡ Some (record { line = line; kind = kind })) × (is_limit kind ≡ false)
IsAnswer end call rest (Err (errors.Limit line kind)) = (first_bad end call
    ≡ Some (record { line = line; kind = kind })) × (is_limit kind ≡ true)
IsAnswer end call rest (Err errors.TooLong) = (first_bad end call ≡ None)
    × (call.room < length (got call))
IsAnswer end call rest (Err errors.ReadFault) = (first_bad end call ≡ None)
    × (call.failures_before < call.failures_after)
IsAnswer end call rest (Err errors.OutOfMemory) = Unit {0}

-- where the matrix ends with its last entry line: not all of its lines are among these
abbrev pub LacksLines : End → List (List ℕ) → Type 0
LacksLines File ls = Unit {0}
LacksLines LastEntry ls = missing ls ≢ []

-- Of a call that stopped at the limit, or at a read that failed: a matrix that ends with its last entry line had not
-- ended in what was given, and a read is only made while all that came is within the limit.
abbrev pub FellShort : {T : Type 0} → End → Call → Result T ReadError → Type 0
FellShort end call (Ok t) = Unit {0}
FellShort end call (Err (errors.Malformed line kind)) = Unit {0}
FellShort end call (Err (errors.Limit line kind)) = Unit {0}
FellShort end call (Err errors.TooLong) = LacksLines end (lines false (given call))
FellShort end call (Err errors.ReadFault) = LacksLines end (lines false (given call))
    × (length (got call) ≤ call.room)
FellShort end call (Err errors.OutOfMemory) = Unit {0}

-- the answer to a bad line, where memory does not run out
abbrev pub IsAnswerTo : {T : Type 0} → Fault → Result T ReadError → Type 0
IsAnswerTo fault (Ok t) = ⊥
IsAnswerTo fault (Err (errors.Malformed line kind)) = fault ≡ record { line = line; kind = kind }
IsAnswerTo fault (Err (errors.Limit line kind)) = fault ≡ record { line = line; kind = kind }
IsAnswerTo fault (Err errors.TooLong) = ⊥
IsAnswerTo fault (Err errors.ReadFault) = ⊥
IsAnswerTo fault (Err errors.OutOfMemory) = Unit {0}

-- what is answered as Malformed passes no limit, and what is answered as Limit does
abbrev pub HasItsKind : {T : Type 0} → Result T ReadError → Type 0
HasItsKind (Ok t) = Unit {0}
HasItsKind (Err (errors.Malformed line kind)) = is_limit kind ≡ false
HasItsKind (Err (errors.Limit line kind)) = is_limit kind ≡ true
HasItsKind (Err errors.TooLong) = Unit {0}
HasItsKind (Err errors.ReadFault) = Unit {0}
HasItsKind (Err errors.OutOfMemory) = Unit {0}

-- at most one buffer of bytes was taken past the end of a bad line
abbrev pub IsNear : {T : Type 0} → Call → Result T ReadError → Type 0
IsNear call (Ok t) = Unit {0}
IsNear call (Err (errors.Malformed line kind)) = length (behind line (got call)) ≤ 65536
IsNear call (Err (errors.Limit line kind)) = length (behind line (got call)) ≤ 65536
IsNear call (Err errors.TooLong) = Unit {0}
IsNear call (Err errors.ReadFault) = Unit {0}
IsNear call (Err errors.OutOfMemory) = Unit {0}

-- all that the call could come to, within the limit, and nothing is left
pub record IsRest (call : Call) (left bytes : List ℕ) : Type 0 where
  pub bytes_are : bytes ≡ offered call
  pub nothing_left : left ≡ []
  pub within : length (offered call) ≤ call.room

-- Why what follows was not read, by the error: no line is judged, and a read is only made while all that came is within
-- the limit.
abbrev pub RefusesRest : Call → ReadError → Type 0
RefusesRest call (errors.Malformed line kind) = ⊥
RefusesRest call (errors.Limit line kind) = ⊥
RefusesRest call errors.TooLong = call.room < length (got call)
RefusesRest call errors.ReadFault = (call.failures_before < call.failures_after)
    × (length (got call) ≤ call.room)
RefusesRest call errors.OutOfMemory = Unit {0}

-- of the bytes that came, at most one is past what may be used
abbrev pub TakesAtMostOnePast : Call → Type 0
TakesAtMostOnePast call = length (got call) ≤ call.room + 1

-- it is none of the errors that judge a line
abbrev pub JudgesNoLine : ReadError → Type 0
JudgesNoLine (errors.Malformed line kind) = ⊥
JudgesNoLine (errors.Limit line kind) = ⊥
JudgesNoLine errors.TooLong = Unit {0}
JudgesNoLine errors.ReadFault = Unit {0}
JudgesNoLine errors.OutOfMemory = Unit {0}

-- the call that may use so many bytes, with these ahead, over a source that tells its bytes
abbrev pub call_on : ℕ → List ℕ → ℕ → ℕ → List ℕ → List ℕ → Call
call_on room ahead failures_before failures_after before after = record {
  room = room;
  ahead = ahead;
  before = before;
  after = after;
  failures_before = failures_before;
  failures_after = failures_after;
}

-- it refuses the bytes for what they are
abbrev pub IsRefusal : {T : Type 0} → Result T ReadError → Type 0
IsRefusal (Ok t) = ⊥
IsRefusal (Err (errors.Malformed line kind)) = Unit {0}
IsRefusal (Err (errors.Limit line kind)) = Unit {0}
IsRefusal (Err errors.TooLong) = Unit {0}
IsRefusal (Err errors.ReadFault) = ⊥
IsRefusal (Err errors.OutOfMemory) = Unit {0}

-- it is a value, unless memory ran out
abbrev pub IsOkOrNoMemory : {T : Type 0} → Result T ReadError → Type 0
IsOkOrNoMemory (Ok t) = Unit {0}
IsOkOrNoMemory (Err (errors.Malformed line kind)) = ⊥
IsOkOrNoMemory (Err (errors.Limit line kind)) = ⊥
IsOkOrNoMemory (Err errors.TooLong) = ⊥
IsOkOrNoMemory (Err errors.ReadFault) = ⊥
IsOkOrNoMemory (Err errors.OutOfMemory) = Unit {0}

-- it refuses the bytes for their number, unless memory ran out
abbrev pub IsTooLongOrNoMemory : {T : Type 0} → Result T ReadError → Type 0
IsTooLongOrNoMemory (Ok t) = ⊥
IsTooLongOrNoMemory (Err (errors.Malformed line kind)) = ⊥
IsTooLongOrNoMemory (Err (errors.Limit line kind)) = ⊥
IsTooLongOrNoMemory (Err errors.TooLong) = Unit {0}
IsTooLongOrNoMemory (Err errors.ReadFault) = ⊥
IsTooLongOrNoMemory (Err errors.OutOfMemory) = Unit {0}
