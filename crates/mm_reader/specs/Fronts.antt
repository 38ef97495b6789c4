-- What stands in front of a reader, and a single byte of it.
use Rattle.std.specs.Prelude.{◌≡◌, ◌+◌, ℕ, Bool, true, if◌then◌else◌, List, [], ◌∷◌, ◌++◌, length, Option, Some, None}
use Rattle.sp_ports.specs.Bytes.{Gives, IsAtEnd}
use Rattle.sp_ports.specs.Device.{Device, HasReadFault, IsSteady}
use Rattle.mm_defs.specs.declared.answers.ReadError.{ReadError}
use Rattle.mm_defs.specs.declared.answers.ReadError.TheVariants as errors
use Rattle.mm_defs.specs.Words.{is_lf}
use Rattle.mm_defs.specs.Calls.{Intake, room}
use Rattle.mm_reader.specs.declared.window.Window.{Window}
use Rattle.mm_reader.specs.Windows.{ahead_of}

-- the bytes ahead, how many bytes may still be used, how many LFs were used, and whether a read gave none
pub record Front : Type 0 where
  pub ahead : List ℕ
  pub room : ℕ
  pub lines : ℕ
  pub at_end : Bool

abbrev pub front : Intake → Front
front input = record {
  ahead = input.ahead;
  room = room input;
  lines = input.lines;
  at_end = input.at_end;
}

abbrev pub front_of : Window → Front
front_of w = record { ahead = ahead_of w; room = w.room; lines = w.lines; at_end = w.at_end }

-- this byte was used, the first of those ahead
pub record UsesFirst (old new : Front) (b : ℕ) : Type 0 where
  pub bytes_are : old.ahead ≡ b ∷ new.ahead
  pub room_is : new.room + 1 ≡ old.room
  pub lines_are : new.lines ≡ old.lines + (if is_lf b then 1 else 0)
  pub at_end_same : new.at_end ≡ old.at_end

-- this byte was used, the first of those ahead and those that the source gave: the others are ahead
pub record UsesByte (old new : Front) (source : Device) (b : ℕ) : Type 0 where
  pub gave : List ℕ
  pub given : Gives source.before source.after gave
  pub bytes_are : old.ahead ++ gave ≡ b ∷ new.ahead
  pub room_is : new.room + 1 ≡ old.room
  pub lines_are : new.lines ≡ old.lines + (if is_lf b then 1 else 0)
  pub steady : IsSteady source

-- there is no byte any more, and a read has shown it
pub record IsOver (old new : Front) (source : Device) : Type 0 where
  pub none_before : old.ahead ≡ []
  pub none : new.ahead ≡ []
  pub given : Gives source.before source.after []
  pub over : IsAtEnd source.after
  pub at_end : new.at_end ≡ true
  pub room_is : new.room ≡ old.room
  pub lines_are : new.lines ≡ old.lines
  pub steady : IsSteady source

-- a byte was used, or there is none
abbrev pub Advances : Front → Front → Device → Option ℕ → Type 0
Advances old new source (Some b) = UsesByte old new source b
Advances old new source None = IsOver old new source

-- no byte was ahead, all that may be used were used, and one more has come
pub record IsPastLimit (old new : Front) (source : Device) : Type 0 where
  pub none_before : old.ahead ≡ []
  pub gave : List ℕ
  pub given : Gives source.before source.after gave
  pub bytes_are : old.ahead ++ gave ≡ new.ahead
  pub one_past : length new.ahead ≡ 1
  pub no_room : old.room ≡ 0
  pub room_is : new.room ≡ old.room
  pub lines_are : new.lines ≡ old.lines
  pub steady : IsSteady source

-- no byte was ahead, and a read has failed
pub record HasFailed (old new : Front) (source : Device) : Type 0 where
  pub none_before : old.ahead ≡ []
  pub none : new.ahead ≡ []
  pub same : source.after ≡ source.before
  pub fault : HasReadFault source
  pub room_is : new.room ≡ old.room
  pub lines_are : new.lines ≡ old.lines

-- why no byte was used, and whether there is one is not known
abbrev pub Stops : Front → Front → Device → ReadError → Type 0
Stops old new source (errors.Malformed line kind) = ⊥
Stops old new source (errors.Limit line kind) = ⊥
Stops old new source errors.TooLong = IsPastLimit old new source
Stops old new source errors.ReadFault = HasFailed old new source
Stops old new source errors.OutOfMemory = ⊥
