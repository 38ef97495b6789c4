-- What the machine stands for between two bytes.
use Rattle.std.specs.Prelude.{◌≡◌, ◌≤◌, ◌+◌, ◌-◌, ℕ, true, false, if◌then◌else◌, List, [], ◌∷◌, ◌++◌, length, take, drop, max, slice_get, Some}
use Rattle.sp_ids.specs.Entries as entries
use Rattle.mm_defs.specs.declared.answers.End.{End}
use Rattle.mm_defs.specs.declared.answers.End.TheVariants.{LastEntry}
use Rattle.mm_defs.specs.Words.{lines, open_line, has_bytes}
use Rattle.mm_defs.specs.File.{Fault, line_faults, faults, first_fault, entries_of, behind, last_number, matrix_lines}
use Rattle.mm_reader.specs.declared.machine.Machine.{Machine}
use Rattle.mm_reader.specs.declared.machine.Phase.{Phase}
use Rattle.mm_reader.specs.declared.machine.Stop.{Stop}
use Rattle.mm_reader.specs.declared.machine.Stop.TheVariants as stops
use Rattle.mm_lines.specs.Lines.{IsLine}
use Rattle.mm_reader.specs.Machine.{HasLines, IsReady, is_complete}

-- how many lines have begun
abbrev pub begun_lines : Machine → ℕ
begun_lines m = m.number + (if m.begun then 1 else 0)

-- These lines have come, and none has begun behind them.
pub record IsBetween (end : End) (m : Machine) (ls : List (List ℕ)) : Type 0 where
  pub lines_are : HasLines end m.phase m.triples ls
  pub number_is : m.number ≡ length ls
  pub open_is : IsLine m.line []
  pub begun_is : m.begun ≡ false

-- These lines have come, and the open line has these bytes so far.
pub record HasOpenLine (end : End) (m : Machine) (ls : List (List ℕ)) (line : List ℕ) : Type 0 where
  pub lines_are : HasLines end m.phase m.triples ls
  pub number_is : m.number ≡ length ls
  pub open_is : IsLine m.line line

-- These bytes have come: their lines are good, and the open line is kept by its words.
pub record IsAfter (end : End) (m : Machine) (bytes : List ℕ) : Type 0 where
  pub lines_are : HasLines end m.phase m.triples (lines false bytes)
  pub number_is : m.number ≡ length (lines false bytes)
  pub open_is : IsLine m.line (open_line bytes)
  pub begun_is : m.begun ≡ has_bytes (open_line bytes)

-- some bytes have come
abbrev pub StandsSomewhere : End → Machine → Type 0
StandsSomewhere end m = (bytes : List ℕ) × IsAfter end m bytes

-- the bytes end with the one bad line
pub record EndsBad (end : End) (fault : Fault) (bytes : List ℕ) : Type 0 where
  pub bad : line_faults end (lines false bytes) ≡ fault ∷ []
  pub number_is : fault.line ≡ length (lines false bytes)
  pub closed : open_line bytes ≡ []

abbrev pub StopsIn : End → List ℕ → Stop → Type 0
StopsIn end bytes (stops.Bad fault) = EndsBad end fault bytes
StopsIn end bytes stops.Memory = Unit {0}

-- a prefix of the piece ends with the one bad line
pub record StopsWithin (end : End) (bytes piece : List ℕ) (stop : Stop) : Type 0 where
  pub prefix : List ℕ
  pub rest : List ℕ
  pub piece_is : piece ≡ prefix ++ rest
  pub stops : StopsIn end (bytes ++ prefix) stop

-- the input ended with these lines, and none is bad or missing
pub record IsAll (end : End) (phase : Phase) (t : entries.Entries) (ls : List
    (List ℕ)) : Type 0 where
  pub good : faults end true ls ≡ []
  pub entries : t ≡ entries_of ls
  pub complete : is_complete LastEntry phase ≡ true
  pub last : end ≡ LastEntry → last_number (matrix_lines ls) ≡ length ls

-- the input ended with these lines, and this is its first fault
abbrev pub Lacks : End → List (List ℕ) → Stop → Type 0
Lacks end ls (stops.Bad fault) = (slice_get (faults end true ls) 0 ≡ Some fault)
    × (fault.line ≡ max (length ls) 1)
Lacks end ls stops.Memory = Unit {0}

-- the input ended with these bytes, and this is its first fault
abbrev pub StopsAtEnd : End → List ℕ → Stop → Type 0
StopsAtEnd end bytes (stops.Bad fault) = (first_fault end true bytes ≡ Some fault)
    × (behind fault.line bytes ≡ [])
StopsAtEnd end bytes stops.Memory = Unit {0}

-- Where the matrix has just been read, no line has begun behind it.
abbrev pub ClosesWhole : Machine → Machine → Type 0
ClosesWhole old new = (end : End) → is_complete end old.phase ≡ false
    → is_complete end new.phase ≡ true → new.begun ≡ false

-- The machine goes on from one place of a piece to another: it got the bytes between.
pub record GoesOn (old new : Machine) (piece : List ℕ) (at next : ℕ) : Type 0 where
  pub in_order : at ≤ next
  pub within : next ≤ length piece
  pub number : begun_lines new + at ≤ begun_lines old + next
  pub ready : IsReady new.phase new.triples
  pub closed : ClosesWhole old new
  pub stands : (end : End) (bytes : List ℕ) → IsAfter end old bytes
      → is_complete end old.phase ≡ false
      → IsAfter end new (bytes ++ take (next - at) (drop at piece))

-- The machine got so many bytes of a piece: all, unless the matrix is read and what follows is not
-- judged.
pub record TakesPiece (end : End) (old new : Machine) (piece : List ℕ) (count : ℕ) : Type 0 where
  pub within : count ≤ length piece
  pub number : begun_lines new ≤ begun_lines old + count
  pub whole : is_complete end new.phase ≡ false → count ≡ length piece
  pub closed : is_complete end new.phase ≡ true → new.begun ≡ false
  pub ready : IsReady new.phase new.triples

-- the machine stops in what stands behind this place of a piece
abbrev pub Halts : Machine → List ℕ → ℕ → Stop → Type 0
Halts m piece at stop = (end : End) (bytes : List ℕ) → IsAfter end m bytes
    → is_complete end m.phase ≡ false → StopsWithin end bytes (drop at piece) stop
