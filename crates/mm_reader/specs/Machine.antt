-- What the reader's machine stands for.
use Rattle.std.specs.Prelude.{◌≡◌, ◌≤◌, ◌*◌, ◌+◌, ◌++◌, ℕ, Bool, true, false, ◌==◌, List, [], ◌∷◌, length, Result, Ok, Err}
use Rattle.sp_ids.specs.Entries as entries
use Rattle.mm_defs.specs.declared.answers.End.{End}
use Rattle.mm_defs.specs.declared.answers.End.TheVariants.{File, LastEntry}
use Rattle.mm_defs.specs.declared.header.Header.{Header}
use Rattle.mm_defs.specs.declared.header.Size.{Size}
use Rattle.mm_defs.specs.Words.{Line, words}
use Rattle.mm_defs.specs.Header.{header, size}
use Rattle.mm_defs.specs.File.{later_lines, line_faults, items, last_number}
use Rattle.mm_reader.specs.declared.machine.Phase.{Phase}
use Rattle.mm_reader.specs.declared.machine.Phase.TheVariants as phases
use Rattle.mm_reader.specs.declared.machine.Position.{Position}
use Rattle.mm_reader.specs.declared.machine.Preamble.{Preamble}
use Rattle.mm_reader.specs.declared.machine.Stop.{Stop}
use Rattle.mm_reader.specs.declared.machine.Stop.TheVariants as stops
use Rattle.mm_reader.specs.Judged.{IsHeader, IsWithin}
use Rattle.mm_reader.specs.ArrayPlaces.{IsNext}

-- ---- what the lines were

-- the first line is a banner that says this
pub record HasBanner (h : Header) (ls : List (List ℕ)) : Type 0 where
  pub first : List ℕ
  pub others : List (List ℕ)
  pub lines_are : ls ≡ first ∷ others
  pub header_is : h ≡ header (words first)

-- the size line and so many entry lines, or value lines, have come
pub record HasEntries (h : Header) (s : Size) (done : ℕ) (t : entries.Entries)
    (later : List Line) : Type 0 where
  pub size_line : Line
  pub entry_lines : List Line
  pub later_are : later ≡ size_line ∷ entry_lines
  pub size_is : s ≡ size h size_line.words
  pub done_is : done ≡ length entry_lines
  pub in_count : done ≤ s.count
  pub triples_are : t ≡ record {
    rows = s.rows;
    cols = s.cols;
    field = h.field;
    items = items h s entry_lines;
  }

-- where the machine is, after these lines
abbrev pub IsPhase : Phase → entries.Entries → List (List ℕ) → Type 0
IsPhase phases.Banner t ls = ls ≡ []
IsPhase (phases.Sizes h) t ls = HasBanner h ls × (later_lines ls ≡ [])
IsPhase (phases.Entries b at) t ls = HasBanner b.header ls
    × HasEntries b.header b.size at.done t (later_lines ls)

-- the matrix is read and what follows is not judged
abbrev pub is_complete : End → Phase → Bool
is_complete File phase = false
is_complete LastEntry phases.Banner = false
is_complete LastEntry (phases.Sizes h) = false
is_complete LastEntry (phases.Entries b at) = at.done == b.size.count

-- ---- what one more line does

-- The machine has these lines, and none of them is bad. Where the matrix is read, the last of them is its last line.
pub record HasLines (end : End) (phase : Phase) (t : entries.Entries) (ls : List
    (List ℕ)) : Type 0 where
  pub phase_is : IsPhase phase t ls
  pub good : line_faults end ls ≡ []
  pub last : is_complete end phase ≡ true → last_number (later_lines ls) ≡ length ls

-- the last of these lines is the one bad line
abbrev pub StopsAt : End → List (List ℕ) → Stop → Type 0
StopsAt end ls (stops.Bad fault) = (line_faults end ls ≡ fault ∷ []) × (fault.line ≡ length ls)
StopsAt end ls stops.Memory = Unit {0}

-- the phase after one more line, or its fault, which is the only one
abbrev pub Steps : End → List (List ℕ) → entries.Entries → Result Phase Stop → Type 0
Steps end ls t (Ok phase) = HasLines end phase t ls
Steps end ls t (Err stop) = StopsAt end ls stop

-- the same, where the phase is behind the size line
abbrev pub StepsTo : Preamble → End → List (List ℕ) → entries.Entries → Result Position Stop
    → Type 0
StepsTo b end ls t (Ok next) = HasLines end (phases.Entries b next) t ls
StepsTo b end ls t (Err stop) = StopsAt end ls stop

-- Such a line comes behind the size line and so many lines of the matrix, and no line was bad before it.
abbrev pub TakesLine : Preamble → Position → entries.Entries → ℕ → End → List ℕ → entries.Entries
    → Result Position Stop → Type 0
TakesLine b at before number end line after result = (ls : List (List ℕ)) → HasBanner b.header ls
    → HasEntries b.header b.size at.done before (later_lines ls) → line_faults end ls ≡ []
    → number ≡ length ls + 1 → StepsTo b end (ls ++ line ∷ []) after result

-- ---- what the code keeps of its own, whatever the lines were

pub record HasRoom (b : Preamble) (at : Position) (t : entries.Entries) : Type 0 where
  pub header : IsHeader b.header
  pub within : IsWithin b.header b.size
  pub in_count : at.done ≤ b.size.count
  pub next_is : IsNext b.header b.size at.done at.place
  pub rows : t.rows ≡ b.size.rows
  pub cols : t.cols ≡ b.size.cols
  pub field : t.field ≡ b.header.field
  pub few : length t.items ≤ 2 * at.done

abbrev pub IsReady : Phase → entries.Entries → Type 0
IsReady phases.Banner t = Unit {0}
IsReady (phases.Sizes h) t = IsHeader h
IsReady (phases.Entries b at) t = HasRoom b at t
