-- What a reader of edit lines stands for between two bytes.
use Rattle.std.specs.Prelude.{◌≡◌, ◌+◌, ℕ, Bool, true, false, List, [], ◌∷◌, ◌++◌, length, Option, Result, Ok, Err}
use Rattle.mm_defs.specs.declared.answers.ReadError.{ReadError}
use Rattle.mm_defs.specs.declared.answers.ReadError.TheVariants as errors
use Rattle.mm_defs.specs.Words.{lines, open_line, has_bytes}
use Rattle.mm_defs.specs.Faults.{is_limit}
use Rattle.sp_ports.specs.Bytes.{Gives}
use Rattle.mm_reader.specs.Fronts.{Front}
use Rattle.mm_lines.specs.KeptLines.{KeptLine}
use Rattle.mm_lines.specs.Lines.{IsLine}
use Rattle.mm_frames.specs.declared.edit.Edit.{Edit}
use Rattle.mm_defs.specs.EditLines.{edit_faults}
use Rattle.mm_frames.specs.Edits.{edits_of}

-- these lines are good, and this is what they say
pub record AreRead (n rows cols : ℕ) (ls : List (List ℕ)) (es : List Edit) : Type 0 where
  pub good : edit_faults n rows cols ls ≡ []
  pub edits_are : es ≡ edits_of n ls

-- the answer to the one bad line of these, which is the last
abbrev pub RefusesLast : ℕ → ℕ → ℕ → List (List ℕ) → ReadError → Type 0
RefusesLast n rows cols ls (errors.Malformed line kind) = (edit_faults n rows cols ls
    ≡ record { line = line; kind = kind } ∷ []) × (is_limit kind ≡ false)
RefusesLast n rows cols ls (errors.Limit line kind) = (edit_faults n rows cols ls
    ≡ record { line = line; kind = kind } ∷ []) × (is_limit kind ≡ true)
RefusesLast n rows cols ls errors.TooLong = ⊥
RefusesLast n rows cols ls errors.ReadFault = ⊥
RefusesLast n rows cols ls errors.OutOfMemory = Unit {0}

-- one more line comes behind these
abbrev pub TakesLine : ℕ → ℕ → ℕ → ℕ → List ℕ → List Edit → List Edit → Result (Unit {0}) ReadError
    → Type 0
TakesLine rows cols number n line before after (Ok x) = (ls : List (List ℕ))
    → AreRead n rows cols ls before → number ≡ n + length ls + 1
    → AreRead n rows cols (ls ++ line ∷ []) after
TakesLine rows cols number n line before after (Err error) = (ls : List (List ℕ))
    → AreRead n rows cols ls before → number ≡ n + length ls + 1
    → RefusesLast n rows cols (ls ++ line ∷ []) error

-- These bytes have come: their lines are read, and the open line is kept by its words.
pub record StandsAfter (n rows cols : ℕ) (es : List Edit) (line : KeptLine) (begun : Bool)
    (bytes : List ℕ) : Type 0 where
  pub lines_are : AreRead n rows cols (lines false bytes) es
  pub open_is : IsLine line (open_line bytes)
  pub begun_is : begun ≡ has_bytes (open_line bytes)

-- These bytes were used: those ahead first, and then what the source gave.
pub record HasUsed (first now : Front) (old new : Option (List ℕ)) (used : List ℕ) : Type 0 where
  pub gave : List ℕ
  pub given : Gives old new gave
  pub split : first.ahead ++ gave ≡ used ++ now.ahead
  pub size : length used + now.room ≡ first.room

-- Some bytes were used, and the reader stands behind them.
pub record HasRead (rows cols : ℕ) (first now : Front) (old new : Option (List ℕ)) (es : List Edit)
    (line : KeptLine) (begun : Bool) : Type 0 where
  pub used : List ℕ
  pub so_far : HasUsed first now old new used
  pub lines_are : now.lines ≡ first.lines + length (lines false used)
  pub stands : StandsAfter first.lines rows cols es line begun used
