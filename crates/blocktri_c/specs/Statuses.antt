-- What C is told where there is no answer.
use Rattle.std.specs.Prelude.{◌≡◌, ◌≢◌, ℕ, ℤ, Bool, List, pos}
use Rattle.blocktri.specs.Causes.{IsRefusal}
use Rattle.blocktri.specs.Compressed.{CompressedLists}
use Rattle.blocktri.specs.declared.refusals.Refusal.{Refusal}
use Rattle.blocktri.specs.declared.refusals.Refusal.TheVariants.{Lengths, Columns}
use Rattle.sp_pattern.specs.declared.columns.ColumnsError.TheVariants.{TooManyRows, BadStart, BadRow, OutOfMemory}

-- the matrix that is given
abbrev pub lists_of : ℕ → List ℕ → List ℕ → Bool → CompressedLists
lists_of others starts ids by_rows = record {
  others = others;
  starts = starts;
  ids = ids;
  by_rows = by_rows;
}

abbrev pub status_of : Refusal → ℤ
status_of (Columns OutOfMemory) = pos 7
status_of (Columns (BadStart at)) = pos 20
status_of (Columns (BadRow at)) = pos 21
status_of Lengths = pos 22
status_of (Columns TooManyRows) = pos 23

-- the place of the fault; of what has no place, what stood there
abbrev pub fault_of : Refusal → ℕ → ℕ
fault_of (Columns OutOfMemory) old = old
fault_of (Columns (BadStart at)) old = at
fault_of (Columns (BadRow at)) old = at
fault_of Lengths old = old
fault_of (Columns TooManyRows) old = old

-- the status and the fault's place tell a refusal of which P holds
pub record Refuses (P : Refusal → Type 0) (status : ℤ) (old new : ℕ) : Type 0 where
  pub refusal : Refusal
  pub cause : P refusal
  pub status_is : status ≡ status_of refusal
  pub fault_is : new ≡ fault_of refusal old

-- at a refusal the status and the place of the fault tell its cause, where `Fit` is that all lists
-- to be written have the right length
pub record TellsFault (status : ℤ) (Fit : Type 0) (l : CompressedLists) (old new : ℕ)
    : Type 0 where
  pub no_fault : status ≡ pos 0 → new ≡ old
  pub refused : status ≢ pos 0
      → Refuses (IsRefusal Fit l.others l.starts l.ids) status old new
