-- What a call on edits leaves, by its status.
use Rattle.std.specs.Prelude.{◌≡◌, ◌≢◌, ℕ, ℤ, List, pos}
use Rattle.bip_defs.specs.Matrix.{cols}
use Rattle.blocktri.specs.Compressed.{CompressedLists, HasMatrix}
use Rattle.blocktri.specs.declared.refusals.Refusal.TheVariants as calls
use Rattle.blocktri_edits.specs.Causes.{IsEditsRefusal}
use Rattle.blocktri_edits.specs.Edits.{AreAllWithin, AreRanksAfter, EditLists, HaveOneLength, edit_list}
use Rattle.blocktri_edits.specs.declared.edits_refusals.EditsRefusal.{EditsRefusal}
use Rattle.blocktri_edits.specs.declared.edits_refusals.EditsRefusal.TheVariants.{Lengths, Columns, BadEdit}
use Rattle.blocktri_c.specs.Statuses.{fault_of, status_of}

abbrev pub lists_of_edits : List ℕ → List ℕ → List ℤ → EditLists
lists_of_edits rows columns sets = record { rows = rows; columns = columns; sets = sets }

-- at status 0 the ranks stand in the list; at any other it is as it was
pub record AnswersEdits (status : ℤ) (l : CompressedLists) (e : EditLists)
    (old new : List ℕ) : Type 0 where
  pub found : status ≡ pos 0 → HasMatrix l (λ a. AreRanksAfter a (edit_list e) new)
  pub fit : status ≡ pos 0 → HaveOneLength e old
  pub within : status ≡ pos 0 → HasMatrix l (λ a. AreAllWithin a.rows (cols a) e)
  pub kept : status ≢ pos 0 → new ≡ old

abbrev pub edits_status_of : EditsRefusal → ℤ
edits_status_of Lengths = status_of calls.Lengths
edits_status_of (Columns error) = status_of (calls.Columns error)
edits_status_of (BadEdit at) = pos 28

-- the place of the fault; of what has no place, what stood there
abbrev pub edits_fault_of : EditsRefusal → ℕ → ℕ
edits_fault_of Lengths old = old
edits_fault_of (Columns error) old = fault_of (calls.Columns error) old
edits_fault_of (BadEdit at) old = at

-- the status and the fault's place tell a refusal of which P holds
pub record RefusesEditsAs (P : EditsRefusal → Type 0) (status : ℤ) (old new : ℕ) : Type 0 where
  pub refusal : EditsRefusal
  pub cause : P refusal
  pub status_is : status ≡ edits_status_of refusal
  pub fault_is : new ≡ edits_fault_of refusal old

-- at a refusal the status and the place of the fault tell its cause
pub record TellsEditsFault (status : ℤ) (l : CompressedLists) (e : EditLists) (ranks : List ℕ)
    (old new : ℕ) : Type 0 where
  pub no_fault : status ≡ pos 0 → new ≡ old
  pub refused : status ≢ pos 0 → RefusesEditsAs (IsEditsRefusal l e ranks) status old new
