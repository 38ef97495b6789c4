-- Why there are no ranks after edits.
use Rattle.std.specs.Prelude.{ℕ, IfErr, List, OnOk, Result}
use Rattle.bip_defs.specs.Matrix.{cols}
use Rattle.blocktri.specs.Compressed.{CompressedLists, HasMatrix}
use Rattle.sp_pattern.specs.ColumnErrors.{IsColumnsError}
use Rattle.blocktri_edits.specs.Edits.{AreAllWithin, EditLists, HaveOneLength, IsFirstOutside}
use Rattle.blocktri_edits.specs.declared.edits_refusals.EditsRefusal.{EditsRefusal}
use Rattle.blocktri_edits.specs.declared.edits_refusals.EditsRefusal.TheVariants.{Lengths, Columns, BadEdit}

-- the lists have not one length; else the lists of the matrix are at fault, or the memory; else an
-- edit is not of a place in the matrix
abbrev pub IsEditsRefusal : CompressedLists → EditLists → List ℕ → EditsRefusal → Type 0
IsEditsRefusal l e ranks Lengths = ¬ HaveOneLength e ranks
IsEditsRefusal l e ranks (Columns error) = HaveOneLength e ranks
    × IsColumnsError l.others l.starts l.ids error
IsEditsRefusal l e ranks (BadEdit at) = HaveOneLength e ranks
    × HasMatrix l (λ a. IsFirstOutside a.rows (cols a) e at)

-- a refusal has its cause, and an answer comes only where all lengths are right and each edit is of
-- a place in the matrix
pub record RefusesEdits (l : CompressedLists) (e : EditLists) (ranks : List ℕ)
    (result : Result (Unit {0}) EditsRefusal) : Type 0 where
  pub fit : OnOk result (HaveOneLength e ranks)
  pub within : OnOk result (HasMatrix l (λ a. AreAllWithin a.rows (cols a) e))
  pub cause : IfErr result (IsEditsRefusal l e ranks)
