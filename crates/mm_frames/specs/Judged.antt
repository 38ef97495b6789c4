-- What an edit line is found to be.
use Rattle.std.specs.Prelude.{◌≡◌, List, None, Some, Result, Ok, Err}
use Rattle.mm_defs.specs.declared.kinds.Kind.{Kind}
use Rattle.mm_defs.specs.Faults.{Rule, first_kind}
use Rattle.mm_frames.specs.declared.edit.Edit.{Edit}

-- no kind applies and the line says this, or the first kind that applies
abbrev pub JudgedEdit : List Rule → Edit → Result Edit Kind → Type 0
JudgedEdit rules says (Ok e) = (first_kind rules ≡ None) × (e ≡ says)
JudgedEdit rules says (Err kind) = first_kind rules ≡ Some kind
