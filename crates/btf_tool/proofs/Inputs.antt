-- What forms of inputs say of the first bad line.
use Rattle.std.proofs.Common.{◌≡◌, ◌<◌, ◌++◌, ℕ, Bool, true, false, List, length, take, Some, None}
use Rattle.sp_ids.specs.Entries.{Entries}
use Rattle.mm_defs.specs.Calls.{Call, LacksLines, ended, first_bad, given, offered}
use Rattle.mm_defs.specs.File.{Fault, first_fault}
use Rattle.mm_defs.specs.Words.{lines}
use Rattle.mm_defs.specs.declared.answers.End.TheVariants.{File, LastEntry}
use Rattle.mm_defs.proofs.AnswerLemmas.{none_of_all, none_of_limit}
use Rattle.mm_defs.proofs.EditedFiles.{bad_edited_stays, bad_matrix, good_edited_file, no_edit_yet}
use Rattle.mm_defs.proofs.Prefixes.{bad_stays, good_file}
use Rattle.btf_tool.specs.Inputs.{Alone, Edited, Followed, Form, IsGoodInput, end_in, first_bad_in, first_fault_in}

-- a first fault stays the first one, whatever follows
fault_stays : (form : Form) (ended : Bool) (bytes more : List ℕ) (x : Fault) → first_fault_in form false bytes ≡ Some x → first_fault_in form ended (bytes ++ more) ≡ Some x
fault_stays Alone = bad_stays File
fault_stays Followed = bad_stays LastEntry
fault_stays Edited = bad_edited_stays

-- a good input has no fault
good_input : (form : Form) (bytes : List ℕ) (t : Entries) (rest : List ℕ) → IsGoodInput form bytes t rest → first_fault_in form true bytes ≡ None
good_input Alone bytes t rest h = good_file File bytes h.reads.good
good_input Followed bytes t rest h = good_file LastEntry bytes h.reads.good
good_input Edited bytes t rest h = good_edited_file bytes h.edits

-- and none of its lines is bad, however much of it was given
pub no_bad_line : (form : Form) (call : Call) (t : Entries) (rest : List ℕ) → IsGoodInput form (offered call) t rest → first_bad_in form call ≡ None
no_bad_line form call t rest h = none_of_all (first_fault_in form) (fault_stays form) call (good_input form (offered call) t rest h)

-- no line is bad, where none within the limit is
pub none_within : (form : Form) (call : Call) → call.room < length (offered call) → first_fault_in form false (take call.room (offered call)) ≡ None → first_bad_in form call ≡ None
none_within form call past none = none_of_limit (first_fault_in form) (fault_stays form) call past none

-- ---- the matrix of an input

-- its first bad line is the input's
pub matrix_bad : (form : Form) (call : Call) (x : Fault) → first_bad (end_in form) call ≡ Some x → first_bad_in form call ≡ Some x
matrix_bad Alone call x h = h
matrix_bad Followed call x h = h
matrix_bad Edited call x h = bad_matrix (ended call) (given call) x h

-- while the input goes on and the matrix has not ended, no other line is bad
pub matrix_good : (form : Form) (call : Call) → ended call ≡ false → first_bad (end_in form) call ≡ None → LacksLines (end_in form) (lines false (given call)) → first_bad_in form call ≡ None
matrix_good Alone call goes_on h lacks = h
matrix_good Followed call goes_on h lacks = h
matrix_good Edited call goes_on h lacks = let n : first_fault LastEntry false (given call) ≡ None = rw goes_on at h in rw goes_on (no_edit_yet (given call) lacks n)
