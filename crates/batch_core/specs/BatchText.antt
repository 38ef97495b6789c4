-- The text that a batch of files is answered by.
use Rattle.std.specs.Prelude.{◌≡◌, ◌⊎◌, ℕ, suc, true, false, if◌then◌else◌, List, [], ◌∷◌, ◌++◌, length, Option, Some, None}
use Rattle.std.specs.List.{AllByRecursion}
use Rattle.bip_defs.specs.Matrix.{HasPlaces, Matrix}
use Rattle.bip_graph.specs.Answers.{IsAnalysis}
use Rattle.bip_graph.specs.Decompositions.{components_of}
use Rattle.btf_text.specs.Batches.{behind_file_line, file_report, files_end}
use Rattle.btf_text.specs.Reports.{reported}
use Rattle.btf_lines.specs.Lines.{limit_line, malformed_line}
use Rattle.btf_tool.specs.declared.answers.Answer.{Answer}
use Rattle.btf_tool.specs.declared.answers.Answer.TheVariants.{Negative, Positive}
use Rattle.btf_tool.specs.declared.file_answer.FileAnswer.{FileAnswer}
use Rattle.btf_tool.specs.declared.file_answer.FileAnswer.TheVariants.{Bad, Report}
use Rattle.btf_tool.specs.Runs.{status_of_fault}
use Rattle.mm_defs.specs.Faults.{is_limit}
use Rattle.mm_defs.specs.File.{Fault, Reads, first_fault}
use Rattle.mm_defs.specs.declared.answers.End.TheVariants.{File}
use Rattle.sp_ids.specs.Entries.{Entries, places}
use Rattle.sp_ids.specs.Exit.{exit_code}
use Rattle.sp_ids.specs.declared.outcomes.Status.TheVariants as statuses

-- the line of a file with this fault, as a program over the file alone would write it
abbrev pub line_of_fault : Fault → List ℕ
line_of_fault fault = if is_limit fault.kind then limit_line fault.line fault.kind
    else malformed_line fault.line fault.kind

-- The file is good: its line, with the status of a run over it alone, and the report of its matrix in version 2 without orders and pairs.
pub record IsTextOfGood (number : ℕ) (file text : List ℕ) : Type 0 where
  pub entries : Entries
  pub matrix : Matrix
  pub report : List ℕ
  pub reads : Reads file File entries []
  pub is_matrix : HasPlaces entries.rows entries.cols (places entries) matrix
  pub is_report : IsAnalysis matrix 2 false false false report
  pub spelled : text ≡ behind_file_line number (exit_code statuses.Ok) report

-- The file has a fault: its line, with the status of a run over it alone, and that of the first fault.
pub record IsTextOfBad (number : ℕ) (file text : List ℕ) : Type 0 where
  pub fault : Fault
  pub first : first_fault File true file ≡ Some fault
  pub spelled : text ≡ behind_file_line number (exit_code (status_of_fault fault)) (line_of_fault fault)

abbrev pub IsFileText : ℕ → List ℕ → List ℕ → Type 0
IsFileText number file text = IsTextOfGood number file text ⊎ IsTextOfBad number file text

-- the texts of files from this number on, one after the other
abbrev pub AreFileTexts : ℕ → List (List ℕ) → List ℕ → Type 0
AreFileTexts number [] text = text ≡ []
AreFileTexts number (file ∷ files) text = (first : List ℕ) × (others : List ℕ)
    × IsFileText number file first × AreFileTexts (suc number) files others
    × (text ≡ first ++ others)

-- the texts of all files, and a line with their number
pub record IsBatchText (files : List (List ℕ)) (text : List ℕ) : Type 0 where
  pub texts : List ℕ
  pub are_texts : AreFileTexts 1 files texts
  pub spelled : text ≡ texts ++ files_end (length files)

-- no file has a fault
abbrev pub AreGood : List (List ℕ) → Type 0
AreGood files = AllByRecursion (λ file. first_fault File true file ≡ None) files

-- ---- what is written of the answers

-- the line of the answer's file, and its report or the line of its fault
abbrev pub text_of_answer : ℕ → FileAnswer → List ℕ
text_of_answer number (Report d c) =
    file_report number (reported d (Some (components_of c)) false None)
text_of_answer number (Bad limit line kind) = behind_file_line number
    (exit_code (if limit then statuses.Limit else statuses.Malformed))
    (if limit then limit_line line kind else malformed_line line kind)

-- the texts of the full slots, numbered from this number on
abbrev pub texts_of_slots : ℕ → List (Option FileAnswer) → List ℕ
texts_of_slots number [] = []
texts_of_slots number (None ∷ slots) = texts_of_slots (suc number) slots
texts_of_slots number (Some answer ∷ slots) = text_of_answer number answer
    ++ texts_of_slots (suc number) slots

abbrev pub text_of_slots : List (Option FileAnswer) → List ℕ
text_of_slots slots = texts_of_slots 1 slots ++ files_end (length slots)

-- whether all that the slots have are reports
abbrev pub answer_of : List (Option FileAnswer) → Answer
answer_of [] = Positive
answer_of (None ∷ slots) = answer_of slots
answer_of (Some (Report d c) ∷ slots) = answer_of slots
answer_of (Some (Bad limit line kind) ∷ slots) = Negative
