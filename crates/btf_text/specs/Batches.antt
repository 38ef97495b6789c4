-- What is written of the files of a batch.
use Rattle.std.specs.Prelude.{ℕ, List, [], ◌∷◌, ◌++◌, codes}
use Rattle.bip_graph.specs.Texts.{Report, TextLine, line, report_text, text_of}

-- the number of a file, counted from 1, and its status
abbrev pub file_line : ℕ → ℕ → TextLine
file_line number status = line (codes "file") (number ∷ status ∷ [])

-- a file's line, and bytes behind it
abbrev pub behind_file_line : ℕ → ℕ → List ℕ → List ℕ
behind_file_line number status bytes = text_of (file_line number status ∷ []) ++ bytes

-- the line of a good file, and a report
abbrev pub file_report : ℕ → Report → List ℕ
file_report number report = behind_file_line number 0 (report_text report)

-- how many files there were
abbrev pub files_end : ℕ → List ℕ
files_end files = text_of (line (codes "end") (files ∷ []) ∷ [])
