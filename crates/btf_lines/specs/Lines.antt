-- The lines that tell a verdict or a refusal.
use Rattle.std.specs.Prelude.{ℕ, suc, List, ◌++◌, codes, decimal}
use Rattle.mm_defs.specs.Names.{kind_name}
use Rattle.mm_defs.specs.declared.kinds.Kind.{Kind}

-- the number of the first bad line or file and its kind, with the words before them
abbrev pub fault_line : List ℕ → ℕ → Kind → List ℕ
fault_line before number kind = before ++ decimal number ++ codes ": " ++ kind_name kind
    ++ codes "\n"

abbrev pub malformed_line : ℕ → Kind → List ℕ
malformed_line line kind = fault_line (codes "btf: malformed line ") line kind

abbrev pub limit_line : ℕ → Kind → List ℕ
limit_line line kind = fault_line (codes "btf: limit line ") line kind

abbrev pub too_long_line : List ℕ
too_long_line = codes "btf: limit: TooLong\n"

-- a place counts from 1 where it is told
abbrev pub sum_limit_line : ℕ → ℕ → List ℕ
sum_limit_line row col = codes "btf: limit: sum at " ++ decimal (suc row) ++ codes " "
    ++ decimal (suc col) ++ codes "\n"

abbrev pub needs_integer_line : List ℕ
needs_integer_line = codes "btf: needs an integer file\n"

abbrev pub read_fault_line : List ℕ
read_fault_line = codes "btf: read fault\n"

abbrev pub write_fault_line : List ℕ
write_fault_line = codes "btf: write fault\n"

abbrev pub out_of_memory_line : List ℕ
out_of_memory_line = codes "btf: out of memory\n"

abbrev pub valid_line : List ℕ
valid_line = codes "valid\n"

abbrev pub invalid_line : ℕ → List ℕ
invalid_line reason = codes "invalid " ++ decimal reason ++ codes "\n"

-- ---- the lines of the program over a batch of files

-- the first bad frame and its kind, by the number of its file
abbrev pub batch_malformed_line : ℕ → Kind → List ℕ
batch_malformed_line file kind = fault_line (codes "btf_batch: malformed file ") file kind

abbrev pub batch_limit_line : ℕ → Kind → List ℕ
batch_limit_line file kind = fault_line (codes "btf_batch: limit file ") file kind

abbrev pub batch_too_long_line : List ℕ
batch_too_long_line = codes "btf_batch: limit: TooLong\n"

abbrev pub batch_read_fault_line : List ℕ
batch_read_fault_line = codes "btf_batch: read fault\n"

abbrev pub batch_write_fault_line : List ℕ
batch_write_fault_line = codes "btf_batch: write fault\n"

abbrev pub batch_out_of_memory_line : List ℕ
batch_out_of_memory_line = codes "btf_batch: out of memory\n"
