-- How large an input may be.
use Rattle.std.specs.Prelude.{ℕ}

-- the most rows that a matrix of a file may have
abbrev pub max_rows : ℕ
max_rows = 134217728

-- the most columns that a matrix of a file may have
abbrev pub max_cols : ℕ
max_cols = 134217728

-- the most entry lines that a file may have, or values of an array file
abbrev pub max_entry_lines : ℕ
max_entry_lines = 134217728

-- the greatest magnitude of an integer value, and of the sum of a place's values
abbrev pub max_value : ℕ
max_value = 9223372036854775807

-- the most bytes that an input may have
abbrev pub max_input_bytes : ℕ
max_input_bytes = 68719476736

-- the most workers that may search at once
abbrev pub max_workers : ℕ
max_workers = 64

-- the most rows and columns of a matrix that is made from a number
abbrev pub max_load_size : ℕ
max_load_size = 16777216

-- the greatest number from which a matrix is made
abbrev pub max_load_seed : ℕ
max_load_seed = 18446744073709551615

-- the most edit lines behind a matrix
abbrev pub max_edits : ℕ
max_edits = 16777216

-- the most files of a batch
abbrev pub max_batch_files : ℕ
max_batch_files = 65536

-- the most bytes of a file of a batch
abbrev pub max_batch_file_bytes : ℕ
max_batch_file_bytes = 1073741824

-- the most entries that a list of them holds, and a matrix to which edits add entries
abbrev pub max_entries : ℕ
max_entries = 4294967295
