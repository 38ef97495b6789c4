-- The command line of `btf_batch` as one simple command of clap with no subcommand: which words are taken, and how many
-- workers they name.
use Rattle.std.specs.Prelude.{◌≡◌, ◌≤◌, ℕ, true, List, [], ◌∷◌, codes}
use Rattle.clap.specs.Words.{App, Shape, Text, fault_of, matches_of}
use Rattle.clap.specs.Simple.{new_shape}
use Rattle.sp_ids.specs.Limits.{max_workers}
use Rattle.btf_words.specs.Table.{workers_rule}
use Rattle.btf_words.specs.Words.{number_in}

-- the words that follow the program's name are its arguments, its one option is `--workers W`, and no word asks for help
-- or the version
abbrev pub program : Shape
program = record (new_shape (codes "btf_batch")) {
  no_binary_name = true;
  disable_help_flag = true;
  rules = workers_rule ∷ [];
}

abbrev pub btf_batch : App
btf_batch = record { top = program; subs = [] }

-- clap's definitions find no fault with the words
unfoldable pub AreTaken : List Text → Type 0
AreTaken words = fault_of btf_batch words ≡ []

-- how many workers the words name: the number of the option, defaults included
unfoldable pub workers_of : List Text → ℕ
workers_of words =
    number_in 1 max_workers (codes "workers") (matches_of btf_batch words)

abbrev pub IsWithinLimits : ℕ → Type 0
IsWithinLimits workers = (1 ≤ workers) × (workers ≤ max_workers)
