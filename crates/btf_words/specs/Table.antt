-- The command line of `btf` as one simple command of clap: a required subcommand, one level of them, and options
-- that are flags or are set once. A command, and an option of a command, is one line of a list here.
use Rattle.std.specs.Prelude.{◌≡◌, ℕ, true, false, List, [], ◌∷◌, map, Some, codes}
use Rattle.std.specs.Borrow.{Bor}
use Rattle.std.specs.List.{AllByRecursion}
use Rattle.clap.specs.Words.{App, Rule, Shape, Text, new_rule}
use Rattle.clap.specs.Simple.{new_shape}
use Rattle.clap.specs.declared.builder.arg.Arg.{Arg}
use Rattle.clap.specs.declared.builder.action.ArgAction.TheVariants.{Set, SetTrue}
use Rattle.clap.specs.declared.builder.value_parser.ValueParser.TheVariants as vp
use Rattle.sp_ids.specs.Limits.{max_load_seed, max_load_size, max_workers}

-- ---- the engines' names

abbrev pub engine_names : List Text
engine_names = codes "plain" ∷ codes "mc21" ∷ codes "pf" ∷ codes "graft" ∷ []

abbrev pub default_engine : Text
default_engine = codes "graft"

-- reports are written in the versions 1 to this one, and in this one where none is named
abbrev pub latest_version : ℕ
latest_version = 2

-- names as clap's definitions hold them, behind references
abbrev pub Names : Type 0
Names = Bor (List (Bor Text))

abbrev pub texts_of : Names → List Text
texts_of names = map (λ name. name.now) names.now

-- ---- options

-- each of them is one of its command alone, and not of the commands below that
abbrev pub AreLocal : List Arg → Type 0
AreLocal options = AllByRecursion (λ option. option.global ≡ false) options

-- `--id VALUE`, at most once
abbrev pub option_rule : Text → Rule
option_rule id = record (new_rule id) { long = Some id; action = Some Set }

-- `--id`, at most once
abbrev pub flag_rule : Text → Rule
flag_rule id = record (new_rule id) { long = Some id; action = Some SetTrue }

-- `--id NUMBER`, which must be there
abbrev pub number_rule : Text → ℕ → ℕ → Rule
number_rule id low high =
    record (option_rule id) { required = true; parser = Some (vp.Unsigned low high) }

-- `--engine E`, where E is one of these names, and the default where it is not given
abbrev pub engine_rule : Names → Rule
engine_rule names = record (option_rule (codes "engine")) {
  parser = Some (vp.Names names);
  defaults = default_engine ∷ [];
}

-- the number of workers where none is given
abbrev pub default_workers : Text
default_workers = codes "4"

-- `--workers W`
abbrev pub workers_rule : Rule
workers_rule = record (option_rule (codes "workers")) {
  parser = Some (vp.Unsigned 1 max_workers);
  defaults = default_workers ∷ [];
}

abbrev pub order_rule : Rule
order_rule = flag_rule (codes "order")

abbrev pub pairs_rule : Rule
pairs_rule = flag_rule (codes "pairs")

-- `--drop-zeros`
abbrev pub drop_zeros_rule : Rule
drop_zeros_rule = flag_rule (codes "drop-zeros")

-- the version of a report where none is given
abbrev pub default_version : Text
default_version = codes "2"

-- `--report V`
abbrev pub report_rule : Rule
report_rule = record (option_rule (codes "report")) {
  parser = Some (vp.Unsigned 1 latest_version);
  defaults = default_version ∷ [];
}

-- `--least`
abbrev pub least_rule : Rule
least_rule = flag_rule (codes "least")

abbrev pub size_rule : Rule
size_rule = number_rule (codes "size") 1 max_load_size

abbrev pub seed_rule : Rule
seed_rule = number_rule (codes "seed") 0 max_load_seed

-- ---- commands

abbrev pub command : Text → List Rule → Shape
command name rules = record (new_shape name) { rules = rules }

-- a command that reads a matrix, and may leave out the places whose values add up to 0
abbrev pub reading_command : Text → Shape
reading_command name = command name (drop_zeros_rule ∷ [])

abbrev pub rank_command : Shape
rank_command = reading_command (codes "rank")

abbrev pub analyse_command : Names → Shape
analyse_command names =
    command (codes "analyse") (engine_rule names ∷ workers_rule ∷ order_rule ∷ pairs_rule
    ∷ drop_zeros_rule ∷ report_rule ∷ least_rule ∷ [])

abbrev pub diagonal_command : Shape
diagonal_command = reading_command (codes "diagonal")

abbrev pub check_command : Shape
check_command = reading_command (codes "check")

abbrev pub load_command : Names → Shape
load_command names =
    command (codes "load") (size_rule ∷ seed_rule ∷ engine_rule names ∷ workers_rule ∷ [])

-- a matrix and what is done to it come from the input alone
abbrev pub edit_command : Shape
edit_command = command (codes "edit") []

abbrev pub bottleneck_command : Shape
bottleneck_command = reading_command (codes "bottleneck")

-- the commands that the program has
abbrev pub commands : Names → List Shape
commands names = rank_command ∷ analyse_command names ∷ diagonal_command ∷ check_command
    ∷ load_command names ∷ edit_command ∷ bottleneck_command ∷ []

-- ---- the program

-- the words that follow the program's name are its arguments, and none of them asks for help or the version
abbrev pub program : Shape
program = record (new_shape (codes "btf")) {
  no_binary_name = true;
  disable_help_flag = true;
  disable_help_subcommand = true;
  subcommand_required = true;
}

-- the command line, where the names of the engines are these
abbrev pub btf_over : Names → App
btf_over names = record { top = record program { is_leaf = false }; subs = commands names }

-- the command line, wherever the names of the engines lie
abbrev pub IsBtf : App → Type 0
IsBtf app = (names : Names) × (texts_of names ≡ engine_names) × (app ≡ btf_over names)

-- a value behind a reference to one fixed place
abbrev pub placed : {X : Type 0} → X → Bor X
placed x = record { ref_ptr = (0, 0); now = x }

-- the command line, with the names in one fixed place: where they lie makes no difference to any words
abbrev pub btf : App
btf = btf_over (placed (map placed engine_names))
