-- How a bad line is answered.
use Rattle.std.specs.Prelude.{if◌then◌else◌}
use Rattle.mm_defs.specs.declared.answers.ReadError.{ReadError}
use Rattle.mm_defs.specs.declared.answers.ReadError.TheVariants.{Limit, Malformed}
use Rattle.mm_defs.specs.Faults.{is_limit}
use Rattle.mm_defs.specs.File.{Fault}

abbrev pub answer_to : Fault → ReadError
answer_to fault =
    if is_limit fault.kind
    then Limit fault.line fault.kind
    else Malformed fault.line fault.kind
