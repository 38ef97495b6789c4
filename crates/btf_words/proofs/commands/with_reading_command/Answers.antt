use Rattle.std.proofs.Common.{ap, map, List, [], ◌∷◌, refl, ◌≡◌, ◌∙◌}
use Rattle.std.proofs.lemmas.Result.{IfOk-weaker}
use Rattle.clap.specs.Words.{Rule, app_of, rule_of, with_subcommand}
use Rattle.btf_words.specs.Table.{command, drop_zeros_rule}
use Rattle.btf_words.proofs.commands.with_reading_command.Goals as goal

pub returns : goal.returns
returns c =
    let rules : map rule_of c.in_ok-options.options.items ≡ drop_zeros_rule ∷ []
    = ap (map rule_of) c.in_ok-options.ensures.items ∙ rw c.drop_zeros.ensures.rule refl in
    IfOk-weaker c.with_command.result _ _
    (λ r h. h ∙ ap (λ (all : List Rule). with_subcommand (app_of c.args.program) (command c.args.name.now all)) rules) c.with_command.ensures
