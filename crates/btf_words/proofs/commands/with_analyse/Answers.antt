use Rattle.std.proofs.Common.{ap, codes, map, List, [], ◌∷◌, refl, ◌≡◌, ◌∙◌}
use Rattle.std.proofs.lemmas.Result.{IfOk-weaker}
use Rattle.clap.specs.Words.{Rule, app_of, rule_of, with_subcommand}
use Rattle.btf_words.specs.Table.{command, engine_rule, workers_rule, order_rule, pairs_rule, drop_zeros_rule, report_rule, least_rule}
use Rattle.btf_words.proofs.commands.with_analyse.Goals as goal

pub returns : goal.returns
returns c =
    let rules : map rule_of c.in_ok-options.options.items
    ≡ engine_rule c.args.engines ∷ workers_rule ∷ order_rule ∷ pairs_rule ∷ drop_zeros_rule ∷ report_rule ∷ least_rule ∷ []
    = ap (map rule_of) c.in_ok-options.ensures.items
    ∙ rw (c.engine.ensures.rule, c.workers.ensures.rule, c.order.ensures.rule, c.pairs.ensures.rule, c.drop_zeros.ensures.rule, c.report.ensures.rule, c.least.ensures.rule) refl in
    IfOk-weaker c.with_command.result _ _
    (λ r h. h ∙ ap (λ (all : List Rule). with_subcommand (app_of c.args.program) (command (codes "analyse") all)) rules) c.with_command.ensures
