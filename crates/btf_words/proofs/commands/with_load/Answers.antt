use Rattle.std.proofs.Common.{ap, codes, map, List, [], ◌∷◌, refl, ◌≡◌, ◌∙◌}
use Rattle.std.proofs.lemmas.Result.{IfOk-weaker}
use Rattle.clap.specs.Words.{Rule, app_of, rule_of, with_subcommand}
use Rattle.btf_words.specs.Table.{command, engine_rule, workers_rule, size_rule, seed_rule}
use Rattle.btf_words.proofs.commands.with_load.Goals as goal

pub returns : goal.returns
returns c =
    let rules : map rule_of c.in_ok-options.options.items ≡ size_rule ∷ seed_rule ∷ engine_rule c.args.engines ∷ workers_rule ∷ []
    = ap (map rule_of) c.in_ok-options.ensures.items
    ∙ rw (c.size.ensures.rule, c.seed.ensures.rule, c.engine.ensures.rule, c.workers.ensures.rule) refl in
    IfOk-weaker c.with_command.result _ _
    (λ r h. h ∙ ap (λ (all : List Rule). with_subcommand (app_of c.args.program) (command (codes "load") all)) rules) c.with_command.ensures
