use Rattle.std.proofs.Common.{ap, map, ◌≡◌, ◌∙◌}
use Rattle.std.proofs.lemmas.Result.{IfOk-weaker}
use Rattle.clap.specs.Built.{AddsArg}
use Rattle.clap.specs.Words.{App, app_of, rule_of, with_subcommand}
use Rattle.btf_words.specs.Table.{command}
use Rattle.btf_words.proofs.OptionLemmas.{no_globals, rules_joined, with_rules}
use Rattle.btf_words.proofs.commands.with_command.Goals as goal

pub returns : goal.returns
returns c =
    let options = c.args.options.items in
    let added = c.in_ok-command.ensures in
    let local = no_globals _ (λ old a new (h : AddsArg old a new). h.globals) options c.new.result c.in_ok-command.command c.requires added c.new.ensures.local in
    let shape : (app_of c.in_ok-command.command).top ≡ command c.args.name.now (map rule_of options)
    = rules_joined options c.new.result c.in_ok-command.command c.requires added
    ∙ ap (λ (a : App). with_rules a.top (map rule_of options)) c.new.ensures.app in
    IfOk-weaker c.subcommand.result _ _ (λ r h. h.shape local ∙ ap (with_subcommand (app_of c.args.program)) shape) c.subcommand.ensures
