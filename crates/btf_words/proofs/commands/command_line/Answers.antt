use Rattle.std.proofs.Common.{◌≡◌, ◌∙◌, ap, rules}
use Rattle.clap.specs.Words.{App, Shape, with_subcommand}
use Rattle.btf_words.specs.Table.{analyse_command, bottleneck_command, check_command, diagonal_command, edit_command, load_command, rank_command}
use Rattle.btf_words.proofs.commands.command_line.Goals as goal

-- one more command behind those that are there
further : (s : Shape) (a b known : App) → b ≡ with_subcommand a s → a ≡ known → b ≡ with_subcommand known s
further s a b known e f = e ∙ ap (λ (x : App). with_subcommand x s) f

pub returns : goal.returns
returns c =
    let engines = c.as_slice-engines.result in
    let one = further rank_command _ _ _ c.in_ok-program.ensures c.program-program.ensures in
    let two = further (analyse_command engines) _ _ _ c.in_ok-program-2.ensures one in
    let three = further diagonal_command _ _ _ c.in_ok-program-3.ensures two in
    let four = further check_command _ _ _ c.in_ok-program-4.ensures three in
    let five = further (load_command engines) _ _ _ c.in_ok-program-5.ensures four in
    let six = further edit_command _ _ _ c.in_ok-program-6.ensures five in
    let seven = further bottleneck_command _ _ _ c.in_ok-program-7.ensures six in
    (engines, search rules, seven)
