use Rattle.std.proofs.Common.{ap, ◌∙◌}
use Rattle.mm_lines.specs.Tokens.{next_number}
use Rattle.mm_lines.proofs.Numbers.{number_facts-push}
use Rattle.mm_lines.proofs.number.Number.push.Goals as goal

pub returns : goal.returns
returns c b bs e = c.take.ensures ∙ ap (λ n. next_number n c.args.byte) e ∙ number_facts-push b bs c.args.byte
