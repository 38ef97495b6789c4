use Rattle.std.proofs.Common.{ap}
use Rattle.mm_defs.specs.Words.{word, words}
use Rattle.mm_lines.specs.declared.line.Token.{Token}
use Rattle.mm_lines.proofs.LineSteps.{fields_of}
use Rattle.mm_lines.proofs.Lookups.{token_at}
use Rattle.mm_lines.proofs.line.LineSoFar.number.Goals as goal

pub returns : goal.returns
returns c line l =
    let at = token_at c.self.inside.tokens c.self.inside.count c.self.inside.inside line (fields_of c.self.inside c.args.self.now c.self.view_is c.self.invariant line l) c.args.k c.index-self-k.result c.requires c.if-self-k.false in
    c.unsigned.ensures (word (words line) c.args.k) (ap (λ (t : Token). t.number) at)
