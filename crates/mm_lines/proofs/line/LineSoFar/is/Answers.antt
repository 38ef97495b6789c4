use Rattle.std.proofs.Common.{ap, ◌∙◌, bytes_eq}
use Rattle.mm_defs.specs.Words.{word, words}
use Rattle.mm_lines.specs.declared.line.Token.{Token}
use Rattle.mm_lines.proofs.LineSteps.{fields_of}
use Rattle.mm_lines.proofs.Lookups.{token_at, text_at}
use Rattle.mm_lines.proofs.line.LineSoFar.is.Goals as goal

pub returns : goal.returns
returns c line l =
    let at = token_at c.self.inside.tokens c.self.inside.count c.self.inside.inside line (fields_of c.self.inside c.args.self.now c.self.view_is c.self.invariant line l) c.args.k c.index-self-k.result c.requires.word c.if-self-k.false in
    c.is.ensures ∙ ap (λ (t : Token). bytes_eq t.text c.args.text.now) at ∙ text_at (word (words line) c.args.k) c.args.text.now c.requires.short
