use Rattle.std.proofs.Common.{set, subst, sym, ◌∷◌, [], ◌++◌, true, ◌+◌, ◌∙◌, ap}
use Rattle.mm_lines.specs.declared.line.Token.{Token}
use Rattle.mm_lines.specs.KeptLines.{KeptLine}
use Rattle.mm_lines.proofs.LineSteps.{HasLine, as_line, fields_of, word_begins, word_past}
use Rattle.mm_lines.proofs.line.LineSoFar.begin.Goals as goal

pub returns-then-self-lt-WORDS : goal.returns-then-self-lt-WORDS
returns-then-self-lt-WORDS c line out l =
    let closed = ap (λ (k : KeptLine). k.inside) c.self.view_is ∙ out in
    let h = word_begins c.self.inside.tokens c.self.inside.count c.self.inside.inside line c.args.byte (fields_of c.self.inside c.args.self.now c.self.view_is c.self.invariant line l) c.requires closed c.if-self-lt-WORDS.true in
    as_line _ (c.self.inside.count + 1) true (line ++ c.args.byte ∷ [])
    (subst (λ (t : Token). HasLine (set c.self.inside.tokens c.self.inside.count t) (c.self.inside.count + 1) true (line ++ c.args.byte ∷ [])) (sym c.first.ensures) h)

pub returns-else-self-lt-WORDS : goal.returns-else-self-lt-WORDS
returns-else-self-lt-WORDS c line out l =
    let closed = ap (λ (k : KeptLine). k.inside) c.self.view_is ∙ out in
    as_line c.self.inside.tokens 6 true (line ++ c.args.byte ∷ []) (word_past c.self.inside.tokens c.self.inside.count c.self.inside.inside line c.args.byte (fields_of c.self.inside c.args.self.now c.self.view_is c.self.invariant line l) c.requires closed c.if-self-lt-WORDS.false)
