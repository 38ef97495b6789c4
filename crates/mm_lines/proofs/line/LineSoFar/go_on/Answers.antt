use Rattle.std.proofs.Common.{[], ◌∷◌, ◌++◌, ◌∙◌, ap, subst}
use Rattle.mm_lines.specs.KeptLines.{KeptLine}
use Rattle.mm_lines.specs.Lines.{IsLine}
use Rattle.mm_lines.proofs.LineSteps.{as_line, fields_of, none_goes_on, word_goes_on, word_goes_on_past}
use Rattle.mm_lines.proofs.line.LineSoFar.go_on.Goals as goal

pub returns-then-self-eq0 : goal.returns-then-self-eq0
returns-then-self-eq0 c line isin l =
    let is = ap (λ (k : KeptLine). k.inside) c.self.view_is ∙ isin in
    absurd (none_goes_on c.self.inside.tokens c.self.inside.count c.self.inside.inside line c.args.byte (fields_of c.self.inside c.args.self.now c.self.view_is c.self.invariant line l) is c.requires c.if-self-eq0.true)

pub returns-then-self-gt-WORDS : goal.returns-then-self-gt-WORDS
returns-then-self-gt-WORDS c line isin l =
    let is = ap (λ (k : KeptLine). k.inside) c.self.view_is ∙ isin in
    subst (λ (k : KeptLine). IsLine k (line ++ c.args.byte ∷ [])) c.self.view_is
    (as_line c.self.inside.tokens c.self.inside.count c.self.inside.inside (line ++ c.args.byte ∷ []) (word_goes_on_past c.self.inside.tokens c.self.inside.count c.self.inside.inside line c.args.byte (fields_of c.self.inside c.args.self.now c.self.view_is c.self.invariant line l) c.requires is c.if-self-gt-WORDS.true))

pub returns : goal.returns
returns c line isin l =
    let is = ap (λ (k : KeptLine). k.inside) c.self.view_is ∙ isin in
    as_line _ c.self.inside.count c.self.inside.inside (line ++ c.args.byte ∷ [])
    (word_goes_on c.self.inside.tokens c.self.inside.count c.self.inside.inside line c.args.byte (fields_of c.self.inside c.args.self.now c.self.view_is c.self.invariant line l) c.index-self-self.result _ c.requires is c.if-self-eq0.false c.if-self-gt-WORDS.false c.push.ensures)
