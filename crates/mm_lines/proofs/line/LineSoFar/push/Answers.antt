use Rattle.std.proofs.Common.{[], ◌∷◌, ◌++◌, false, sym, ◌∙◌}
use Rattle.mm_lines.proofs.LineSteps.{as_line, blank_comes, fields_of}
use Rattle.mm_lines.proofs.line.LineSoFar.push.Goals as goal

pub returns-then-is_blank : goal.returns-then-is_blank
returns-then-is_blank c line l =
    as_line c.self.inside.tokens c.self.inside.count false (line ++ c.args.byte ∷ [])
    (blank_comes c.self.inside.tokens c.self.inside.count c.self.inside.inside line c.args.byte (fields_of c.self.inside c.args.self.now c.self.view_is c.self.invariant line l) (sym c.is_blank.ensures ∙ c.if-is_blank.true))
