use Rattle.std.proofs.Common.{sym, ◌∙◌}
use Rattle.mm_reader.proofs.Judges.{integers}
use Rattle.mm_reader.proofs.judge.judge_banner.Goals as goal

pub returns-clause-header : goal.returns-clause-header
returns-clause-header c = integers c.in-Some.format c.in-Some-field.field (sym c.lacks_integers.ensures ∙ c.if-lacks_integers.false)
