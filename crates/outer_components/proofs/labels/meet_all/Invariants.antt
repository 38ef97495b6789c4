use Rattle.outer_components.proofs.LabelLemmas.{AreMeeting}
use Rattle.outer_components.proofs.labels.meet_all.Given as goal

abbrev pub invariant-loop-at : goal.invariant-loop-at
invariant-loop-at g l = AreMeeting (g.R.NumberList.numbers l.entries) l.at l.label l.last l.fn.rows l.rows l.fn.contacts l.contacts
