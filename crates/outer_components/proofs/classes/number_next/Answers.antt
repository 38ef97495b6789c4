use Rattle.std.proofs.Common.{arith}
use Rattle.outer_components.proofs.ClassLemmas.{numbering_more}
use Rattle.outer_components.proofs.classes.number_next.Goals as goal

pub flood-requires-clause-number : goal.flood-requires-clause-number
flood-requires-clause-number c = λ e. (let few = c.requires.numbers.few in let lt = c.requires.label in let small = c.requires.few in omega (arith, e, few, lt, small))

pub returns : goal.returns
returns c =
    let (flooding, empty) = c.in_ok-flood.ensures in
    (numbering_more c.args.ends.now.contacts.now c.args.label c.args.count c.args.numbers.now c.flood.new.numbers c.requires.numbers c.requires.label c.if-numbers-label.false flooding, empty)
