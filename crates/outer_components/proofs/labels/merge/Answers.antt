use Rattle.std.proofs.Common.{arith}
use Rattle.outer_components.specs.Labels.{AreRenamed}
use Rattle.outer_components.proofs.MergeLemmas.{merged}
use Rattle.outer_components.proofs.labels.merge.Goals as goal

pub rename-requires : goal.rename-requires
rename-requires c = λ v lt some. let low = c.requires.row v lt some in let long = c.in_ok-classes.ensures.long in let is = c.as_slice.ensures.value in rw is (omega (arith, low, long))

pub rename-requires-2 : goal.rename-requires-2
rename-requires-2 c = λ v lt some. let low = c.requires.col v lt some in let long = c.in_ok-classes.ensures.long in let is = c.as_slice-2.ensures.value in rw is (omega (arith, low, long))

pub returns-clause-kept : goal.returns-clause-kept
returns-clause-kept c =
    let numbers = c.in_ok-classes.classes.numbers.items in
    let rows : AreRenamed c.in_ok-classes.classes.numbers.items c.args.row_labels.now c.rename.new.labels = rw c.as_slice.ensures.value at c.rename.ensures in
    let columns : AreRenamed c.in_ok-classes.classes.numbers.items c.args.col_labels.now c.rename-2.new.labels = rw c.as_slice-2.ensures.value at c.rename-2.ensures in
    merged c.args.contacts.now c.in_ok-classes.classes.count numbers c.args.row_labels.now c.args.col_labels.now c.rename.new.labels c.rename-2.new.labels c.restart.new.self c.in_ok-classes.ensures rows columns c.restart.ensures.count c.restart.ensures.empty
