use Rattle.std.proofs.Common.{◌≡◌, []}
use Rattle.outer_components.specs.Classes.{IsNumbering}
use Rattle.outer_components.proofs.classes.number_all.Given as goal

abbrev pub invariant-loop-label : goal.invariant-loop-label
invariant-loop-label l = IsNumbering l.ends.contacts.now l.label l.count l.numbers × (l.stack.items ≡ [])
