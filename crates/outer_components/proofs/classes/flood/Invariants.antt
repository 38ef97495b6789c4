use Rattle.std.proofs.Common.{◌+◌, length}
use Rattle.bip_defs.specs.Tallies.{tally}
use Rattle.bip_graph.specs.Matching.{none}
use Rattle.outer_components.specs.Classes.{IsFlooding}
use Rattle.outer_components.proofs.classes.flood.Given as goal

abbrev pub invariant-loop-next : goal.invariant-loop-next
invariant-loop-next l = IsFlooding l.ends.contacts.now l.label l.number l.fn.numbers l.numbers l.stack.items

abbrev pub decreases-loop-next : goal.decreases-loop-next
decreases-loop-next l = tally none l.numbers + length l.stack.items
