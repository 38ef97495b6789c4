use Rattle.mm_reader.proofs.EndLaws.{all_lines}
use Rattle.mm_reader.proofs.machine.missing.Goals as goal

pub returns-else-at-preamble-clause-steps : goal.returns-else-at-preamble-clause-steps
returns-else-at-preamble-clause-steps c end t ls l n =
    let h = rw c.in-Entries.is at l in
    rw c.in-Entries.is (all_lines end c.in-Entries.preamble c.in-Entries.at t ls h c.if-at-preamble.false)
