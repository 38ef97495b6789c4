use Rattle.std.proofs.Common.{◌≡◌, ◌-◌, false}
use Rattle.mm_reader.specs.declared.machine.Machine.{Machine}
use Rattle.mm_reader.specs.declared.machine.Phase.TheVariants as phases
use Rattle.mm_reader.specs.Stages.{GoesOn}
use Rattle.mm_reader.proofs.machine.take_lines.Given as goal

abbrev pub invariant-loop-position : goal.invariant-loop-position
invariant-loop-position g l = record {
  closed : l.m.begun ≡ false;
  goes : GoesOn l.fn.m (record l.m { phase = phases.Entries l.preamble l.position }) l.piece l.at l.next;
  same : l.next ≡ l.at → ◌≡◌ {A = Machine} (record l.m { phase = phases.Entries l.preamble l.position }) l.fn.m;
}

abbrev pub decreases-loop-position : goal.decreases-loop-position
decreases-loop-position g l = l.preamble.size.count - l.position.done
