use Rattle.std.proofs.Common.{◌≡◌, ◌≤◌, ◌+◌, ◌-◌, length}
use Rattle.mm_defs.specs.Calls.{room}
use Rattle.mm_reader.specs.Fronts.{front}
use Rattle.mm_reader.specs.Inputs.{Asks, CanRead}
use Rattle.mm_frames.specs.Stages.{HasUsed}
use Rattle.mm_frames.proofs.files.read_file.Given as goal

abbrev pub invariant-loop-input : goal.invariant-loop-input
invariant-loop-input g l = record {
  used : HasUsed (front l.fn.input) (front l.input) (g.S.Source.left l.fn.source) (g.S.Source.left l.source) l.file.items;
  fits : length l.file.items ≤ l.bytes;
  most : length l.input.ahead ≤ room l.input + 1;
  steady : g.S.Source.faults l.source ≡ g.S.Source.faults l.fn.source;
  can : CanRead (g.S.Source.left l.source) l.input;
  asks : Asks g.S.Source.left l.fn.source l.source l.fn.input l.input;
}

abbrev pub decreases-loop-input : goal.decreases-loop-input
decreases-loop-input g l = l.bytes - length l.file.items
