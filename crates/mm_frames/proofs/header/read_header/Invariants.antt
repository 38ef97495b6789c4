use Rattle.std.proofs.Common.{◌≡◌}
use Rattle.mm_defs.specs.Calls.{room}
use Rattle.mm_reader.specs.Fronts.{front}
use Rattle.mm_reader.specs.Inputs.{Asks, CanRead}
use Rattle.mm_frames.specs.Frames.{BeginsLine}
use Rattle.mm_frames.proofs.header.read_header.Given as goal

abbrev pub invariant-reading : goal.invariant-reading
invariant-reading g l = record {
  begins : BeginsLine (front l.fn.input) (front l.input) (g.S.Source.left l.fn.source) (g.S.Source.left l.source) l.line l.begun;
  steady : g.S.Source.faults l.source ≡ g.S.Source.faults l.fn.source;
  can : CanRead (g.S.Source.left l.source) l.input;
  asks : Asks g.S.Source.left l.fn.source l.source l.fn.input l.input;
}

abbrev pub decreases-reading : goal.decreases-reading
decreases-reading g l = room l.input
