use Rattle.std.proofs.Common.{◌≡◌, ◌<◌, ◌+◌, ◌^◌, true}
use Rattle.std.specs.List.{All}
use Rattle.mm_defs.specs.Calls.{room}
use Rattle.mm_reader.specs.Fronts.{front}
use Rattle.mm_reader.specs.Inputs.{Asks, CanRead}
use Rattle.mm_frames.specs.Edits.{IsWithinMatrix}
use Rattle.mm_frames.specs.Stages.{HasRead}
use Rattle.mm_frames.proofs.reader.read_edits.Given as goal

abbrev pub invariant-reading : goal.invariant-reading
invariant-reading g l = record {
  read : HasRead l.rows l.cols (front l.fn.input) (front l.input) (g.S.Source.left l.fn.source) (g.S.Source.left l.source) l.edits.items l.line l.begun;
  within : All (IsWithinMatrix l.rows l.cols) l.edits.items;
  steady : g.S.Source.faults l.source ≡ g.S.Source.faults l.fn.source;
  can : CanRead (g.S.Source.left l.source) l.input;
  asks : Asks g.S.Source.left l.fn.source l.source l.fn.input l.input;
  fits : l.begun ≡ true → l.input.lines + room l.input + 1 < 2 ^ 64;
}

abbrev pub decreases-reading : goal.decreases-reading
decreases-reading g l = room l.input
