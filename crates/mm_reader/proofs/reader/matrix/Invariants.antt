use Rattle.std.proofs.Common.{◌≡◌, ◌≤◌, ◌+◌, ◌*◌, ◌==◌, if◌then◌else◌, false}
use Rattle.mm_reader.specs.Machine.{IsReady, is_complete}
use Rattle.mm_reader.specs.Readings.{AsksOnce}
use Rattle.mm_reader.specs.Stages.{begun_lines}
use Rattle.mm_reader.specs.Windows.{IsWindow}
use Rattle.mm_reader.proofs.Progress.{Fed}
use Rattle.mm_reader.proofs.reader.matrix.Given as goal

abbrev pub invariant-reading : goal.invariant-reading
invariant-reading g l = record {
  window : IsWindow l.window;
  ready : IsReady l.m.phase l.m.triples;
  open_now : is_complete l.end l.m.phase ≡ false;
  number : begun_lines l.m + l.window.room ≤ l.fn.window.room;
  asks : AsksOnce g.S.Source.left l.fn.source l.source l.fn.window l.window;
  steady : g.S.Source.faults l.source ≡ g.S.Source.faults l.fn.source;
  fed : Fed l.end l.fn.window l.window (g.S.Source.left l.fn.source) (g.S.Source.left l.source) l.m;
}

abbrev pub decreases-reading : goal.decreases-reading
decreases-reading g l = 2 * l.window.room + (if l.window.at_end then 0 else 1) + (if l.window.from == l.window.to then 1 else 0)
