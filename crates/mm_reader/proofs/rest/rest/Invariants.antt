use Rattle.std.proofs.Common.{◌≡◌}
use Rattle.mm_reader.specs.Readings.{AsksOnce}
use Rattle.mm_reader.specs.Windows.{IsWindow}
use Rattle.mm_reader.proofs.Exits.{measure}
use Rattle.mm_reader.proofs.Progress.{HasUsed}
use Rattle.mm_reader.proofs.rest.rest.Given as goal

abbrev pub invariant-reading : goal.invariant-reading
invariant-reading g l = record {
  window : IsWindow l.window;
  asks : AsksOnce g.S.Source.left l.fn.source l.source l.fn.window l.window;
  steady : g.S.Source.faults l.source ≡ g.S.Source.faults l.fn.source;
  so_far : HasUsed l.fn.window l.window (g.S.Source.left l.fn.source) (g.S.Source.left l.source) l.bytes.items;
}

abbrev pub decreases-reading : goal.decreases-reading
decreases-reading g l = measure l.window
