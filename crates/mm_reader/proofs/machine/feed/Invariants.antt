use Rattle.std.proofs.Common.{◌≡◌, ℕ, ◌≤◌, ◌+◌, ◌-◌, false, List, ◌++◌, take, length}
use Rattle.mm_reader.specs.Machine.{IsReady, is_complete}
use Rattle.mm_reader.specs.Stages.{begun_lines, IsAfter}
use Rattle.mm_reader.proofs.machine.feed.Given as goal

abbrev pub invariant-loop-at : goal.invariant-loop-at
invariant-loop-at l = record {
  ready : IsReady l.m.phase l.m.triples;
  within : l.at ≤ length l.piece;
  number : begun_lines l.m ≤ begun_lines l.fn.m + l.at;
  open_now : is_complete l.end l.m.phase ≡ false;
  after : (bytes : List ℕ) → IsAfter l.end l.fn.m bytes → IsAfter l.end l.m (bytes ++ take l.at l.piece);
}

abbrev pub decreases-loop-at : goal.decreases-loop-at
decreases-loop-at l = length l.piece - l.at
