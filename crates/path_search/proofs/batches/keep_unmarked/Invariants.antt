use Rattle.std.proofs.Common.{◌≡◌, ℕ, ◌≤◌, slice_index_or, take}
use Rattle.path_search.specs.Batches.{KeepsUnmarked}
use Rattle.path_search.specs.declared.batches.RowCandidate.{RowCandidate}
use Rattle.path_search.proofs.batches.keep_unmarked.Given as goal

abbrev pub invariant-loop-at : goal.invariant-loop-at
invariant-loop-at l = record {
  behind : l.kept ≤ l.at;
  rest : (i : ℕ) (x : RowCandidate) → l.at ≤ i → slice_index_or l.candidates i x ≡ slice_index_or l.fn.candidates i x;
  kept : KeepsUnmarked l.marks (take l.at l.fn.candidates) (take l.kept l.candidates);
}
