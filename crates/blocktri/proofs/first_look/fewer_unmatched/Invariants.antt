use Rattle.std.proofs.Common.{◌≡◌, ◌<◌, ℕ, length, slice_index}
use Rattle.bip_defs.specs.Lists.{Among, IsMarked}
use Rattle.bip_defs.specs.Matching.{rows_of}
use Rattle.blocktri.proofs.first_look.fewer_unmatched.Given as goal

abbrev pub invariant-loop-at : goal.invariant-loop-at
invariant-loop-at g l = record {
  long : length l.counted.items ≡ l.matching.rows;
  few : l.count < l.number;
  counted : (r : ℕ) → IsMarked l.counted.items r → 0 < l.count;
  matched : l.count ≡ 0 → (k : ℕ) → k < l.at → Among (slice_index (g.N.NumberList.numbers l.ids) k) (rows_of l.matching.pairs);
}
