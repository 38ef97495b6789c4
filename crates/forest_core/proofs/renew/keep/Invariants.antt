use Rattle.std.proofs.Common.{◌≡◌, length}
use Rattle.forest_core.specs.Tables.{AreAlike}
use Rattle.forest_core.proofs.KeptClaims.{AreBelow, IsKeeping}
use Rattle.forest_core.proofs.renew.keep.Given as goal

abbrev pub invariant-loop-i : goal.invariant-loop-i
invariant-loop-i l = record {
  keeping : IsKeeping l.fn.claimed.roots l.leaf_of l.fn.claims l.claims l.roots l.claimed l.i l.stay;
  in_range : AreBelow (length l.leaf_of) l.roots;
  long : length l.claimed.holders ≡ length l.fn.claimed.holders;
  alike : AreAlike l.claimed;
}
