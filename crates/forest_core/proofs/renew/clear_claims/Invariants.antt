use Rattle.std.proofs.Common.{◌≡◌, drop, length}
use Rattle.forest_core.specs.Tables.{AreAlike}
use Rattle.forest_core.proofs.TableLemmas.{IsWithin}
use Rattle.forest_core.proofs.renew.clear_claims.Given as goal

abbrev pub invariant-loop-row : goal.invariant-loop-row
invariant-loop-row l = record {
  within : IsWithin (drop l.row-index l.claims) l.claimed.holders;
  long : length l.claimed.holders ≡ length l.fn.claimed.holders;
  alike : AreAlike l.claimed;
}
