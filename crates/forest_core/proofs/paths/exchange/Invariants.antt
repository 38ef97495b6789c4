use Rattle.std.proofs.Common.{◌≤◌, length, take, vec_capacity}
use Rattle.forest_core.specs.Adopted.{CanExchange}
use Rattle.forest_core.specs.Paths.{IsExchanged}
use Rattle.bip_defs.specs.Forest.{State}
use Rattle.forest_core.proofs.paths.exchange.Given as goal

abbrev pub invariant-loop-i : goal.invariant-loop-i
invariant-loop-i l = record {
  room : length l.claimed.holders ≤ vec_capacity l.path;
  exchanged : (s : State) → CanExchange s l.fn.base l.fn.adopted l.claimed.holders l.leaf_of l.roots → (l.i ≤ length l.roots) × IsExchanged s (take l.i l.roots) l.base;
}
