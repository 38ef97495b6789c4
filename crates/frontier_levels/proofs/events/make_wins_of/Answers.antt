use Rattle.std.proofs.Common.{sym, subst}
use Rattle.bip_defs.specs.Forest.{State}
use Rattle.forest_core.specs.Events.{IsLegal}
use Rattle.frontier_levels.proofs.EventLemmas.{by_win, more_leaves, next_legal, no_leaves, win_event, with_leaves}
use Rattle.frontier_levels.proofs.events.make_wins_of.Goals as goal

pub win-requires : goal.win-requires
win-requires c =
    let next = next_legal win_event with_leaves no_leaves more_leaves by_win _ _ c.args.wins.now c.loop-win.win-index c.win-item.result _ c.requires c.loop-win-test.true c.win-item.is in
    subst (λ (s : State). IsLegal s (win_event c.win-item.result)) (sym c.loop-win.invariant) next
