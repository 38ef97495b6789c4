use Rattle.std.proofs.Common.{subst}
use Rattle.claim_words.specs.Seat.{AreNumbered}
use Rattle.claim_words.proofs.GatherLemmas.{last_highest, last_taken}
use Rattle.board_seats.proofs.Numbered.{numbered_last}
use Rattle.claim_words.proofs.board.ClaimBoard.join_all.Goals as goal

pub join-requires-clause-first : goal.join-requires-clause-first
join-requires-clause-first c = last_highest _ _ _ _ _ c.loop-last.invariant.first c.loop-last.invariant.others c.in-Some.ensures.items

pub join-requires-clause-last : goal.join-requires-clause-last
join-requires-clause-last c = (numbered_last _ 1 _ _ (subst (AreNumbered c.args.self.now 1) c.in-Some.ensures.items c.loop-last.invariant.others)).1

pub loop-last-preserved : goal.loop-last-preserved
loop-last-preserved c =
    let (first, others, same) = last_taken _ c.pop.new.self.items c.loop-last.first c.join.new.first c.in-Some.last c.loop-last.seats.items _ c.loop-last.invariant.others c.in-Some.ensures.items c.join.ensures c.loop-last.invariant.same in
    record { first = first; others = others; same = same }
