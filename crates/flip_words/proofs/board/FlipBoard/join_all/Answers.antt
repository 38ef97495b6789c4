use Rattle.std.proofs.Common.{◌∙◌, ◌+◌, sym, ap}
use Rattle.flip_words.specs.Seat.{Seat, first_seat}
use Rattle.flip_words.specs.Listed.{followed_by}
use Rattle.flip_words.proofs.Finished.{first_counts, joined_more, last_is}
use Rattle.flip_words.proofs.board.FlipBoard.join_all.Goals as goal

pub join-requires-clause-first : goal.join-requires-clause-first
join-requires-clause-first c = first_counts _ _ c.loop-last.invariant c.in-Some.ensures.items ∙ (λ i. first_seat c.args.self.now (1 + (sym c.last.view_is i).number) c.loop-last.first.listed)

pub join-requires-clause-last : goal.join-requires-clause-last
join-requires-clause-last c = ap (λ (s : Seat). s.board) c.last.view_is ∙ (last_is _ _ c.loop-last.invariant c.in-Some.ensures.items).1

pub loop-last-preserved : goal.loop-last-preserved
loop-last-preserved c = joined_more _ _ c.loop-last.invariant c.in-Some.ensures.items (c.join.ensures ∙ (λ i. first_seat c.args.self.now (c.last.view_is i).number (followed_by (c.last.view_is i).listed c.loop-last.first.listed)))
