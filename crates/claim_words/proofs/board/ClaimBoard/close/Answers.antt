use Rattle.std.proofs.Common.{rules, ◌∙◌}
use Rattle.std.proofs.lemmas.List.Sorted.{IsNonDecreasingBy-from_sort, answers_always}
use Rattle.board_seats.proofs.Numbered.{sorted_all}
use Rattle.claim_words.specs.Seat.{Seat}
use Rattle.claim_words.proofs.ClosedBoards.{last_known, left}
use Rattle.claim_words.proofs.board.ClaimBoard.close.Goals as goal

pub join_all-first-requires : goal.join_all-first-requires
join_all-first-requires c = sorted_all _ _ _ c.requires c.sort_unstable_by_key.ensures.permutation
    (IsNonDecreasingBy-from_sort (λ (s : Seat). s.number) _ (c.sort_unstable_by_key.ensures.sorted (λ (s : Seat). s.number) (answers_always _ _ _ (λ f a r g h. search rules))))

pub invariant_of-result : goal.invariant_of-result
invariant_of-result c = (
  c.close_with.ensures.values.0,
  c.close_with.ensures.counts.1 ∙ c.self.invariant.no_slots,
  left _ _ _ _ _ _ _ c.self.invariant.rows_known c.self.invariant.rows_there c.close_with.ensures.values.2,
)

pub returns-clause-ok : goal.returns-clause-ok
returns-clause-ok c = last_known _ _ _ _ _ _ _ _ _ c.args.seats.items _ c.sort_unstable_by_key.ensures.permutation c.first.invariant.live c.self.invariant.rows_known (c.first.view_is ∙ c.join_all-first.ensures) c.close_with.ensures.values.2
