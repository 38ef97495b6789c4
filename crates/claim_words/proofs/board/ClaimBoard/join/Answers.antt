use Rattle.std.proofs.Common.{◌∙◌, ◌+◌, ap, sym}
use Rattle.claim_words.specs.Seat.{Seat}
use Rattle.claim_words.proofs.StepRules.{joins}
use Rattle.claim_words.proofs.Boards.{is_of, some_words}
use Rattle.claim_words.proofs.board.ClaimBoard.join.Goals as goal

pub join_seat-requires : goal.join_seat-requires
join_seat-requires c =
    let of = is_of _ _ _ _ _ _ _ c.first.view_is (ap (λ (s : Seat). s.board) c.requires.first) c.self.view_is in
    let last_of = is_of _ _ _ _ _ _ _ c.last.view_is c.requires.last c.self.view_is in
    let highest = ap (λ (s : Seat). s.seats) (c.first.view_is ∙ c.requires.first) ∙ ap (λ (s : Seat). 1 + s.number) (sym c.last.view_is) in (
      of.same_table,
      last_of.same_table,
      c.last.invariant.live.1,
      some_words _ _ _ _ c.self.invariant,
      joins _ _ 0 _ _ c.first.invariant.live _ _ c.last.invariant.live.0 (ap (λ (s : Seat). s.number) (c.first.view_is ∙ c.requires.first)) highest,
    )
