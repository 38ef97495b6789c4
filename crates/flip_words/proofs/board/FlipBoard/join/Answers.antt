use Rattle.std.proofs.Common.{◌≡◌, ◌∙◌, ◌+◌, sym, ap, arith}
use Rattle.flip_words.specs.Rule.{nobody}
use Rattle.flip_words.specs.Seat.{Seat}
use Rattle.flip_words.proofs.StepRules.{joins}
use Rattle.flip_words.proofs.Boards.{is_of}
use Rattle.flip_words.proofs.board.FlipBoard.join.Goals as goal
use Rattle.board_seats.specs.View.{known_or}

pub join_seat-requires : goal.join_seat-requires
join_seat-requires c =
    let first = is_of c.first.view_is (ap (λ (s : Seat). s.board) c.requires.first) c.self.view_is in
    let last = is_of c.last.view_is c.requires.last c.self.view_is in
    let zeroth : (known_or nobody c.first.inside.seat.me.0).number ≡ 0 = ap (λ (s : Seat). s.number) (c.first.view_is ∙ c.requires.first) in
    let highest : (known_or nobody c.first.inside.seat.me.0).seats ≡ 1 + (known_or nobody c.last.inside.seat.me.0).number = ap (λ (s : Seat). s.seats) (c.first.view_is ∙ c.requires.first) ∙ ap (λ (s : Seat). 1 + s.number) (sym c.last.view_is) in (
      first.same_table,
      last.same_table,
      c.last.invariant.1,
      omega (arith, c.self.invariant.all, c.self.invariant.many),
      joins _ _ _ 0 _ _ c.first.invariant _ _ c.last.invariant.0 zeroth highest,
    )
