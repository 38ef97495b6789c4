use Rattle.std.proofs.Common.{◌∙◌, ap}
use Rattle.claim_words.specs.Seat.{Seat}
use Rattle.claim_words.proofs.StepRules.{splits}
use Rattle.claim_words.proofs.Boards.{is_of, some_words}
use Rattle.claim_words.proofs.board.ClaimBoard.split.Goals as goal

pub split_seat-requires : goal.split_seat-requires
split_seat-requires c =
    let of = is_of _ _ _ _ _ _ _ c.first.view_is (ap (λ (s : Seat). s.board) c.requires.first) c.self.view_is in (
      of.same_table,
      some_words _ _ _ _ c.self.invariant,
      splits _ _ 0 _ _ c.first.invariant.live (ap (λ (s : Seat). s.number) (c.first.view_is ∙ c.requires.first)),
    )
