use Rattle.std.proofs.Common.{◌∙◌, ap}
use Rattle.claim_words.specs.Seat.{Seat}
use Rattle.claim_words.proofs.StepRules.{allows_all}
use Rattle.claim_words.proofs.Boards.{is_of, some_words}
use Rattle.claim_words.proofs.board.ClaimBoard.account.Goals as goal

pub load-requires : goal.load-requires
load-requires c =
    let of = is_of _ _ _ _ _ _ _ c.first.view_is (ap (λ (s : Seat). s.board) c.requires) c.self.view_is in (
      of.same_table,
      some_words _ _ _ _ c.self.invariant,
      allows_all _ _ _ _ _ c.first.invariant.live (ap (λ (s : Seat). s.number) (c.first.view_is ∙ c.requires)) (ap (λ (s : Seat). s.seats) (c.first.view_is ∙ c.requires)),
    )
