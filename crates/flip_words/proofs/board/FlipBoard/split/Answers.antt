use Rattle.std.proofs.Common.{◌∙◌, ap, arith}
use Rattle.flip_words.specs.Seat.{Seat}
use Rattle.flip_words.proofs.StepRules.{splits}
use Rattle.flip_words.proofs.Boards.{is_of}
use Rattle.flip_words.proofs.board.FlipBoard.split.Goals as goal

pub split_seat-requires : goal.split_seat-requires
split_seat-requires c =
    let view = ap (λ f. f.place) c.first-inside.view_is ∙ c.first.view_is in
    let first = is_of view (ap (λ (s : Seat). s.board) c.requires.first) c.self.view_is in
    (first.same_table, omega (arith, c.self.invariant.all, c.self.invariant.many), splits _ _ _ 0 _ _ c.first-inside.invariant (ap (λ (s : Seat). s.number) (view ∙ c.requires.first)))
