use Rattle.std.proofs.Common.{◌∙◌, ap, subst}
use Rattle.std.specs.Mem.Slots.{slots_items}
use Rattle.flip_words.specs.Board.{Board}
use Rattle.flip_words.specs.Rule.{opened_in}
use Rattle.flip_words.specs.Seat.{Seat}
use Rattle.flip_words.specs.Stored.{AreLeft, board_in}
use Rattle.flip_words.proofs.Finished.{left}
use Rattle.flip_words.proofs.board.FlipBoard.end.Goals as goal

pub returns-clause-words : goal.returns-clause-words
returns-clause-words c = subst (λ (b : Board). AreLeft b c.args.whole.listed (slots_items c.close_with.result.words)) c.self.view_is
    (subst (λ (s : Seat). AreLeft (board_in c.self.inside.table.shared.table_id (opened_in c.self.inside.table.shared.key.rows c.self.inside.table.shared.key.cols c.self.inside.table.shared.key.words.value.items)) s.listed (slots_items c.close_with.result.words)) c.whole.view_is
    (left c.self.inside.table.shared.table_id _ _ _ _ c.whole.inside.seat.me.0 _ _ c.close_with.ensures.values.2 c.whole.invariant.0 (ap (λ (s : Seat). s.number) (c.whole.view_is ∙ c.requires)) (ap (λ (s : Seat). s.seats) (c.whole.view_is ∙ c.requires)) c.self.invariant.many))
