use Rattle.std.proofs.Common.{rules, ◌≡◌, ◌∙◌, ℕ, sym, ap, subst}
use Rattle.std.proofs.lemmas.List.Sorted.{IsNonDecreasingBy-from_sort, answers_always}
use Rattle.std.specs.Mem.Slots.{slots_items}
use Rattle.bip_defs.specs.Lists.{Among}
use Rattle.board_seats.proofs.Numbered.{sorted_all}
use Rattle.flip_words.specs.Board.{Board}
use Rattle.flip_words.specs.WordCodes.{mates_in}
use Rattle.flip_words.specs.Seat.{IsRightful, Seat}
use Rattle.flip_words.specs.Stored.{AreSized}
use Rattle.flip_words.proofs.Finished.{settles_all}
use Rattle.flip_words.proofs.board.FlipBoard.close.Goals as goal

pub join_all-whole-requires : goal.join_all-whole-requires
join_all-whole-requires c = sorted_all _ _ _ c.requires c.sort_unstable_by_key.ensures.permutation
    (IsNonDecreasingBy-from_sort (λ (s : Seat). s.number) _ (c.sort_unstable_by_key.ensures.sorted (λ (s : Seat). s.number) (answers_always _ _ _ (λ f a r g h. search rules))))

pub returns-clause-ok : goal.returns-clause-ok
returns-clause-ok c =
    let rows : c.self.inside.rows ≡ c.args.self.rows = sym c.self.invariant.rows_known ∙ ap (λ (b : Board). b.rows) c.self.view_is in
    let cols : c.self.inside.cols ≡ c.args.self.cols = sym c.self.invariant.cols_known ∙ ap (λ (b : Board). b.cols) c.self.view_is in
    settles_all c.args.self c.args.seats.items _ _ _ _ c.sort_unstable_by_key.ensures.permutation c.end-words.ensures.words (ap (λ (s : Seat). s.listed) c.join_all-whole.ensures)
    (subst (λ ss. (s : Seat) → Among s ss → IsRightful s) c.as_slice.ensures.value c.are_rightful.ensures)
    (subst (λ (p : ℕ × ℕ). AreSized c.read_mates.new.mates p.0 p.1) (λ i. (rows i, cols i)) c.read_mates.ensures.sizes)
    (c.read_mates.ensures.mates ∙ ap (λ n. mates_in n (slots_items c.end-words.result.words)) cols)
