use Rattle.std.proofs.Common.{rules, ◌≡◌, ◌<◌, ◌∙◌, length, slice_index_or, arith, subst, sym}
use Rattle.bip_defs.proofs.Sets.{among_at, written_over}
use Rattle.bip_defs.specs.Lists.{Among}
use Rattle.tree_augment.specs.Augmented.{HaveTakenNone}
use Rattle.board_tests.proofs.augmentations.asks_again.Goals as goal

pub augment-requires-clause-none_taken : goal.augment-requires-clause-none_taken
augment-requires-clause-none_taken g c κs within = subst HaveTakenNone (sym c.as_mut_slice.ensures.value) c.in_ok-board.ensures.none_taken

pub take-requires-clause-root : goal.take-requires-clause-root
take-requires-clause-root g c = subst (λ n. 1 < n) (sym (c.in_ok-board.ensures.board.opened.cols ∙ c.requires.cols)) (omega arith)

pub take-requires-clause-seat : goal.take-requires-clause-seat
take-requires-clause-seat g c =
    let long : length c.augment.new.seats ≡ length c.in_ok-board.seats.items = search rules in
    let as_long : c.in_ok-board.seats.len ≡ length c.in_ok-board.seats.items = search rules in
    let same = written_over c.augment.new.seats c.in_ok-board.seats.items c.in_ok-board.seats.len long as_long in
    let first : c.index_mut.result.now ≡ slice_index_or c.augment.new.seats 0 c.index_mut.result.now = rw same at c.index_mut.ensures.value in
    let all = c.augment.ensures.all in
    all.boards _ (subst (λ s. Among s c.augment.new.seats) (sym first) (among_at c.augment.new.seats 0 c.index_mut.result.now (omega (arith, all.some))))
