use Rattle.std.proofs.Common.{rules, ◌≡◌, length, subst, sym}
use Rattle.bip_defs.proofs.Sets.{written_over}
use Rattle.flip_words.specs.ClosedBoards.{SettlesAll}
use Rattle.tree_augment.specs.Augmented.{HaveTakenNone}
use Rattle.board_tests.proofs.augmentations.augmented.Goals as goal

pub augment-requires-clause-none_taken : goal.augment-requires-clause-none_taken
augment-requires-clause-none_taken g c κs within = subst HaveTakenNone (sym c.as_mut_slice.ensures.value) c.in_ok-board.ensures.none_taken

pub returns-in-Ok : goal.returns-in-Ok
returns-in-Ok g c =
    let long : length c.augment.new.seats ≡ length c.in_ok-board.seats.items = search rules in
    let as_long : c.in_ok-board.seats.len ≡ length c.in_ok-board.seats.items = search rules in
    let settled = subst (SettlesAll c.in_ok-board.board c.in-Ok.mates) (written_over c.augment.new.seats c.in_ok-board.seats.items c.in_ok-board.seats.len long as_long) c.in-Ok.ensures.ok in
    c.closed_mates_are_exchanged.ensures c.args.forest.now c.in_ok-board.board c.augment.new.seats c.in-Ok.mates c.is_sound.ensures c.in_ok-board.ensures.board c.augment.ensures settled
