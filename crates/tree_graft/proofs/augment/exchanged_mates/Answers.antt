use Rattle.std.proofs.Common.{◌≡◌, ◌∙◌, List, ap, length, rules, subst}
use Rattle.bip_defs.specs.Lists.{Among}
use Rattle.bip_defs.proofs.Sets.{written_over}
use Rattle.flip_words.specs.ClosedBoards.{SettlesAll}
use Rattle.flip_words.specs.Seat.{Seat}
use Rattle.tree_graft.proofs.augment.exchanged_mates.Goals as goal

pub augment_under-requires-clause-none_taken : goal.augment_under-requires-clause-none_taken
augment_under-requires-clause-none_taken g c = λ κs lives t h. c.in_ok-board.ensures.none_taken t (subst (Among t) c.as_mut_slice.ensures.value h)

pub returns-in-Ok : goal.returns-in-Ok
returns-in-Ok g c =
    let long : length c.augment_under.new.seats ≡ length c.in_ok-board.seats.items = c.augment_under.auto.seats ∙ ap (λ (ts : List Seat). length ts) c.as_mut_slice.ensures.value in
    let over = written_over c.augment_under.new.seats c.in_ok-board.seats.items c.in_ok-board.seats.len long (search rules) in
    c.augment_under.ensures.exchanged c.in-Ok.mates (subst (λ (ts : List Seat). SettlesAll c.in_ok-board.board c.in-Ok.mates ts) over c.in-Ok.ensures.ok)
