use Rattle.std.proofs.Common.{rules, ◌≡◌, [], ◌∷◌}
use Rattle.board_tests.proofs.Swapped.{swapped}
use Rattle.board_tests.proofs.claim_boards.close_for_two.Goals as goal

pub close-requires : goal.close-requires
close-requires c =
    let items : c.in_ok-seats.seats.items ≡ c.args.one ∷ c.args.zero ∷ [] = search rules in
    rw items (swapped c.args.board c.args.zero c.args.one (c.seats_in_order_are_all.ensures c.args.board _ c.requires))
