use Rattle.std.proofs.Common.{◌≡◌, ◌∙◌, ◌<◌, Option, Some, length, refl, sym, ap, subst}
use Rattle.atomic_table.specs.Table.{Me}
use Rattle.bip_defs.specs.WordValues.{held}
use Rattle.flip_words.specs.Board.{Board}
use Rattle.flip_words.specs.WordCodes.{mates_in, trees_in}
use Rattle.flip_words.specs.Listed.{put}
use Rattle.flip_words.specs.Rule.{IsOfTaken, Known, Opened, nobody}
use Rattle.flip_words.specs.Seat.{Seat, TookTreeOf, after_set}
use Rattle.flip_words.specs.Steps.{knowing}
use Rattle.flip_words.specs.Stored.{shown}
use Rattle.flip_words.proofs.StepRules.{allows_set}
use Rattle.flip_words.proofs.Boards.{is_of, never_set, of_taken, open_after, vertex_place, vertex_word_is}
use Rattle.flip_words.proofs.WordCodes.{mate_known}
use Rattle.flip_words.proofs.board.FlipBoard.store.Goals as goal
use Rattle.board_seats.specs.View.{known_or}

pub store-requires : goal.store-requires
store-requires c =
    let of = is_of c.seat.view_is c.requires.seat c.self.view_is in
    let lt : c.args.vertex < length (mates_in c.self.inside.table.shared.key.cols c.self.inside.table.shared.key.words.value.items) = subst (λ (b : Board). c.args.vertex < length b.mates) (sym c.self.view_is) c.requires.vertex in
    let tree : held (trees_in c.self.inside.table.shared.key.cols c.self.inside.table.shared.key.words.value.items) c.args.vertex ≡ Some c.args.root = subst (λ (b : Board). held b.trees c.args.vertex ≡ Some c.args.root) (sym c.self.view_is) c.requires.tree in
    let took : TookTreeOf c.args.seat.now c.args.vertex = (c.args.root, ap (λ (b : Board). held b.trees c.args.vertex) c.requires.seat ∙ c.requires.tree, c.requires.took) in
    let taken = subst (λ (o : Opened). IsOfTaken o.trees (known_or nobody c.seat.inside.seat.me.0).listed c.args.vertex) of.same_opened (of_taken c.seat.view_is c.args.vertex took) in (
      of.same_table,
      vertex_place c.self.invariant c.args.vertex lt,
      allows_set _ _ _ _ _ _ c.seat.invariant c.self.inside.cols c.args.vertex c.args.root c.args.mate _ c.self.invariant.cols_known lt taken tree (never_set c.seat.view_is c.args.vertex c.requires.unset) c.requires.mate
          refl (mate_known (Some c.args.root) c.args.mate c.requires.mate),
    )

fact : (c : goal.After-store) → ◌≡◌ {A = Me (Unit {0}) (Option Known)} c.store.new.seat.me (knowing (known_or nobody c.seat.inside.seat.me.0) (put (known_or nobody c.seat.inside.seat.me.0).listed c.args.vertex c.args.mate), c.seat.inside.seat.me.1)
fact c =
    c.store.ensures.2 (known_or nobody c.seat.inside.seat.me.0) c.args.vertex c.seat.invariant.0 (vertex_word_is (is_of c.seat.view_is c.requires.seat c.self.view_is) c.self.invariant.cols_known c.args.vertex)
    ∙ (λ i. (knowing (known_or nobody c.seat.inside.seat.me.0) (put (known_or nobody c.seat.inside.seat.me.0).listed c.args.vertex (mate_known (Some c.args.root) c.args.mate c.requires.mate i)), c.seat.inside.seat.me.1))

pub invariant_of-seat : goal.invariant_of-seat
invariant_of-seat c = open_after c.seat.invariant (fact c)

pub returns : goal.returns
returns c = (λ i. shown (c.store.ensures.0 i) (known_or nobody (fact c i).0)) ∙ ap (λ (s : Seat). after_set s c.args.vertex c.args.mate) c.seat.view_is
