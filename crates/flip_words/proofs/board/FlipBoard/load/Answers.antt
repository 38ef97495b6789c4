use Rattle.std.proofs.Common.{◌∙◌, ◌<◌, length, sym, ap, subst}
use Rattle.bip_defs.specs.Lists.{Among}
use Rattle.bip_defs.specs.WordValues.{held}
use Rattle.flip_words.specs.Board.{Board}
use Rattle.flip_words.specs.WordCodes.{mates_in}
use Rattle.flip_words.specs.Rule.{nobody}
use Rattle.flip_words.specs.Seat.{Seat}
use Rattle.flip_words.specs.Steps.{TellsMate}
use Rattle.flip_words.proofs.StepRules.{allows_look}
use Rattle.flip_words.proofs.Boards.{is_of, never_set, of_taken, open_after, vertex_place, vertex_word_is}
use Rattle.flip_words.proofs.board.FlipBoard.load.Goals as goal
use Rattle.board_seats.specs.View.{known_or}

pub load-requires : goal.load-requires
load-requires c =
    let of = is_of c.seat.view_is c.requires.seat c.self.view_is in
    let lt : c.args.vertex < length (mates_in c.self.inside.table.shared.key.cols c.self.inside.table.shared.key.words.value.items) = subst (λ (b : Board). c.args.vertex < length b.mates) (sym c.self.view_is) c.requires.vertex in
    (of.same_table, vertex_place c.self.invariant c.args.vertex lt, allows_look _ _ _ _ _ _ c.seat.invariant c.self.inside.cols c.args.vertex c.self.invariant.cols_known lt)

fact : (c : goal.After-mate) → TellsMate (known_or nobody c.seat.inside.seat.me.0) c.args.vertex c.load.result c.seat.inside.seat.me c.load.new.seat.me
fact c = c.load.ensures.2 (known_or nobody c.seat.inside.seat.me.0) c.args.vertex c.seat.invariant.0 (vertex_word_is (is_of c.seat.view_is c.requires.seat c.self.view_is) c.self.invariant.cols_known c.args.vertex)

pub invariant_of-seat : goal.invariant_of-seat
invariant_of-seat c = open_after c.seat.invariant (fact c).after_is

pub returns-clause-set : goal.returns-clause-set
returns-clause-set c = λ x h. c.mate.ensures.mate ∙ (fact c).set x (subst (λ (s : Seat). Among (c.args.vertex, x) s.listed.sets) (sym c.seat.view_is) h)

pub returns-clause-unset : goal.returns-clause-unset
returns-clause-unset c = λ l.
    c.mate.ensures.mate ∙ (fact c).alone (of_taken c.seat.view_is c.args.vertex l.0) (never_set c.seat.view_is c.args.vertex l.1)
    ∙ ap (λ (s : Seat). held s.board.mates c.args.vertex) c.seat.view_is ∙ ap (λ (b : Board). held b.mates c.args.vertex) c.requires.seat
