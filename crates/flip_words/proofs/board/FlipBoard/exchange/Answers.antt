use Rattle.std.proofs.Common.{◌≡◌, ◌∙◌, ◌<◌, refl, sym, ap, subst, arith}
use Rattle.flip_words.specs.Board.{Board}
use Rattle.flip_words.specs.WordCodes.{half}
use Rattle.flip_words.specs.Rule.{nobody}
use Rattle.flip_words.specs.Seat.{KnowsTaker, Seat}
use Rattle.flip_words.proofs.StepRules.{allows_take}
use Rattle.flip_words.proofs.Boards.{is_of, open_after, taker_place}
use Rattle.flip_words.proofs.board.FlipBoard.exchange.Goals as goal
use Rattle.board_seats.specs.View.{known_or}

pub compare_exchange-found-requires : goal.compare_exchange-found-requires
compare_exchange-found-requires c =
    let of = is_of c.seat.view_is c.requires.seat c.self.view_is in
    let lt : c.args.root < c.self.inside.table.shared.key.cols = subst (λ (b : Board). c.args.root < b.cols) (sym c.self.view_is) c.requires.root in
    let own : c.args.number ≡ (known_or nobody c.seat.inside.seat.me.0).number = c.requires.number ∙ sym (ap (λ (s : Seat). s.number) c.seat.view_is) in
    let few : c.args.number < half = omega (arith, c.ranges.number.fits) in
    (of.same_table, taker_place c.self.invariant c.args.root lt, allows_take _ _ _ _ _ _ c.seat.invariant c.args.root c.args.number lt own few)

pub taker-requires : goal.taker-requires
taker-requires c = (c.compare_exchange-found.ensures.2 (known_or nobody c.seat.inside.seat.me.0) c.args.root c.seat.invariant.0 refl).fits

pub invariant_of-seat : goal.invariant_of-seat
invariant_of-seat c = open_after c.seat.invariant (c.compare_exchange-found.ensures.2 (known_or nobody c.seat.inside.seat.me.0) c.args.root c.seat.invariant.0 refl).after_is

pub returns-clause-known : goal.returns-clause-known
returns-clause-known c = λ x knew. c.taker.ensures ∙ (c.compare_exchange-found.ensures.2 (known_or nobody c.seat.inside.seat.me.0) c.args.root c.seat.invariant.0 refl).same x (subst (λ (s : Seat). KnowsTaker s c.args.root x) (sym c.seat.view_is) knew)
