use Rattle.std.proofs.Common.{◌∙◌, ◌+◌, ◌<◌, length, refl, sym, ap, subst}
use Rattle.claim_words.proofs.StepRules.{allows_row}
use Rattle.claim_words.proofs.Boards.{is_of, numbered, row_in_range}
use Rattle.board_seats.proofs.WordCodes.{first_below}
use Rattle.claim_words.proofs.Shown.{open_after, row_answer}
use Rattle.claim_words.proofs.board.ClaimBoard.look_row.Goals as goal

pub load-found-requires : goal.load-found-requires
load-found-requires c =
    let of = is_of _ _ _ _ _ _ _ c.seat.view_is c.requires.seat c.self.view_is in
    let within = row_in_range _ _ _ _ _ c.self.view_is (subst (λ r. r < length c.args.self.now.rows) (sym c.number.ensures) c.requires.row) in (
      of.same_table,
      subst (λ m. 1 + c.number.result < m) (sym c.self.invariant.all) (first_below _ _ _ within).1,
      allows_row _ _ _ _ _ c.seat.invariant.live _ (subst (λ rows. c.number.result < length rows) (sym of.same_rows) within),
    )

pub value-holder-requires : goal.value-holder-requires
value-holder-requires c = (c.load-found.ensures.2 _ _ c.seat.invariant.live.0 refl).fits

pub invariant_of-seat : goal.invariant_of-seat
invariant_of-seat c = open_after c.seat.invariant (c.load-found.ensures.2 _ _ c.seat.invariant.live.0 refl)

pub returns : goal.returns
returns c =
    let fact = c.load-found.ensures.2 _ c.args.row c.seat.invariant.live.0 (ap (λ n. 1 + n) c.number.ensures) in
    let a = row_answer c.seat.inside.seat.table_id c.load-found.new.seat.table_id c.seat.inside.seat.me c.load-found.new.seat.me c.args.seat.now
    c.load-found.ensures.0 c.seat.view_is c.args.row c.load-found.result c.identified.result (sym (numbered c.identified.result) ∙ c.identified.ensures ∙ c.value-holder.ensures) fact in
    record { seat = a.0; known = a.1 }
