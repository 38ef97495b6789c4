use Rattle.std.proofs.Common.{◌∙◌, ◌+◌, ◌<◌, length, refl, sym, ap, subst, arith}
use Rattle.claim_words.specs.Answers.{col_before}
use Rattle.claim_words.proofs.StepRules.{allows_claim}
use Rattle.claim_words.proofs.Boards.{is_of, row_in_range}
use Rattle.board_seats.proofs.WordCodes.{first_below}
use Rattle.claim_words.proofs.Shown.{claim_answer, open_after}
use Rattle.claim_words.proofs.board.ClaimBoard.claim.Goals as goal

pub compare_exchange-found-requires : goal.compare_exchange-found-requires
compare_exchange-found-requires c =
    let of = is_of _ _ _ _ _ _ _ c.seat.view_is c.requires.seat c.self.view_is in
    let within = row_in_range _ _ _ _ _ c.self.view_is (subst (λ r. r < length c.args.self.now.rows) (sym c.number.ensures) c.requires.row) in (
      of.same_table,
      subst (λ m. 1 + c.number.result < m) (sym c.self.invariant.all) (first_below _ _ _ within).1,
      allows_claim _ _ _ _ _ c.seat.invariant.live _ _ (subst (λ rows. c.number.result < length rows) (sym of.same_rows) within) (omega arith),
    )

pub value-requires : goal.value-requires
value-requires c = (c.compare_exchange-found.ensures.2 _ _ _ c.seat.invariant.live.0 refl refl).fits

pub invariant_of-seat : goal.invariant_of-seat
invariant_of-seat c = open_after c.seat.invariant (c.compare_exchange-found.ensures.2 _ _ _ c.seat.invariant.live.0 refl refl)

pub returns : goal.returns
returns c =
    let fact = c.compare_exchange-found.ensures.2 _ c.args.row c.args.col c.seat.invariant.live.0 (ap (λ n. 1 + n) c.number.ensures) (ap (λ n. 1 + n) c.number-2.ensures) in
    let a = claim_answer c.seat.inside.seat.table_id c.compare_exchange-found.new.seat.table_id c.seat.inside.seat.me c.compare_exchange-found.new.seat.me c.args.seat.now
    c.compare_exchange-found.ensures.0 c.seat.view_is c.args.row c.args.col c.compare_exchange-found.result (col_before c.claimed.result) (c.claimed.ensures ∙ c.value.ensures) fact in
    record { seat = a.0; known = a.1; once = a.2 }
