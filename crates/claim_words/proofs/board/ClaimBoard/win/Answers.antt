use Rattle.std.proofs.Common.{◌∙◌, ◌+◌, ◌<◌, length, refl, sym, ap, subst, arith}
use Rattle.claim_words.specs.Answers.{leaf_before}
use Rattle.claim_words.proofs.StepRules.{allows_win_at}
use Rattle.claim_words.proofs.Boards.{is_of, root_at, root_in_range, root_word_below}
use Rattle.claim_words.proofs.Shown.{open_after, win_answer}
use Rattle.claim_words.proofs.board.ClaimBoard.win.Goals as goal

pub compare_exchange-found-requires : goal.compare_exchange-found-requires
compare_exchange-found-requires c =
    let of = is_of _ _ _ _ _ _ _ c.seat.view_is c.requires.seat c.self.view_is in
    let within = root_in_range _ _ _ _ _ c.self.view_is (subst (λ r. r < length c.args.self.now.roots) (sym c.number.ensures) c.requires.root) in (
      of.same_table,
      root_word_below _ _ _ _ _ c.self.invariant within,
      allows_win_at _ _ _ _ _ c.seat.invariant.live _ _ _ c.self.invariant.rows_known (subst (λ roots. c.number.result < length roots) (sym of.same_roots) within) (omega arith) c.self.invariant.rows_there,
    )

pub value-requires : goal.value-requires
value-requires c =
    let of = is_of _ _ _ _ _ _ _ c.seat.view_is c.requires.seat c.self.view_is in
    (c.compare_exchange-found.ensures.2 _ c.args.root _ c.seat.invariant.live.0 (root_at _ _ _ _ _ c.args.root c.self.invariant.rows_known c.self.invariant.rows_there of.same_rows c.number.ensures) refl).fits

pub invariant_of-seat : goal.invariant_of-seat
invariant_of-seat c =
    let of = is_of _ _ _ _ _ _ _ c.seat.view_is c.requires.seat c.self.view_is in
    open_after c.seat.invariant (c.compare_exchange-found.ensures.2 _ c.args.root _ c.seat.invariant.live.0 (root_at _ _ _ _ _ c.args.root c.self.invariant.rows_known c.self.invariant.rows_there of.same_rows c.number.ensures) refl)

pub returns : goal.returns
returns c =
    let of = is_of _ _ _ _ _ _ _ c.seat.view_is c.requires.seat c.self.view_is in
    let fact = c.compare_exchange-found.ensures.2 _ c.args.root c.args.leaf c.seat.invariant.live.0 (root_at _ _ _ _ _ c.args.root c.self.invariant.rows_known c.self.invariant.rows_there of.same_rows c.number.ensures) (ap (λ n. 1 + n) c.number-2.ensures) in
    let a = win_answer c.seat.inside.seat.table_id c.compare_exchange-found.new.seat.table_id c.seat.inside.seat.me c.compare_exchange-found.new.seat.me c.args.seat.now
    c.compare_exchange-found.ensures.0 c.seat.view_is c.args.root c.args.leaf c.compare_exchange-found.result (leaf_before c.won.result) (c.won.ensures ∙ c.value.ensures) fact in
    record { seat = a.0; known = a.1; once = a.2 }
