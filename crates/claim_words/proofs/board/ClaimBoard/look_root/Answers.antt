use Rattle.std.proofs.Common.{◌∙◌, ◌<◌, length, sym, subst}
use Rattle.claim_words.proofs.StepRules.{allows_root_at}
use Rattle.claim_words.proofs.Boards.{is_of, numbered, root_at, root_in_range, root_word_below}
use Rattle.claim_words.proofs.Shown.{open_after, root_answer}
use Rattle.claim_words.proofs.board.ClaimBoard.look_root.Goals as goal

pub load-found-requires : goal.load-found-requires
load-found-requires c =
    let of = is_of _ _ _ _ _ _ _ c.seat.view_is c.requires.seat c.self.view_is in
    let within = root_in_range _ _ _ _ _ c.self.view_is (subst (λ r. r < length c.args.self.now.roots) (sym c.number.ensures) c.requires.root) in (
      of.same_table,
      root_word_below _ _ _ _ _ c.self.invariant within,
      allows_root_at _ _ _ _ _ c.seat.invariant.live _ _ c.self.invariant.rows_known (subst (λ roots. c.number.result < length roots) (sym of.same_roots) within) c.self.invariant.rows_there,
    )

pub value-leaf-requires : goal.value-leaf-requires
value-leaf-requires c =
    let of = is_of _ _ _ _ _ _ _ c.seat.view_is c.requires.seat c.self.view_is in
    (c.load-found.ensures.2 _ c.args.root c.seat.invariant.live.0 (root_at _ _ _ _ _ c.args.root c.self.invariant.rows_known c.self.invariant.rows_there of.same_rows c.number.ensures)).fits

pub invariant_of-seat : goal.invariant_of-seat
invariant_of-seat c =
    let of = is_of _ _ _ _ _ _ _ c.seat.view_is c.requires.seat c.self.view_is in
    open_after c.seat.invariant (c.load-found.ensures.2 _ c.args.root c.seat.invariant.live.0 (root_at _ _ _ _ _ c.args.root c.self.invariant.rows_known c.self.invariant.rows_there of.same_rows c.number.ensures))

pub returns : goal.returns
returns c =
    let of = is_of _ _ _ _ _ _ _ c.seat.view_is c.requires.seat c.self.view_is in
    let fact = c.load-found.ensures.2 _ c.args.root c.seat.invariant.live.0 (root_at _ _ _ _ _ c.args.root c.self.invariant.rows_known c.self.invariant.rows_there of.same_rows c.number.ensures) in
    let a = root_answer c.seat.inside.seat.table_id c.load-found.new.seat.table_id c.seat.inside.seat.me c.load-found.new.seat.me c.args.seat.now
    c.load-found.ensures.0 c.seat.view_is c.args.root c.load-found.result c.identified.result (sym (numbered c.identified.result) ∙ c.identified.ensures ∙ c.value-leaf.ensures) fact in
    record { seat = a.0; known = a.1 }
