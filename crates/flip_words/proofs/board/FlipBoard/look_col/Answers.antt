use Rattle.std.proofs.Common.{◌≡◌, ◌∙◌, ◌+◌, sym, ap, subst, ◌≤◌}
use Rattle.bip_defs.specs.Lists.{Among}
use Rattle.bip_defs.specs.WordValues.{held}
use Rattle.flip_words.specs.Board.{Board}
use Rattle.flip_words.specs.Seat.{IsRightful, LeavesUnset, Seat}
use Rattle.sp_ids.specs.Limits.{max_workers}
use Rattle.flip_words.proofs.OwnTrees.{rightful_look}
use Rattle.flip_words.proofs.board.FlipBoard.look_col.Goals as goal

-- the vertex of the column
at : (c : goal.After-as_row) → c.self.inside.rows + c.number.result ≡ c.args.self.now.rows + c.args.col
at c = λ i. (sym c.self.invariant.rows_known ∙ ap (λ (b : Board). b.rows) c.self.view_is) i + c.number.ensures i

pub invariant_of-seat : goal.invariant_of-seat
invariant_of-seat c = (c.seat.invariant.0 ∙ sym (ap (λ (s : Seat). s.number) c.load.ensures.seat), subst IsRightful (sym c.load.ensures.seat) (rightful_look _ _ _ c.seat.invariant.1), subst (λ (s : Seat). s.seats ≤ max_workers) (sym c.load.ensures.seat) c.seat.invariant.2)

pub returns-clause-set : goal.returns-clause-set
returns-clause-set c = λ x h. c.as_row.ensures ∙ c.load.ensures.set x (subst (λ (s : Seat). Among (c.self.inside.rows + c.number.result, x) s.listed.sets) (sym c.seat.view_is) (subst (λ v. Among (v, x) c.args.seat.now.listed.sets) (sym (at c)) h))

pub returns-clause-unset : goal.returns-clause-unset
returns-clause-unset c = λ l.
    c.as_row.ensures
    ∙ c.load.ensures.unset (subst (λ (s : Seat). LeavesUnset s (c.self.inside.rows + c.number.result)) (sym c.seat.view_is) (subst (LeavesUnset c.args.seat.now) (sym (at c)) l))
    ∙ ap (held c.args.self.now.mates) (at c)
