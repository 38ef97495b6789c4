use Rattle.std.proofs.Common.{◌++◌, take, sym, ◌∙◌, arith}
use Rattle.std.proofs.lemmas.Result.{err_from_is_err_and}
use Rattle.mm_reader.proofs.PlainSteps.{after_piece, stops_piece}
use Rattle.mm_reader.proofs.machine.feed.Goals as goal

pub returns-in_err-at-clause-steps : goal.returns-in_err-at-clause-steps
returns-in_err-at-clause-steps c bytes h =
    let a = c.loop-at.invariant.after bytes h in
    let p = err_from_is_err_and c.from_residual.result c.from_residual.ensures.1 in
    rw (p.1, p.2)
    (stops_piece c.args.end c.in_err-at.field-0.0 bytes c.args.piece.now c.loop-at.at (c.in_err-at.ensures.err c.args.end (bytes ++ take c.loop-at.at c.args.piece.now) a c.loop-at.invariant.open_now))

pub returns-then-is_complete-clause-steps : goal.returns-then-is_complete-clause-steps
returns-then-is_complete-clause-steps c bytes h =
    let a = c.loop-at.invariant.after bytes h in
    after_piece c.args.end c.step.new.m bytes c.args.piece.now c.loop-at.at c.in_ok-at.at c.in_ok-at.ensures.ok.in_order
    (c.in_ok-at.ensures.ok.stands c.args.end (bytes ++ take c.loop-at.at c.args.piece.now) a c.loop-at.invariant.open_now)

pub loop-at-preserved : goal.loop-at-preserved
loop-at-preserved c = record {
  ready = c.in_ok-at.ensures.ok.ready;
  within = c.in_ok-at.ensures.ok.within;
  number = omega (arith, c.in_ok-at.ensures.ok.number, c.loop-at.invariant.number);
  open_now = sym c.is_complete.ensures ∙ c.if-is_complete.false;
  after = λ bytes h.
      after_piece c.args.end c.step.new.m bytes c.args.piece.now c.loop-at.at c.in_ok-at.at c.in_ok-at.ensures.ok.in_order
      (c.in_ok-at.ensures.ok.stands c.args.end (bytes ++ take c.loop-at.at c.args.piece.now) (c.loop-at.invariant.after bytes h) c.loop-at.invariant.open_now);
}
