use Rattle.std.proofs.Common.{List, ℕ, ◌<◌, refl, sym, subst, ◌∙◌, arith}
use Rattle.std.proofs.lemmas.Result.{err_from_is_err_and}
use Rattle.sp_ports.specs.Device.{SourceRose}
use Rattle.mm_reader.specs.declared.window.Window.{Window}
use Rattle.mm_reader.proofs.Exits.{rose_since, turn_smaller}
use Rattle.mm_reader.proofs.Leaving.{asks_more, asks_none, asks_same, leaves}
use Rattle.mm_reader.proofs.Progress.{HasUsed, none_used, all_taken, refilled, not_refilled}
use Rattle.mm_reader.proofs.RestLaws.{rest_refused, rest_fault, rest_read, past_ahead, refused_no_rest_fault, unjudged}
use Rattle.mm_reader.proofs.rest.rest.Goals as goal

pub returns-in_err-take_ahead : goal.returns-in_err-take_ahead
returns-in_err-take_ahead g c =
    let i = c.reading.invariant in
    let e = c.in_err-take_ahead.ensures in
    let h = subst (λ (x : Window). HasUsed c.args.window.now x (g.S.Source.left c.args.source.now) (g.S.Source.left c.reading.source) c.reading.bytes.items) (sym e.same) i.so_far in
    let p = err_from_is_err_and c.from_residual.result c.from_residual.ensures.1 in
    rw (p.1, p.2)
    (record {
      known = rest_refused c.args.window.now (g.S.Source.faults c.args.source.now) (g.S.Source.faults c.reading.source) c.reading.bytes.items c.reading.window _ _ c.in_err-take_ahead.field-0.0 i.so_far e.err;
      unjudged = unjudged c.reading.window c.in_err-take_ahead.field-0.0 e.err;
      leaves = leaves _ g.S.Source.faults _ _ _ _ _ h e.window.window (asks_same i.asks e.at_end);
      cause = record {
        fault = record { counts = omega (arith, i.steady); steady = tt; failed = λ x. absurd (refused_no_rest_fault _ c.reading.window c.in_err-take_ahead.field-0.0 e.err x) };
        past = λ x. rw e.same (past_ahead _ c.reading.window i.window c.in_err-take_ahead.field-0.0 e.err x);
        in_room = tt;
      };
      ended = tt;
    })

pub returns-then-window : goal.returns-then-window
returns-then-window g c =
    let i = c.reading.invariant in
    let e = c.in_ok-take_ahead.ensures in
    let h = all_taken c.args.window.now c.reading.window c.take_ahead.new.window (g.S.Source.left c.args.source.now) (g.S.Source.left c.reading.source) c.reading.bytes.items i.so_far c.take_ahead.new.bytes.items e.ok in
    record {
      known = rest_read c.args.window.now (g.S.Source.faults c.args.source.now) (g.S.Source.faults c.reading.source) c.take_ahead.new.bytes.items c.take_ahead.new.window _ _ h e.ok.ahead_is (i.asks.at_end (rw (← e.at_end) c.if-window.true)) i.steady;
      unjudged = tt;
      leaves = leaves _ g.S.Source.faults _ _ _ _ _ h e.window.window (asks_same i.asks e.at_end);
      cause = record {
        fault = record { counts = omega (arith, i.steady); steady = i.steady; failed = λ x. absurd cc };
        past = λ x. absurd cc;
        in_room = e.in_room;
      };
      ended = c.if-window.true;
    }

pub returns-in-Err : goal.returns-in-Err
returns-in-Err g c =
    let i = c.reading.invariant in
    let e = c.in_ok-take_ahead.ensures in
    let k = all_taken c.args.window.now c.reading.window c.take_ahead.new.window (g.S.Source.left c.args.source.now) (g.S.Source.left c.reading.source) c.reading.bytes.items i.so_far c.take_ahead.new.bytes.items e.ok in
    let r = c.in-Err.ensures in
    let h = not_refilled c.args.window.now c.take_ahead.new.window c.refill.new.window (g.S.Source.left c.args.source.now) (g.S.Source.left c.reading.source) c.take_ahead.new.bytes.items k (g.S.Source.left c.refill.new.source) e.ok.ahead_is r.err.kept r.err.none r.room r.lines in
    let s : SourceRose (g.S.Source.left c.args.source.now) (g.S.Source.faults c.args.source.now) (g.S.Source.faults c.refill.new.source) =
    rose_since (g.S.Source.left c.args.source.now) (g.S.Source.left c.reading.source) i.so_far.gave _ (g.S.Source.faults c.reading.source) _ i.so_far.known i.steady r.cause.failed in
    record {
      known = rest_fault c.args.window.now (g.S.Source.faults c.args.source.now) (g.S.Source.faults c.refill.new.source) c.take_ahead.new.bytes.items c.refill.new.window _ _ h r.err.none s;
      unjudged = tt;
      leaves = leaves _ g.S.Source.faults _ _ _ _ _ h r.window (asks_more (asks_same {w2 = c.take_ahead.new.window} i.asks e.at_end) c.if-window.false (λ t. rw r.err.kept (i.asks.at_end (rw (← e.at_end, ← r.err.same) t))));
      cause = record {
        fault = record { counts = omega (arith, i.steady, r.cause.counts); steady = tt; failed = λ x. s };
        past = λ x. absurd cc;
        in_room = tt;
      };
      ended = tt;
    }

pub reading-init : goal.reading-init
reading-init g c = record {
  window = c.requires.window;
  asks = asks_none c.requires.at_end;
  steady = refl;
  so_far = subst (λ (t : List ℕ). HasUsed c.args.window.now c.args.window.now (g.S.Source.left c.args.source.now) (g.S.Source.left c.args.source.now) t) (sym c.new-bytes.ensures.items) (none_used c.args.window.now (g.S.Source.left c.args.source.now));
}

pub reading-preserved : goal.reading-preserved
reading-preserved g c =
    let i = c.reading.invariant in
    let e = c.in_ok-take_ahead.ensures in
    let k = all_taken c.args.window.now c.reading.window c.take_ahead.new.window (g.S.Source.left c.args.source.now) (g.S.Source.left c.reading.source) c.reading.bytes.items i.so_far c.take_ahead.new.bytes.items e.ok in
    let r = c.in_default.ensures in
    record {
      window = r.window;
      asks = asks_more (asks_same {w2 = c.take_ahead.new.window} i.asks e.at_end) c.if-window.false r.ok.end;
      steady = r.cause.steady ∙ i.steady;
      so_far = refilled c.args.window.now c.take_ahead.new.window c.refill.new.window _ _ c.take_ahead.new.bytes.items k _ e.ok.ahead_is r.ok.bytes r.room r.lines;
    }

pub reading-smaller : goal.reading-smaller
reading-smaller g c =
    let i = c.reading.invariant in
    let e = c.in_ok-take_ahead.ensures in
    let r = c.in_default.ensures in
    turn_smaller c.reading.window c.take_ahead.new.window c.refill.new.window _ i.window r.window e.ok.room_is refl (sym e.at_end ∙ c.if-window.false) r.room (λ x. subst (λ k. 0 < k) r.ok.count_is (r.ok.some x))
