use Rattle.std.proofs.Common.{◌<◌, refl, sym, ◌∙◌, arith, subst}
use Rattle.std.proofs.lemmas.Result.{err_from_is_err_and}
use Rattle.sp_ports.specs.Device.{SourceRose}
use Rattle.mm_defs.specs.declared.answers.ReadError.TheVariants as errors
use Rattle.mm_reader.specs.Windows.{ahead_of}
use Rattle.mm_reader.proofs.EntryLimits.{complete_within}
use Rattle.mm_reader.proofs.Exits.{rose_since, exit_refused, exit_fault, exit_done, exit_end, memory_known, closed_used, file_open, on_ok, refused_kind, refused_no_fault, ended_kind, ended_no_fault, ended_in_room, same_error, turn_smaller, all_used}
use Rattle.mm_reader.proofs.Leaving.{asks_more, asks_none, asks_same, ends_over, leaves}
use Rattle.mm_reader.proofs.Progress.{fed_start, fed_consumed, fed_refilled, none_used, more_used, not_refilled, closed_known}
use Rattle.mm_reader.proofs.reader.matrix.Goals as goal

pub returns-in-Err : goal.returns-in-Err
returns-in-Err g c =
    let h = none_used c.args.window.now (g.S.Source.left c.args.source.now) in
    record {
      known = memory_known c.args.end c.args.window.now c.args.window.now _ _ _;
      kind = tt;
      within = tt;
      leaves = leaves _ g.S.Source.faults _ _ _ _ _ h c.requires.window (asks_none c.requires.at_end);
      cause = record {
        fault = record { counts = omega arith; steady = tt; failed = λ e. absurd cc };
        past = λ e. absurd cc;
        in_room = tt;
      };
      ends = tt;
    }

pub consume-requires-clause-can : goal.consume-requires-clause-can
consume-requires-clause-can g c =
    let i = c.reading.invariant in
    record {
      ready = i.ready;
      unfinished = i.open_now;
      number = omega (arith, i.window.fits, i.number);
      stands = (i.fed.used, i.fed.stands);
    }

pub returns-in_err-done : goal.returns-in_err-done
returns-in_err-done g c =
    let i = c.reading.invariant in
    let e = c.in_err-done.ensures in
    let u = e.used.1 in
    let h = more_used c.args.window.now c.reading.window c.consume.new.window (g.S.Source.left c.args.source.now) (g.S.Source.left c.reading.source) i.fed.used i.fed.so_far e.used.0 u in
    let p = err_from_is_err_and c.from_residual.result c.from_residual.ensures.1 in
    rw (p.1, p.2)
    (record {
      known = exit_refused c.args.end c.args.window.now (g.S.Source.faults c.args.source.now) (g.S.Source.faults c.reading.source) c.reading.m c.reading.window i.window c.consume.new.window _ _ c.in_err-done.field-0.0 i.fed e.err;
      kind = refused_kind _ _ _ _ _ (e.err i.fed.used i.fed.stands);
      within = tt;
      leaves = leaves _ g.S.Source.faults _ _ _ _ _ h e.window (asks_same i.asks u.at_end_same);
      cause = record {
        fault = record { counts = omega (arith, i.steady); steady = tt; failed = λ x. absurd (refused_no_fault _ _ _ _ _ (e.err i.fed.used i.fed.stands) x) };
        past = λ x. e.past (same_error c.in_err-done.field-0.0 errors.TooLong x);
        in_room = tt;
      };
      ends = tt;
    })

pub returns-then-done : goal.returns-then-done
returns-then-done g c =
    let i = c.reading.invariant in
    let e = c.in_ok-done.ensures in
    let u = e.ok.uses in
    let f = fed_consumed c.args.end c.args.window.now c.reading.window c.consume.new.window (g.S.Source.left c.args.source.now) (g.S.Source.left c.reading.source) c.reading.m c.consume.new.m c.in_ok-done.done i.fed e.ok in
    let closed = closed_used c.args.end c.consume.new.m f.used f.stands (e.ok.closed c.if-done.true) in
    let h = f.so_far in
    record {
      known = exit_done c.args.end c.args.window.now (g.S.Source.faults c.args.source.now) (g.S.Source.faults c.reading.source) c.consume.new.m c.consume.new.window e.window
          _ _ c.triples_of.result f (sym e.ok.done_is ∙ c.if-done.true) closed c.triples_of.ensures;
      kind = tt;
      within = rw c.triples_of.ensures (complete_within c.args.end c.consume.new.m.phase c.consume.new.m.triples e.ok.ready (sym e.ok.done_is ∙ c.if-done.true));
      leaves = leaves _ g.S.Source.faults _ _ _ _ _ h e.window (asks_same i.asks u.at_end_same);
      cause = record {
        fault = record { counts = omega (arith, i.steady); steady = i.steady; failed = λ x. absurd cc };
        past = λ x. absurd cc;
        in_room = e.in_room;
      };
      ends = record {
        ended = λ x. absurd (file_open c.args.end c.consume.new.m.phase x (sym e.ok.done_is ∙ c.if-done.true));
        last_line = closed_known c.args.window.now c.consume.new.window f.used _ _ h closed;
      };
    }

pub returns-then-window : goal.returns-then-window
returns-then-window g c =
    let i = c.reading.invariant in
    let e = c.in_ok-done.ensures in
    let u = e.ok.uses in
    let f = fed_consumed c.args.end c.args.window.now c.reading.window c.consume.new.window (g.S.Source.left c.args.source.now) (g.S.Source.left c.reading.source) c.reading.m c.consume.new.m c.in_ok-done.done i.fed e.ok in
    let h = f.so_far in
    let answer = c.conclude.ensures.steps c.args.end f.used f.stands (sym e.ok.done_is ∙ c.if-done.false) in
    record {
      known = exit_end c.args.end c.args.window.now (g.S.Source.faults c.args.source.now) (g.S.Source.faults c.reading.source) c.consume.new.m c.consume.new.window e.window
          _ _ c.conclude.result f (e.ok.all c.if-done.false) (i.asks.at_end (rw (← u.at_end_same) c.if-window.true)) i.steady (sym e.ok.done_is ∙ c.if-done.false) c.conclude.ensures.steps;
      kind = ended_kind _ c.args.end f.used c.conclude.result answer;
      within = c.conclude.ensures.within;
      leaves = leaves _ g.S.Source.faults _ _ _ _ _ h e.window (asks_same i.asks u.at_end_same);
      cause = record {
        fault = record { counts = omega (arith, i.steady); steady = on_ok _ c.conclude.result i.steady; failed = λ x. absurd (ended_no_fault _ c.args.end f.used c.conclude.result answer x) };
        past = λ x. absurd (ended_in_room _ c.args.end f.used c.conclude.result answer x);
        in_room = on_ok _ c.conclude.result e.in_room;
      };
      ends = on_ok _ c.conclude.result (ends_over c.args.end _ _ _ _ _ h c.if-window.true);
    }

pub returns-in-Err-refill : goal.returns-in-Err-refill
returns-in-Err-refill g c =
    let i = c.reading.invariant in
    let e = c.in_ok-done.ensures in
    let u = e.ok.uses in
    let f = fed_consumed c.args.end c.args.window.now c.reading.window c.consume.new.window (g.S.Source.left c.args.source.now) (g.S.Source.left c.reading.source) c.reading.m c.consume.new.m c.in_ok-done.done i.fed e.ok in
    let r = c.in-Err-refill.ensures in
    let none = e.ok.all c.if-done.false in
    let h = not_refilled c.args.window.now c.consume.new.window c.refill.new.window (g.S.Source.left c.args.source.now) (g.S.Source.left c.reading.source) f.used f.so_far (g.S.Source.left c.refill.new.source) none r.err.kept r.err.none r.room r.lines in
    let s : SourceRose (g.S.Source.left c.args.source.now) (g.S.Source.faults c.args.source.now) (g.S.Source.faults c.refill.new.source) =
    rose_since (g.S.Source.left c.args.source.now) (g.S.Source.left c.reading.source) i.fed.so_far.gave _ (g.S.Source.faults c.reading.source) _ i.fed.so_far.known i.steady r.cause.failed in
    record {
      known = rw r.err.kept (exit_fault c.args.end c.args.window.now (g.S.Source.faults c.args.source.now) (g.S.Source.faults c.refill.new.source) c.consume.new.m c.consume.new.window e.window c.refill.new.window
          (g.S.Source.left c.args.source.now) (g.S.Source.left c.reading.source) f none (sym e.ok.done_is ∙ c.if-done.false) s);
      kind = tt;
      within = tt;
      leaves = leaves _ g.S.Source.faults _ _ _ _ _ h r.window (asks_more (asks_same {w2 = c.consume.new.window} i.asks u.at_end_same) c.if-window.false (λ t. rw r.err.kept (i.asks.at_end (rw (← u.at_end_same, ← r.err.same) t))));
      cause = record {
        fault = record { counts = omega (arith, i.steady, r.cause.counts); steady = tt; failed = λ x. s };
        past = λ x. absurd cc;
        in_room = tt;
      };
      ends = tt;
    }

pub reading-init : goal.reading-init
reading-init g c =
    let s = c.in-Ok.ensures in
    record {
      window = c.requires.window;
      ready = s.ready;
      open_now = s.open c.args.end;
      number = omega (arith, s.none);
      asks = asks_none c.requires.at_end;
      steady = refl;
      fed = fed_start c.args.end c.args.window.now c.in-Ok.m _ (s.stands c.args.end);
    }

pub reading-preserved : goal.reading-preserved
reading-preserved g c =
    let i = c.reading.invariant in
    let e = c.in_ok-done.ensures in
    let u = e.ok.uses in
    let f = fed_consumed c.args.end c.args.window.now c.reading.window c.consume.new.window (g.S.Source.left c.args.source.now) (g.S.Source.left c.reading.source) c.reading.m c.consume.new.m c.in_ok-done.done i.fed e.ok in
    let r = c.in_default.ensures in
    record {
      window = r.window;
      ready = e.ok.ready;
      open_now = sym e.ok.done_is ∙ c.if-done.false;
      number = omega (arith, r.room, e.ok.number, e.ok.uses.room_is, i.number);
      asks = asks_more (asks_same {w2 = c.consume.new.window} i.asks u.at_end_same) c.if-window.false r.ok.end;
      steady = r.cause.steady ∙ i.steady;
      fed = fed_refilled c.args.end c.args.window.now c.consume.new.window c.refill.new.window _ _ _ c.consume.new.m f (e.ok.all c.if-done.false) r.ok.bytes r.room r.lines;
    }

pub reading-smaller : goal.reading-smaller
reading-smaller g c =
    let i = c.reading.invariant in
    let e = c.in_ok-done.ensures in
    let r = c.in_default.ensures in
    turn_smaller c.reading.window c.consume.new.window c.refill.new.window e.ok.count i.window r.window e.ok.uses.room_is
    (all_used (ahead_of c.reading.window) (ahead_of c.consume.new.window) e.ok.count e.ok.uses.some e.ok.uses.ahead_is (e.ok.all c.if-done.false))
    (sym e.ok.uses.at_end_same ∙ c.if-window.false) r.room (λ x. subst (λ k. 0 < k) r.ok.count_is (r.ok.some x))
