use Rattle.std.proofs.Common.{refl, ◌∙◌}
use Rattle.std.proofs.lemmas.Result.{err_from_is_err_and}
use Rattle.mm_reader.specs.Fronts.{front}
use Rattle.mm_frames.proofs.StepLaws.{header_stopped, last_refused, line_refused, line_taken, line_goes_on}
use Rattle.mm_frames.proofs.UsedLaws.{asks_then}
use Rattle.mm_frames.proofs.header.read_header.Goals as goal

pub returns-in-Err-clause-answer : goal.returns-in-Err-clause-answer
returns-in-Err-clause-answer g c =
    let i = c.reading.invariant in
    header_stopped (front c.args.input.now) (front c.reading.input) (front c.next_byte.new.input) (g.S.Source.left c.args.source.now) (g.S.Source.left c.reading.source) (g.S.Source.left c.next_byte.new.source)
    (g.S.Source.faults c.args.source.now) (g.S.Source.faults c.reading.source) (g.S.Source.faults c.next_byte.new.source) i.steady c.args.before c.reading.line c.reading.begun i.begins c.in-Err.error c.stopped.result c.in-Err.ensures.err c.stopped.ensures.same

pub returns-in_err-take_header-in-Ok-None-clause-answer : goal.returns-in_err-take_header-in-Ok-None-clause-answer
returns-in_err-take_header-in-Ok-None-clause-answer g c =
    let i = c.reading.invariant in
    let o = rw c.in-Ok-None.field-0-is at c.in-Ok-None.ensures.ok in
    let e = c.in_err-take_header-in-Ok-None in
    let p = err_from_is_err_and c.from_residual.result c.from_residual.ensures.1 in
    rw (p.1, p.2)
    (last_refused (front c.args.input.now) (front c.reading.input) (front c.next_byte.new.input) (g.S.Source.left c.args.source.now) (g.S.Source.left c.reading.source) (g.S.Source.left c.next_byte.new.source)
    (g.S.Source.faults c.args.source.now) (g.S.Source.faults c.reading.source) (g.S.Source.faults c.next_byte.new.source) i.steady c.args.before c.reading.line c.reading.begun i.begins c.if-not-begun.false o e.field-0.0
    (e.ensures.taken i.begins.used i.begins.line_is))

pub returns-in_err-take_header-in-Ok-Some-eq10-clause-answer : goal.returns-in_err-take_header-in-Ok-Some-eq10-clause-answer
returns-in_err-take_header-in-Ok-Some-eq10-clause-answer g c =
    let i = c.reading.invariant in
    let b = c.in-Ok-Some-eq10 in
    let u = rw b.field-0-is at b.ensures.ok in
    let e = c.in_err-take_header-in-Ok-Some-eq10 in
    let p = err_from_is_err_and c.from_residual-in_err-take_header-in-Ok-Some-eq10.result c.from_residual-in_err-take_header-in-Ok-Some-eq10.ensures.1 in
    rw (p.1, p.2)
    (line_refused (front c.args.input.now) (front c.reading.input) (front c.next_byte.new.input) (g.S.Source.left c.args.source.now) (g.S.Source.left c.reading.source) (g.S.Source.left c.next_byte.new.source)
    (g.S.Source.faults c.args.source.now) (g.S.Source.faults c.reading.source) (g.S.Source.faults c.next_byte.new.source) i.steady c.args.before c.reading.line c.reading.begun i.begins b.field-0-0 u b.field-0-0-test e.field-0.0
    (e.ensures.taken i.begins.used i.begins.line_is))

pub returns-in-Ok-Some-eq10-clause-answer : goal.returns-in-Ok-Some-eq10-clause-answer
returns-in-Ok-Some-eq10-clause-answer g c =
    let i = c.reading.invariant in
    let b = c.in-Ok-Some-eq10 in
    let u = rw b.field-0-is at b.ensures.ok in
    let h = c.in_ok-take_header-in-Ok-Some-eq10 in
    line_taken (front c.args.input.now) (front c.reading.input) (front c.next_byte.new.input) (g.S.Source.left c.args.source.now) (g.S.Source.left c.reading.source) (g.S.Source.left c.next_byte.new.source)
    (g.S.Source.faults c.args.source.now) (g.S.Source.faults c.reading.source) (g.S.Source.faults c.next_byte.new.source) i.steady c.args.before c.reading.line c.reading.begun i.begins b.field-0-0 u b.field-0-0-test h.field-0
    (h.ensures.taken i.begins.used i.begins.line_is)

pub reading-preserved : goal.reading-preserved
reading-preserved g c =
    let i = c.reading.invariant in
    let b = c.in-Ok-Some in
    let u = rw b.field-0-is at b.ensures.ok in
    record {
      begins = line_goes_on (front c.args.input.now) (front c.reading.input) (front c.next_byte.new.input) (g.S.Source.left c.args.source.now) (g.S.Source.left c.reading.source) (g.S.Source.left c.next_byte.new.source)
          (g.S.Source.faults c.args.source.now) (g.S.Source.faults c.reading.source) (g.S.Source.faults c.next_byte.new.source) i.steady c.args.before c.reading.line c.reading.begun i.begins b.byte u c.push.new.self b.byte-test.1
          (c.push.ensures i.begins.used i.begins.line_is);
      steady = b.ensures.cause.steady ∙ i.steady;
      can = record { good = b.ensures.good.1 refl; at_end = b.ensures.asks.at_end };
      asks = asks_then i.asks b.ensures.asks;
    }
