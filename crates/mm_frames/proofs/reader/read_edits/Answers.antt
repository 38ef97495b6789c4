use Rattle.std.proofs.Common.{◌≡◌, false, length, List, [], ◌∷◌, ◌++◌, refl, sym, ap, subst, ◌∙◌, arith}
use Rattle.std.proofs.lemmas.Result.{err_from_is_err_and}
use Rattle.mm_defs.specs.Words.{lines, open_line}
use Rattle.mm_reader.specs.Fronts.{front}
use Rattle.mm_frames.specs.declared.edit.Edit.{Edit}
use Rattle.mm_frames.specs.Stages.{HasRead}
use Rattle.mm_frames.proofs.ReadLaws.{edits_told, read_at_start, read_byte, read_lf, lf_number, byte_fits, stop_known, line_known}
use Rattle.mm_frames.proofs.UsedLaws.{asks_none, asks_then, stopped_used, one_more, most_known}
use Rattle.mm_frames.proofs.reader.read_edits.Goals as goal

pub reading-init : goal.reading-init
reading-init g c =
    let n : length c.new-edits.result.items ≡ 0 = ap length c.new-edits.ensures.items in
    record {
      read = subst (λ (es : List Edit). HasRead c.args.rows c.args.cols (front c.args.input.now) (front c.args.input.now) (g.S.Source.left c.args.source.now) (g.S.Source.left c.args.source.now) es c.new-line.result false)
          (sym c.new-edits.ensures.items) (read_at_start c.args.rows c.args.cols (front c.args.input.now) (g.S.Source.left c.args.source.now) c.new-line.result c.new-line.ensures);
      within = λ k d low. absurd (omega arith);
      steady = refl;
      can = c.requires;
      asks = asks_none c.requires;
      fits = λ e. absurd cc;
    }

pub returns-in_err-next_byte-clause-tells : goal.returns-in_err-next_byte-clause-tells
returns-in_err-next_byte-clause-tells g c =
    let i = c.reading.invariant in
    let q = err_from_is_err_and c.from_residual.result c.from_residual.ensures.1 in
    rw (q.1, q.2)
    (edits_told _ _ _ _ _ _ (stop_known c.args.rows c.args.cols (front c.args.input.now) (front c.reading.input) (front c.next_byte.new.input) (g.S.Source.left c.args.source.now) (g.S.Source.left c.reading.source) (g.S.Source.left c.next_byte.new.source)
    (g.S.Source.faults c.args.source.now) (g.S.Source.faults c.reading.source) (g.S.Source.faults c.next_byte.new.source) c.reading.edits.items c.reading.line c.reading.begun i.read i.steady c.in_err-next_byte.field-0.0 c.in_err-next_byte.ensures.err))

pub returns-in_err-next_byte-clause-draws : goal.returns-in_err-next_byte-clause-draws
returns-in_err-next_byte-clause-draws g c =
    let r = c.reading.invariant.read in
    let u = stopped_used (front c.args.input.now) (front c.reading.input) (front c.next_byte.new.input) (g.S.Source.left c.args.source.now) (g.S.Source.left c.reading.source) (g.S.Source.left c.next_byte.new.source)
    (g.S.Source.faults c.reading.source) (g.S.Source.faults c.next_byte.new.source) r.used r.so_far c.in_err-next_byte.field-0.0 c.in_err-next_byte.ensures.err in
    record {
      gave = (u.gave, u.given);
      most = most_known _ _ _ _ _ u (g.S.Source.faults c.args.source.now) (g.S.Source.faults c.next_byte.new.source) c.in_err-next_byte.ensures.most;
      asks = asks_then c.reading.invariant.asks c.in_err-next_byte.ensures.asks;
    }

pub finish-requires : goal.finish-requires
finish-requires g c begun =
    let i = c.reading.invariant in
    let f = i.fits begun in
    let u = rw c.in-None.is at c.in_ok-next_byte.ensures.ok in
    omega (arith, c.lines.ensures, u.lines_are)

pub returns-in_err-take_line-in-Some-eq10-clause-tells : goal.returns-in_err-take_line-in-Some-eq10-clause-tells
returns-in_err-take_line-in-Some-eq10-clause-tells g c =
    let i = c.reading.invariant in
    let b = c.in-Some-eq10 in
    let u = rw b.is at c.in_ok-next_byte.ensures.ok in
    let r = i.read in
    let n = lf_number c.args.rows c.args.cols (front c.args.input.now) (front c.reading.input) (front c.next_byte.new.input) (g.S.Source.left c.args.source.now) (g.S.Source.left c.reading.source) (g.S.Source.left c.next_byte.new.source)
    (g.S.Source.faults c.reading.source) (g.S.Source.faults c.next_byte.new.source) b.field-0 c.reading.edits.items c.reading.line c.reading.line c.reading.begun r u c.lines-in-Some-eq10.result b.field-0-test c.lines-in-Some-eq10.ensures in
    let q = err_from_is_err_and c.from_residual-in_err-take_line-in-Some-eq10.result c.from_residual-in_err-take_line-in-Some-eq10.ensures.1 in
    rw (q.1, q.2)
    (edits_told _ _ _ _ _ _ (line_known c.args.rows c.args.cols (front c.args.input.now) (front c.reading.input) (front c.next_byte.new.input) (g.S.Source.left c.args.source.now) (g.S.Source.left c.reading.source) (g.S.Source.left c.next_byte.new.source)
    (g.S.Source.faults c.args.source.now) (g.S.Source.faults c.reading.source) (g.S.Source.faults c.next_byte.new.source) c.reading.edits.items c.reading.line c.reading.begun r b.field-0 b.field-0-test u c.in_err-take_line-in-Some-eq10.field-0.0
    (c.in_err-take_line-in-Some-eq10.ensures.steps c.args.input.now.lines (open_line r.used) r.stands.open_is (lines false r.used) r.stands.lines_are n)))

pub returns-in_err-take_line-in-Some-eq10-clause-draws : goal.returns-in_err-take_line-in-Some-eq10-clause-draws
returns-in_err-take_line-in-Some-eq10-clause-draws g c =
    let b = c.in-Some-eq10 in
    let u = rw b.is at c.in_ok-next_byte.ensures.ok in
    let r = c.reading.invariant.read in
    let m = one_more (front c.args.input.now) (front c.reading.input) (front c.next_byte.new.input) (g.S.Source.left c.args.source.now) (g.S.Source.left c.reading.source) (g.S.Source.left c.next_byte.new.source)
    (g.S.Source.faults c.reading.source) (g.S.Source.faults c.next_byte.new.source) r.used r.so_far b.field-0 u in
    record {
      gave = (m.gave, m.given);
      most = most_known (front c.args.input.now) (front c.next_byte.new.input) (g.S.Source.left c.args.source.now) (g.S.Source.left c.next_byte.new.source) (r.used ++ b.field-0 ∷ []) m (g.S.Source.faults c.args.source.now)
          (g.S.Source.faults c.next_byte.new.source) c.in_ok-next_byte.ensures.most;
      asks = asks_then c.reading.invariant.asks c.in_ok-next_byte.ensures.asks;
    }

pub reading-preserved-in-Some-eq10 : goal.reading-preserved-in-Some-eq10
reading-preserved-in-Some-eq10 g c =
    let i = c.reading.invariant in
    let b = c.in-Some-eq10 in
    let u = rw b.is at c.in_ok-next_byte.ensures.ok in
    let r = i.read in
    let n = lf_number c.args.rows c.args.cols (front c.args.input.now) (front c.reading.input) (front c.next_byte.new.input) (g.S.Source.left c.args.source.now) (g.S.Source.left c.reading.source) (g.S.Source.left c.next_byte.new.source)
    (g.S.Source.faults c.reading.source) (g.S.Source.faults c.next_byte.new.source) b.field-0 c.reading.edits.items c.reading.line c.reading.line c.reading.begun r u c.lines-in-Some-eq10.result b.field-0-test c.lines-in-Some-eq10.ensures in
    record {
      read = read_lf c.args.rows c.args.cols (front c.args.input.now) (front c.reading.input) (front c.next_byte.new.input) (g.S.Source.left c.args.source.now) (g.S.Source.left c.reading.source) (g.S.Source.left c.next_byte.new.source)
          (g.S.Source.faults c.reading.source) (g.S.Source.faults c.next_byte.new.source) b.field-0 c.reading.edits.items c.reading.line c.clear.new.self c.reading.begun r u c.take_line.new.edits.items b.field-0-test
          (c.in_ok-take_line-in-Some-eq10.ensures.steps c.args.input.now.lines (open_line r.used) r.stands.open_is (lines false r.used) r.stands.lines_are n) (c.clear.ensures (open_line r.used) r.stands.open_is);
      within = c.in_ok-take_line-in-Some-eq10.ensures.within i.within;
      steady = c.in_ok-next_byte.ensures.cause.steady ∙ i.steady;
      can = record { good = c.in_ok-next_byte.ensures.good.1 refl; at_end = c.in_ok-next_byte.ensures.asks.at_end };
      asks = asks_then i.asks c.in_ok-next_byte.ensures.asks;
      fits = λ e. absurd cc;
    }

pub reading-preserved : goal.reading-preserved
reading-preserved g c =
    let i = c.reading.invariant in
    let b = c.in-Some in
    let u = rw b.is at c.in_ok-next_byte.ensures.ok in
    let r = i.read in
    record {
      read = read_byte c.args.rows c.args.cols (front c.args.input.now) (front c.reading.input) (front c.next_byte.new.input) (g.S.Source.left c.args.source.now) (g.S.Source.left c.reading.source) (g.S.Source.left c.next_byte.new.source)
          (g.S.Source.faults c.reading.source) (g.S.Source.faults c.next_byte.new.source) b.byte c.reading.edits.items c.reading.line c.push.new.self c.reading.begun r u b.byte-test.1 (c.push.ensures (open_line r.used) r.stands.open_is);
      within = i.within;
      steady = c.in_ok-next_byte.ensures.cause.steady ∙ i.steady;
      can = record { good = c.in_ok-next_byte.ensures.good.1 refl; at_end = c.in_ok-next_byte.ensures.asks.at_end };
      asks = asks_then i.asks c.in_ok-next_byte.ensures.asks;
      fits = λ e. byte_fits c.args.rows c.args.cols (front c.args.input.now) (front c.reading.input) (front c.next_byte.new.input) (g.S.Source.left c.args.source.now) (g.S.Source.left c.reading.source) (g.S.Source.left c.next_byte.new.source)
          (g.S.Source.faults c.reading.source) (g.S.Source.faults c.next_byte.new.source) b.byte c.reading.edits.items c.reading.line c.push.new.self c.reading.begun r u b.byte-test.1 c.in_ok-next_byte.ensures.fits;
    }
