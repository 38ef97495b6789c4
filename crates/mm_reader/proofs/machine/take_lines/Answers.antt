use Rattle.std.proofs.Common.{refl, ap, sym, subst, arith}
use Rattle.std.proofs.lemmas.Result.{err_from_is_err_and}
use Rattle.mm_reader.specs.declared.machine.Machine.{Machine}
use Rattle.mm_reader.specs.declared.machine.Phase.{Phase}
use Rattle.mm_reader.specs.declared.machine.Phase.TheVariants as phases
use Rattle.mm_reader.specs.Plain.{AwaitsPlain}
use Rattle.mm_reader.specs.Stages.{GoesOn}
use Rattle.mm_reader.proofs.PlainSteps.{stays, plain_goes, plain_halts, open_entries, goes_then, halts_then}
use Rattle.mm_reader.proofs.machine.take_lines.Goals as goal

pub loop-position-init : goal.loop-position-init
loop-position-init g c =
    let m = c.args.m.now in
    record {
      closed = c.requires.awaits.closed;
      goes = subst (λ (p : Phase). GoesOn m (record m { phase = p }) c.args.piece.now c.args.at c.args.at) c.requires.awaits.phase_is (stays m c.args.piece.now c.args.at c.requires.place c.requires.ready);
      same = λ e. ap (λ (p : Phase). record m { phase = p }) (sym c.requires.awaits.phase_is);
    }

pub returns-in_err-position-clause-err : goal.returns-in_err-position-clause-err
returns-in_err-position-clause-err g c =
    let i = c.loop-position.invariant in
    let p = c.in-Some.ensures in
    let position = c.loop-position.position in
    let m : Machine = record c.loop-position.m { phase = phases.Entries c.args.preamble position } in
    let w : AwaitsPlain m c.args.preamble position = record { phase_is = refl; closed = i.closed } in
    let e = err_from_is_err_and c.from_residual.result c.from_residual.ensures.1 in
    rw (e.1, e.2)
    (halts_then c.args.m.now m c.args.piece.now c.args.at c.loop-position.next c.in_err-position.field-0.0 i.goes
    (plain_halts m _ _ w c.args.piece.now c.loop-position.next _ p.line p.whole c.keep.new.triples c.in_err-position.field-0.0
    (λ end ls b has good n. c.in_err-position.ensures.steps end p.line p.says ls b has good n))
    (λ end. open_entries end c.args.preamble position c.loop-position-test.true))

pub loop-position-preserved : goal.loop-position-preserved
loop-position-preserved g c =
    let i = c.loop-position.invariant in
    let p = c.in-Some.ensures in
    let position = c.loop-position.position in
    let m : Machine = record c.loop-position.m { phase = phases.Entries c.args.preamble position } in
    let w : AwaitsPlain m c.args.preamble position = record { phase_is = refl; closed = i.closed } in
    record {
      closed = i.closed;
      goes = rw c.next-next.ensures (goes_then c.args.m.now m _ c.args.piece.now c.args.at c.loop-position.next _ i.goes
          (plain_goes m _ _ w c.args.piece.now c.loop-position.next _ p.line p.whole c.keep.new.triples c.in_ok-position.position c.in_ok-position.ensures.ready
          (λ end ls b has good n. c.in_ok-position.ensures.steps end p.line p.says ls b has good n))
          (λ end. open_entries end c.args.preamble position c.loop-position-test.true));
      same = λ e. absurd (omega (arith, c.next-next.ensures, p.whole.in_order, i.goes.in_order));
    }
