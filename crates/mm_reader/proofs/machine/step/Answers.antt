use Rattle.std.proofs.Common.{◌≡◌, ◌+◌, ◌++◌, ◌∷◌, [], List, ℕ, false, get_or, subst, arith}
use Rattle.std.proofs.lemmas.Result.{err_from_is_err_and}
use Rattle.mm_defs.specs.declared.answers.End.{End}
use Rattle.mm_reader.specs.declared.machine.Machine.{Machine}
use Rattle.mm_reader.specs.Machine.{is_complete}
use Rattle.mm_reader.specs.Stages.{GoesOn, IsAfter, StopsIn}
use Rattle.mm_reader.proofs.PlainSteps.{byte_goes, byte_halts}
use Rattle.mm_reader.proofs.machine.step.Goals as goal

pub returns-in_err-take-clause-err : goal.returns-in_err-take-clause-err
returns-in_err-take-clause-err c =
    let same : c.take_plain.new.m ≡ c.args.m.now = c.in_ok-next.ensures.same (omega (arith, c.if-next-at.false, c.in_ok-next.ensures.ok.in_order)) in
    let p = err_from_is_err_and c.from_residual-in_err-take.result c.from_residual-in_err-take.ensures.1 in
    rw (p.1, p.2)
    (byte_halts c.args.m.now c.args.piece.now c.args.at c.in_err-take.field-0.0 c.requires.place
    (subst (λ (m : Machine). (end : End) (bytes : List ℕ) → IsAfter end m bytes → is_complete end m.phase ≡ false → StopsIn end (bytes ++ get_or c.args.piece.now c.args.at 0 ∷ []) c.in_err-take.field-0.0) same c.in_err-take.ensures.steps))

pub returns-clause-ok : goal.returns-clause-ok
returns-clause-ok c =
    let same : c.take_plain.new.m ≡ c.args.m.now = c.in_ok-next.ensures.same (omega (arith, c.if-next-at.false, c.in_ok-next.ensures.ok.in_order)) in
    let e = c.in_ok-take.ensures in
    subst (λ (m : Machine). GoesOn m c.take.new.m c.args.piece.now c.args.at (c.args.at + 1)) same
    (byte_goes c.take_plain.new.m c.take.new.m c.args.piece.now c.args.at c.requires.place e.number e.ready e.closed e.steps)
