use Rattle.std.proofs.Common.{◌≡◌, arith, subst}
use Rattle.bip_defs.specs.Marks.{Marks}
use Rattle.bip_defs.specs.Matrix.{cols}
use Rattle.bip_defs.specs.Parts.{IsHorizontalCol}
use Rattle.dm_coarse.proofs.LedLemmas.{marks_last}
use Rattle.dm_coarse.proofs.known_side.mark_horizontal_cols.Goals as goal

pub loop-number-preserved : goal.loop-number-preserved
loop-number-preserved g c = rw c.in_ok-push.ensures.items (marks_last _ _ c.loop-number.marks.items c.is_horizontal.result c.loop-number.invariant c.is_horizontal.ensures)

pub returns : goal.returns
returns g c =
    let all : c.loop-number.number ≡ cols (g.S.Side.matrix c.args.side.now) = omega (arith, c.cols-number-end.ensures, c.loop-number-test.false, c.loop-number.auto.number-end) in
    subst (λ n. Marks n (IsHorizontalCol (g.S.Side.matrix c.args.side.now)) c.loop-number.marks.items) all c.loop-number.invariant
