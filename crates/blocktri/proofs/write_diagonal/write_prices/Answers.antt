use Rattle.std.proofs.Common.{◌∙◌, arith, length, pos}
use Rattle.std.proofs.Math.Seq.{ext_get_or}
use Rattle.blocktri.proofs.DiagonalLemmas.{room_full}
use Rattle.blocktri.proofs.write_diagonal.write_prices.Goals as goal

pub returns : goal.returns
returns c =
    let kept = c.loop-k.invariant.long in
    let end = c.loop-k-test.false in
    record {
      long = kept;
      holds = λ wanted. ext_get_or (pos 0) c.loop-k.out c.args.prices.now (kept ∙ room_full c.args.out.now (length c.args.prices.now) c.requires.room wanted) (λ i lt. c.loop-k.invariant.set i (omega (arith, end, lt, kept)));
    }
