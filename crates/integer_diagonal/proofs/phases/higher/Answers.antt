use Rattle.std.proofs.Common.{arith, refl}
use Rattle.integer_diagonal.proofs.StartLemmas.{read_at}
use Rattle.integer_diagonal.proofs.phases.higher.Goals as goal

pub add-requires : goal.add-requires
add-requires g c =
    let i = c.loop-vertex.vertex in
    let amount = read_at c.args.amounts.now i i c.index-amounts-vertex.result refl (omega (arith, c.loop-vertex-test.true, c.rows-vertex-end.ensures.count, c.requires.amounts)) c.index-amounts-vertex.is in
    let fits = c.requires.fits i in
    omega (arith, amount, fits, c.rise-rise.ensures)
