use Rattle.std.proofs.Common.{inl, inr, refl, arith}
use Rattle.std.proofs.lemmas.List.{get_or_read}
use Rattle.bip_defs.proofs.Sets.{row_among}
use Rattle.integer_diagonal.proofs.AmountTests.{less}
use Rattle.integer_diagonal.specs.Amounts.{infinity}
use Rattle.integer_diagonal.proofs.search.DijkstraSearch.look.Goals as goal

pub returns-in_ok-reach-in-Some-clause-looked : goal.returns-in_ok-reach-in-Some-clause-looked
returns-in_ok-reach-in-Some-clause-looked g c =
    let read = get_or_read c.args.self.now.distances.items _ _ c.requires.distances c.index.ensures infinity in
    let nearer = less c.args.distance c.index.result.now c.ge-else-ge.result c.ge-else-ge.ensures c.if-ge-2.false in
    inr (inl (c.in_ok-reach-in-Some.ensures.put, refl, row_among _ _ _ c.in-Some.ensures.found, omega (arith, read, nearer)))
