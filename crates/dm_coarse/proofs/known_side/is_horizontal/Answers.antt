use Rattle.std.proofs.Common.{◌≡◌, ◌↔◌, ℕ, arith, subst, sym}
use Rattle.bip_defs.specs.Lists.{IsMarked}
use Rattle.bip_defs.specs.Parts.{IsHorizontalCol}
use Rattle.dm_coarse.proofs.LedLemmas.{mate_tells}
use Rattle.dm_coarse.proofs.known_side.is_horizontal.Goals as goal

pub bounds-rows-row-inside : goal.bounds-rows-row-inside
bounds-rows-row-inside g c =
    let lt = (c.requires.maximum.maximum.matching.entries _ _ c.in-Some.ensures.found).0 in
    let is : c.row.inside.0 ≡ c.in-Some.row = c.row.view_is in
    omega (arith, lt, is, c.requires.rows.long)

pub returns-in-Some : goal.returns-in-Some
returns-in-Some g c =
    let is : c.row.inside.0 ≡ c.in-Some.row = c.row.view_is in
    subst (λ (r : ℕ). IsMarked c.args.rows.now r ↔ IsHorizontalCol (g.S.Side.matrix c.args.side.now) c.args.col) (sym is)
    (mate_tells _ (g.F.Opposite.seen c.args.matching.now).pairs c.args.rows.now c.in-Some.row c.args.col c.requires.maximum.maximum c.requires.rows c.in-Some.ensures.found)
