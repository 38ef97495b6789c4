use Rattle.std.proofs.Common.{◌≡◌, ℕ, arith, false, get_or, subst, true}
use Rattle.bip_defs.specs.Lists.{Among}
use Rattle.dm_coarse.proofs.SplitLemmas.{marked_is, mate_below, mate_horizontal, mate_square, unmarked_is}
use Rattle.dm_coarse.proofs.split.part_of.Goals as goal

pub bounds-horizontal-col-inside : goal.bounds-horizontal-col-inside
bounds-horizontal-col-inside g c = let lt = mate_below _ _ _ _ c.requires.known.maximum.maximum c.in-Some.ensures.found in omega (arith, lt, c.requires.known.horizontal.long)

pub returns-then-horizontal-col : goal.returns-then-horizontal-col
returns-then-horizontal-col g c =
    let max = c.requires.known.maximum.maximum in
    let pair = subst (λ (r : ℕ). Among (r, c.in-Some.col) (g.F.Opposite.seen c.args.matching.now).pairs) c.number-row.ensures c.in-Some.ensures.found in
    let lt = mate_below _ _ _ _ max pair in
    mate_horizontal _ _ _ _ max pair (marked_is _ _ _ _ c.requires.known.horizontal lt (subst (λ (i : ℕ). get_or c.args.horizontal.now i false ≡ true) c.col.view_is c.if-horizontal-col.true))

pub returns-else-horizontal-col : goal.returns-else-horizontal-col
returns-else-horizontal-col g c =
    let max = c.requires.known.maximum.maximum in
    let pair = subst (λ (r : ℕ). Among (r, c.in-Some.col) (g.F.Opposite.seen c.args.matching.now).pairs) c.number-row.ensures c.in-Some.ensures.found in
    let lt = mate_below _ _ _ _ max pair in
    mate_square _ _ _ _ c.requires.row max pair (unmarked_is _ _ _ _ _ c.col.view_is c.requires.known.horizontal lt c.if-horizontal-col.false) (unmarked_is _ _ _ _ _ c.number-row.ensures c.requires.known.vertical c.requires.row c.if-vertical-row.false)
