use Rattle.std.proofs.Common.{ℕ, arith, subst, sym}
use Rattle.bip_defs.specs.Lists.{Among}
use Rattle.bip_defs.proofs.Sets.{among_at}
use Rattle.bottleneck.proofs.bound.raise_rows.Goals as goal

pub bounds-of_rows-at : goal.bounds-of_rows-at
bounds-of_rows-at c =
    let rows = c.rows_of-rows.result.now in
    let r = c.index-rows-k.result in
    let on = subst (λ (z : ℕ). Among z rows) (sym c.index-rows-k.is) (among_at rows c.loop-k.k r c.loop-k-test.true) in
    let entry = c.rows_of-rows.ensures.rows.sound r on in
    omega (arith, entry.0, c.requires.rows, c.loop-k.invariant.long)

pub bounds-of_rows-at-then-weight-of_rows : goal.bounds-of_rows-at-then-weight-of_rows
bounds-of_rows-at-then-weight-of_rows c =
    let rows = c.rows_of-rows.result.now in
    let r = c.index-rows-k.result in
    let on = subst (λ (z : ℕ). Among z rows) (sym c.index-rows-k.is) (among_at rows c.loop-k.k r c.loop-k-test.true) in
    let entry = c.rows_of-rows.ensures.rows.sound r on in
    omega (arith, entry.0, c.requires.rows, c.loop-k.invariant.long)
