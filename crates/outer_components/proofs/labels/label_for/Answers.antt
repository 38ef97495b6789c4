use Rattle.std.proofs.Common.{◌<◌, inl, length, refl, rules}
use Rattle.outer_components.proofs.LabelLemmas.{stands_on}
use Rattle.outer_components.proofs.labels.label_for.Goals as goal

pub offset_bounds-rows-at : goal.offset_bounds-rows-at
offset_bounds-rows-at g c =
    let lt : c.at.result < length c.args.rows.now = c.requires.rows _ (stands_on _ _ _ (rw c.len-at-end.ensures at c.loop-at-test.true) c.at.ensures) in
    search rules

pub bounds-rows-at : goal.bounds-rows-at
bounds-rows-at g c = c.requires.rows _ (stands_on _ _ _ (rw c.len-at-end.ensures at c.loop-at-test.true) c.at.ensures)

pub returns-then-label : goal.returns-then-label
returns-then-label g c = inl (refl, c.if-label.true, c.at.result, stands_on _ _ _ (rw c.len-at-end.ensures at c.loop-at-test.true) c.at.ensures, refl)
