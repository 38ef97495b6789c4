use Rattle.std.proofs.Common.{arith, map, subst, sym}
use Rattle.std.proofs.lemmas.List.{length-map}
use Rattle.bip_defs.specs.Matrix.{cols}
use Rattle.bip_defs.proofs.Sets.{entry_col}
use Rattle.path_search.specs.Layers.{AreLayers, LayersState}
use Rattle.path_search.proofs.LayerLemmas.{placed}
use Rattle.path_search.proofs.Steps.{column_short}
use Rattle.path_search.proofs.layers.Layers.next_row.Goals as goal

pub overflow_add-at : goal.overflow_add-at
overflow_add-at g c =
    let short = column_short (g.S.Side.matrix c.args.side.now) (map g.F.Id.number c.rows_of-rows.result.now) c.args.col c.rows_of-rows.ensures.rows in
    let few = c.requires.few_rows in
    omega (arith, length-map c.rows_of-rows.result.now g.F.Id.number, c.loop-at-test.true, short, few)

pub leads_on-requires-clause-marks : goal.leads_on-requires-clause-marks
leads_on-requires-clause-marks g c = rw c.requires.marks (c.rows_of-rows.ensures.rows.sound _ c.row_at-row.ensures.among).0

pub leads_on-requires-clause-row : goal.leads_on-requires-clause-row
leads_on-requires-clause-row g c = rw c.requires.matching.rows (c.rows_of-rows.ensures.rows.sound _ c.row_at-row.ensures.among).0

pub leads_on-requires-clause-cols : goal.leads_on-requires-clause-cols
leads_on-requires-clause-cols g c = λ d pair. rw (c.loop-at.invariant, c.requires.layers.numbers) (entry_col (g.S.Side.matrix c.args.side.now) c.row_at-row.result d (c.requires.matching.matching.entries c.row_at-row.result d pair))

pub returns-then-leads_on-clause-layers : goal.returns-then-leads_on-clause-layers
returns-then-leads_on-clause-layers g c = placed _ c.loop-at.self _ (subst (λ (x : LayersState). AreLayers (cols (g.S.Side.matrix c.args.side.now)) x) (sym c.loop-at.invariant) c.requires.layers) c.set_place.ensures.same c.set_place.ensures.places

pub returns-then-leads_on-clause-row : goal.returns-then-leads_on-clause-row
returns-then-leads_on-clause-row g c = (c.rows_of-rows.ensures.rows.sound _ c.row_at-row.ensures.among, c.leads_on.ensures c.if-leads_on.true)

pub returns-clause-layers : goal.returns-clause-layers
returns-clause-layers g c = placed _ c.loop-at.self _ (subst (λ (x : LayersState). AreLayers (cols (g.S.Side.matrix c.args.side.now)) x) (sym c.loop-at.invariant) c.requires.layers) c.set_place-2.ensures.same c.set_place-2.ensures.places
