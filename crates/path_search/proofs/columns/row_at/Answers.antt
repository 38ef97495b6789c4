use Rattle.std.proofs.Common.{◌∙◌, ap, map, slice_index, sym}
use Rattle.std.proofs.lemmas.List.{length-map}
use Rattle.path_search.specs.Trails.{read_place}
use Rattle.bip_defs.proofs.Slices.{number_read, number_at}
use Rattle.path_search.proofs.columns.row_at.Goals as goal

pub returns-clause-among : goal.returns-clause-among
returns-clause-among g c = number_read g.F.Id.number _ c.args.rows.now _ _ c.place_of.ensures.in_range c.index-rows-place_of.is c.number.ensures

pub returns-clause-at : goal.returns-clause-at
returns-clause-at g c =
    number_at g.F.Id.number _ c.args.rows.now _ _ 0 c.place_of.ensures.in_range c.index-rows-place_of.is c.number.ensures
    ∙ ap (λ i. slice_index (map g.F.Id.number c.args.rows.now) i) (c.place_of.ensures.place ∙ ap (λ n. read_place c.args.reversed n c.args.k) (sym (length-map c.args.rows.now g.F.Id.number)))
