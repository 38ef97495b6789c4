use Rattle.std.proofs.Common.{◌≡◌, ◌∙◌, List, Bool, IfSome, ap, arith, length, map, subst}
use Rattle.std.proofs.lemmas.List.{length-map}
use Rattle.std.proofs.lemmas.Option.{IfSome_then}
use Rattle.bip_defs.specs.Lists.{IsMarked}
use Rattle.path_search.specs.Search.{SearchState}
use Rattle.path_search.proofs.Steps.{column_short}
use Rattle.path_search.proofs.search.Search.look_ahead.Goals as goal

pub unmatched_row-requires-clause-in_range : goal.unmatched_row-requires-clause-in_range
unmatched_row-requires-clause-in_range g c = λ r h. rw c.requires.rows (c.rows_of-rows.ensures.rows.sound r h).0

pub unmatched_row-requires-clause-few : goal.unmatched_row-requires-clause-few
unmatched_row-requires-clause-few g c =
    let short = column_short (g.S.Side.matrix c.args.side.now) (map g.F.Id.number c.rows_of-rows.result.now) c.args.col c.rows_of-rows.ensures.rows in
    let few = c.requires.few_rows in
    omega (arith, length-map c.rows_of-rows.result.now g.F.Id.number)

pub returns-clause-found : goal.returns-clause-found
returns-clause-found g c = IfSome_then c.unmatched_row.result c.unmatched_row.ensures.found (λ r h. (c.rows_of-rows.ensures.rows.sound r h.0, h.1))

pub unmatched_row-requires-clause-marks : goal.unmatched_row-requires-clause-marks
unmatched_row-requires-clause-marks g c =
    let marks : c.as_slice-marks.result.now ≡ c.args.self.now.marks = c.as_slice-marks.ensures.value ∙ ap (λ (s : SearchState). s.marks) c.self.view_is in
    rw c.requires.rows (ap length marks ∙ c.requires.marks)

pub returns-clause-unmarked : goal.returns-clause-unmarked
returns-clause-unmarked g c =
    let marks : c.as_slice-marks.result.now ≡ c.args.self.now.marks = c.as_slice-marks.ensures.value ∙ ap (λ (s : SearchState). s.marks) c.self.view_is in
    subst (λ (xs : List Bool). IfSome c.unmatched_row.result (λ r. ¬ IsMarked xs r)) marks c.unmatched_row.ensures.unmarked
