use Rattle.std.proofs.Common.{[], ◌∷◌, ◌++◌, map, sym, ◌∙◌, ap, List, ℕ, subst, length, suc}
use Rattle.std.proofs.lemmas.List.{map_push}
use Rattle.std.proofs.lemmas.Result.{err_from_is_err_and}
use Rattle.report_reader.specs.ReportGrammar.{ids_at}
use Rattle.report_reader.proofs.IdLists.{GoesOn, begins, end_stops, field_stops, id_stops, ids_end, ids_more, shorter}
use Rattle.report_reader.proofs.numerals.ids_at.Goals as goal

pub returns-in_err-number : goal.returns-in_err-number
returns-in_err-number g c =
    let p = err_from_is_err_and c.from_residual.result c.from_residual.ensures.1 in
    rw (p.1, p.2) (field_stops c.in_err-number.field-0.0 _ _ _ c.loop-rest.invariant (sym c.starts_with.ensures.value ∙ c.loop-rest-test.true) c.in_err-number.ensures)

pub returns-in_err-id : goal.returns-in_err-id
returns-in_err-id g c =
    let p = err_from_is_err_and c.from_residual-in_err-id.result c.from_residual-in_err-id.ensures.1 in
    rw (p.1, p.2) (id_stops c.in_err-id.field-0.0 _ _ _ _ c.loop-rest.invariant (sym c.starts_with.ensures.value ∙ c.loop-rest-test.true) c.in_ok-number.ensures c.in_err-id.ensures)

pub returns-in_err-rest : goal.returns-in_err-rest
returns-in_err-rest g c =
    let p = err_from_is_err_and c.from_residual-in_err-rest.result c.from_residual-in_err-rest.ensures.1 in
    rw (p.1, p.2) (end_stops c.in_err-rest.field-0.0 _ _ _ c.loop-rest.invariant (sym c.starts_with.ensures.value ∙ c.loop-rest-test.false) c.in_err-rest.ensures)

pub loop-rest-smaller : goal.loop-rest-smaller
loop-rest-smaller g c = shorter c.loop-rest.rest.now _ _ c.in_ok-number.ensures c.in_ok-id.ensures

pub loop-rest-preserved : goal.loop-rest-preserved
loop-rest-preserved g c =
    subst (λ (ns : List ℕ). GoesOn ns c.in_ok-id.after.now (ids_at (suc (length c.args.bytes.now)) c.args.bytes.now))
    (sym (ap (map g.N.Id.number) c.in_ok-push.ensures.items ∙ map_push g.N.Id.number c.loop-rest.ids.items _ ∙ ap (λ (n : ℕ). map g.N.Id.number c.loop-rest.ids.items ++ n ∷ []) c.of.ensures))
    (ids_more _ _ _ _ _ c.loop-rest.invariant (sym c.starts_with.ensures.value ∙ c.loop-rest-test.true) c.in_ok-number.ensures c.in_ok-id.ensures)

pub returns : goal.returns
returns g c = ids_end _ _ _ _ c.loop-rest.invariant (sym c.starts_with.ensures.value ∙ c.loop-rest-test.false) c.in_ok-rest.ensures

pub loop-rest-init : goal.loop-rest-init
loop-rest-init g c = rw c.new-ids.ensures.items (begins c.args.bytes.now)
