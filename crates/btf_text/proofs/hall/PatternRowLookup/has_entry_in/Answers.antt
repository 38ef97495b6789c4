use Rattle.std.proofs.Common.{ℕ, Bool, ◌||◌, nat_eq, ◌∙◌, ap, ap₂, sym, refl}
use Rattle.std.specs.List.{list_any}
use Rattle.std.proofs.lemmas.List.{take_all}
use Rattle.std.proofs.lemmas.List.Folds.{list_any_at, list_any_more}
use Rattle.btf_text.proofs.NeighbourRows.{told_among, touches_by_row}
use Rattle.btf_text.proofs.hall.PatternRowLookup.has_entry_in.Goals as goal

pub loop-col-init : goal.loop-col-init
loop-col-init c = refl

pub returns-then-has : goal.returns-then-has
returns-then-has c =
    let on = λ (x : ℕ). list_any (nat_eq x) c.args.hall.now in
    sym (list_any_at on c.cols_of-cols.result.now c.loop-col.col-index c.col-item.result c.loop-col-test.true
    (ap on (sym c.col-item.is) ∙ told_among c.col-item.result c.args.hall.now c.has.result c.has.ensures ∙ c.if-has.true))
    ∙ touches_by_row c.args.self.now c.args.hall.now c.cols_of-cols.result.now c.args.row c.requires c.cols_of-cols.ensures.cols

pub loop-col-preserved : goal.loop-col-preserved
loop-col-preserved c =
    let on = λ (x : ℕ). list_any (nat_eq x) c.args.hall.now in
    list_any_more on c.cols_of-cols.result.now c.loop-col.col-index c.col-item.result c.loop-col-test.true
    ∙ ap₂ (λ (a b : Bool). a || b) c.loop-col.invariant (ap on (sym c.col-item.is) ∙ told_among c.col-item.result c.args.hall.now c.has.result c.has.ensures ∙ c.if-has.false)

pub returns : goal.returns
returns c =
    sym c.loop-col.invariant ∙ ap (list_any (λ (x : ℕ). list_any (nat_eq x) c.args.hall.now)) (take_all _ _ c.loop-col-test.false)
    ∙ touches_by_row c.args.self.now c.args.hall.now c.cols_of-cols.result.now c.args.row c.requires c.cols_of-cols.ensures.cols
