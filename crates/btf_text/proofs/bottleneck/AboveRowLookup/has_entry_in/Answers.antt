use Rattle.std.proofs.Common.{◌≡◌, ℕ, Bool, false, ◌||◌, arith, ◌∙◌, ap, ap₂, sym, refl, subst}
use Rattle.std.specs.List.{list_any}
use Rattle.std.proofs.lemmas.List.{take_all}
use Rattle.std.proofs.lemmas.List.Folds.{list_any_at, list_any_more}
use Rattle.bip_defs.specs.Lists.{Among}
use Rattle.bip_defs.proofs.Sets.{among_at}
use Rattle.sp_pattern.specs.Weights.{weight_at}
use Rattle.btf_text.proofs.NeighbourRows.{heavy_col, is_heavy, light_col, other_col, told_among, touches_above_by_row}
use Rattle.btf_text.proofs.bottleneck.AboveRowLookup.has_entry_in.Goals as goal
use Rattle.btf_text.proofs.bottleneck.AboveRowLookup.has_entry_in.Goals.{else-has-via-then-has+else-weight-self, else-has-via-else-has}

pub loop-col-init : goal.loop-col-init
loop-col-init c = refl

pub weight-requires : goal.weight-requires
weight-requires c =
    rw c.args.self.now.of (c.cols_of-cols.ensures.cols.sound c.col-item.result (subst (λ (x : ℕ). Among x c.cols_of-cols.result.now) (sym c.col-item.is) (among_at c.cols_of-cols.result.now c.loop-col.col-index c.col-item.result c.loop-col-test.true)))

pub returns-then-weight-self : goal.returns-then-weight-self
returns-then-weight-self c =
    let w = c.args.self.now.weights.now in
    let heavy = is_heavy (weight_at w) c.args.self.now.least c.args.hall.now c.args.row in
    let among = told_among c.col-item.result c.args.hall.now c.has.result c.has.ensures ∙ c.if-has.true in
    let test = heavy_col (weight_at w) c.args.self.now.least c.args.hall.now c.args.row c.col-item.result among (omega (arith, c.weight.ensures, c.if-weight-self.true)) in
    sym (list_any_at heavy c.cols_of-cols.result.now c.loop-col.col-index c.col-item.result c.loop-col-test.true (ap heavy (sym c.col-item.is) ∙ test))
    ∙ touches_above_by_row w.matrix (weight_at w) c.args.self.now.least c.args.hall.now c.cols_of-cols.result.now c.args.row c.requires (rw c.args.self.now.of c.cols_of-cols.ensures.cols)

pub loop-col-preserved : goal.loop-col-preserved
loop-col-preserved c =
    let w = c.args.self.now.weights.now in
    let heavy = is_heavy (weight_at w) c.args.self.now.least c.args.hall.now c.args.row in
    let test : heavy c.col-item.result ≡ false = elim c.else-has.branch [
      | else-has-via-then-has+else-weight-self d ↦ light_col (weight_at w) c.args.self.now.least c.args.hall.now c.args.row c.col-item.result (omega (arith, d.weight.ensures, d.if-weight-self.false))
      | else-has-via-else-has d ↦ other_col (weight_at w) c.args.self.now.least c.args.hall.now c.args.row c.col-item.result (told_among c.col-item.result c.args.hall.now c.has.result c.has.ensures ∙ d.if-has.false)
    ] in
    list_any_more heavy c.cols_of-cols.result.now c.loop-col.col-index c.col-item.result c.loop-col-test.true
    ∙ ap₂ (λ (a b : Bool). a || b) c.loop-col.invariant (ap heavy (sym c.col-item.is) ∙ test)

pub returns : goal.returns
returns c =
    let w = c.args.self.now.weights.now in
    sym c.loop-col.invariant ∙ ap (list_any (is_heavy (weight_at w) c.args.self.now.least c.args.hall.now c.args.row)) (take_all _ _ c.loop-col-test.false)
    ∙ touches_above_by_row w.matrix (weight_at w) c.args.self.now.least c.args.hall.now c.cols_of-cols.result.now c.args.row c.requires (rw c.args.self.now.of c.cols_of-cols.ensures.cols)
