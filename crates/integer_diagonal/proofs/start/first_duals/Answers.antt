use Rattle.std.proofs.Common.{◌≡◌, ◌∙◌, ◌+◌, ◌-◌, ◌++◌, ◌∷◌, [], List, ℕ, sym, subst, ap, arith}
use Rattle.bip_defs.specs.Matrix.{cols}
use Rattle.integer_diagonal.proofs.StartLemmas.{column_small, duals_more}
use Rattle.integer_diagonal.specs.FirstPrices.{AreFirstDuals}
use Rattle.integer_diagonal.proofs.start.first_duals.Goals as goal

pub overflow_sub-least : goal.overflow_sub-least
overflow_sub-least g c = column_small c.args.weights.now c.args.top c.loop-col.col c.greatest.result c.weights_of.result.now c.requires.small c.weights_of.ensures.length c.weights_of.ensures.each c.greatest.ensures.met

pub loop-col-preserved : goal.loop-col-preserved
loop-col-preserved g c =
    let w = c.args.weights.now in
    let old = c.loop-col.duals.items in
    let most = c.greatest.result in
    let costs : c.add.result ≡ c.args.top + (c.args.top - most) = omega (arith, c.add.ensures, c.of.ensures, c.of-in-loop-col.ensures) in
    subst (λ (z : List ℕ). AreFirstDuals w c.args.top (c.loop-col.col + 1) z) (sym {A = List ℕ} (c.in_ok-push.ensures.items ∙ ap (λ n. old ++ n ∷ []) costs))
    (duals_more w c.args.top c.loop-col.col most old c.weights_of.result.now c.loop-col.invariant
    (record { long = c.weights_of.ensures.length; each = c.weights_of.ensures.each; bound = c.greatest.ensures.bound; met = c.greatest.ensures.met; fits = column_small w c.args.top c.loop-col.col most c.weights_of.result.now c.requires.small c.weights_of.ensures.length c.weights_of.ensures.each c.greatest.ensures.met }))

pub returns : goal.returns
returns g c =
    let all : c.loop-col.col ≡ cols c.args.weights.now.matrix = omega (arith, c.loop-col-test.false, c.loop-col.auto.col-end) in
    subst (λ k. AreFirstDuals c.args.weights.now c.args.top k c.loop-col.duals.items) all c.loop-col.invariant
