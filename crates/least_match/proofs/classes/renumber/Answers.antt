use Rattle.std.proofs.Common.{◌≡◌, ◌∙◌, ◌<◌, ℕ, ap, arith, length, sym}
use Rattle.std.proofs.lemmas.List.{get_or-map, length-map}
use Rattle.bip_defs.specs.Queues.{at, heads}
use Rattle.bip_defs.proofs.Queues.{head_at}
use Rattle.least_match.proofs.ClassLemmas.{split_more}
use Rattle.least_match.proofs.classes.renumber.Goals as goal

pub bounds-numbers-col-inside : goal.bounds-numbers-col-inside
bounds-numbers-col-inside c =
    let lt = c.loop-place-test.true in
    let within : c.loop-place.place < length c.args.tree.now.queue = omega (arith, lt, c.len-place-end.ensures.count) in
    let below = c.requires.cols _ (head_at c.args.tree.now.queue c.loop-place.place within) in
    let is : c.col.inside.0 ≡ (at c.args.tree.now.queue c.loop-place.place).0 = c.col.view_is ∙ ap (λ (x : ℕ × ℕ). x.0) c.at-col.ensures in
    let long = c.loop-place.invariant.long in
    omega (arith, below, is, long)

pub loop-place-preserved : goal.loop-place-preserved
loop-place-preserved c =
    let lt = c.loop-place-test.true in
    let within : c.loop-place.place < length c.args.tree.now.queue = omega (arith, lt, c.len-place-end.ensures.count) in
    let below = c.requires.cols _ (head_at c.args.tree.now.queue c.loop-place.place within) in
    let is : c.col.inside.0 ≡ (at c.args.tree.now.queue c.loop-place.place).0 = c.col.view_is ∙ ap (λ (x : ℕ × ℕ). x.0) c.at-col.ensures in
    split_more c.args.numbers.now c.loop-place.numbers (heads c.args.tree.now.queue) c.args.number c.loop-place.place c.col.inside.0 c.loop-place.invariant (omega (arith, within, length-map c.args.tree.now.queue (λ (x : ℕ × ℕ). x.0))) (get_or-map (λ (x : ℕ × ℕ). x.0) c.args.tree.now.queue c.loop-place.place (0, 0) 0 within ∙ sym is) (omega (arith, below, is))
