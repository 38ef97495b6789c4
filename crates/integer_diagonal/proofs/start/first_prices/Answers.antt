use Rattle.std.proofs.Common.{◌≡◌, ◌∙◌, ◌+◌, ◌≤◌, ◌++◌, ℕ, List, drop, length, replicate, slice_index, take, sym, ap, subst, arith}
use Rattle.std.proofs.Math.Seq.{take-append_seam}
use Rattle.integer_diagonal.proofs.StartLemmas.{prices_more, prices_none}
use Rattle.integer_diagonal.specs.FirstPrices.{AreFirstPrices}
use Rattle.integer_diagonal.proofs.start.first_prices.Goals as goal

pub loop-col-init : goal.loop-col-init
loop-col-init g c = prices_none c.args.weights.now c.args.top c.args.duals.now c.in_ok-prices.prices.items (c.in_ok-prices.ensures.items_if_clones_equal (λ y same. same) ∙ ap (λ n. replicate {A = ℕ} c.rows.result n) c.zero.ensures ∙ ap (λ k. replicate {A = ℕ} k 0) c.rows.ensures)

pub loop-col-preserved : goal.loop-col-preserved
loop-col-preserved g c =
    let w = c.args.weights.now in
    let n = c.loop-col.col in
    let old = c.loop-col.prices.items in
    let new = c.raise_rows.new.prices in
    let rest = drop (length new) old in
    let lent = c.as_mut_slice.ensures.value in
    let same : length new ≡ length old = c.raise_rows.auto.prices ∙ ap (λ (z : List ℕ). length z) lent in
    let size : c.loop-col.prices.len ≡ length new = omega (arith, same, c.loop-col.prices.ok.0) in
    let whole : take c.loop-col.prices.len (new ++ rest) ≡ new = subst (λ k. take k (new ++ rest) ≡ new) (sym size) (take-append_seam new rest) in
    subst (λ (z : List ℕ). AreFirstPrices w c.args.top (n + 1) c.args.duals.now z) (sym whole)
    (prices_more w c.args.top n c.args.duals.now old new c.loop-col.invariant same c.raise_rows.ensures.low (λ r. subst (λ (z : List ℕ). slice_index z r ≤ slice_index new r) lent (c.raise_rows.ensures.rise r)) (λ r e. c.raise_rows.ensures.covers r e))
