use Rattle.std.proofs.Common.{◌∙◌, ℕ, ◌≤◌, refl, subst}
use Rattle.bip_defs.specs.Bottleneck.{IsFull}
use Rattle.bip_defs.specs.Matrix.{IsEntry}
use Rattle.sp_pattern.specs.Weights.{weight_at, weight_limit}
use Rattle.blocktri.specs.RowPrices.{AreColumnPrices}
use Rattle.blocktri.proofs.PriceLemmas.{low_fair, low_narrow, low_narrow_columns}
use Rattle.blocktri.proofs.narrow_prices.narrow.Goals as goal

pub returns-clause-fair : goal.returns-clause-fair
returns-clause-fair c = λ h.
    let w = c.args.weights.now in
    let m = c.args.pairs.now in
    let full : IsFull w.matrix m = c.requires.diagonal.full in
    let low = c.if-not-least_row_prices.ensures.low refl in
    let enough = c.if-not-least_row_prices.ensures.enough refl in
    let prices = subst (λ x. AreColumnPrices w m x c.write_column_prices.new.v.items) c.as_slice-2.ensures.value c.write_column_prices.ensures.prices in
    low_fair w m c.least_row_prices.new.u.items c.write_column_prices.new.v.items full low enough (c.write_column_prices.ensures.long ∙ c.requires.fair.by_col) prices

pub returns-clause-narrow : goal.returns-clause-narrow
returns-clause-narrow c = λ h asked.
    let w = c.args.weights.now in
    let m = c.args.pairs.now in
    let full : IsFull w.matrix m = c.requires.diagonal.full in
    let small : (r d : ℕ) → IsEntry w.matrix r d → weight_at w r d ≤ weight_limit = c.requires.diagonal.small in
    let low = c.if-not-least_row_prices.ensures.low refl in
    let prices = subst (λ x. AreColumnPrices w m x c.write_column_prices.new.v.items) c.as_slice-2.ensures.value c.write_column_prices.ensures.prices in
    (low_narrow w m c.least_row_prices.new.u.items full low, low_narrow_columns w m c.least_row_prices.new.u.items c.write_column_prices.new.v.items full small low (c.write_column_prices.ensures.long ∙ c.requires.fair.by_col) prices)
