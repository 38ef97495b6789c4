use Rattle.std.proofs.Common.{◌≡◌, ◌∙◌, ℕ, ◌+◌, ◌-◌, ◌<◌, List, ap, ap₂, arith, drop, take}
use Rattle.std.proofs.lemmas.List.{get_or_read}
use Rattle.integer_diagonal.specs.RowWeights.{weights_in_row}
use Rattle.integer_diagonal.proofs.weighted_pattern.WeightedPattern.weights_of_row.Goals as goal

pub index-requires : goal.index-requires
index-requires c = let k = c.args.self.now in omega (arith, c.requires, c.row.view_is, k.by_rows.long, k.row_starts.ok.0)

pub index-requires-2 : goal.index-requires-2
index-requires-2 c = let k = c.args.self.now in omega (arith, c.requires, c.row.view_is, k.by_rows.long, k.row_starts.ok.0)

pub returns : goal.returns
returns c =
    let k = c.args.self.now in
    let starts = k.row_starts.items in
    let r = c.row.inside.0 in
    let is : r ≡ c.args.row = c.row.view_is in
    let lt : r < k.weights.now.matrix.rows = omega (arith, c.requires, is) in
    let from = get_or_read starts r c.index.result.now (omega (arith, lt, k.by_rows.long)) c.index.ensures 0 in
    let to = get_or_read starts (r + 1) c.index-2.result.now (omega (arith, lt, k.by_rows.long)) c.index-2.ensures 0 in
    ap (λ (z : List ℕ). take (c.index-2.result.now - c.index.result.now) (drop c.index.result.now z)) c.as_slice.ensures.value
    ∙ ap₂ (λ (i j : ℕ). take (j - i) (drop i k.row_weights.items)) from to ∙ k.by_rows.parts r lt ∙ ap (λ (z : ℕ). weights_in_row k.weights.now z) is
