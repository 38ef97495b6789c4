use Rattle.std.proofs.Common.{◌∙◌, ℕ, List, subst, ap}
use Rattle.bip_defs.specs.Matrix.{cols}
use Rattle.bip_graph.specs.Matching.{Pairing}
use Rattle.integer_diagonal.proofs.StartLemmas.{begun, first_none, start_assigned}
use Rattle.integer_diagonal.specs.FirstPrices.{AreFirstPrices}
use Rattle.integer_diagonal.proofs.start.start.Goals as goal

pub returns-clause-assignment : goal.returns-clause-assignment
returns-clause-assignment g c =
    let w = c.args.weights.now in
    let ps = c.in_ok-prices.prices.items in
    let os = c.in_ok-duals.duals.items in
    let m = c.in_ok-matching.matching in
    let prices : AreFirstPrices w c.args.top (cols c.args.weights.now.matrix) os ps = subst (λ (z : List ℕ). AreFirstPrices w c.args.top (cols c.args.weights.now.matrix) z ps) c.as_slice.ensures.value c.in_ok-prices.ensures in
    let none = first_none (begun w c.args.top ps os) m
    (ap (λ (z : Pairing). z.rows) c.in_ok-matching.ensures ∙ c.rows.ensures)
    (ap (λ (z : Pairing). z.cols) c.in_ok-matching.ensures ∙ c.cols.ensures)
    (ap (λ (z : Pairing). z.pairs) c.in_ok-matching.ensures) in
    start_assigned (begun w c.args.top ps os) 0 m (λ r k e. c.requires.small r k e.1) none c.in_ok-duals.ensures prices c.is_matching.ensures.rows_differ c.is_matching.ensures.cols_rise
