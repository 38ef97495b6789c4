use Rattle.std.proofs.Common.{◌∙◌, sym}
use Rattle.sp_pattern.proofs.ValuedLemmas.{found_near, found_listed}
use Rattle.sp_pattern.proofs.valued_columns.place_near.Goals as goal

pub returns-then-eq-clause-place : goal.returns-then-eq-clause-place
returns-then-eq-clause-place c =
    found_near c.args.rows.now c.args.near c.args.row c.index-rows-near.result c.requires.rising c.if-near-rows.true c.index-rows-near.is (sym c.eq.ensures ∙ c.if-eq.true)

pub returns-then-eq-2-clause-place : goal.returns-then-eq-2-clause-place
returns-then-eq-2-clause-place c =
    found_near c.args.rows.now _ c.args.row c.index-rows-near-then-near-rows-2.result c.requires.rising c.if-near-rows-2.true c.index-rows-near-then-near-rows-2.is (sym c.eq-then-near-rows-2.ensures ∙ c.if-eq-2.true)

pub returns-clause-place : goal.returns-clause-place
returns-clause-place c = c.unwrap_or.ensures ∙ found_listed c.args.rows.now c.args.row c.binary_search.result c.requires.rising c.requires.listed c.binary_search.ensures.position
