use Rattle.std.proofs.Common.{◌≡◌, arith, refl, subst}
use Rattle.bip_defs.proofs.Sets.{col_among, one_row, rising_distinct}
use Rattle.least_match.specs.Exchanges.{Swaps}
use Rattle.least_match.proofs.ClassLemmas.{fixed_excluded}
use Rattle.least_match.proofs.EndLemmas.{has_maximum}
use Rattle.least_match.proofs.WayLemmas.{no_free_entry, swapped}
use Rattle.least_match.proofs.exchanges.Exchanges.improve.Goals as goal

pub swap-requires-clause-col : goal.swap-requires-clause-col
swap-requires-clause-col c = no_free_entry c.args.self.now.pattern.now c.args.matching.now.pairs c.args.row c.args.col c.requires.maximum.maximum c.requires.entry c.in-None.ensures.none

pub returns-in-None-clause-found : goal.returns-in-None-clause-found
returns-in-None-clause-found c = swapped c.args.self.now.pattern.now c.args.matching.now.pairs c.swap.new.matching.pairs c.args.col c.args.row c.swap.result c.args.col c.requires.maximum.maximum c.requires.entry c.swap.ensures.pairings.1.rows_differ (rising_distinct _ c.swap.ensures.pairings.1.cols_rise) c.swap.ensures.pairs c.swap.ensures.size c.swap.ensures.row (omega arith)

pub returns-in-None-clause-maximum : goal.returns-in-None-clause-maximum
returns-in-None-clause-maximum c = has_maximum c.args.self.now.pattern.now c.args.matching.now c.swap.new.matching c.args.col c.args.row c.requires.maximum c.swap.ensures.sizes.0 c.swap.ensures.sizes.1 (swapped c.args.self.now.pattern.now c.args.matching.now.pairs c.swap.new.matching.pairs c.args.col c.args.row c.swap.result c.args.col c.requires.maximum.maximum c.requires.entry c.swap.ensures.pairings.1.rows_differ (rising_distinct _ c.swap.ensures.pairings.1.cols_rise) c.swap.ensures.pairs c.swap.ensures.size c.swap.ensures.row (omega arith))

pub returns-then-other-col-clause-none : goal.returns-then-other-col-clause-none
returns-then-other-col-clause-none c =
    let lt = c.if-other-col.true in
    let is : c.other.inside.0 ≡ c.in-Some.other = c.other.view_is in
    let at : c.col.inside.0 ≡ c.args.col = c.col.view_is in
    (refl, fixed_excluded c.args.self.now.pattern.now c.args.matching.now.pairs c.args.col c.args.row c.in-Some.other c.in-Some.ensures.found (omega (arith, lt, is, at)))

pub pass-requires-clause-from : goal.pass-requires-clause-from
pass-requires-clause-from c = col_among c.args.row c.in-Some.other c.args.matching.now.pairs c.in-Some.ensures.found

pub exchange-requires : goal.exchange-requires
exchange-requires c = record {
  maximum = c.requires.maximum;
  ready = c.requires.ready;
  entry = c.requires.entry;
  mate = c.in-Some.ensures.found;
  behind = (let le = c.if-other-col.false in let is : c.other.inside.0 ≡ c.in-Some.other = c.other.view_is in let at : c.col.inside.0 ≡ c.args.col = c.col.view_is in omega arith);
  matched = col_among c.in-Some-row_of.field-0 c.args.col c.args.matching.now.pairs c.in-Some-row_of.ensures.found;
}

pub returns-in-None-row_of-clause-found : goal.returns-in-None-row_of-clause-found
returns-in-None-row_of-clause-found c =
    let le = c.if-other-col.false in
    let is : c.other.inside.0 ≡ c.in-Some.other = c.other.view_is in
    let at : c.col.inside.0 ≡ c.args.col = c.col.view_is in
    let own = one_row c.args.matching.now.pairs c.requires.maximum.maximum.matching.cols_differ c.pass.ensures.pairs.0 c.args.row c.in-Some.other c.pass.ensures.pairs.1 c.in-Some.ensures.found in
    let swaps = subst (λ r. Swaps (r, c.args.col) c.pass.ensures.pairs.0 c.args.matching.now.pairs c.pass.new.matching.pairs) own c.pass.ensures.pairs.2 in
    let has = swapped c.args.self.now.pattern.now c.args.matching.now.pairs c.pass.new.matching.pairs c.args.col c.args.row c.pass.ensures.pairs.0 c.in-Some.other c.requires.maximum.maximum c.requires.entry c.pass.ensures.pairings.1.rows_differ (rising_distinct _ c.pass.ensures.pairings.1.cols_rise) swaps c.pass.ensures.size c.pass.ensures.pairs.1 (omega (arith, le, is, at)) in
    has

pub returns-in-None-row_of-clause-maximum : goal.returns-in-None-row_of-clause-maximum
returns-in-None-row_of-clause-maximum c =
    let le = c.if-other-col.false in
    let is : c.other.inside.0 ≡ c.in-Some.other = c.other.view_is in
    let at : c.col.inside.0 ≡ c.args.col = c.col.view_is in
    let own = one_row c.args.matching.now.pairs c.requires.maximum.maximum.matching.cols_differ c.pass.ensures.pairs.0 c.args.row c.in-Some.other c.pass.ensures.pairs.1 c.in-Some.ensures.found in
    let swaps = subst (λ r. Swaps (r, c.args.col) c.pass.ensures.pairs.0 c.args.matching.now.pairs c.pass.new.matching.pairs) own c.pass.ensures.pairs.2 in
    let has = swapped c.args.self.now.pattern.now c.args.matching.now.pairs c.pass.new.matching.pairs c.args.col c.args.row c.pass.ensures.pairs.0 c.in-Some.other c.requires.maximum.maximum c.requires.entry c.pass.ensures.pairings.1.rows_differ (rising_distinct _ c.pass.ensures.pairings.1.cols_rise) swaps c.pass.ensures.size c.pass.ensures.pairs.1 (omega (arith, le, is, at)) in
    has_maximum c.args.self.now.pattern.now c.args.matching.now c.pass.new.matching c.args.col c.args.row c.requires.maximum c.pass.ensures.sizes.0 c.pass.ensures.sizes.1 has
