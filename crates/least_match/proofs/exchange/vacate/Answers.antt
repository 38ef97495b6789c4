use Rattle.std.proofs.Common.{◌∙◌, ◌<◌, ap, arith, subst, sym, ℕ}
use Rattle.bip_defs.specs.Lists.{Among}
use Rattle.bip_defs.specs.Matching.{cols_of}
use Rattle.bip_defs.specs.Queues.{at}
use Rattle.bip_defs.proofs.Queues.{head_at}
use Rattle.bip_defs.proofs.Sets.{col_pair, rising_distinct}
use Rattle.least_match.specs.Exchanges.{Swaps}
use Rattle.least_match.proofs.ExchangeLemmas.{hole_matched, hole_matching, hole_start, hole_step}
use Rattle.least_match.proofs.exchange.vacate.Goals as goal

pub unpair_col-free-requires : goal.unpair_col-free-requires
unpair_col-free-requires c = subst (λ (x : ℕ × ℕ). Among x.0 (cols_of c.args.matching.now.pairs)) (sym c.at-first.ensures) (c.requires.tree.matched _ (head_at c.args.tree.now.queue c.args.place c.requires.place))

pub loop-at-init : goal.loop-at-init
loop-at-init c = record {
  hole = hole_start _ _ _ _ _ c.unpair_col-free.ensures.pairings.0.rows_differ (rising_distinct _ c.unpair_col-free.ensures.pairings.0.cols_rise) c.requires.tree c.requires.place (subst (λ (x : ℕ × ℕ). Among (c.unpair_col-free.result, x.0) c.args.matching.now.pairs) c.at-first.ensures c.unpair_col-free.ensures.row) c.unpair_col-free.ensures.pairs c.unpair_col-free.ensures.size;
  pairing = c.unpair_col-free.ensures.pairings.1;
  rows = c.unpair_col-free.ensures.sizes.0;
  cols = c.unpair_col-free.ensures.sizes.1;
}

pub pass-requires-clause-from : goal.pass-requires-clause-from
pass-requires-clause-from c =
    let up = sym (ap (λ (x : ℕ × ℕ). x.1) c.at-col.ensures) in
    subst (λ (x : ℕ × ℕ). Among x.0 (cols_of c.loop-at.matching.pairs)) (sym c.at-next.ensures) (hole_matched _ _ _ c.loop-at.at _ _ c.requires.tree c.loop-at.invariant.hole c.loop-at-test.true up)

pub pass-requires-clause-to : goal.pass-requires-clause-to
pass-requires-clause-to c = subst (λ (x : ℕ × ℕ). ¬ Among x.0 (cols_of c.loop-at.matching.pairs)) (sym c.at-col.ensures) c.loop-at.invariant.hole.hole

pub pass-requires-clause-in_range : goal.pass-requires-clause-in_range
pass-requires-clause-in_range c =
    let on = c.requires.tree.matched _ (head_at c.args.tree.now.queue c.loop-at.at c.loop-at.invariant.hole.within) in
    let (r, p) = col_pair (at c.args.tree.now.queue c.loop-at.at).0 c.args.matching.now.pairs on in
    let lt = c.unpair_col-free.ensures.pairings.0.cols_within r (at c.args.tree.now.queue c.loop-at.at).0 p in
    let same = c.loop-at.invariant.cols in
    subst (λ (x : ℕ × ℕ). x.0 < c.loop-at.matching.cols) (sym c.at-col.ensures) (omega (arith, lt, same))

pub loop-at-preserved : goal.loop-at-preserved
loop-at-preserved c =
    let i = c.loop-at.invariant in
    let up = sym (ap (λ (x : ℕ × ℕ). x.1) c.at-col.ensures) in
    let has = subst (λ (x : ℕ × ℕ). Among (c.pass.ensures.pairs.0, x.0) c.loop-at.matching.pairs) c.at-next.ensures c.pass.ensures.pairs.1 in
    let swaps = subst (λ (x : ℕ × ℕ). Swaps (c.pass.ensures.pairs.0, x.0) c.pass.ensures.pairs.0 c.loop-at.matching.pairs c.pass.new.matching.pairs) c.at-col.ensures c.pass.ensures.pairs.2 in
    record {
      hole = hole_step _ _ _ _ _ _ _ _ c.pass.ensures.pairings.0.rows_differ (rising_distinct _ c.pass.ensures.pairings.0.cols_rise) c.requires.tree i.hole c.loop-at-test.true up has swaps c.pass.ensures.size;
      pairing = c.pass.ensures.pairings.1;
      rows = c.pass.ensures.sizes.0 ∙ i.rows;
      cols = c.pass.ensures.sizes.1 ∙ i.cols;
    }

pub returns-clause-matching : goal.returns-clause-matching
returns-clause-matching c = hole_matching _ _ _ _ _ c.loop-at.invariant.pairing.rows_differ (rising_distinct _ c.loop-at.invariant.pairing.cols_rise) c.loop-at.invariant.hole
