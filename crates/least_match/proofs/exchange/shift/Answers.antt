use Rattle.std.proofs.Common.{◌≡◌, ◌∙◌, ap, arith, refl, subst, sym, ℕ}
use Rattle.bip_defs.specs.Lists.{Among}
use Rattle.bip_defs.specs.Matching.{cols_of}
use Rattle.bip_defs.specs.Queues.{at}
use Rattle.bip_defs.proofs.Sets.{rising_distinct}
use Rattle.least_match.specs.Exchanges.{Swaps}
use Rattle.least_match.proofs.ExchangeLemmas.{HasFree, HasGiven, free_gives, free_matched, free_start, free_step, given_matching}
use Rattle.least_match.proofs.exchange.shift.Goals as goal

pub loop-at-init : goal.loop-at-init
loop-at-init c = record {
  free = free_start _ _ _ _ c.requires.place c.requires.free;
  in_range = c.requires.in_range;
  rows = refl;
  cols = refl;
}

pub swap-row-requires-clause-col : goal.swap-row-requires-clause-col
swap-row-requires-clause-col c = subst (λ (x : ℕ × ℕ). Among x.0 (cols_of c.loop-at.matching.pairs)) (sym c.at-col.ensures) (free_matched _ _ _ _ _ _ _ c.requires.tree c.loop-at.invariant.free)

pub loop-at-preserved : goal.loop-at-preserved
loop-at-preserved c =
    let i = c.loop-at.invariant in
    let up = sym (ap (λ (x : ℕ × ℕ). x.1) c.at-col.ensures) in
    let has = subst (λ (x : ℕ × ℕ). Among (c.swap-row.result, x.0) c.loop-at.matching.pairs) c.at-col.ensures c.swap-row.ensures.row in
    let swaps = subst (λ (x : ℕ × ℕ). Swaps (c.loop-at.row, x.0) c.swap-row.result c.loop-at.matching.pairs c.swap-row.new.matching.pairs) c.at-col.ensures c.swap-row.ensures.pairs in
    let given = free_gives _ _ _ _ _ _ _ _ _ c.swap-row.ensures.pairings.0.rows_differ (rising_distinct _ c.swap-row.ensures.pairings.0.cols_rise) c.requires.tree i.free has swaps c.swap-row.ensures.size in
    record {
      free = free_step _ _ _ _ _ _ _ _ c.requires.tree given i.free.within c.loop-at-test.true up;
      in_range = omega (arith, c.swap-row.ensures.in_range, c.swap-row.ensures.sizes.0);
      rows = c.swap-row.ensures.sizes.0 ∙ i.rows;
      cols = c.swap-row.ensures.sizes.1 ∙ i.cols;
    }

at_first : (c : goal.After-swap-arg-2-1) → c.loop-at.at ≡ 0
at_first c = let le = c.loop-at-test.false in omega (arith, le)

pub swap-requires-clause-col : goal.swap-requires-clause-col
swap-requires-clause-col c = subst (λ (x : ℕ × ℕ). Among x.0 (cols_of c.loop-at.matching.pairs)) (ap (at c.args.tree.now.queue) (at_first c) ∙ sym c.at-first.ensures) (free_matched _ _ _ _ _ _ _ c.requires.tree c.loop-at.invariant.free)

given : (c : goal.After-swap) → HasGiven c.args.matching.now.pairs c.swap.new.matching.pairs c.args.tree.now.queue c.args.place c.args.free 0 c.swap.result
given c =
    let le = c.loop-at-test.false in
    let first : c.loop-at.at ≡ 0 = omega (arith, le) in
    let has = subst (λ (x : ℕ × ℕ). Among (c.swap.result, x.0) c.loop-at.matching.pairs) c.at-first.ensures c.swap.ensures.row in
    let swaps = subst (λ (x : ℕ × ℕ). Swaps (c.loop-at.row, x.0) c.swap.result c.loop-at.matching.pairs c.swap.new.matching.pairs) c.at-first.ensures c.swap.ensures.pairs in
    let free = subst (λ i. HasFree c.args.matching.now.pairs c.loop-at.matching.pairs c.args.tree.now.queue c.args.place c.args.free i c.loop-at.row) first c.loop-at.invariant.free in
    free_gives _ _ _ _ _ _ _ _ _ c.swap.ensures.pairings.0.rows_differ (rising_distinct _ c.swap.ensures.pairings.0.cols_rise) c.requires.tree free has swaps c.swap.ensures.size

pub returns-clause-row_free : goal.returns-clause-row_free
returns-clause-row_free c = (c.swap.result, (given c).own, (given c).row_free)

pub returns-clause-beside : goal.returns-clause-beside
returns-clause-beside c = (given c).beside

pub returns-clause-size : goal.returns-clause-size
returns-clause-size c = (given c).size

pub returns-clause-matching : goal.returns-clause-matching
returns-clause-matching c = given_matching _ _ _ _ _ _ _ c.swap.ensures.pairings.1.rows_differ (rising_distinct _ c.swap.ensures.pairings.1.cols_rise) (given c)
