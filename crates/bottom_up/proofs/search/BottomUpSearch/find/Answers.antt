use Rattle.std.proofs.Common.{◌∙◌, inr, subst, sym, true≢false}
use Rattle.std.proofs.lemmas.Bool.{not-false, not-true}
use Rattle.std.proofs.lemmas.List.{take_all}
use Rattle.bip_defs.specs.Forest.{InForest}
use Rattle.bip_defs.specs.Lists.{Among}
use Rattle.bip_defs.specs.Matrix.{IsEntry, Matrix}
use Rattle.bip_defs.proofs.Sets.{entry_col}
use Rattle.bip_defs.proofs.Slices.{each_more}
use Rattle.level_sharing.specs.Progress.{KnowsWon}
use Rattle.bottom_up.proofs.SearchLemmas.{entry_at, stays_both, stays_here}
use Rattle.bottom_up.proofs.search.BottomUpSearch.find.Goals as goal

pub root_without_leaf-requires-clause-col : goal.root_without_leaf-requires-clause-col
root_without_leaf-requires-clause-col c = entry_col c.args.self.now.forest.now.matrix c.args.row c.col-item.result (entry_at _ _ c.args.row _ _ _ c.pattern.ensures c.cols_of-cols.ensures.cols c.loop-col-test.true c.col-item.is)

pub root_without_leaf-requires-clause-seat : goal.root_without_leaf-requires-clause-seat
root_without_leaf-requires-clause-seat c = c.loop-col.invariant.stays.seat ∙ c.requires.seat

pub returns-in-Some-clause-progress : goal.returns-in-Some-clause-progress
returns-in-Some-clause-progress c = λ own u p. c.root_without_leaf.ensures.progress own u (c.loop-col.invariant.progress own u p)

pub returns-in-Some-clause-stays : goal.returns-in-Some-clause-stays
returns-in-Some-clause-stays c = stays_both _ _ _ _ c.loop-col.invariant.stays c.root_without_leaf.ensures.stays

pub loop-col-init : goal.loop-col-init
loop-col-init c = record { progress = λ own u p. p; stays = stays_here _ _; settled = c.requires.settled; won = λ d m. absurd m }

pub returns-in-Some-clause-candidate : goal.returns-in-Some-clause-candidate
returns-in-Some-clause-candidate c = record {
  entry = entry_at _ _ c.args.row _ _ _ c.pattern.ensures c.cols_of-cols.ensures.cols c.loop-col-test.true c.col-item.is;
  inside = c.in-Some.ensures.root.inside;
  rooted = c.in-Some.ensures.root.rooted;
  in_range = c.in-Some.ensures.root.in_range;
  mated = λ f. c.is_matched-free.ensures.0 (not-false c.is_matched-free.result f);
  is_free = λ t m. true≢false (sym (c.is_matched-free.ensures.1 m) ∙ not-true c.is_matched-free.result t);
}

pub returns-clause-none : goal.returns-clause-none
returns-clause-none c = inr (λ d e inside. c.loop-col.invariant.won d (subst (Among d) (sym (take_all _ _ c.loop-col-test.false)) (c.cols_of-cols.ensures.cols.complete d (subst (λ (m : Matrix). IsEntry m c.args.row d) (sym c.pattern.ensures) e))) inside)

pub loop-col-preserved : goal.loop-col-preserved
loop-col-preserved c = record {
  progress = λ own u p. c.root_without_leaf.ensures.progress own u (c.loop-col.invariant.progress own u p);
  stays = stays_both _ _ _ _ c.loop-col.invariant.stays c.root_without_leaf.ensures.stays;
  settled = c.root_without_leaf.ensures.settled;
  won = each_more (λ d. InForest c.args.self.now.forest.now d → KnowsWon c.args.self.now.forest.now c.root_without_leaf.new.worker d) c.cols_of-cols.result.now c.loop-col.col-index c.col-item.result c.loop-col-test.true c.col-item.is
      (λ d h inside. c.root_without_leaf.ensures.stays.won d (c.loop-col.invariant.won d h inside)) c.in_default.ensures.none;
}
