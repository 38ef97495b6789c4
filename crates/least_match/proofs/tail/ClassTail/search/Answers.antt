use Rattle.std.proofs.Common.{◌∙◌, ◌<◌, ◌≤◌, arith, length, subst, sym}
use Rattle.bip_defs.specs.Matrix.{cols}
use Rattle.bip_defs.proofs.Below.{below_more}
use Rattle.bip_defs.specs.Queues.{at}
use Rattle.bip_defs.proofs.Queues.{grown_length, head_at}
use Rattle.least_match.specs.Outcomes.{AreScanned, AreScannedBack}
use Rattle.least_match.specs.Tree.{Reached}
use Rattle.least_match.specs.Trees.{IsScanned, IsScannedBack}
use Rattle.least_match.proofs.EndLemmas.{backward_inner, forward_inner}
use Rattle.least_match.proofs.SearchLemmas.{scanned_grown, scanned_grown_back, tree_few}
use Rattle.least_match.proofs.tail.ClassTail.search.Goals as goal

pub returns-in-EndForward-clause-ends : goal.returns-in-EndForward-clause-ends
returns-in-EndForward-clause-ends c = (forward_inner _ _ _ c.requires.part c.in-EndForward.ensures.1, subst (AreScanned c.args.self.now.pattern.now c.args.matching.now.pairs c.args.self.now.classes.now c.args.self.now.col c.loop-trees.trees.forward.queue) (sym c.scan_of-forward_scan.ensures.done ∙ c.in-EndForward.ensures.0 ∙ c.scan_of-forward_scan.ensures.len) c.loop-trees.invariant.scanned)

pub returns-in-EndBackward-clause-ends : goal.returns-in-EndBackward-clause-ends
returns-in-EndBackward-clause-ends c = (backward_inner _ _ _ c.requires.part c.in-EndBackward.ensures.1, subst (AreScannedBack c.args.self.now.pattern.now c.args.matching.now.pairs c.args.self.now.classes.now c.args.self.now.col c.loop-trees.trees.backward.queue) (sym c.scan_of-backward_scan.ensures.done ∙ c.in-EndBackward.ensures.0 ∙ c.scan_of-backward_scan.ensures.len) c.loop-trees.invariant.scanned_back)

pub rows_at-rows-requires-clause-in_range : goal.rows_at-rows-requires-clause-in_range
rows_at-rows-requires-clause-in_range c = λ i lt. (c.loop-trees.invariant.trees.forward_tree.tail _ (head_at c.loop-trees.trees.forward.queue i lt)).within

pub returns-in-Some-clause-trees : goal.returns-in-Some-clause-trees
returns-in-Some-clause-trees c = c.in-Some.ensures.grown.trees _ c.loop-trees.invariant.trees

pub loop-trees-smaller-in-GrowForward : goal.loop-trees-smaller-in-GrowForward
loop-trees-smaller-in-GrowForward c =
    let few = tree_few _ _ _ _ _ _ c.loop-trees.invariant.trees.forward_tree in
    let lt = c.in-GrowForward.ensures in
    let below : c.loop-trees.forward_at < cols c.args.self.now.pattern.now = omega (arith, few, lt, c.scan_of-forward_scan.ensures.done, c.scan_of-forward_scan.ensures.len) in
    omega (arith, below)

pub loop-trees-preserved-in-GrowForward : goal.loop-trees-preserved-in-GrowForward
loop-trees-preserved-in-GrowForward c =
    let i = c.loop-trees.invariant in
    let lt = c.in-GrowForward.ensures in
    let within : c.loop-trees.forward_at < length c.loop-trees.trees.forward.queue = omega (arith, lt, c.scan_of-forward_scan.ensures.done, c.scan_of-forward_scan.ensures.len) in
    let grows = c.in-None.ensures.grown.grows in
    let more = grown_length _ _ grows in
    record {
      cols = c.in-None.ensures.grown.cols;
      next_rows = c.rows_at-rows.ensures.ahead;
      next_cols = i.next_cols;
      trees = c.in-None.ensures.grown.trees _ i.trees;
      forward_at = omega (arith, within, more);
      backward_at = subst (λ (z : Reached). c.loop-trees.backward_at ≤ length z.queue) (sym c.in-None.ensures.grown.other) i.backward_at;
      scanned = below_more (λ k. IsScanned c.args.self.now.pattern.now c.args.matching.now.pairs c.args.self.now.classes.now c.args.self.now.col c.scan_forward.new.trees.forward.queue (at c.scan_forward.new.trees.forward.queue k).0) c.loop-trees.forward_at (scanned_grown _ _ _ _ _ _ _ grows i.forward_at i.scanned) c.in-None.ensures.scanned;
      scanned_back = subst (λ (z : Reached). AreScannedBack c.args.self.now.pattern.now c.args.matching.now.pairs c.args.self.now.classes.now c.args.self.now.col z.queue c.loop-trees.backward_at) (sym c.in-None.ensures.grown.other) i.scanned_back;
    }

pub cols_at-cols-requires-clause-matched : goal.cols_at-cols-requires-clause-matched
cols_at-cols-requires-clause-matched c = λ i lt. c.loop-trees.invariant.trees.backward_tree.matched _ (head_at c.loop-trees.trees.backward.queue i lt)

pub returns-in-Some-scan_back-clause-trees : goal.returns-in-Some-scan_back-clause-trees
returns-in-Some-scan_back-clause-trees c = c.in-Some-scan_back.ensures.grown.trees _ c.loop-trees.invariant.trees

pub loop-trees-smaller : goal.loop-trees-smaller
loop-trees-smaller c =
    let few = tree_few _ _ _ _ _ _ c.loop-trees.invariant.trees.backward_tree in
    let lt = c.in-GrowBackward.ensures in
    let below : c.loop-trees.backward_at < cols c.args.self.now.pattern.now = omega (arith, few, lt, c.scan_of-backward_scan.ensures.done, c.scan_of-backward_scan.ensures.len) in
    omega (arith, below)

pub loop-trees-preserved : goal.loop-trees-preserved
loop-trees-preserved c =
    let i = c.loop-trees.invariant in
    let lt = c.in-GrowBackward.ensures in
    let within : c.loop-trees.backward_at < length c.loop-trees.trees.backward.queue = omega (arith, lt, c.scan_of-backward_scan.ensures.done, c.scan_of-backward_scan.ensures.len) in
    let grows = c.in-None-scan_back.ensures.grown.grows in
    let more = grown_length _ _ grows in
    record {
      cols = c.in-None-scan_back.ensures.grown.cols;
      next_rows = i.next_rows;
      next_cols = c.cols_at-cols.ensures.ahead;
      trees = c.in-None-scan_back.ensures.grown.trees _ i.trees;
      forward_at = subst (λ (z : Reached). c.loop-trees.forward_at ≤ length z.queue) (sym c.in-None-scan_back.ensures.grown.other) i.forward_at;
      backward_at = omega (arith, within, more);
      scanned = subst (λ (z : Reached). AreScanned c.args.self.now.pattern.now c.args.matching.now.pairs c.args.self.now.classes.now c.args.self.now.col z.queue c.loop-trees.forward_at) (sym c.in-None-scan_back.ensures.grown.other) i.scanned;
      scanned_back = below_more (λ k. IsScannedBack c.args.self.now.pattern.now c.args.matching.now.pairs c.args.self.now.classes.now c.args.self.now.col c.scan_back.new.trees.backward.queue (at c.scan_back.new.trees.backward.queue k).0) c.loop-trees.backward_at (scanned_grown_back _ _ _ _ _ _ _ grows i.backward_at i.scanned_back) c.in-None-scan_back.ensures.scanned;
    }

pub first_rows-next_rows-requires-clause-place : goal.first_rows-next_rows-requires-clause-place
first_rows-next_rows-requires-clause-place c = (c.begin.ensures.trees _ c.requires.matched c.requires.own).forward_tree.some

pub first_rows-next_rows-requires-clause-in_range : goal.first_rows-next_rows-requires-clause-in_range
first_rows-next_rows-requires-clause-in_range c = λ i lt. ((c.begin.ensures.trees _ c.requires.matched c.requires.own).forward_tree.tail _ (head_at c.begin.new.trees.forward.queue i lt)).within

pub first_cols-next_cols-requires-clause-place : goal.first_cols-next_cols-requires-clause-place
first_cols-next_cols-requires-clause-place c = (c.begin.ensures.trees _ c.requires.matched c.requires.own).backward_tree.some

pub first_cols-next_cols-requires-clause-matched : goal.first_cols-next_cols-requires-clause-matched
first_cols-next_cols-requires-clause-matched c = λ i lt. (c.begin.ensures.trees _ c.requires.matched c.requires.own).backward_tree.matched _ (head_at c.begin.new.trees.backward.queue i lt)
