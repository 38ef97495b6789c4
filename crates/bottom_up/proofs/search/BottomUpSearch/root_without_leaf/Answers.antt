use Rattle.std.proofs.Common.{[]}
use Rattle.level_sharing.specs.Shares.{of_rows}
use Rattle.bottom_up.proofs.SearchLemmas.{step_stays}
use Rattle.bottom_up.proofs.search.BottomUpSearch.root_without_leaf.Goals as goal

pub returns-then-finds_leaf-clause-progress : goal.returns-then-finds_leaf-clause-progress
returns-then-finds_leaf-clause-progress c = λ own. (c.finds_leaf.ensures.progress c.args.self.now.forest.now own).goes_on

pub returns-then-finds_leaf-clause-stays : goal.returns-then-finds_leaf-clause-stays
returns-then-finds_leaf-clause-stays c = step_stays _ (of_rows []) _ _ c.finds_leaf.ensures.seat (c.finds_leaf.ensures.progress c.args.self.now.forest.now (of_rows []))

pub returns-clause-progress : goal.returns-clause-progress
returns-clause-progress c = λ own. (c.finds_leaf.ensures.progress c.args.self.now.forest.now own).goes_on

pub returns-clause-stays : goal.returns-clause-stays
returns-clause-stays c = step_stays _ (of_rows []) _ _ c.finds_leaf.ensures.seat (c.finds_leaf.ensures.progress c.args.self.now.forest.now (of_rows []))

pub returns-then-finds_leaf-clause-none : goal.returns-then-finds_leaf-clause-none
returns-then-finds_leaf-clause-none c = λ inside. (c.in_ok-root.root, c.in_ok-root.ensures.found, c.finds_leaf.ensures.leaf c.if-finds_leaf.true)

pub returns-then-finds_leaf-clause-settled : goal.returns-then-finds_leaf-clause-settled
returns-then-finds_leaf-clause-settled c = c.finds_leaf.ensures.settled c.args.self.now.forest.now c.requires.settled

pub returns-clause-settled : goal.returns-clause-settled
returns-clause-settled c = c.finds_leaf.ensures.settled c.args.self.now.forest.now c.requires.settled
