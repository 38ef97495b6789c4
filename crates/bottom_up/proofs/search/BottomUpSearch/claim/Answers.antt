use Rattle.std.proofs.Common.{◌∙◌, [], OnOk, subst, sym}
use Rattle.level_sharing.specs.Progress.{IsThroughRow}
use Rattle.level_sharing.specs.Shares.{IsOwn, of_rows}
use Rattle.bottom_up.proofs.SearchLemmas.{stays_both, step_stays}
use Rattle.bottom_up.proofs.search.BottomUpSearch.claim.Goals as goal

pub take-requires-in-Some-clause-seat : goal.take-requires-in-Some-clause-seat
take-requires-in-Some-clause-seat c = c.find.ensures.stays.seat ∙ c.finds_leaf.ensures.seat ∙ c.requires.seat

pub returns-then-not-finds_leaf-clause-progress : goal.returns-then-not-finds_leaf-clause-progress
returns-then-not-finds_leaf-clause-progress c = λ own mine u p. c.take.ensures.progress own mine u ((c.finds_leaf.ensures.progress c.args.self.now.forest.now own).goes_on u p)

pub returns-then-not-finds_leaf-clause-stays : goal.returns-then-not-finds_leaf-clause-stays
returns-then-not-finds_leaf-clause-stays c =
    let s = c.args.self.now.forest.now in
    stays_both s _ _ _ (step_stays s (of_rows []) _ _ c.finds_leaf.ensures.seat (c.finds_leaf.ensures.progress s (of_rows []))) c.take.ensures.stays

pub returns-in-Some-clause-progress : goal.returns-in-Some-clause-progress
returns-in-Some-clause-progress c = λ own mine u p.
    let looked = (c.finds_leaf.ensures.progress c.args.self.now.forest.now own).goes_on u p in
    c.take-in-Some.ensures.progress own (λ d. subst (λ r. IsOwn own (r, d)) (sym c.in-Some.ensures.of_row) (mine d)) u (c.find.ensures.progress own u looked)

pub returns-in-Some-clause-stays : goal.returns-in-Some-clause-stays
returns-in-Some-clause-stays c =
    let s = c.args.self.now.forest.now in
    let looked = step_stays s (of_rows []) _ _ c.finds_leaf.ensures.seat (c.finds_leaf.ensures.progress s (of_rows [])) in
    stays_both s _ _ _ (stays_both s _ _ _ looked c.find.ensures.stays) c.take-in-Some.ensures.stays

pub returns-in-Some-clause-through : goal.returns-in-Some-clause-through
returns-in-Some-clause-through c = subst (λ r. OnOk c.take-in-Some.result (IsThroughRow c.args.self.now.forest.now c.take-in-Some.new.worker r)) c.in-Some.ensures.of_row c.take-in-Some.ensures.through

pub returns-in-None-clause-progress : goal.returns-in-None-clause-progress
returns-in-None-clause-progress c = λ own mine u p. c.find.ensures.progress own u ((c.finds_leaf.ensures.progress c.args.self.now.forest.now own).goes_on u p)

pub returns-in-None-clause-stays : goal.returns-in-None-clause-stays
returns-in-None-clause-stays c =
    let s = c.args.self.now.forest.now in
    stays_both s _ _ _ (step_stays s (of_rows []) _ _ c.finds_leaf.ensures.seat (c.finds_leaf.ensures.progress s (of_rows []))) c.find.ensures.stays

pub take-requires-clause-settled : goal.take-requires-clause-settled
take-requires-clause-settled c = c.finds_leaf.ensures.settled c.args.self.now.forest.now c.requires.settled

pub find-requires-clause-settled : goal.find-requires-clause-settled
find-requires-clause-settled c = c.finds_leaf.ensures.settled c.args.self.now.forest.now c.requires.settled
