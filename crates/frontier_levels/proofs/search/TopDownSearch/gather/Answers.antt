use Rattle.std.proofs.Common.{inl}
use Rattle.std.proofs.lemmas.Result.{on_ok_weaker}
use Rattle.level_sharing.specs.Shares.{by_columns}
use Rattle.frontier_levels.proofs.SearchLemmas.{gathered_on, stays_known, stays_on}
use Rattle.frontier_levels.proofs.search.TopDownSearch.gather.Goals as goal

pub root-root-requires : goal.root-root-requires
root-root-requires c = c.requires.search.each c.args.col c.requires.col

pub gather_rows-requires-clause-root : goal.gather_rows-requires-clause-root
gather_rows-requires-clause-root c = record { inside = c.requires.search.each c.args.col c.requires.col; rooted = c.root-root.ensures.root; in_range = c.root-root.ensures.in_range }

pub gather_rows-requires-clause-gathered : goal.gather_rows-requires-clause-gathered
gather_rows-requires-clause-gathered c = gathered_on _ _ _ _ _ _ c.finds_leaf.ensures.seat (c.finds_leaf.ensures.settled c.args.self.now.forest.now) c.requires.gathered

pub returns-then-finds_leaf-clause-gathered : goal.returns-then-finds_leaf-clause-gathered
returns-then-finds_leaf-clause-gathered c = gathered_on _ _ _ _ _ _ c.finds_leaf.ensures.seat (c.finds_leaf.ensures.settled c.args.self.now.forest.now) c.requires.gathered

pub returns-then-finds_leaf-clause-progress : goal.returns-then-finds_leaf-clause-progress
returns-then-finds_leaf-clause-progress c = (c.finds_leaf.ensures.progress c.args.self.now.forest.now (by_columns c.args.self.now.share.now)).goes_on

pub returns-then-finds_leaf-clause-stays : goal.returns-then-finds_leaf-clause-stays
returns-then-finds_leaf-clause-stays c = stays_known c.args.self.now.forest.now _ _ c.args.candidates.now.items (c.finds_leaf.ensures.progress c.args.self.now.forest.now (by_columns c.args.self.now.share.now)).remembers

pub returns-then-finds_leaf-clause-column : goal.returns-then-finds_leaf-clause-column
returns-then-finds_leaf-clause-column c = (c.root-root.result, c.root-root.ensures.root, inl (c.finds_leaf.ensures.leaf c.if-finds_leaf.true))

pub returns-clause-progress : goal.returns-clause-progress
returns-clause-progress c u p = c.gather_rows.ensures.progress u ((c.finds_leaf.ensures.progress c.args.self.now.forest.now (by_columns c.args.self.now.share.now)).goes_on u p)

pub returns-clause-stays : goal.returns-clause-stays
returns-clause-stays c =
    let looked = stays_known c.args.self.now.forest.now _ _ c.args.candidates.now.items (c.finds_leaf.ensures.progress c.args.self.now.forest.now (by_columns c.args.self.now.share.now)).remembers in
    on_ok_weaker c.gather_rows.result (λ stays. stays_on _ _ _ _ _ _ looked stays) c.gather_rows.ensures.stays
