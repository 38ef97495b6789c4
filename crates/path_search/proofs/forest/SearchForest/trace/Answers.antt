use Rattle.std.proofs.Common.{◌≡◌, ◌∙◌, ap, length}
use Rattle.bip_defs.proofs.Sets.{among_at}
use Rattle.path_search.specs.Forests.{Trees, reached_at}
use Rattle.path_search.proofs.PathLemmas.{forest_rooted, path_fits, read_at, rooted_depth, rooted_trees, traces}
use Rattle.path_search.proofs.forest.SearchForest.trace.Goals as goal

pub trace_back-requires-clause-trees : goal.trace_back-requires-clause-trees
trace_back-requires-clause-trees g c =
    let queue = c.as_slice-columns.ensures.value ∙ ap (λ (t : Trees). t.queue) c.self.view_is in
    rw queue (rooted_trees _ c.args.self.now.queue c.requires.growing.matching.matching.rows_differ c.requires.growing.matching.matching.cols_differ c.requires.growing.forest.cols_differ)

pub trace_back-requires-clause-kept : goal.trace_back-requires-clause-kept
trace_back-requires-clause-kept g c =
    let queue = c.as_slice-columns.ensures.value ∙ ap (λ (t : Trees). t.queue) c.self.view_is in
    let read : c.index-columns-place.result ≡ reached_at c.args.self.now.queue c.args.place = read_at _ _ _ (rw (← queue) c.index-columns-place.is) c.requires.ends.within in
    rw (queue, read) (forest_rooted _ _ _ c.requires.growing.matching c.requires.growing.forest, among_at _ _ _ c.requires.ends.within, c.requires.ends.unmatched)

pub trace_back-requires-clause-depth : goal.trace_back-requires-clause-depth
trace_back-requires-clause-depth g c =
    let queue = c.as_slice-columns.ensures.value ∙ ap (λ (t : Trees). t.queue) c.self.view_is in
    let read : c.index-columns-place.result ≡ reached_at c.args.self.now.queue c.args.place = read_at _ _ _ (rw (← queue) c.index-columns-place.is) c.requires.ends.within in
    rw (queue, read) (rooted_depth _ _ _ (forest_rooted _ _ _ c.requires.growing.matching c.requires.growing.forest) c.requires.ends.within c.requires.ends.unmatched)

pub trace_back-requires-clause-room : goal.trace_back-requires-clause-room
trace_back-requires-clause-room g c =
    path_fits _ _ _ _ _ c.requires.growing.matching.matching c.requires.growing.forest c.requires.ends.leaf (ap (λ (t : Trees). length t.marks) c.self.view_is) c.self.invariant.1

pub returns-clause-path : goal.returns-clause-path
returns-clause-path g c =
    let queue = c.as_slice-columns.ensures.value ∙ ap (λ (t : Trees). t.queue) c.self.view_is in
    let read : c.index-columns-place.result ≡ reached_at c.as_slice-columns.result.now c.args.place = read_at c.as_slice-columns.result.now c.args.place _ c.index-columns-place.is (rw queue c.requires.ends.within) in
    traces _ _ c.args.self.now c.args.place c.args.row c.trace_back.new.path.items c.requires.growing.matching.matching c.requires.growing.forest c.requires.ends.within c.requires.ends.leaf c.requires.ends.unmatched c.trace_back.ensures.path (rw (← queue, ← read) c.trace_back.ensures.pairs)
