use Rattle.std.proofs.Common.{arith}
use Rattle.path_search.proofs.BatchLemmas.{gathered_entries, gathered_progresses}
use Rattle.path_search.proofs.SweepLemmas.{forest_short}
use Rattle.path_search.proofs.forest.SearchForest.look_through.Goals as goal

pub gather-end-requires-clause-places : goal.gather-end-requires-clause-places
gather-end-requires-clause-places g c = let short = forest_short _ _ _ c.requires.growing.forest in let few = c.requires.growing.few_cols in let within = c.requires.batch.within in omega arith

pub overflow_cast-at : goal.overflow_cast-at
overflow_cast-at g c = let short = forest_short _ _ _ c.requires.growing.forest in let few = c.requires.growing.few_cols in let within = c.requires.batch.within in omega arith

pub overflow_add-batch : goal.overflow_add-batch
overflow_add-batch g c = let short = forest_short _ _ _ c.requires.growing.forest in let few = c.requires.growing.few_cols in let within = c.requires.batch.within in omega arith

pub keep_unmarked-kept-requires-clause-in_range : goal.keep_unmarked-kept-requires-clause-in_range
keep_unmarked-kept-requires-clause-in_range g c = λ x h. rw (c.marks.ensures, c.requires.growing.forest.rows_are) (gathered_entries _ _ _ _ _ _ _ _ _ c.requires.batch.lists_are c.gather-end.ensures.end.1 c.requires.batch.within c.gather-end.ensures.gathered x h).entry.0

pub follow_all-requires-clause-candidates : goal.follow_all-requires-clause-candidates
follow_all-requires-clause-candidates g c = λ x h. gathered_entries _ _ _ _ _ _ _ _ _ c.requires.batch.lists_are c.gather-end.ensures.end.1 c.requires.batch.within c.gather-end.ensures.gathered x (c.keep_unmarked-kept.ensures.kept.sound x h)

pub returns-clause-progresses : goal.returns-clause-progresses
returns-clause-progresses g c = gathered_progresses _ _ _ _ _ _ _ _ _ _ _ _ c.requires.batch.lists_are c.gather-end.ensures.end.1 c.requires.batch.within c.gather-end.ensures.end.0 c.gather-end.ensures.gathered (rw c.marks.ensures at c.keep_unmarked-kept.ensures.kept) c.follow_all.ensures.grown.extends c.follow_all.ensures.follows
