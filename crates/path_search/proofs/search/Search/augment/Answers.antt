use Rattle.std.proofs.Common.{inl}
use Rattle.bip_defs.proofs.Below.{entries_within}
use Rattle.path_search.proofs.FailedSearches.{search_failed}
use Rattle.path_search.proofs.FlipLemmas.{augmented, moved_visited}
use Rattle.path_search.proofs.search.Search.augment.Goals as goal

pub flip-requires : goal.flip-requires
flip-requires g c = record {
  in_range = rw (c.requires.search.matching.rows, c.requires.search.matching.cols) (entries_within _ c.find.new.self.path c.if-not-find.ensures.found.entries);
  augmenting = c.if-not-find.ensures.found.augmenting;
}

pub returns-then-not-find-clause-failed : goal.returns-then-not-find-clause-failed
returns-then-not-find-clause-failed g c = search_failed _ _ c.find.new.self.visited _ _ _ c.requires.within c.requires.unmatched c.find.ensures.searched.marks c.if-not-find.ensures.failed

pub returns-clause-matching : goal.returns-clause-matching
returns-clause-matching g c = c.flip.ensures.flips.matching _ c.requires.search.matching c.if-not-find.ensures.found.entries

pub returns-clause-found : goal.returns-clause-found
returns-clause-found g c = augmented _ _ _ c.find.new.self.path _ _ c.if-not-find.ensures.found c.flip.ensures.flips.pairs c.flip.ensures.flips.size

pub returns-then-not-find-clause-moved : goal.returns-then-not-find-clause-moved
returns-then-not-find-clause-moved g c = λ r d h. inl h

pub returns-clause-moved : goal.returns-clause-moved
returns-clause-moved g c = rw c.flip.ensures.same (moved_visited _ _ c.find.new.self.path _ c.if-not-find.ensures.visited c.flip.ensures.flips.pairs)
