use Rattle.bip_defs.proofs.Covers.{covers_none}
use Rattle.bip_defs.proofs.Sets.{col_among}
use Rattle.mc21_match.proofs.ExtendLemmas.{searched_failed, searched_found, searched_matched}
use Rattle.mc21_match.proofs.extend.Goals as goal

pub forget-requires : goal.forget-requires
forget-requires c = (c.args.search.now.marks, c.augment.ensures.searched.marks)

pub returns-in-Some-clause-searched : goal.returns-in-Some-clause-searched
returns-in-Some-clause-searched c = searched_matched _ _ _ _ c.requires.searched (col_among _ _ c.args.matching.now.pairs c.in-Some.ensures.found)

pub returns-in-Some-clause-covered : goal.returns-in-Some-clause-covered
returns-in-Some-clause-covered c = covers_none _

pub returns-then-augment-clause-searched : goal.returns-then-augment-clause-searched
returns-then-augment-clause-searched c =
    let e = c.augment.ensures in
    searched_found _ _ _ _ c.augment.new.self _ _ c.requires.searched e.searched.cols c.forget.ensures.cols e.searched.marks c.forget.ensures.marks e.covered c.if-augment.ensures.found

pub returns-else-augment-clause-searched : goal.returns-else-augment-clause-searched
returns-else-augment-clause-searched c =
    let e = c.augment.ensures in
    searched_failed _ _ _ _ _ _ c.requires.searched e.searched.cols e.searched.marks c.if-augment.ensures.stays c.if-augment.ensures.failed
