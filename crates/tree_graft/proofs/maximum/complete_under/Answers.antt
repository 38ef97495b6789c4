use Rattle.bip_defs.proofs.Covers.{covers_more, covers_none}
use Rattle.tree_graft.proofs.SearchLemmas.{entries_matched_maximum}
use Rattle.tree_graft.proofs.maximum.complete_under.Goals as goal

pub returns-then-not-can_grow-clause-maximum : goal.returns-then-not-can_grow-clause-maximum
returns-then-not-can_grow-clause-maximum g c = entries_matched_maximum c.args.pattern.now c.args.matching c.requires.matching (c.can_grow.ensures c.if-not-can_grow.true)

pub returns-then-not-can_grow-clause-covered : goal.returns-then-not-can_grow-clause-covered
returns-then-not-can_grow-clause-covered g c = covers_none _

pub returns-then-is_large-clause-covered : goal.returns-then-is_large-clause-covered
returns-then-is_large-clause-covered g c = covers_more c.in_ok-longer.ensures.covered c.in_ok-maximum.ensures.covered

pub returns-clause-covered : goal.returns-clause-covered
returns-clause-covered g c = covers_more c.in_ok-maximum-2.ensures.covered c.in_ok-shown.ensures.covered
