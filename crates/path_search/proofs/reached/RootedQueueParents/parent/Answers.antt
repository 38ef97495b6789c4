use Rattle.std.proofs.Common.{subst}
use Rattle.bip_defs.specs.Lists.{Among}
use Rattle.bip_defs.specs.Matching.{cols_of}
use Rattle.bip_defs.proofs.Sets.{among_at}
use Rattle.path_search.specs.Forests.{AreRooted, HasParent}
use Rattle.path_search.specs.declared.reached.Reached.{Reached}
use Rattle.path_search.proofs.PathLemmas.{parent_of, read_any}
use Rattle.path_search.proofs.reached.RootedQueueParents.parent.Goals as goal

pub row_of-requires : goal.row_of-requires
row_of-requires g c = c.requires.kept.0.in_range c.args.at c.requires.kept.1

pub bounds-self-at : goal.bounds-self-at
bounds-self-at g c = (parent_of _ _ c.args.at c.in-Some.row c.requires.kept.0 c.requires.kept.1 c.requires.kept.2 c.in-Some.ensures.found).0

pub returns-in-Some-clause-parent : goal.returns-in-Some-clause-parent
returns-in-Some-clause-parent g c =
    let up = parent_of _ _ c.args.at c.in-Some.row c.requires.kept.0 c.requires.kept.1 c.requires.kept.2 c.in-Some.ensures.found in
    subst (λ (x : Reached). HasParent (g.F.Opposite.seen c.args.self.now.matching.now).pairs c.args.self.now.columns.now c.in-Some.row x.col) (read_any _ _ c.index-self-at.result up.0) up.1

pub returns-in-Some-clause-kept : goal.returns-in-Some-clause-kept
returns-in-Some-clause-kept g c =
    let up = parent_of _ _ c.args.at c.in-Some.row c.requires.kept.0 c.requires.kept.1 c.requires.kept.2 c.in-Some.ensures.found in
    subst (λ (x : Reached). AreRooted (g.F.Opposite.seen c.args.self.now.matching.now) c.args.self.now.columns.now × Among x c.args.self.now.columns.now × (¬ Among x.root (cols_of (g.F.Opposite.seen c.args.self.now.matching.now).pairs))) (read_any _ _ c.index-self-at.result up.0) (c.requires.kept.0, among_at _ _ _ up.0, up.2)
