use Rattle.std.proofs.Common.{ap, subst}
use Rattle.bip_defs.specs.Lists.{Among}
use Rattle.bip_defs.specs.Matching.{cols_of}
use Rattle.bip_defs.proofs.Covers.{covers_none}
use Rattle.bip_defs.proofs.Sets.{col_among}
use Rattle.path_search.specs.declared.reached.Reached.{Reached}
use Rattle.path_search.proofs.BatchLemmas.{done_follows, visit_finds, visit_follows}
use Rattle.path_search.proofs.GrownTrees.{extends_path, grow_none, room_more}
use Rattle.path_search.proofs.forest.SearchForest.follow.Goals as goal

pub visit-requires-clause-row : goal.visit-requires-clause-row
visit-requires-clause-row g c = rw c.requires.growing.forest.rows_are c.requires.candidate.entry.0

pub visit-requires-clause-room : goal.visit-requires-clause-room
visit-requires-clause-room g c = λ d pair un. room_more _ _ _ c.args.next.row d c.requires.growing.matching.matching c.requires.growing.forest pair un

pub exchange-requires : goal.exchange-requires
exchange-requires g c =
    let found = visit_finds _ _ _ _ _ _ _ c.requires.growing.forest c.requires.candidate.within (ap (λ (x : Reached). x.root) c.at-column.ensures) c.requires.candidate.entry c.in-None.ensures.none (rw c.if-visit.true at c.visit.ensures) in
    record { growing = record { few_rows = c.requires.growing.few_rows; few_cols = c.requires.growing.few_cols; matching = c.requires.growing.matching; forest = found.forest }; ends = found.ends }

-- the tree of the column is done with
pub returns-in-Some-clause-grown : goal.returns-in-Some-clause-grown
returns-in-Some-clause-grown g c = grow_none _ _ _ c.requires.growing

pub returns-in-Some-clause-follows : goal.returns-in-Some-clause-follows
returns-in-Some-clause-follows g c = done_follows _ _ _ c.args.next c.requires.candidate.within (subst (λ (x : Reached). Among x.root (cols_of (g.F.Opposite.seen c.args.matching.now).pairs)) c.at-column.ensures (col_among c.in-Some.field-0 c.at-column.result.root (g.F.Opposite.seen c.args.matching.now).pairs c.in-Some.ensures.found))

pub returns-then-visit-clause-grown : goal.returns-then-visit-clause-grown
returns-then-visit-clause-grown g c =
    let found = visit_finds _ _ _ _ _ _ _ c.requires.growing.forest c.requires.candidate.within (ap (λ (x : Reached). x.root) c.at-column.ensures) c.requires.candidate.entry c.in-None.ensures.none (rw c.if-visit.true at c.visit.ensures) in
    record {
      growing = c.exchange.ensures.growing;
      extends = rw c.exchange.ensures.same (extends_path _ _ _ found.extends);
      covered = c.exchange.ensures.covered;
    }

pub returns-else-visit-clause-grown : goal.returns-else-visit-clause-grown
returns-else-visit-clause-grown g c =
    let (forest, extends, follows) = visit_follows _ (g.F.Opposite.seen c.args.matching.now) _ _ c.args.next _ c.requires.growing.matching.matching c.requires.growing.forest c.requires.candidate.within (ap (λ (x : Reached). x.root) c.at-column.ensures) c.requires.candidate.entry c.in-None.ensures.none (rw c.if-visit.false at c.visit.ensures) in
    record { growing = record { few_rows = c.requires.growing.few_rows; few_cols = c.requires.growing.few_cols; matching = c.requires.growing.matching; forest = forest }; extends = extends; covered = covers_none _ }

pub returns-else-visit-clause-follows : goal.returns-else-visit-clause-follows
returns-else-visit-clause-follows g c = (visit_follows _ (g.F.Opposite.seen c.args.matching.now) _ _ c.args.next _ c.requires.growing.matching.matching c.requires.growing.forest c.requires.candidate.within (ap (λ (x : Reached). x.root) c.at-column.ensures) c.requires.candidate.entry c.in-None.ensures.none (rw c.if-visit.false at c.visit.ensures)).2
