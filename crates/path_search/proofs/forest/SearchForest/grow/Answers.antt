use Rattle.std.proofs.Common.{inl, refl, subst}
use Rattle.bip_defs.specs.Lists.{Among}
use Rattle.bip_defs.specs.Matching.{cols_of}
use Rattle.bip_defs.proofs.Covers.{covers_none}
use Rattle.bip_defs.proofs.Sets.{col_among}
use Rattle.bip_defs.specs.Marks.{IsExplored}
use Rattle.path_search.specs.declared.reached.Reached.{Reached}
use Rattle.path_search.proofs.GrownTrees.{grow_none, spreads_extends}
use Rattle.path_search.proofs.SweepLemmas.{no_path_more}
use Rattle.path_search.proofs.forest.SearchForest.grow.Goals as goal

-- the tree of the column is done with
pub returns-in-Some-clause-grown : goal.returns-in-Some-clause-grown
returns-in-Some-clause-grown g c = grow_none _ _ _ c.requires.growing

pub returns-in-Some-clause-progresses : goal.returns-in-Some-clause-progresses
returns-in-Some-clause-progresses g c = inl (refl, λ f. absurd (f.roots_unmatched c.args.place c.requires.place (subst (λ (x : Reached). Among x.root (cols_of (g.F.Opposite.seen c.args.matching.now).pairs)) c.at-column.ensures (col_among c.in-Some.field-0 c.at-column.result.root (g.F.Opposite.seen c.args.matching.now).pairs c.in-Some.ensures.found))))

pub returns-in_default-clause-grown : goal.returns-in_default-clause-grown
returns-in_default-clause-grown g c = record {
  growing = record { few_rows = c.requires.growing.few_rows; few_cols = c.requires.growing.few_cols; matching = c.requires.growing.matching; forest = c.scan-found.ensures.forest };
  extends = spreads_extends _ _ _ c.scan-found.ensures.spreads;
  covered = covers_none _;
}

pub returns-in_default-clause-progresses : goal.returns-in_default-clause-progresses
returns-in_default-clause-progresses g c = inl (refl, λ f. no_path_more _ _ c.at-column.result.root _ _ c.args.place f c.requires.place c.in-None.ensures.none c.scan-found.ensures.spreads c.in_default.ensures.lead_on (subst (λ (x : Reached). IsExplored (g.S.Side.matrix c.args.side.now) c.scan-found.new.self.marks x.col) c.at-column.ensures c.in_default.ensures.explored))
