use Rattle.std.proofs.Common.{◌∙◌, ap, refl, subst, sym, true≢false}
use Rattle.bip_defs.specs.Forest.{IsRested, new_forest}
use Rattle.bip_defs.specs.Matching.{IsMatching}
use Rattle.bip_defs.specs.Matrix.{Matrix, cols}
use Rattle.bip_defs.proofs.Covers.{covers_more, covers_none}
use Rattle.tree_graft.specs.Phases.{StaysMatched}
use Rattle.tree_graft.proofs.PhaseLemmas.{known_none, known_some, last_phase, left_maximum, matched_on, phases_fall}
use Rattle.tree_graft.proofs.SearchLemmas.{entries_matched_maximum}
use Rattle.tree_graft.proofs.maximum.complete_by_phases.Goals as goal

pub returns-then-not-can_grow-clause-maximum : goal.returns-then-not-can_grow-clause-maximum
returns-then-not-can_grow-clause-maximum g c = entries_matched_maximum c.args.pattern.now c.args.matching c.requires.matching (c.can_grow.ensures c.if-not-can_grow.true)

pub returns-then-not-can_grow-clause-covered : goal.returns-then-not-can_grow-clause-covered
returns-then-not-can_grow-clause-covered g c = covers_none _

pub loop-grows-init : goal.loop-grows-init
loop-grows-init g c = record {
  rested = subst IsRested (sym c.in_ok-forest.ensures) (record { settled = λ r h. absurd h; no_leaves = refl; none_flipped = refl });
  matched = subst (StaysMatched (new_forest c.args.pattern.now c.args.matching.pairs)) (sym c.in_ok-forest.ensures) (record { matrix = refl; matching = c.requires.matching.matching; covered = covers_none _ });
  last = λ e. absurd (true≢false e);
}

pub loop-grows-smaller : goal.loop-grows-smaller
loop-grows-smaller g c = rw c.loop-grows-test.true (phases_fall c.args.pattern.now c.loop-grows.forest c.phase_under.new.forest c.in_ok-grows.field-0 _ c.phase_under.ensures.matched.matching c.loop-grows.invariant.matched.matrix c.in_ok-grows.ensures.growth (known_some c.in_ok-grows.field-0))

pub loop-grows-preserved : goal.loop-grows-preserved
loop-grows-preserved g c =
    let e = c.in_ok-grows.ensures in
    let matched = c.phase_under.ensures.matched in
    record {
      rested = e.rested;
      matched = matched_on c.loop-grows.invariant.matched matched;
      last = λ none. last_phase c.args.pattern.now c.loop-grows.forest c.phase_under.new.forest c.in_ok-grows.field-0 matched.matching c.loop-grows.invariant.matched.matrix e.growth e.maximum (known_none c.in_ok-grows.field-0 none);
    }

pub returns-clause-maximum : goal.returns-clause-maximum
returns-clause-maximum g c =
    let k = c.loop-grows.invariant in
    let e = c.into_matching.ensures in
    let same = k.matched.matrix in
    record {
      matching = record {
        rows = e.matching.rows ∙ ap (λ (a : Matrix). a.rows) same;
        cols = e.matching.cols ∙ ap (λ (a : Matrix). cols a) same;
        matching = subst (λ (a : Matrix). IsMatching a c.into_matching.result.pairs) same e.matching.matching;
      };
      maximum = left_maximum c.args.pattern.now c.loop-grows.forest c.into_matching.result.pairs k.rested (k.last c.loop-grows-test.false) same e.matching.matching e.size;
    }

pub returns-clause-covered : goal.returns-clause-covered
returns-clause-covered g c = covers_more c.loop-grows.invariant.matched.covered c.into_matching.ensures.covered
