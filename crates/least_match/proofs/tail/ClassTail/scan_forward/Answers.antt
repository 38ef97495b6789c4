use Rattle.std.proofs.Common.{◌⊎◌, ◌∙◌, ◌<◌, ◌≤◌, ℕ, ap, arith, length, refl, subst, sym}
use Rattle.std.proofs.lemmas.List.{get_or_read}
use Rattle.bip_defs.specs.Lists.{Among, Lists}
use Rattle.bip_defs.specs.Matrix.{IsEntry}
use Rattle.bip_defs.specs.Queues.{at, heads}
use Rattle.bip_defs.proofs.Queues.{grown_at, grown_length, grows_more}
use Rattle.least_match.specs.Classes.{IsOther}
use Rattle.least_match.specs.Tree.{Reached}
use Rattle.least_match.specs.Searches.{GrowsForward}
use Rattle.least_match.specs.Trees.{AreSearchTrees}
use Rattle.least_match.proofs.SearchLemmas.{col_stays, row_entry, each_more, leads_by, looks_forward, looks_prefix, looks_seen, seen_grown, seen_scanned}
use Rattle.least_match.proofs.tail.ClassTail.scan_forward.Goals as goal

pub look_forward-requires-clause-can : goal.look_forward-requires-clause-can
look_forward-requires-clause-can c =
    let grown = c.loop-index.invariant.grown in
    let le = grown_length _ _ grown.grows in
    record { matching = c.requires.can.matching; cols = grown.cols; place = omega (arith, le, c.requires.can.place) }

pub look_forward-requires-clause-entry : goal.look_forward-requires-clause-entry
look_forward-requires-clause-entry c =
    let lt : c.loop-index.index < length c.args.rows.now.ids.now = omega (arith, c.loop-index-test.true, c.len-index-end.ensures) in
    row_entry _ c.args.rows.now.ids.now c.loop-index.index c.at.result _ _ c.requires.rows c.at.ensures lt (col_stays _ _ c.args.place _ c.loop-index.invariant.grown.grows c.requires.can.place refl)

pub returns-in-Some-clause-grown : goal.returns-in-Some-clause-grown
returns-in-Some-clause-grown c = subst (GrowsForward c.args.self.now c.args.matching.now.pairs c.args.trees.now) (sym c.in-Some.ensures.same) c.loop-index.invariant.grown

pub loop-index-preserved : goal.loop-index-preserved
loop-index-preserved c =
    let lt : c.loop-index.index < length c.args.rows.now.ids.now = omega (arith, c.loop-index-test.true, c.len-index-end.ensures) in
    let i = c.loop-index.invariant in
    let s = c.in-None.ensures.seen in
    let grows = looks_prefix _ _ _ _ _ _ _ _ _ s.2 in
    let le = grown_length _ _ i.grown.grows in
    let place : c.args.place < length c.loop-index.trees.forward.queue = omega (arith, le, c.requires.can.place) in
    record {
      grown = record {
        cols = c.in-None.ensures.cols;
        other = c.in-None.ensures.other ∙ i.grown.other;
        grows = grows_more _ _ _ i.grown.grows grows;
        trees = λ d t. subst (λ (z : Reached). AreSearchTrees c.args.self.now.pattern.now c.args.matching.now.pairs c.args.self.now.classes.now c.args.self.now.col d c.look_forward.new.trees.forward.queue z.queue) (sym c.in-None.ensures.other) (looks_forward _ _ _ _ d _ _ _ _ _ (i.grown.trees d t) s.2 place (leads_by _ _ _ _ _ c.requires.can.matching.matching s.1 (row_entry _ c.args.rows.now.ids.now c.loop-index.index c.at.result _ _ c.requires.rows c.at.ensures lt (col_stays _ _ c.args.place _ c.loop-index.invariant.grown.grows c.requires.can.place refl))));
      };
      seen = each_more (λ r. (d : ℕ) × Among (r, d) c.args.matching.now.pairs × (IsOther c.args.self.now.classes.now c.args.self.now.col d ⊎ Among d (heads c.look_forward.new.trees.forward.queue))) c.args.rows.now.ids.now c.loop-index.index c.at.result (seen_grown _ _ _ _ _ _ i.seen grows) lt (sym (get_or_read c.args.rows.now.ids.now c.loop-index.index c.at.result lt c.at.ensures 0)) (s.0, s.1, looks_seen _ _ _ _ _ _ _ _ _ s.2);
    }

pub returns-clause-scanned : goal.returns-clause-scanned
returns-clause-scanned c =
    let all : length c.args.rows.now.ids.now ≤ c.loop-index.index = omega (arith, c.loop-index-test.false, c.len-index-end.ensures) in
    let here = ap (λ (x : ℕ × ℕ). x.0) (sym (grown_at _ _ c.args.place c.loop-index.invariant.grown.grows c.requires.can.place)) in
    seen_scanned c.args.self.now.pattern.now _ _ _ (at c.loop-index.trees.forward.queue c.args.place).0 c.loop-index.index _ c.args.rows.now.ids.now c.loop-index.invariant.seen all (subst (λ x. Lists (λ r. IsEntry c.args.self.now.pattern.now r x) c.args.rows.now.ids.now) here c.requires.rows)
