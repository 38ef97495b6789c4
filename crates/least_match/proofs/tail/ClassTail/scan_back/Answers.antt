use Rattle.std.proofs.Common.{◌⊎◌, ◌∙◌, ◌<◌, ◌≤◌, ℕ, ap, arith, length, refl, subst, sym}
use Rattle.std.proofs.lemmas.List.{get_or_read}
use Rattle.bip_defs.specs.Lists.{Among}
use Rattle.bip_defs.specs.Matrix.{Place}
use Rattle.bip_defs.specs.Queues.{at, heads}
use Rattle.bip_defs.proofs.Queues.{grown_at, grown_length, grows_more}
use Rattle.bip_defs.proofs.Sets.{entry_col}
use Rattle.least_match.specs.Classes.{IsOther}
use Rattle.least_match.specs.Tree.{Reached}
use Rattle.least_match.specs.Searches.{GrowsBack}
use Rattle.least_match.specs.Trees.{AreSearchTrees}
use Rattle.least_match.proofs.SearchLemmas.{col_leads, col_stays, item_among, each_more, looks_back, looks_prefix, looks_seen, seen_grown_back, seen_scanned_back}
use Rattle.least_match.proofs.tail.ClassTail.scan_back.Goals as goal

pub look_back-requires-clause-can : goal.look_back-requires-clause-can
look_back-requires-clause-can c =
    let grown = c.loop-index.invariant.grown in
    let le = grown_length _ _ grown.grows in
    record { matching = c.requires.can.matching; own = c.requires.can.own; cols = grown.cols; place = omega (arith, le, c.requires.can.place) }

pub look_back-requires-clause-next : goal.look_back-requires-clause-next
look_back-requires-clause-next c =
    let lt : c.loop-index.index < length c.args.found.now.ids.now = omega (arith, c.loop-index-test.true, c.len-index-end.ensures) in
    entry_col _ _ _ (c.requires.found.2.sound _ (item_among c.args.found.now.ids.now c.loop-index.index c.at.result c.at.ensures lt))

pub look_back-requires-clause-leads : goal.look_back-requires-clause-leads
look_back-requires-clause-leads c =
    let lt : c.loop-index.index < length c.args.found.now.ids.now = omega (arith, c.loop-index-test.true, c.len-index-end.ensures) in
    col_leads _ _ c.args.found.now.ids.now c.loop-index.index c.at.result c.requires.found.0 _ _ c.requires.can.matching.matching c.requires.found.1 c.requires.found.2 c.at.ensures lt (col_stays _ _ c.args.place _ c.loop-index.invariant.grown.grows c.requires.can.place refl)

pub returns-in-Some-clause-grown : goal.returns-in-Some-clause-grown
returns-in-Some-clause-grown c = subst (GrowsBack c.args.self.now c.args.matching.now.pairs c.args.trees.now) (sym c.in-Some.ensures.same) c.loop-index.invariant.grown

pub loop-index-preserved : goal.loop-index-preserved
loop-index-preserved c =
    let lt : c.loop-index.index < length c.args.found.now.ids.now = omega (arith, c.loop-index-test.true, c.len-index-end.ensures) in
    let i = c.loop-index.invariant in
    let s = c.in-None.ensures.seen in
    let grows = looks_prefix _ _ _ _ _ _ _ _ _ s in
    let le = grown_length _ _ i.grown.grows in
    let place : c.args.place < length c.loop-index.trees.backward.queue = omega (arith, le, c.requires.can.place) in
    record {
      grown = record {
        cols = c.in-None.ensures.cols;
        other = c.in-None.ensures.other ∙ i.grown.other;
        grows = grows_more _ _ _ i.grown.grows grows;
        trees = λ d t. subst (λ (z : Reached). AreSearchTrees c.args.self.now.pattern.now c.args.matching.now.pairs c.args.self.now.classes.now c.args.self.now.col d z.queue c.look_back.new.trees.backward.queue) (sym c.in-None.ensures.other) (looks_back _ _ _ _ d _ _ _ _ _ (i.grown.trees d t) s place (col_leads _ _ c.args.found.now.ids.now c.loop-index.index c.at.result c.requires.found.0 _ _ c.requires.can.matching.matching c.requires.found.1 c.requires.found.2 c.at.ensures lt (col_stays _ _ c.args.place _ c.loop-index.invariant.grown.grows c.requires.can.place refl)));
      };
      seen = each_more (λ x. IsOther c.args.self.now.classes.now c.args.self.now.col x ⊎ Among x (heads c.look_back.new.trees.backward.queue)) c.args.found.now.ids.now c.loop-index.index c.at.result (seen_grown_back _ _ _ _ _ i.seen grows) lt (sym (get_or_read c.args.found.now.ids.now c.loop-index.index c.at.result lt c.at.ensures 0)) (looks_seen _ _ _ _ _ _ _ _ _ s);
    }

pub returns-clause-scanned : goal.returns-clause-scanned
returns-clause-scanned c =
    let all : length c.args.found.now.ids.now ≤ c.loop-index.index = omega (arith, c.loop-index-test.false, c.len-index-end.ensures) in
    let here = ap (λ (x : ℕ × ℕ). x.0) (sym (grown_at _ _ c.args.place c.loop-index.invariant.grown.grows c.requires.can.place)) in
    seen_scanned_back c.args.self.now.pattern.now _ _ _ (at c.loop-index.trees.backward.queue c.args.place).0 c.requires.found.0 c.loop-index.index _ c.args.found.now.ids.now c.requires.can.matching.matching (subst (λ x. Among {X = Place} (c.requires.found.0, x) c.args.matching.now.pairs) here c.requires.found.1) c.loop-index.invariant.seen all c.requires.found.2
