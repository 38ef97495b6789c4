use Rattle.std.proofs.Common.{◌∙◌, ◌<◌, length, true, false, arith, sym}
use Rattle.std.proofs.lemmas.List.{length-set}
use Rattle.bip_defs.proofs.Slices.{read_at}
use Rattle.blocktri.proofs.LookLemmas.{matched_more}
use Rattle.blocktri.proofs.first_look.fewer_unmatched.Goals as goal
use Rattle.blocktri.proofs.first_look.fewer_unmatched.Goals.{in-Some, in-None+then-not-index+else-count-number, in-None+else-not-index}

pub loop-at-preserved : goal.loop-at-preserved
loop-at-preserved g c =
    let inv = c.loop-at.invariant in
    let lt = c.loop-at-test.true in
    let len = c.len-at-end.ensures in
    let below = c.requires.rows c.loop-at.at (omega (arith, lt, len)) in
    let at = c.at.ensures in
    let row = c.row.view_is in
    let long = inv.long in
    let inside : c.row.inside.0 < length c.loop-at.counted.items = omega (arith, below, at, row, long) in
    elim c.match-col_of.branch [
      | in-Some w ↦ rw (w.counted-is, w.count-is) (record {
        long = inv.long;
        few = inv.few;
        counted = inv.counted;
        matched = λ none. matched_more c.args.matching.now.pairs (g.N.NumberList.numbers c.args.ids) c.loop-at.at _ _ (inv.matched none) c.at.ensures w.in-Some.ensures.found;
      })
      | in-None+then-not-index+else-count-number w ↦ rw (w.counted-is, w.count-is) (record {
        long = length-set c.loop-at.counted.items c.row.inside.0 true ∙ inv.long;
        few = let few = inv.few in let ne = w.if-count-number.false in omega (arith, few, ne);
        counted = λ r on. omega arith;
        matched = λ none. absurd (omega (arith, none));
      })
      | in-None+else-not-index w ↦ rw (w.counted-is, w.count-is) (record {
        long = inv.long;
        few = inv.few;
        counted = inv.counted;
        matched = λ none. absurd (let some = inv.counted c.row.inside.0 (sym (read_at _ false c.loop-at.counted.items c.row.inside.0 inside w.index.ensures) ∙ w.if-not-index.false) in omega (arith, some, none));
      })
    ]

pub returns : goal.returns
returns g c = λ none k lt.
    let f = c.loop-at-test.false in
    let len = c.len-at-end.ensures in
    c.loop-at.invariant.matched none k (omega (arith, f, len, lt))
