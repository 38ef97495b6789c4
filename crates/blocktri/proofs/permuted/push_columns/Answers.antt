use Rattle.std.proofs.Common.{◌≡◌, ◌↔◌, ◌∙◌, ◌∷◌, ◌++◌, [], IsTrue, ap, arith, sym, ℕ}
use Rattle.bip_defs.specs.Lists.{Among}
use Rattle.bip_defs.specs.Matching.{cols_of}
use Rattle.bip_defs.proofs.Slices.{items_same, read_among, read_at}
use Rattle.blocktri.proofs.PermutedLemmas.{all_read, has_row, is_wanted, not_wanted, passed, pushed}
use Rattle.blocktri.proofs.permuted.push_columns.Goals as goal
use Rattle.blocktri.proofs.permuted.push_columns.Goals.{then-is_some-is_matched+in_ok-push, else-is_some-is_matched}

pub row_of-requires : goal.row_of-requires
row_of-requires c = c.requires.within c.index-given-k.result (read_among c.index-given-k.result c.args.given.now c.loop-k.k c.loop-k-test.true c.index-given-k.is)

pub loop-k-preserved : goal.loop-k-preserved
loop-k-preserved c =
    let told = has_row c.args.matching.now.pairs c.index-given-k.result c.row_of.result c.is_some.result c.is_some.ensures c.row_of.ensures.found c.row_of.ensures.none in
    elim c.if-is_some-is_matched.branch [
      | then-is_some-is_matched+in_ok-push w ↦
          let same : w.index-given-k-then-is_some-is_matched.result ≡ c.index-given-k.result = read_at w.index-given-k-then-is_some-is_matched.result c.index-given-k.result c.args.given.now c.loop-k.k c.loop-k-test.true w.index-given-k-then-is_some-is_matched.is ∙ sym c.index-given-k.is in
          pushed (λ d. IsTrue c.args.is_matched ↔ Among d (cols_of c.args.matching.now.pairs)) c.args.given.now c.args.columns.now.items c.loop-k.columns.items c.if-is_some-is_matched.columns.items c.loop-k.k c.index-given-k.result c.requires.rising c.loop-k-test.true c.index-given-k.is
          (is_wanted (Among c.index-given-k.result (cols_of c.args.matching.now.pairs)) c.is_some.result c.args.is_matched w.if-is_some-is_matched.true told)
          (items_same w.columns-is ∙ w.in_ok-push.ensures.items ∙ ap (λ (d : ℕ). c.loop-k.columns.items ++ d ∷ []) same) c.loop-k.invariant
      | else-is_some-is_matched w ↦
          passed (λ d. IsTrue c.args.is_matched ↔ Among d (cols_of c.args.matching.now.pairs)) c.args.given.now c.args.columns.now.items c.loop-k.columns.items c.if-is_some-is_matched.columns.items c.loop-k.k c.index-given-k.result c.loop-k-test.true c.index-given-k.is
          (not_wanted (Among c.index-given-k.result (cols_of c.args.matching.now.pairs)) c.is_some.result c.args.is_matched w.if-is_some-is_matched.false told) (items_same w.columns-is) c.loop-k.invariant
    ]

pub returns : goal.returns
returns c = let end = c.loop-k-test.false in all_read (λ d. IsTrue c.args.is_matched ↔ Among d (cols_of c.args.matching.now.pairs)) c.args.given.now c.args.columns.now.items c.loop-k.columns.items c.loop-k.k (omega (arith, end)) c.loop-k.invariant
