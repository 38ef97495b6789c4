use Rattle.std.proofs.Common.{◌≡◌, ◌∙◌, ◌∷◌, ◌++◌, [], ap, arith, sym, ℕ}
use Rattle.bip_defs.specs.Lists.{Among}
use Rattle.bip_defs.specs.Matching.{rows_of}
use Rattle.bip_defs.proofs.Slices.{items_same, read_among, read_at}
use Rattle.blocktri.proofs.PermutedLemmas.{all_read, has_no_col, passed, pushed}
use Rattle.blocktri.proofs.permuted.push_unmatched_rows.Goals as goal
use Rattle.blocktri.proofs.permuted.push_unmatched_rows.Goals.{then-is_none+in_ok-push, else-is_none}

pub col_of-requires : goal.col_of-requires
col_of-requires c = c.requires.within c.index-given-k.result (read_among c.index-given-k.result c.args.given.now c.loop-k.k c.loop-k-test.true c.index-given-k.is)

pub loop-k-preserved : goal.loop-k-preserved
loop-k-preserved c =
    let told = has_no_col c.args.matching.now.pairs c.index-given-k.result c.col_of.result c.is_none.result c.is_none.ensures c.col_of.ensures.found c.col_of.ensures.none in
    elim c.if-is_none.branch [
      | then-is_none+in_ok-push w ↦
          let same : w.index-given-k-then-is_none.result ≡ c.index-given-k.result = read_at w.index-given-k-then-is_none.result c.index-given-k.result c.args.given.now c.loop-k.k c.loop-k-test.true w.index-given-k-then-is_none.is ∙ sym c.index-given-k.is in
          pushed (λ r. ¬ Among r (rows_of c.args.matching.now.pairs)) c.args.given.now c.args.rows.now.items c.loop-k.rows.items c.if-is_none.rows.items c.loop-k.k c.index-given-k.result c.requires.rising c.loop-k-test.true c.index-given-k.is
          (told.0 w.if-is_none.true) (items_same w.rows-is ∙ w.in_ok-push.ensures.items ∙ ap (λ (r : ℕ). c.loop-k.rows.items ++ r ∷ []) same) c.loop-k.invariant
      | else-is_none w ↦
          passed (λ r. ¬ Among r (rows_of c.args.matching.now.pairs)) c.args.given.now c.args.rows.now.items c.loop-k.rows.items c.if-is_none.rows.items c.loop-k.k c.index-given-k.result c.loop-k-test.true c.index-given-k.is
          (λ out. out (told.1 w.if-is_none.false)) (items_same w.rows-is) c.loop-k.invariant
    ]

pub returns : goal.returns
returns c = let end = c.loop-k-test.false in all_read (λ r. ¬ Among r (rows_of c.args.matching.now.pairs)) c.args.given.now c.args.rows.now.items c.loop-k.rows.items c.loop-k.k (omega (arith, end)) c.loop-k.invariant
