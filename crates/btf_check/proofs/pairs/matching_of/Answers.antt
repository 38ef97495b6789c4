use Rattle.std.proofs.Common.{◌∙◌, rules, sym, arith, true≢false}
use Rattle.bip_defs.specs.Lists.{Among}
use Rattle.bip_defs.specs.Matching.{rows_of}
use Rattle.bip_defs.specs.Matrix.{Place}
use Rattle.btf_check.proofs.PairLemmas.{column_free, no_entry, pairing_end, pairing_more, row_taken}
use Rattle.btf_check.proofs.pairs.matching_of.Goals as goal
use Rattle.btf_check.proofs.pairs.matching_of.Goals.{then-not-has-via-then-not-has, then-not-has-via-else-not-has+then-is_some}
use Rattle.bip_defs.proofs.Results.{some_found}

pub returns-then-not-has-clause-unpaired : goal.returns-then-not-has-clause-unpaired
returns-then-not-has-clause-unpaired c =
    elim c.then-not-has.branch [
      | then-not-has-via-then-not-has w ↦ no_entry c.args.pattern.now c.args.pairs.now c.loop-pair.pair-index c.pair-item.result c.pair-item.result.0 c.pair-item.result.1 c.loop-pair-test.true (sym c.pair-item.is) (λ h. true≢false (sym (c.has.ensures.1 h) ∙ w.if-not-has.true))
      | then-not-has-via-else-not-has+then-is_some w ↦
          let (s, h) = some_found (λ col. Among {X = Place} (c.pair-item.result.0, col) c.loop-pair.matching.pairs) w.col_of.result (sym w.is_some.ensures ∙ w.if-is_some.true) w.col_of.ensures.found in
          row_taken c.args.pattern.now c.args.pairs.now c.loop-pair.pair-index c.pair-item.result c.loop-pair.matching c.pair-item.result.0 c.pair-item.result.1 s c.loop-pair-test.true (sym c.pair-item.is) h c.loop-pair.invariant
    ]

pub pair-requires-clause-col_free : goal.pair-requires-clause-col_free
pair-requires-clause-col_free c = column_free c.args.pattern.now c.args.pairs.now c.loop-pair.pair-index c.pair-item.result c.loop-pair.matching c.pair-item.result.0 c.pair-item.result.1 c.requires.rising c.loop-pair-test.true (sym c.pair-item.is) c.loop-pair.invariant

pub loop-pair-preserved : goal.loop-pair-preserved
loop-pair-preserved c =
    let free : ¬ Among c.pair-item.result.0 (rows_of c.loop-pair.matching.pairs) = search rules in
    pairing_more c.args.pattern.now c.args.pairs.now c.loop-pair.pair-index c.pair-item.result c.loop-pair.matching c.pair.new.self c.pair-item.result.0 c.pair-item.result.1 c.loop-pair-test.true (sym c.pair-item.is) (c.has.ensures.0 c.if-not-has.false) free c.pair.ensures.added c.pair.ensures.sizes c.loop-pair.invariant

pub returns-clause-pairs : goal.returns-clause-pairs
returns-clause-pairs c = (pairing_end c.args.pattern.now c.args.pairs.now c.loop-pair.pair-index c.loop-pair.matching (omega (arith, c.loop-pair.auto.pair-index-end, c.loop-pair-test.false)) c.requires.rising c.is_matching.ensures.cols_rise c.loop-pair.invariant).0
