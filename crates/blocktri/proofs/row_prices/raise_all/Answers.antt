use Rattle.std.proofs.Common.{◌∙◌, ◌+◌, FitsSigned, IsTrue, ap, arith, length, of_z, refl, rules, slice_index, subst, sym, to_z, true≢false}
use Rattle.std.proofs.lemmas.Int.{to_z-of_z}
use Rattle.std.specs.Int.{w128}
use Rattle.bip_defs.proofs.Sets.{among_at, entry_col}
use Rattle.bip_defs.proofs.Slices.{read_among, read_at}
use Rattle.blocktri.specs.RowPrices.{AreEnough, gap}
use Rattle.blocktri.proofs.PriceLemmas.{asked_by, enough_more, gap_kept, low_more, none_past}
use Rattle.blocktri.proofs.row_prices.raise_all.Goals.{then-raised, else-raised}
use Rattle.blocktri.proofs.row_prices.raise_all.Goals as goal

pub base_of-base-requires-clause-entry : goal.base_of-base-requires-clause-entry
base_of-base-requires-clause-entry c =
    let p = c.index-pairs-k.result in
    let pair = read_among p c.args.pairs.now c.loop-k.k c.loop-k-test.true c.index-pairs-k.is in
    c.requires.diagonal.full.matching.entries p.0 p.1 pair

pub base_of-base-requires-clause-low : goal.base_of-base-requires-clause-low
base_of-base-requires-clause-low c =
    let p = c.index-pairs-k.result in
    c.loop-k.invariant.low.columns p.0 p.1 (read_among p c.args.pairs.now c.loop-k.k c.loop-k-test.true c.index-pairs-k.is)

pub rows_of-requires : goal.rows_of-requires
rows_of-requires c =
    let p = c.index-pairs-k.result in
    let pair = read_among p c.args.pairs.now c.loop-k.k c.loop-k-test.true c.index-pairs-k.is in
    entry_col c.args.weights.now.matrix p.0 p.1 (c.requires.diagonal.full.matching.entries p.0 p.1 pair)

pub weights_of-requires : goal.weights_of-requires
weights_of-requires c =
    let p = c.index-pairs-k.result in
    let pair = read_among p c.args.pairs.now c.loop-k.k c.loop-k-test.true c.index-pairs-k.is in
    entry_col c.args.weights.now.matrix p.0 p.1 (c.requires.diagonal.full.matching.entries p.0 p.1 pair)

pub raise_rows-requires-clause-inside : goal.raise_rows-requires-clause-inside
raise_rows-requires-clause-inside c i lt =
    let rows = c.rows_of.result.now in
    let few = (c.rows_of.ensures.rows.sound (slice_index rows i) (among_at rows i 0 lt)).0 in
    let long = c.loop-k.invariant.low.long in
    omega (arith, few, long)

pub returns-in-None-clause-none : goal.returns-in-None-clause-none
returns-in-None-clause-none c = λ x y fair nx ny.
    let p = c.index-pairs-k.result in
    let w = c.args.weights.now in
    let pairs = c.args.pairs.now in
    let pair = read_among p pairs c.loop-k.k c.loop-k-test.true c.index-pairs-k.is in
    let fits : FitsSigned w128 c.base_of-base.result = search rules in
    let same = to_z-of_z w128 c.base_of-base.result fits in
    let base = to_z w128 (of_z w128 c.base_of-base.result) in
    let asked = asked_by w c.args.weights.now.matrix c.loop-k.u.items p c.rows_of.result.now c.weights_of.result.now base refl (c.requires.diagonal.full.matching.entries p.0 p.1 pair)
    c.rows_of.ensures.rows c.rows_of.ensures.column c.weights_of.ensures.length c.weights_of.ensures.each (same ∙ c.base_of-base.ensures.base) in
    let (i, lt, past) = c.in-None.ensures.past in
    none_past w pairs c.loop-k.u.items x y p c.rows_of.result.now c.weights_of.result.now base i c.loop-k.invariant.low fair nx ny pair asked lt past

pub loop-k-preserved : goal.loop-k-preserved
loop-k-preserved c =
    let p = c.index-pairs-k.result in
    let w = c.args.weights.now in
    let pairs = c.args.pairs.now in
    let u = c.loop-k.u.items in
    let rows = c.rows_of.result.now in
    let weights = c.weights_of.result.now in
    let fits : FitsSigned w128 c.base_of-base.result = search rules in
    let same = to_z-of_z w128 c.base_of-base.result fits in
    let base = to_z w128 (of_z w128 c.base_of-base.result) in
    let pair = read_among p pairs c.loop-k.k c.loop-k-test.true c.index-pairs-k.is in
    let asked = asked_by w c.args.weights.now.matrix u p rows weights base refl (c.requires.diagonal.full.matching.entries p.0 p.1 pair)
    c.rows_of.ensures.rows c.rows_of.ensures.column c.weights_of.ensures.length c.weights_of.ensures.each (same ∙ c.base_of-base.ensures.base) in
    let new = c.raise_rows.new.u.items in
    let told = c.in-Some.ensures.raised in
    let lower = low_more w pairs u new p rows weights base c.loop-k.invariant.low told.prices pair asked in
    elim c.if-raised.branch [
      | then-raised b ↦ record {
        low = lower;
        nearer = λ h. let less = c.loop-k.invariant.nearer b.if-raised.true in let kept = gap_kept c.in-Some.more u new told.nearer told.same in omega (arith, less, kept);
        same = λ rest. absurd (rest (b.raised-is ∙ b.if-raised.true));
        enough = λ rest. absurd (rest (b.raised-is ∙ b.if-raised.true));
      }
      | else-raised b ↦
          let before : ¬ IsTrue c.loop-k.raised = λ e. true≢false (sym e ∙ b.if-raised.false) in
          let was = c.loop-k.invariant.same before in
          record {
            low = lower;
            nearer = λ h. let less = told.nearer (sym b.raised-is ∙ h) in let e = ap gap was in omega (arith, less, e);
            same = λ rest. told.same (λ h. rest (b.raised-is ∙ h)) ∙ was;
            enough = λ rest. subst (AreEnough w pairs (c.loop-k.k + 1)) was (enough_more w pairs c.loop-k.k p u rows weights base (read_at p (0, 0) pairs c.loop-k.k c.loop-k-test.true c.index-pairs-k.is) asked (told.met (λ h. rest (b.raised-is ∙ h))) (subst (AreEnough w pairs c.loop-k.k) (sym was) (c.loop-k.invariant.enough before)));
          }
    ]

pub returns-clause-enough : goal.returns-clause-enough
returns-clause-enough c = λ rest.
    let i = c.loop-k.invariant in
    let end = c.loop-k-test.false in
    subst (AreEnough c.args.weights.now c.args.pairs.now (length c.args.pairs.now)) (sym (i.same rest)) (λ j r lt e. i.enough rest j r (omega (arith, lt, end)) e)
