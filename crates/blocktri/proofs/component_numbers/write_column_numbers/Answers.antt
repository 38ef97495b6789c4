use Rattle.std.proofs.Common.{◌∙◌, ℕ, List, arith, length, refl, subst}
use Rattle.std.proofs.lemmas.List.{map-id}
use Rattle.bip_defs.specs.Lists.{Among}
use Rattle.blocktri.specs.OuterComponents.{IsWrittenAt, cols_of_block}
use Rattle.blocktri.proofs.ComponentLemmas.{numbered_more}
use Rattle.blocktri.proofs.component_numbers.write_column_numbers.Goals as goal

pub write_number-requires : goal.write_number-requires
write_number-requires c = λ x h.
    let lt = c.loop-block-test.true in
    let end = c.len-block-end.ensures in
    let below = c.requires.columns.below c.loop-block.block x (omega (arith, lt, end)) (subst (λ (xs : List ℕ). Among x xs) (map-id c.cols.result.now ∙ c.cols.ensures) h) in
    let long = c.loop-block.invariant.long in
    omega (arith, below, long)

pub loop-block-preserved : goal.loop-block-preserved
loop-block-preserved c =
    let lt = c.loop-block-test.true in
    let end = c.len-block-end.ensures in
    let k = c.loop-block.block in
    numbered_more cols_of_block k (length c.args.columns.now) k c.args.blocks.now c.args.columns.now c.loop-block.columns c.write_number.new.out (omega (arith, lt, end)) c.requires.columns refl c.loop-block.invariant
    (subst (λ (xs : List ℕ). IsWrittenAt xs k c.loop-block.columns c.write_number.new.out) (map-id c.cols.result.now ∙ c.cols.ensures) c.write_number.ensures)
