use Rattle.std.proofs.Common.{◌∙◌, ℕ, List, arith, length, refl, subst}
use Rattle.std.proofs.lemmas.List.{map-id}
use Rattle.bip_defs.specs.Lists.{Among}
use Rattle.blocktri.specs.OuterComponents.{IsWrittenAt, rows_of_block}
use Rattle.blocktri.proofs.ComponentLemmas.{numbered_more}
use Rattle.blocktri.proofs.component_numbers.write_row_numbers.Goals as goal

pub write_number-requires : goal.write_number-requires
write_number-requires c = λ x h.
    let lt = c.loop-block-test.true in
    let end = c.len-block-end.ensures in
    let below = c.requires.rows.below c.loop-block.block x (omega (arith, lt, end)) (subst (λ (xs : List ℕ). Among x xs) (map-id c.rows.result.now ∙ c.rows.ensures) h) in
    let long = c.loop-block.invariant.long in
    omega (arith, below, long)

pub loop-block-preserved : goal.loop-block-preserved
loop-block-preserved c =
    let lt = c.loop-block-test.true in
    let end = c.len-block-end.ensures in
    let k = c.loop-block.block in
    numbered_more rows_of_block k (length c.args.rows.now) k c.args.blocks.now c.args.rows.now c.loop-block.rows c.write_number.new.out (omega (arith, lt, end)) c.requires.rows refl c.loop-block.invariant
    (subst (λ (xs : List ℕ). IsWrittenAt xs k c.loop-block.rows c.write_number.new.out) (map-id c.rows.result.now ∙ c.rows.ensures) c.write_number.ensures)
