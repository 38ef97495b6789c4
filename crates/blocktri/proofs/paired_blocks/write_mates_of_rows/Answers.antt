use Rattle.std.proofs.Common.{◌≡◌, ◌∙◌, ◌<◌, ℕ, arith, get_or, length, length-set, refl, subst, sym}
use Rattle.std.proofs.lemmas.List.{get_or_read_under}
use Rattle.bip_defs.specs.Lists.{Among}
use Rattle.bip_defs.specs.Matching.{rows_of}
use Rattle.bip_defs.specs.Matrix.{Place}
use Rattle.bip_defs.proofs.Sets.{among_at}
use Rattle.blocktri.proofs.PairedLemmas.{col_more}
use Rattle.blocktri.proofs.paired_blocks.write_mates_of_rows.Goals as goal

pub mate_of_row-requires : goal.mate_of_row-requires
mate_of_row-requires c =
    let rows = c.args.rows.now in
    let k = c.loop-k.k in
    let lt : k < length rows = omega arith in
    subst (λ (x : ℕ). Among x (rows_of c.args.full.now.pairs)) (sym (get_or_read_under rows k (length rows) c.index-rows-k.result 0 c.index-rows-k.is lt refl)) (c.requires.matched _ (among_at rows k 0 lt))

pub loop-k-preserved : goal.loop-k-preserved
loop-k-preserved c =
    let rows = c.args.rows.now in
    let k = c.loop-k.k in
    let lt : k < length rows = omega arith in
    let read : c.index-rows-k.result ≡ get_or rows k 0 = get_or_read_under rows k (length rows) c.index-rows-k.result 0 c.index-rows-k.is lt refl in
    record {
      long = length-set c.loop-k.column_order k c.mate_of_row.result ∙ c.loop-k.invariant.long;
      mates = col_more c.args.full.now.pairs rows c.loop-k.column_order k c.mate_of_row.result (omega arith) (subst (λ (x : ℕ). Among {X = Place} (x, c.mate_of_row.result) c.args.full.now.pairs) read c.mate_of_row.ensures) c.loop-k.invariant.mates;
    }
