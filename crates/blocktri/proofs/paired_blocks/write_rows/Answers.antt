use Rattle.std.proofs.Common.{◌∙◌, arith}
use Rattle.std.proofs.lemmas.List.{length-map, map-id}
use Rattle.blocktri.proofs.PermutedLemmas.{put_whole}
use Rattle.blocktri.proofs.paired_blocks.write_rows.Goals as goal

pub write_at-requires : goal.write_at-requires
write_at-requires c = let room = c.requires in let some = c.if-row_order-ne0.true in omega (arith, room, some)

pub returns-then-row_order-ne0 : goal.returns-then-row_order-ne0
returns-then-row_order-ne0 c = record {
  long = c.write_at.ensures.long;
  holds = λ some. let room = c.requires in put_whole c.args.rows.now c.args.row_order.now c.write_at.new.out (omega (arith, room, some)) (rw map-id at c.write_at.ensures);
}
