use Rattle.std.proofs.Common.{arith}
use Rattle.mm_reader.proofs.Masks.{compared}
use Rattle.mm_reader.proofs.lanes.non_digits.Goals as goal

pub returns : goal.returns
returns c = record {
  count = 16;
  few = omega arith;
  within = c.requires;
  mask_is = compared c.args.bytes.now c.args.from c.type_inv.bytes c.requires;
}
