use Rattle.std.proofs.Common.{arith}
use Rattle.mm_reader.proofs.Masks.{mask_left}
use Rattle.mm_reader.proofs.lanes.later_non_digits.Goals as goal

pub returns : goal.returns
returns c = mask_left c.args.bytes.now c.args.from c.args.mask c.args.places c.requires.mask (omega arith)
