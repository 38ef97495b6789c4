use Rattle.std.proofs.Common.{arith}
use lib.Count.{count_trailing_zeros}
use Rattle.mm_reader.proofs.Masks.{mask_digits, short_found}
use Rattle.mm_reader.proofs.lanes.short_number.Goals as goal

pub digits_at_once-requires-clause-digits : goal.digits_at_once-requires-clause-digits
digits_at_once-requires-clause-digits c = (mask_digits c.args.bytes.now c.args.from c.args.mask c.requires.mask c.if-mask-eq0.false).0

pub returns : goal.returns
returns c =
    let d = mask_digits c.args.bytes.now c.args.from c.args.mask c.requires.mask c.if-mask-eq0.false in
    short_found c.args.bytes.now c.args.from (count_trailing_zeros 64 c.args.mask) c.digits_at_once.result d.0 c.digits_at_once.ensures (omega arith) (omega arith) d.1
