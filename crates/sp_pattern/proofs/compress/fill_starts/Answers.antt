use Rattle.std.proofs.Common.{length-append, arith}
use Rattle.sp_pattern.proofs.Orders.{compressed_open}
use Rattle.sp_pattern.proofs.compress.fill_starts.Goals as goal

pub loop-starts-preserved : goal.loop-starts-preserved
loop-starts-preserved c =
    let items = c.in_ok-push.ensures.items in
    let inv = c.loop-starts.invariant in
    record {
      room = rw (items, length-append) (let le = c.loop-starts-test.true in let n = c.len.ensures in let ok = c.loop-starts.starts.ok in omega (arith, le, n, ok));
      compressed = λ ds flat long f. rw items (compressed_open ds c.loop-starts.starts.items flat c.args.end long (inv.compressed ds flat long f));
    }
