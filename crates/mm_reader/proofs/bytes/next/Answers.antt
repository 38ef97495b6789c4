use Rattle.std.proofs.Common.{◌≡◌, true}
use Rattle.sp_ports.specs.Device.{seen}
use Rattle.mm_reader.specs.Windows.{ahead_of}
use Rattle.mm_reader.proofs.FrontLaws.{over, empty_ahead, end_shown}
use Rattle.mm_reader.proofs.bytes.next.Goals as goal

pub returns-in-Ok-eq0-clause-ok : goal.returns-in-Ok-eq0-clause-ok
returns-in-Ok-eq0-clause-ok g c =
    let r = c.in-Ok-eq0.ensures in
    let t : c.refill.new.window.at_end ≡ true = end_shown c.refill.new.window.at_end c.in-Ok-eq0.field-0 r.ok.some c.in-Ok-eq0.field-0-test in
    over c.args.window.now c.refill.new.window (seen g.S.Source.left g.S.Source.faults c.args.source.now c.refill.new.source) t c.requires.can.window c.if-window.false
    (empty_ahead (ahead_of c.refill.new.window) c.in-Ok-eq0.field-0 r.ok.count_is c.in-Ok-eq0.field-0-test) r.ok.bytes (r.ok.end t) r.room r.lines r.cause.steady
