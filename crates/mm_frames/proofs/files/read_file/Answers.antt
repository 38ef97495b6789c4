use Rattle.std.proofs.Common.{[], ◌∷◌, ◌++◌, refl, ◌∙◌, arith, length-append}
use Rattle.mm_reader.specs.Fronts.{front}
use Rattle.mm_frames.proofs.StepLaws.{file_short, file_stopped}
use Rattle.mm_frames.proofs.UsedLaws.{asks_then, one_more}
use Rattle.mm_frames.proofs.files.read_file.Goals as goal

pub returns-in-Err-clause-answer : goal.returns-in-Err-clause-answer
returns-in-Err-clause-answer g c line good =
    let i = c.loop-input.invariant in
    file_stopped (front c.args.input.now) (front c.loop-input.input) (front c.next_byte.new.input) (g.S.Source.left c.args.source.now) (g.S.Source.left c.loop-input.source) (g.S.Source.left c.next_byte.new.source)
    (g.S.Source.faults c.args.source.now) (g.S.Source.faults c.loop-input.source) (g.S.Source.faults c.next_byte.new.source) i.steady c.args.before c.args.bytes c.loop-input.file.items line i.used good (omega (arith, c.loop-input-test.true, c.len.ensures, c.loop-input.file.ok.0))
    c.in-Err.error c.stopped.result c.in-Err.ensures.err c.stopped.ensures.same

pub returns-in-Ok-None-clause-answer : goal.returns-in-Ok-None-clause-answer
returns-in-Ok-None-clause-answer g c line good =
    let i = c.loop-input.invariant in
    let o = rw c.in-Ok-None.field-0-is at c.in-Ok-None.ensures.ok in
    let e = c.short_file.ensures in
    rw e
    (file_short (front c.args.input.now) (front c.loop-input.input) (front c.next_byte.new.input) (g.S.Source.left c.args.source.now) (g.S.Source.left c.loop-input.source) (g.S.Source.left c.next_byte.new.source)
    (g.S.Source.faults c.args.source.now) (g.S.Source.faults c.loop-input.source) (g.S.Source.faults c.next_byte.new.source) i.steady c.args.before c.args.bytes c.loop-input.file.items line i.used good (omega (arith, c.loop-input-test.true, c.len.ensures, c.loop-input.file.ok.0)) o)

pub returns-in-Err-push-clause-answer : goal.returns-in-Err-push-clause-answer
returns-in-Err-push-clause-answer g c line good =
    let i = c.loop-input.invariant in
    let b = c.in-Ok-Some in
    let u = rw b.field-0-is at b.ensures.ok in
    record {
      used = c.loop-input.file.items ++ b.byte ∷ [];
      so_far = one_more (front c.args.input.now) (front c.loop-input.input) (front c.next_byte.new.input) (g.S.Source.left c.args.source.now) (g.S.Source.left c.loop-input.source) (g.S.Source.left c.next_byte.new.source)
          (g.S.Source.faults c.loop-input.source) (g.S.Source.faults c.next_byte.new.source) c.loop-input.file.items i.used b.byte u;
      such = tt;
    }

pub loop-input-preserved : goal.loop-input-preserved
loop-input-preserved g c =
    let i = c.loop-input.invariant in
    let b = c.in-Ok-Some in
    let u = rw b.field-0-is at b.ensures.ok in
    let m = one_more (front c.args.input.now) (front c.loop-input.input) (front c.next_byte.new.input) (g.S.Source.left c.args.source.now) (g.S.Source.left c.loop-input.source) (g.S.Source.left c.next_byte.new.source)
    (g.S.Source.faults c.loop-input.source) (g.S.Source.faults c.next_byte.new.source) c.loop-input.file.items i.used b.byte u in
    let n = length-append c.loop-input.file.items (b.byte ∷ []) in
    let e = c.in_default.ensures.items in
    record {
      used = rw e m;
      fits = rw e (omega (arith, n, c.loop-input-test.true, c.len.ensures, c.loop-input.file.ok.0));
      most = b.ensures.most;
      steady = b.ensures.cause.steady ∙ i.steady;
      can = record { good = b.ensures.good.1 refl; at_end = b.ensures.asks.at_end };
      asks = asks_then i.asks b.ensures.asks;
    }
