use Rattle.std.proofs.Common.{◌++◌, ◌∷◌, [], false}
use Rattle.mm_reader.specs.Machine.{StopsAt}
use Rattle.mm_defs.specs.Words.{lines, open_line}
use Rattle.mm_reader.specs.Stages.{IsBetween, IsAfter, StopsIn}
use Rattle.mm_reader.proofs.AfterLaws.{map_result, lf_comes, lf_stops, byte_comes}
use Rattle.mm_reader.proofs.machine.take.Goals as goal

pub returns-then-byte-eq10-clause-steps : goal.returns-then-byte-eq10-clause-steps
returns-then-byte-eq10-clause-steps c end bytes h out =
    map_result (λ _. IsBetween end c.end_line.new.m (lines false bytes ++ open_line bytes ∷ [])) (λ _. IsAfter end c.end_line.new.m (bytes ++ c.args.byte ∷ []))
    (StopsAt end (lines false bytes ++ open_line bytes ∷ [])) (StopsIn end (bytes ++ c.args.byte ∷ [])) c.end_line.result
    (λ _ k. lf_comes end c.end_line.new.m bytes c.args.byte c.if-byte-eq10.true k)
    (λ stop k. lf_stops end bytes c.args.byte stop c.if-byte-eq10.true k)
    (c.end_line.ensures.steps end (lines false bytes) (open_line bytes) (record { lines_are = h.lines_are; number_is = h.number_is; open_is = h.open_is }) out)

pub returns-clause-steps : goal.returns-clause-steps
returns-clause-steps c end bytes h out = byte_comes end c.args.m.now c.push.new.self bytes c.args.byte c.if-byte-eq10.false h (c.push.ensures (open_line bytes) h.open_is)
