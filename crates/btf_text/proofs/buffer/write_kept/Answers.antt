use Rattle.std.proofs.Common.{refl}
use Rattle.btf_text.proofs.BufferLaws.{failed_before, prefix_passed, handed_on}
use Rattle.btf_text.proofs.buffer.write_kept.Goals as goal

pub returns-then-failed : goal.returns-then-failed
returns-then-failed g c taken faults text p = failed_before _ text _ _ c.if-failed.true p

pub returns-in-Ok : goal.returns-in-Ok
returns-in-Ok g c taken faults text p =
    handed_on text _ _ c.if-failed.false
    (λ piece took. c.taken_in_turn.ensures.both _ _ piece _ (refl, refl) took c.in-Ok.ensures) p

pub returns-in-Err : goal.returns-in-Err
returns-in-Err g c taken faults text p =
    prefix_passed text _ _ c.if-failed.false
    (λ piece took. c.taken_in_turn.ensures.prefix _ _ piece _ (refl, refl) took c.in-Err.ensures) p
