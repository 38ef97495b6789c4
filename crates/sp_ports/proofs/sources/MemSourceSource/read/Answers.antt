use Rattle.std.proofs.Common.{arith, ◌≤◌, ◌+◌, refl}
use Rattle.std.proofs.lemmas.Grind.{common_steps}
use Rattle.sp_ports.specs.Kept.{still_to_fail}
use Rattle.sp_ports.specs.InMemory.{number_after}
use Rattle.sp_ports.proofs.Listed.{fewer_or_same_after, fewer_after}
use Rattle.sp_ports.proofs.sources.MemSourceSource.read.Goals as goal

pub invariant_of-self : goal.invariant_of-self
invariant_of-self c =
    let listed = c.if-fails_next.ensures in
    let fewer : still_to_fail c.self.inside.calls.failing (number_after c.self.inside.calls.next) + 1
    ≤ still_to_fail c.self.inside.calls.failing c.self.inside.calls.next
    = fewer_after c.self.inside.calls.failing c.self.inside.calls.next (listed.range refl) (listed.fails.0 refl) in
    record {
      at = c.self.invariant.at;
      piece = c.self.invariant.piece;
      few = rw c.fails_next.ensures.next c.self.invariant.few;
      failed = rw c.fails_next.ensures.next (omega (arith, fewer, c.self.invariant.failed));
    }

pub invariant_of-self-2 : goal.invariant_of-self-2
invariant_of-self-2 c =
    let fewer : still_to_fail c.self.inside.calls.failing (number_after c.self.inside.calls.next)
    ≤ still_to_fail c.self.inside.calls.failing c.self.inside.calls.next
    = fewer_or_same_after c.self.inside.calls.failing c.self.inside.calls.next in
    record {
      at = grind (arith, common_steps, c.give-count.ensures.count, c.as_slice.ensures.value, c.self.invariant.at);
      piece = c.self.invariant.piece;
      few = rw c.fails_next.ensures.next c.self.invariant.few;
      failed = rw c.fails_next.ensures.next (omega (arith, fewer, c.self.invariant.failed));
    }
