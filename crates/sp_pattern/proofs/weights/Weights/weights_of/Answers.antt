use Rattle.std.proofs.Common.{arith}
use Rattle.sp_pattern.proofs.Weighed.{start_more, take_within, weight_each}
use Rattle.sp_pattern.proofs.weights.Weights.weights_of.Goals as goal

pub returns-clause-each : goal.returns-clause-each
returns-clause-each c = λ k lt.
    let from = c.span-from.ensures.from in
    let to = c.span-from.ensures.to in
    let within = take_within _ k _ lt in
    let col = rw (← c.self.view_is) at c.requires in
    let more = start_more c.self.inside.pattern.now c.args.col col in
    rw (c.as_slice.ensures.value, from, to, ← c.self.view_is)
    (weight_each (record { matrix = c.self.inside.pattern.now; weights = c.self.inside.weights.items }) c.args.col c.span-from.ensures.rising k (omega (arith, within, from, to, more)))
