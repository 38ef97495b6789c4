use Rattle.std.proofs.Common.{rules, ◌+◌, ◌/◌, length, sym, ap}
use Rattle.level_sharing.specs.Each.{AreReady, HaveWorked}
use Rattle.level_sharing.proofs.EachLemmas.{ready_back, ready_front, worked_halves}
use Rattle.level_sharing.proofs.work.+fn-work_from-join_mut+arg2+fn-work_from-join_mut+arg3+work_from.Goals as goal

pub returns-clause-always : goal.returns-clause-always
returns-clause-always g t c =
    let h = c.split_at_mut-prefix.ensures in
    let low : HaveWorked (g.W.Work.leaves c.args.work.now) (g.W.Work.completes c.args.work.now) c.args.first c.split_at_mut-prefix.result.0.now c.prefix-1.given.0 c.join_mut-low.result.0 = search rules in
    let high : HaveWorked (g.W.Work.leaves c.args.work.now) (g.W.Work.completes c.args.work.now) (c.args.first + length c.args.workers.now / 2) c.split_at_mut-prefix.result.1.now c.suffix-1.given.0 c.join_mut-low.result.1 = search rules in
    (worked_halves _ _ _ _ _ _ _ _ _ _ _ _ h.value (ap (λ k. c.args.first + k) (sym h.front_len)) low high c.first_fault.ensures).always

pub returns-clause-ok : goal.returns-clause-ok
returns-clause-ok g t c =
    let h = c.split_at_mut-prefix.ensures in
    let low : HaveWorked (g.W.Work.leaves c.args.work.now) (g.W.Work.completes c.args.work.now) c.args.first c.split_at_mut-prefix.result.0.now c.prefix-1.given.0 c.join_mut-low.result.0 = search rules in
    let high : HaveWorked (g.W.Work.leaves c.args.work.now) (g.W.Work.completes c.args.work.now) (c.args.first + length c.args.workers.now / 2) c.split_at_mut-prefix.result.1.now c.suffix-1.given.0 c.join_mut-low.result.1 = search rules in
    (worked_halves _ _ _ _ _ _ _ _ _ _ _ _ h.value (ap (λ k. c.args.first + k) (sym h.front_len)) low high c.first_fault.ensures).ok

pub join_mut-low-requires-after_bounds : goal.join_mut-low-requires-after_bounds
join_mut-low-requires-after_bounds g t c κs within =
    let h = c.split_at_mut-prefix.ensures in
    let begin = g.W.Work.can_begin c.args.work.now in
    let low : AreReady begin c.args.first c.split_at_mut-prefix.result.0.now = ready_front begin c.args.first _ _ c.args.workers.now h.value c.requires in
    let high : AreReady begin (c.args.first + length c.args.workers.now / 2) c.split_at_mut-prefix.result.1.now = ready_back begin c.args.first _ _ _ c.args.workers.now h.value (ap (λ k. c.args.first + k) (sym h.front_len)) c.requires in
    search (rules, low, high)
