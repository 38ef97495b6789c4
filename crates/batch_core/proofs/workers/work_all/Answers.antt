use Rattle.std.proofs.Common.{rules, ◌≡◌, ◌∙◌, ◌<◌, ℕ, length, get_or, ap, sym}
use Rattle.batch_core.specs.Shares.{Share}
use Rattle.batch_core.proofs.WorkerLemmas.{files_stay}
use Rattle.batch_core.proofs.workers.work_all.Goals as goal

pub returns : goal.returns
returns g c =
    let same : length c.for_each_mut.new.s ≡ length c.args.shares.now = search rules in
    let each : (i : ℕ) (d : Share) → i < length c.args.shares.now → (get_or c.for_each_mut.new.s i d).files ≡ (get_or c.args.shares.now i d).files =
    λ i d lt. let w = (c.for_each_mut.ensures i d lt).1 in ap (λ (s : Share). s.files) (sym w.left) ∙ w.call ∙ ap (λ (s : Share). s.files) w.argument_is in
    files_stay c.args.shares.now c.for_each_mut.new.s same each
