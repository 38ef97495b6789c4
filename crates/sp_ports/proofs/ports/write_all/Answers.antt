use Rattle.std.proofs.Common.{◌++◌, ◌∙◌, List, ℕ, append_assoc, ap, refl, sym}
use Rattle.sp_ports.proofs.InTurn.{split_at, took_both}
use Rattle.sp_ports.proofs.ports.write_all.Goals as goal

pub loop-rest-preserved : goal.loop-rest-preserved
loop-rest-preserved g c =
    let (prefix, is, took) = c.loop-rest.invariant in
    let wrote = c.in_ok-count.ensures in (
      _,
      is ∙ ap (λ (r : List ℕ). prefix ++ r) (split_at c.in_ok-count.count c.loop-rest.rest.now) ∙ sym (append_assoc prefix _ _),
      took_both _ _ _ _ (refl, refl) took (record { bytes = wrote.bytes; steady = wrote.cause.steady }),
    )
