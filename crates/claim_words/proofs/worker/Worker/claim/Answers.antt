use Rattle.std.proofs.Common.{◌≡◌, ◌∙◌, sym, ap, subst}
use Rattle.claim_words.specs.Seat.{KnowsRow}
use Rattle.claim_words.specs.Stored.{seat_in}
use Rattle.claim_words.specs.WorkerState.{WorkerState}
use Rattle.claim_words.proofs.worker.Worker.claim.Goals as goal

pub returns-clause-known : goal.returns-clause-known
returns-clause-known c =
    let same : c.args.self.now.seat ≡ c.in-Some.seat = sym (ap (λ (w : WorkerState). w.seat) c.self.view_is) ∙ ap seat_in c.in-Some.is in
    λ x knows. c.claim-answer.ensures.known x (subst (λ s. KnowsRow s c.args.row x) same knows)
