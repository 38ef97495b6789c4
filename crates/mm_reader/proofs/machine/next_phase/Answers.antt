use Rattle.std.proofs.Common.{◌≡◌, []}
use Rattle.std.proofs.lemmas.Result.{err_from_is_err_and}
use Rattle.mm_reader.proofs.machine.next_phase.Goals as goal

pub returns-in-Banner-clause-steps : goal.returns-in-Banner-clause-steps
returns-in-Banner-clause-steps c end ls bytes l h n out =
    let none : ls ≡ [] = rw c.in-Banner.is at h.phase_is in
    rw none (c.after_banner.ensures.steps end bytes c.args.triples.now l)

pub returns-in_err-at-in-Entries-clause-steps : goal.returns-in_err-at-in-Entries-clause-steps
returns-in_err-at-in-Entries-clause-steps c end ls bytes l h n out =
    let has = rw c.in-Entries.is at h in
    let open_is = rw c.in-Entries.is at out in
    let e = err_from_is_err_and c.from_residual.result c.from_residual.ensures.1 in
    rw (e.1, e.2) (c.in_err-at-in-Entries.ensures.steps end bytes l open_is ls has.phase_is.0 has.phase_is.1 has.good n)

pub returns-in_ok-at-in-Entries-clause-steps : goal.returns-in_ok-at-in-Entries-clause-steps
returns-in_ok-at-in-Entries-clause-steps c end ls bytes l h n out =
    let has = rw c.in-Entries.is at h in
    let open_is = rw c.in-Entries.is at out in
    c.in_ok-at-in-Entries.ensures.steps end bytes l open_is ls has.phase_is.0 has.phase_is.1 has.good n
