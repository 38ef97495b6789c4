use Rattle.std.proofs.Common.{◌≡◌, ◌++◌, ◌∷◌, [], true, false, sym, ◌∙◌}
use Rattle.std.proofs.lemmas.Result.{err_from_is_err_and}
use Rattle.mm_defs.specs.File.{Reads}
use Rattle.mm_defs.specs.Words.{lines, open_line, has_bytes}
use Rattle.mm_reader.specs.Stages.{IsAll, Lacks, StopsAtEnd}
use Rattle.mm_reader.proofs.AfterLaws.{map_result}
use Rattle.mm_reader.proofs.EndLaws.{whole_begun, whole_closed, stop_begun, lacks_begun, lacks_closed}
use Rattle.mm_reader.proofs.machine.finish.Goals as goal

pub returns-then-not-m-clause-steps : goal.returns-then-not-m-clause-steps
returns-then-not-m-clause-steps c end bytes h out =
    let closed : has_bytes (open_line bytes) ≡ false = sym h.begun_is ∙ c.if-not-m.true in
    map_result (λ _. IsAll end c.args.m.now.phase c.args.m.now.triples (lines false bytes)) (λ _. Reads bytes end c.args.m.now.triples [])
    (Lacks end (lines false bytes)) (StopsAtEnd end bytes) c.missing.result
    (λ _ k. whole_closed end bytes c.args.m.now.phase c.args.m.now.triples closed out k)
    (λ stop k. lacks_closed end bytes stop closed k)
    (c.missing.ensures.steps end c.args.m.now.triples (lines false bytes) h.lines_are h.number_is)

pub returns-in_err-end_line-clause-steps : goal.returns-in_err-end_line-clause-steps
returns-in_err-end_line-clause-steps c end bytes h out =
    let begun : has_bytes (open_line bytes) ≡ true = sym h.begun_is ∙ c.if-not-m.false in
    let p = err_from_is_err_and c.from_residual.result c.from_residual.ensures.1 in
    rw (p.1, p.2)
    (stop_begun end bytes c.in_err-end_line.field-0.0 begun (c.in_err-end_line.ensures.steps end (lines false bytes) (open_line bytes) (record { lines_are = h.lines_are; number_is = h.number_is; open_is = h.open_is }) out))

pub returns-clause-steps : goal.returns-clause-steps
returns-clause-steps c end bytes h out =
    let begun : has_bytes (open_line bytes) ≡ true = sym h.begun_is ∙ c.if-not-m.false in
    let b = c.in_ok-end_line.ensures.steps end (lines false bytes) (open_line bytes) (record { lines_are = h.lines_are; number_is = h.number_is; open_is = h.open_is }) out in
    map_result (λ _. IsAll end c.end_line.new.m.phase c.end_line.new.m.triples (lines false bytes ++ open_line bytes ∷ [])) (λ _. Reads bytes end c.end_line.new.m.triples [])
    (Lacks end (lines false bytes ++ open_line bytes ∷ [])) (StopsAtEnd end bytes) c.missing-2.result
    (λ _ k. whole_begun end bytes c.end_line.new.m.phase c.end_line.new.m.triples begun k)
    (λ stop k. lacks_begun end bytes stop begun k)
    (c.missing-2.ensures.steps end c.end_line.new.m.triples (lines false bytes ++ open_line bytes ∷ []) b.lines_are b.number_is)
