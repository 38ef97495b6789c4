use Rattle.std.proofs.Common.{◌≡◌, ◌++◌, ◌∷◌, [], ℕ, length, Some, None, sym, subst, ◌∙◌, arith}
use Rattle.mm_defs.specs.declared.answers.ReadError.{ReadError}
use Rattle.mm_defs.specs.Faults.{first_kind}
use Rattle.mm_defs.specs.Words.{words}
use Rattle.mm_defs.specs.EditLines.{edit_rules}
use Rattle.mm_frames.specs.Stages.{RefusesLast}
use Rattle.mm_frames.proofs.EditLaws.{line_skipped, line_good, line_bad}
use Rattle.mm_frames.proofs.reader.take_line.Goals as goal

pub returns-then-is_skipped-clause-steps : goal.returns-then-is_skipped-clause-steps
returns-then-is_skipped-clause-steps c n bytes l ls r number_is =
    line_skipped c.args.extent.rows c.args.extent.cols c.args.number n bytes c.args.edits.now.items ls r number_is (sym (c.is_skipped.ensures bytes l) ∙ c.if-is_skipped.true)

pub returns-in-Err-clause-steps : goal.returns-in-Err-clause-steps
returns-in-Err-clause-steps c n bytes l ls r number_is =
    let k : c.len.result ≡ length c.args.edits.now.items = omega (arith, c.len.ensures, c.args.edits.now.ok.0) in
    let j = c.in-Err.ensures.judged bytes l in
    subst (λ (e : ReadError). RefusesLast n c.args.extent.rows c.args.extent.cols (ls ++ bytes ∷ []) e) (sym c.answer.ensures)
    (line_bad c.args.extent.rows c.args.extent.cols c.args.number n bytes c.args.edits.now.items ls r number_is (sym (c.is_skipped.ensures bytes l) ∙ c.if-is_skipped.false) c.in-Err.kind
    (subst (λ (x : ℕ). first_kind (edit_rules c.args.extent.rows c.args.extent.cols x (words bytes)) ≡ Some c.in-Err.kind) k j))

pub returns-in-Ok-push-clause-steps : goal.returns-in-Ok-push-clause-steps
returns-in-Ok-push-clause-steps c n bytes l ls r number_is =
    let k : c.len.result ≡ length c.args.edits.now.items = omega (arith, c.len.ensures, c.args.edits.now.ok.0) in
    let j = c.in-Ok.ensures.judged bytes l in
    rw c.in-Ok-push.ensures.items
    (line_good c.args.extent.rows c.args.extent.cols c.args.number n bytes c.args.edits.now.items ls r number_is (sym (c.is_skipped.ensures bytes l) ∙ c.if-is_skipped.false) c.in-Ok.edit
    (subst (λ (x : ℕ). first_kind (edit_rules c.args.extent.rows c.args.extent.cols x (words bytes)) ≡ None) k j.0) j.1)
