use Rattle.std.proofs.Common.{◌≡◌, ℕ, List, Option, Some, None, refl, rules, subst}
use Rattle.std.specs.Prelude.{IfNone, IfSome}
use Rattle.std.proofs.lemmas.Result.{IfOk-weaker}
use Rattle.bip_graph.specs.Texts.{report_text}
use Rattle.report_reader.specs.Readable.{IsReadable}
use Rattle.report_reader.specs.ReportRead.{contents}
use Rattle.report_reader.specs.declared.reader.Report.{Report}
use Rattle.btf_check.specs.Verdicts.{IsJudged, IsVerdict}
use Rattle.btf_check.proofs.Verdicts.{judged, no_report, rising_pairs}
use Rattle.btf_check.proofs.report.judge.Goals as goal

-- what holds of a report where one is read, and of the bytes where none is
read : (bytes : List ℕ) (o : Option Report) (r : Report) → o ≡ Some r → IfSome o (λ s. IsReadable (contents s) × (bytes ≡ report_text (contents s))) → IsReadable (contents r) × (bytes ≡ report_text (contents r))
read bytes o r e h = subst (λ (z : Option Report). IfSome z (λ s. IsReadable (contents s) × (bytes ≡ report_text (contents s)))) e h

unread : (P : Type 0) (o : Option Report) → o ≡ None → IfNone o P → P
unread P o e h = subst (λ (z : Option Report). IfNone z P) e h

pub judge_report-requires : goal.judge_report-requires
judge_report-requires g c = (search rules, rising_pairs (contents c.in-Some.report) c.in-Some.report.pairs.items refl (read c.args.bytes.now c.in_ok-report.field-0 c.in-Some.report c.in-Some.is c.in_ok-report.ensures.found).0)

pub returns-in-Some : goal.returns-in-Some
returns-in-Some g c =
    let both = read c.args.bytes.now c.in_ok-report.field-0 c.in-Some.report c.in-Some.is c.in_ok-report.ensures.found in
    IfOk-weaker c.judge_report.result (IsJudged c.args.pattern.now (contents c.in-Some.report)) (IsVerdict c.args.pattern.now c.args.bytes.now) (λ v is. judged c.one_spelling.ensures c.args.pattern.now c.args.bytes.now (contents c.in-Some.report) v both.0 both.1 is) c.judge_report.ensures

pub returns-in-None : goal.returns-in-None
returns-in-None g c = no_report c.args.pattern.now c.args.bytes.now (unread _ c.in_ok-report.field-0 c.in-None.is c.in_ok-report.ensures.none)
