use Rattle.std.proofs.Common.{subst}
use Rattle.report_reader.specs.declared.stop.Stop.{Stop}
use Rattle.report_reader.specs.ReportGrammar.{Stops, report_at}
use Rattle.report_reader.specs.ReportRead.{contents}
use Rattle.report_reader.proofs.Reports.{read_not_none, report_takes}
use Rattle.report_reader.proofs.reader.read_report.Goals as goal

pub returns-in-Ok-clause-found : goal.returns-in-Ok-clause-found
returns-in-Ok-clause-found c = report_takes c.args.bytes.now (contents c.in-Ok.report) c.in-Ok.ensures.gives

pub returns-in-Err-Other-clause-none : goal.returns-in-Err-Other-clause-none
returns-in-Err-Other-clause-none c r readable spelled = read_not_none c.args.bytes.now r readable spelled
    (subst (λ (e : Stop). Stops e (report_at c.args.bytes.now)) c.in-Err-Other.field-0-is c.in-Err-Other.ensures.gives)
