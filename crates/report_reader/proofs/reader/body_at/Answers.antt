use Rattle.std.proofs.Common.{codes}
use Rattle.std.proofs.lemmas.Result.{err_from_is_err_and}
use Rattle.report_reader.specs.ReportGrammar.{body_at, components_at}
use Rattle.report_reader.proofs.Bodies.{body_none, body_some}
use Rattle.report_reader.proofs.Prefixes.{stops_so}
use Rattle.report_reader.proofs.reader.body_at.Goals as goal

pub returns-in_err-vertical : goal.returns-in_err-vertical
returns-in_err-vertical c =
    let p = err_from_is_err_and c.from_residual-in_err-vertical.result c.from_residual-in_err-vertical.ensures.1 in
    rw (p.1, p.2) (stops_so c.in_err-vertical.field-0.0 (components_at c.args.version (codes "vertical_components") c.in_ok-vr.rest.now) (body_at c.args.version c.args.bytes.now)
    (body_none c.args.version c.args.bytes.now ((c.in_ok-hr.hr.items, c.in_ok-hr.hc.items), c.in_ok-hr.rest.now) (c.in_ok-horizontal.horizontal, c.in_ok-horizontal.rest.now) (c.in_ok-blocks.blocks, c.in_ok-blocks.rest.now) ((c.in_ok-vr.vr.items, c.in_ok-vr.vc.items), c.in_ok-vr.rest.now) c.in_ok-hr.ensures c.in_ok-horizontal.ensures c.in_ok-blocks.ensures c.in_ok-vr.ensures) c.in_err-vertical.ensures)

pub returns : goal.returns
returns c = body_some c.args.version c.args.bytes.now ((c.in_ok-hr.hr.items, c.in_ok-hr.hc.items), c.in_ok-hr.rest.now) (c.in_ok-horizontal.horizontal, c.in_ok-horizontal.rest.now) (c.in_ok-blocks.blocks, c.in_ok-blocks.rest.now) ((c.in_ok-vr.vr.items, c.in_ok-vr.vc.items), c.in_ok-vr.rest.now) c.in_ok-hr.ensures c.in_ok-horizontal.ensures c.in_ok-blocks.ensures c.in_ok-vr.ensures (c.in_ok-vertical.vertical, c.in_ok-vertical.rest.now) c.in_ok-vertical.ensures
