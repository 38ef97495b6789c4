use Rattle.std.proofs.Common.{subst, sym}
use Rattle.bip_defs.specs.ConnectedComponents.{AreConnectedComponents}
use Rattle.bip_graph.specs.Decompositions.{Decomposes, components_of}
use Rattle.bip_graph.specs.Texts.{text_of}
use Rattle.bip_graph.specs.declared.answers.Components.{Components}
use Rattle.bip_graph.specs.declared.answers.Decomposition.{Decomposition}
use Rattle.btf_text.specs.Replies.{reply_lines}
use Rattle.btf_text.specs.declared.replies.Reply.TheVariants.{Report}
use Rattle.mm_frames.specs.declared.edit.Edit.{Edit}
use Rattle.btf_tool.specs.Sessions.{IsReply}
use Rattle.btf_tool.proofs.Sessions.{report_replies}
use Rattle.btf_tool.proofs.replies.reply_to.Goals as goal

pub returns-in_ok-new-in-Report-clause-reply : goal.returns-in_ok-new-in-Report-clause-reply
returns-in_ok-new-in-Report-clause-reply g c =
    let a = c.args.session.now.matrix in
    let report = c.in_ok-new-in-Report.field-0 in
    let told = c.in_ok-report-in-Report.ensures in
    subst (λ (e : Edit). IsReply e a (text_of (reply_lines (Report report)))) (sym c.in-Report.is)
    (report_replies a report
    (subst (λ (p : Decomposition × Components). Decomposes a p.0) (sym c.in_ok-new-in-Report.ensures.ok) told.decomposition)
    (subst (λ (p : Decomposition × Components). AreConnectedComponents a (components_of p.1)) (sym c.in_ok-new-in-Report.ensures.ok) told.components))
