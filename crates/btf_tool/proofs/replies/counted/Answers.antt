use Rattle.std.proofs.Common.{◌∙◌, ◌∷◌, ◌+◌, List, ap, drop, subst, sym}
use Rattle.std.proofs.lemmas.List.{drop_all, drop_more}
use Rattle.bip_defs.specs.Matrix.{Matrix, cols}
use Rattle.bip_graph.specs.Texts.{text_of}
use Rattle.btf_text.specs.Replies.{reply_lines}
use Rattle.btf_text.specs.declared.replies.Reply.{Reply}
use Rattle.mm_frames.specs.declared.edit.Edit.{Edit}
use Rattle.btf_tool.specs.Sessions.{IsReply, after}
use Rattle.btf_tool.proofs.Sessions.{HasReplied, all_replied, cols_after, one_replied, rows_after}
use Rattle.btf_tool.proofs.replies.counted.Goals as goal

pub loop-edit-preserved : goal.loop-edit-preserved
loop-edit-preserved g c =
    let a = c.args.pattern in
    let b = c.loop-edit.session.matrix in
    let es = c.args.edits.now in
    let i = c.loop-edit.edit-index in
    let e = c.edit-item.result in
    let left = drop (i + 1) es in
    let replies = c.loop-edit.replies.items in
    let before : HasReplied a b es (e ∷ left) replies =
    subst (λ (ls : List Edit). HasReplied a b es ls replies) (drop_more es i e c.loop-edit-test.true ∙ ap (λ (x : Edit). x ∷ left) (sym c.edit-item.is)) c.loop-edit.invariant.replied in
    let step = one_replied a b es left replies e c.in_ok-reply_to.field-0 before (subst (λ (m : Matrix). IsReply e m (text_of (reply_lines c.in_ok-reply_to.field-0))) c.in_ok-reply_to.ensures.matrix c.in_ok-reply_to.ensures.reply) in
    record {
      replied =
          subst (λ (m : Matrix). HasReplied a m es left c.push-in-loop-edit.new.self.items) (sym c.in_ok-reply_to.ensures.matrix)
          (subst (λ (rs : List Reply). HasReplied a (after b e) es left rs) (sym c.in_ok-push-2.ensures.items) step);
      rows = ap (λ (m : Matrix). m.rows) c.in_ok-reply_to.ensures.matrix ∙ rows_after b e ∙ c.loop-edit.invariant.rows;
      cols_are = ap cols c.in_ok-reply_to.ensures.matrix ∙ cols_after b e ∙ c.loop-edit.invariant.cols_are;
    }

pub returns : goal.returns
returns g c =
    let a = c.args.pattern in
    let b = c.loop-edit.session.matrix in
    let es = c.args.edits.now in
    let replies = c.loop-edit.replies.items in
    all_replied a b es replies (subst (λ (ls : List Edit). HasReplied a b es ls replies) (drop_all c.loop-edit.edit-index es c.loop-edit-test.false) c.loop-edit.invariant.replied)
