use Rattle.std.proofs.Common.{◌++◌, append-nil, ap, sym, take, ◌∙◌}
use Rattle.std.specs.List.{flat_map}
use Rattle.std.proofs.lemmas.Grind.{flat_map-append}
use Rattle.std.proofs.lemmas.List.{take_all, take_more}
use Rattle.btf_text.specs.Replies.{reply_lines}
use Rattle.btf_text.specs.declared.replies.Reply.{Reply}
use Rattle.btf_text.proofs.Puts.{puts_as, puts_none, puts_then}
use Rattle.btf_text.proofs.replies.put_replies.Goals as goal

pub loop-reply-init : goal.loop-reply-init
loop-reply-init g c = puts_none _

pub loop-reply-preserved : goal.loop-reply-preserved
loop-reply-preserved g c =
    let all = c.args.replies.now in
    let done = take c.loop-reply.reply-index all in
    puts_as (ap (λ (r : Reply). flat_map reply_lines done ++ reply_lines r) c.reply-item.is ∙ ap (λ ls. flat_map reply_lines done ++ ls) (sym (append-nil _)) ∙ sym (ap (flat_map reply_lines) (take_more all c.loop-reply.reply-index c.reply-item.result c.loop-reply-test.true) ∙ flat_map-append reply_lines done _))
    (puts_then c.loop-reply.invariant c.put_reply.ensures)

pub returns : goal.returns
returns g c = puts_as (ap (flat_map reply_lines) (take_all _ _ c.loop-reply-test.false)) c.loop-reply.invariant
