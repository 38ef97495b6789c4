use Rattle.std.proofs.Common.{take}
use Rattle.std.specs.List.{flat_map}
use Rattle.btf_text.specs.Texts.{Puts}
use Rattle.btf_text.specs.Replies.{reply_lines}
use Rattle.btf_text.proofs.replies.put_replies.Given as goal

abbrev pub invariant-loop-reply : goal.invariant-loop-reply
invariant-loop-reply g l =
    Puts g.K.Sink.taken g.K.Sink.faults l.fn.text l.text (flat_map reply_lines (take l.reply-index l.replies))
