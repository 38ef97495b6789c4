use Rattle.std.proofs.Common.{[], ◌++◌, ◌∙◌, ap, subst, sym}
use Rattle.btf_text.specs.Buffered.{Buffered, Stands, since}
use Rattle.btf_text.proofs.BufferLaws.{ends}
use Rattle.btf_text.proofs.buffer.TextBuf.finish.Goals as goal

pub returns : goal.returns
returns g c taken faults text p =
    ends _ text _ _
    (subst (λ (b : Buffered). Stands (since taken faults (g.K.Sink.taken c.hand_on.new.out) (g.K.Sink.faults c.hand_on.new.out)) b (text ++ [])) (sym c.self.view_is)
    (c.hand_on.ensures.same taken faults text p))
    (ap (λ (b : Buffered). b.bytes) c.self.view_is ∙ c.hand_on.ensures.empty) c.outcome.ensures.ok c.outcome.ensures.err
