use Rattle.std.proofs.Common.{subst, sym}
use Rattle.btf_text.specs.Buffered.{Buffered, Stands, since}
use Rattle.btf_text.proofs.buffer.TextBuf.hand_on.Goals as goal

pub returns-clause-same : goal.returns-clause-same
returns-clause-same g c taken faults text p =
    rw c.clear.ensures.items
    (c.write_kept-self-inside.ensures taken faults text
    (rw c.as_slice.ensures.value
    (subst (λ (b : Buffered). Stands (since taken faults (g.K.Sink.taken c.args.out.now) (g.K.Sink.faults c.args.out.now)) b text) (sym c.self.view_is) p)))
