-- A text on its way to its sink.
use Rattle.std.specs.Prelude.{◌≡◌, ℕ, List, [], false, Option}
use Rattle.std.specs.Borrow.{MutBor}
use Rattle.bip_graph.specs.Texts.{TextLine}
use Rattle.sp_ports.specs.Device.{seen}
use Rattle.btf_text.specs.Buffered.{Appends, AppendsLines, Buffered}
use Rattle.btf_text.specs.declared.text.Text.{Text}

-- These bytes are appended to the text: it goes to the same sink, through the same buffer.
pub record PutsBytes {K : Type 0} (taken : K → Option (List ℕ)) (faults : K → ℕ) (old new : Text K)
    (bytes : List ℕ) : Type 0 where
  pub sink_same : new.sink.ghost_name ≡ old.sink.ghost_name
  pub buf_same : new.buf.ghost_name ≡ old.buf.ghost_name
  pub appends : Appends (seen taken faults old.sink.now new.sink.now) old.buf.now new.buf.now bytes

-- These lines are appended to the text: it goes to the same sink, through the same buffer.
pub record Puts {K : Type 0} (taken : K → Option (List ℕ)) (faults : K → ℕ) (old new : Text K)
    (ls : List TextLine) : Type 0 where
  pub sink_same : new.sink.ghost_name ≡ old.sink.ghost_name
  pub buf_same : new.buf.ghost_name ≡ old.buf.ghost_name
  pub lines : AppendsLines (seen taken faults old.sink.now new.sink.now) old.buf.now new.buf.now ls

-- A text to this sink and through this buffer has begun: nothing of it is there yet.
pub record Begins {K : Type 0} (sink : MutBor K) (buf : MutBor Buffered) (text : Text K) : Type 0 where
  pub sink_same : text.sink.ghost_name ≡ sink.ghost_name
  pub buf_same : text.buf.ghost_name ≡ buf.ghost_name
  pub sink_kept : text.sink.now ≡ sink.now
  pub fresh : text.buf.now ≡ record { bytes = []; failed = false }
