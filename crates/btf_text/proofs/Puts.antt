-- Lines one after another, on their way to a sink.
use Rattle.std.specs.Borrow.{MutBor}
use Rattle.std.proofs.Common.{◌≡◌, ◌∙◌, ℕ, List, [], ◌∷◌, ◌++◌, Option, Result, refl, sym, subst}
use Rattle.std.proofs.lemmas.Grind.{flat_map-append}
use Rattle.bip_graph.specs.Texts.{TextLine, spelled, text_of}
use Rattle.sp_ports.specs.Device.{Device, Writes, seen}
use Rattle.btf_text.specs.Buffered.{Appends, AppendsLines, Buffered, Ends, since}
use Rattle.btf_text.specs.declared.text.Text.{Text}
use Rattle.btf_text.specs.Texts.{Begins, Puts, PutsBytes}
use Rattle.btf_text.proofs.BufferLaws.{appends_as, appends_none, appends_then, begun}
use Rattle.btf_text.proofs.Lines.{line_alone}

-- some lines, and then others
lines_then : {t0 t1 t2 : Option (List ℕ)} {f0 f1 f2 : ℕ} {buf mid after : Buffered} {first second : List TextLine}
    → AppendsLines (since t0 f0 t1 f1) buf mid first → AppendsLines (since t1 f1 t2 f2) mid after second
    → AppendsLines (since t0 f0 t2 f2) buf after (first ++ second)
lines_then {first = first} {second = second} one two = record {
  appends = appends_as _ (text_of (first ++ second)) (sym (flat_map-append spelled first second)) (appends_then (text_of first) (text_of second) one.appends two.appends);
}

module _ {K : Type 0} {taken : K → Option (List ℕ)} {faults : K → ℕ} where
  -- ---- bytes

  -- some bytes, and then others
  pub bytes_then : {old mid new : Text K} {first second : List ℕ}
      → PutsBytes taken faults old mid first → PutsBytes taken faults mid new second → PutsBytes taken faults old new (first ++ second)
  bytes_then one two = record {
    sink_same = two.sink_same ∙ one.sink_same;
    buf_same = two.buf_same ∙ one.buf_same;
    appends = appends_then _ _ one.appends two.appends;
  }

  -- the same bytes
  pub bytes_as : {old new : Text K} {first second : List ℕ} → first ≡ second → PutsBytes taken faults old new first → PutsBytes taken faults old new second
  bytes_as {old = old} {new = new} e p = subst (λ (bytes : List ℕ). PutsBytes taken faults old new bytes) e p

  -- no bytes
  pub bytes_none : (text : Text K) → PutsBytes taken faults text text []
  bytes_none text = record {
    sink_same = refl;
    buf_same = refl;
    appends = appends_none (taken text.sink.now) (faults text.sink.now) text.buf.now;
  }

  -- the bytes of a line
  pub line_of : {old new : Text K} (l : TextLine) → PutsBytes taken faults old new (spelled l) → Puts taken faults old new (l ∷ [])
  line_of l p = record {
    sink_same = p.sink_same;
    buf_same = p.buf_same;
    lines = record { appends = line_alone l p.appends };
  }

  -- ---- lines

  -- some lines, and then others
  pub puts_then : {old mid new : Text K} {first second : List TextLine}
      → Puts taken faults old mid first → Puts taken faults mid new second → Puts taken faults old new (first ++ second)
  puts_then one two = record {
    sink_same = two.sink_same ∙ one.sink_same;
    buf_same = two.buf_same ∙ one.buf_same;
    lines = lines_then one.lines two.lines;
  }

  -- the same lines
  pub puts_as : {old new : Text K} {first second : List TextLine} → first ≡ second → Puts taken faults old new first → Puts taken faults old new second
  puts_as {old = old} {new = new} e p = subst (λ (ls : List TextLine). Puts taken faults old new ls) e p

  -- no lines
  pub puts_none : (text : Text K) → Puts taken faults text text []
  puts_none text = record {
    sink_same = refl;
    buf_same = refl;
    lines = record { appends = appends_none (taken text.sink.now) (faults text.sink.now) text.buf.now };
  }

  -- the bytes of lines
  pub bytes_of : {old new : Text K} {ls : List TextLine} → Puts taken faults old new ls → PutsBytes taken faults old new (text_of ls)
  bytes_of p = record { sink_same = p.sink_same; buf_same = p.buf_same; appends = p.lines.appends }

  -- ---- a whole text: its sink was lent to it, and is what it was left as

  pub written_bytes : {sink : MutBor K} {buf : MutBor Buffered} {text full : Text K} {bytes : List ℕ} {after out : K} {T E : Type 0} (result : Result T E)
      → Begins sink buf text → PutsBytes taken faults text full bytes → Ends (seen taken faults full.sink.now after) full.buf.now result → out ≡ after
      → Writes (seen taken faults sink.now out) bytes result
  written_bytes {sink = sink} {text = text} {full = full} {bytes = bytes} {after = after} result begins puts ends same =
      subst (λ (k : K). Writes (seen taken faults sink.now k) bytes result) (sym same)
      (ends (taken sink.now) (faults sink.now) bytes
      (begun begins.fresh
      (subst (λ (k : K). Appends (seen taken faults k full.sink.now) text.buf.now full.buf.now bytes) begins.sink_kept puts.appends)))

  pub written : {sink : MutBor K} {buf : MutBor Buffered} {text full : Text K} {ls : List TextLine} {after out : K} {T E : Type 0} (result : Result T E)
      → Begins sink buf text → Puts taken faults text full ls → Ends (seen taken faults full.sink.now after) full.buf.now result → out ≡ after
      → Writes (seen taken faults sink.now out) (text_of ls) result
  written result begins puts ends same = written_bytes result begins (bytes_of puts) ends same

-- the same text
pub written_as : {one other : List ℕ} {T E : Type 0} (d : Device) (result : Result T E) → one ≡ other → Writes d one result → Writes d other result
written_as d result e p = subst (λ (text : List ℕ). Writes d text result) e p
