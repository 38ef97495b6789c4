-- The machine, byte by byte.
use Rattle.std.proofs.Common.{◌≡◌, ◌≢◌, ℕ, true, false, List, [], ◌∷◌, ◌++◌, refl, sym, Result, Ok, Err, MatchResult, eq-eqb, ne_eqb}
use Rattle.sp_ids.specs.Entries as entries
use Rattle.mm_defs.specs.declared.answers.End.{End}
use Rattle.mm_defs.specs.declared.answers.End.TheVariants.{File, LastEntry}
use Rattle.mm_defs.specs.Words.{is_lf, lines, open_line}
use Rattle.mm_defs.proofs.Lines.{lines-none, open_line-none, lines-push_lf, open_line-push_lf, lines-push, open_line-push}
use Rattle.mm_defs.proofs.Roles.{line_faults-none}
use Rattle.mm_reader.specs.declared.machine.Machine.{Machine}
use Rattle.mm_reader.specs.declared.machine.Phase.TheVariants as phases
use Rattle.mm_reader.specs.declared.machine.Stop.{Stop}
use Rattle.mm_reader.specs.declared.machine.Stop.TheVariants as stops
use Rattle.mm_lines.specs.KeptLines.{KeptLine}
use Rattle.mm_lines.specs.Lines.{IsLine}
use Rattle.mm_reader.specs.Machine.{is_complete, StopsAt}
use Rattle.mm_reader.specs.Stages.{IsBetween, IsAfter, StopsIn}
use Rattle.mm_defs.proofs.SplitLemmas.{has_bytes-push}

pub map_result : {T E : Type 0} (P Q : T → Type 0) (F G : E → Type 0) (r : Result T E) → ((x : T) → P x → Q x) → ((e : E) → F e → G e) → MatchResult r P F → MatchResult r Q G
map_result P Q F G (Ok x) f g h = f x h
map_result P Q F G (Err e) f g h = g e h

banner_open : (end : End) → is_complete end phases.Banner ≡ true → ⊥
banner_open File e = cc
banner_open LastEntry e = cc

-- no byte has come
pub at_start : (end : End) (t : entries.Entries) (l : KeptLine) → IsLine l [] → IsAfter end (record { phase = phases.Banner; number = 0; triples = t; begun = false; line = l }) []
at_start end t l is =
    let n = lines-none false in
    record {
      lines_are = rw n (record { phase_is = refl; good = line_faults-none end; last = λ e. absurd (banner_open end e) });
      number_is = rw n refl;
      open_is = rw open_line-none is;
      begun_is = rw open_line-none refl;
    }

lf : (b : ℕ) → b ≡ 10 → is_lf b ≡ true
lf b e = eq-eqb b 10 e

-- an LF
pub lf_comes : (end : End) (m : Machine) (bytes : List ℕ) (b : ℕ) → b ≡ 10 → IsBetween end m (lines false bytes ++ open_line bytes ∷ []) → IsAfter end m (bytes ++ b ∷ [])
lf_comes end m bytes b e h =
    let k = lines-push_lf bytes b (lf b e) in
    let o = open_line-push_lf bytes b (lf b e) in
    record {
      lines_are = rw k h.lines_are;
      number_is = rw k h.number_is;
      open_is = rw o h.open_is;
      begun_is = rw o h.begun_is;
    }

pub lf_stops : (end : End) (bytes : List ℕ) (b : ℕ) (stop : Stop) → b ≡ 10 → StopsAt end (lines false bytes ++ open_line bytes ∷ []) stop → StopsIn end (bytes ++ b ∷ []) stop
lf_stops end bytes b (stops.Bad fault) e h =
    let k = lines-push_lf bytes b (lf b e) in
    record {
      bad = rw k h.0;
      number_is = rw k h.1;
      closed = open_line-push_lf bytes b (lf b e);
    }
lf_stops end bytes b stops.Memory e h = tt

-- another byte
pub byte_comes : (end : End) (m : Machine) (l : KeptLine) (bytes : List ℕ) (b : ℕ) → b ≢ 10 → IsAfter end m bytes → IsLine l (open_line bytes ++ b ∷ [])
    → IsAfter end (record { phase = m.phase; number = m.number; triples = m.triples; begun = true; line = l }) (bytes ++ b ∷ [])
byte_comes end m l bytes b e h is =
    let other : is_lf b ≡ false = ne_eqb b 10 e in
    let k = lines-push bytes b other in
    let o = open_line-push bytes b other in
    record {
      lines_are = rw k h.lines_are;
      number_is = rw k h.number_is;
      open_is = rw o is;
      begun_is = rw o (sym (has_bytes-push (open_line bytes) b));
    }
