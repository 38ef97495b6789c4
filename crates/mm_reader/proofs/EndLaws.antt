-- The end of the input.
use Rattle.std.proofs.Common.{◌≡◌, ℕ, zero, suc, ◌≤◌, max, true, false, nat_lt, List, [], ◌∷◌, ◌++◌, length, take, refl, sym, ap, subst, ◌∙◌, arith, append-nil, length-append, take_all, count_by, slice_get, Some, le-ltb, eq-eqb}
use Rattle.std.proofs.lemmas.List.{length-take-le}
use Rattle.sp_ids.specs.Entries as entries
use Rattle.mm_defs.specs.declared.answers.End.{End}
use Rattle.mm_defs.specs.declared.answers.End.TheVariants.{File, LastEntry}
use Rattle.mm_defs.specs.declared.header.Header.{Header}
use Rattle.mm_defs.specs.declared.header.Size.{Size}
use Rattle.mm_defs.specs.Words.{Line, is_lf, lines, open_line, has_bytes}
use Rattle.mm_defs.specs.Header.{size}
use Rattle.mm_defs.specs.File.{Fault, header_of, size_of, later_lines, entry_lines, line_faults, no_banner, missing, faults, first_fault, entries_of, rest_of, behind, last_number, matrix_lines, Reads}
use Rattle.mm_defs.proofs.Behind.{length-lines, behind-prefix, behind-past}
use Rattle.mm_defs.proofs.Prefixes.{fault_stays}
use Rattle.mm_defs.proofs.Lines.{lines-ended}
use Rattle.mm_reader.specs.declared.machine.Phase.{Phase}
use Rattle.mm_reader.specs.declared.machine.Phase.TheVariants as phases
use Rattle.mm_reader.specs.declared.machine.Position.{Position}
use Rattle.mm_reader.specs.declared.machine.Preamble.{Preamble}
use Rattle.mm_reader.specs.declared.machine.Stop.{Stop}
use Rattle.mm_reader.specs.declared.machine.Stop.TheVariants as stops
use Rattle.mm_reader.specs.Machine.{HasBanner, HasEntries, HasLines, is_complete, StopsAt}
use Rattle.mm_reader.specs.Stages.{IsAll, Lacks, StopsAtEnd}
use Rattle.mm_reader.proofs.CompleteLaws.{same_entries}
use Rattle.mm_reader.proofs.StepLaws.{header_said, size_said}
use Rattle.mm_defs.proofs.WordLemmas.{empty_of}

-- ---- all lines have come

missing-none : (ls : List (List ℕ)) (s : Line) (es : List Line) → later_lines ls ≡ s ∷ es → (size (header_of ls) s.words).count ≤ length es → missing ls ≡ []
missing-none ls s es e h =
    let k : length (take (size (header_of ls) s.words).count es) ≡ (size (header_of ls) s.words).count = length-take-le (size (header_of ls) s.words).count es h in
    let n : nat_lt (size (header_of ls) s.words).count (size (header_of ls) s.words).count ≡ false = le-ltb (size (header_of ls) s.words).count (size (header_of ls) s.words).count (omega arith) in
    rw e (rw (k, n) refl)

no_banner-none : (h : Header) (ls : List (List ℕ)) → HasBanner h ls → no_banner ls ≡ []
no_banner-none h ls b = rw b.lines_are refl

module _ (h : Header) (s : Size) (done : ℕ) (t : entries.Entries) (ls : List (List ℕ)) (b : HasBanner h ls) (has : HasEntries h s done t (later_lines ls)) (full : s.count ≤ done) where
  abbrev count_there : ℕ
  count_there = (size (header_of ls) has.size_line.words).count

  count_is : s.count ≡ count_there
  count_is = ap (λ (x : Size). x.count) (size_said h s done t ls b has)

  enough : count_there ≤ length has.entry_lines
  enough = omega (arith, count_is, has.done_is, full)

  few : length has.entry_lines ≤ count_there
  few = omega (arith, count_is, has.done_is, has.in_count)

  all : take count_there has.entry_lines ≡ has.entry_lines
  all = take_all count_there has.entry_lines few

  entries-are : t ≡ entries_of ls
  unfolding entries_of
  entries-are =
      let k : entry_lines ls ≡ has.entry_lines = rw has.later_are all in
      let z : size_of ls ≡ s = rw has.later_are (sym (size_said h s done t ls b has)) in
      has.triples_are ∙ same_entries h (header_of ls) s (size_of ls) has.entry_lines (entry_lines ls) (sym (header_said h ls b)) (sym z) (sym k)

pub all_lines : (end : End) (b : Preamble) (at : Position) (t : entries.Entries) (ls : List (List ℕ)) → HasLines end (phases.Entries b at) t ls → b.size.count ≤ at.done → IsAll end (phases.Entries b at) t ls
all_lines end b at t ls l full =
    let h = b.header in
    let s = b.size in
    let done = at.done in
    let banner = l.phase_is.0 in
    let has = l.phase_is.1 in
    let full_is : done ≡ s.count = omega (arith, has.in_count) in
    let yes_it_is : is_complete LastEntry (phases.Entries b at) ≡ true = eq-eqb done s.count full_is in
    let nb = no_banner-none h ls banner in
    let good = l.good in
    let m = missing-none ls has.size_line has.entry_lines has.later_are (enough h s done t ls banner has full) in
    record {
      good = rw (nb, good, m) refl;
      entries = entries-are h s done t ls banner has full;
      complete = yes_it_is;
      last = λ e.
          let k : is_complete end (phases.Entries b at) ≡ true = rw e yes_it_is in
          let n : last_number (has.size_line ∷ has.entry_lines) ≡ length ls = ap last_number (sym has.later_are) ∙ l.last k in
          let x : matrix_lines ls ≡ has.size_line ∷ has.entry_lines = rw has.later_are (ap (λ (r : List Line). has.size_line ∷ r) (all h s done t ls banner has full)) in
          ap last_number x ∙ n;
    }

-- ---- the open line is a line

module _ (end : End) (bytes : List ℕ) where
  lf_count : length (lines false bytes) ≡ count_by is_lf bytes
  lf_count = length-lines bytes

  pub begun_lines_are : has_bytes (open_line bytes) ≡ true → lines true bytes ≡ lines false bytes ++ open_line bytes ∷ []
  begun_lines_are e = lines-ended bytes ∙ rw e refl

  pub closed_lines_are : has_bytes (open_line bytes) ≡ false → lines true bytes ≡ lines false bytes
  closed_lines_are e = lines-ended bytes ∙ rw e (append-nil (lines false bytes))

  past_last : (n : ℕ) → n ≡ length (lines false bytes ++ open_line bytes ∷ []) → behind n bytes ≡ []
  past_last n e = behind-past n bytes (omega (arith, lf_count, length-append (lines false bytes) (open_line bytes ∷ [])))

  rest_begun : (e : End) (n : ℕ) → (e ≡ LastEntry → last_number (matrix_lines (lines true bytes)) ≡ n) → n ≡ length (lines false bytes ++ open_line bytes ∷ []) → rest_of e bytes ≡ []
  unfolding rest_of
  rest_begun File n h k = refl
  rest_begun LastEntry n h k = rw (h refl) (past_last n k)

  pub whole_begun : (phase : Phase) (t : entries.Entries) → has_bytes (open_line bytes) ≡ true → IsAll end phase t (lines false bytes ++ open_line bytes ∷ []) → Reads bytes end t []
  whole_begun phase t e h =
      let k = begun_lines_are e in
      record {
        good = rw k h.good;
        entries = rw k h.entries;
        follows = sym (rest_begun end _ (λ last. rw k (h.last last)) refl);
      }

  rest_closed : (e : End) (phase : Phase) → is_complete LastEntry phase ≡ true → is_complete e phase ≡ false → rest_of e bytes ≡ []
  unfolding rest_of
  rest_closed File phase y n = refl
  rest_closed LastEntry phase y n = absurd cc

  pub whole_closed : (phase : Phase) (t : entries.Entries) → has_bytes (open_line bytes) ≡ false → is_complete end phase ≡ false → IsAll end phase t (lines false bytes) → Reads bytes end t []
  whole_closed phase t e out h =
      let k = closed_lines_are e in
      record {
        good = rw k h.good;
        entries = rw k h.entries;
        follows = sym (rest_closed end phase h.complete out);
      }

  -- ---- the last line is bad, or something is missing

  first_of : (ls : List (List ℕ)) (x : Fault) → line_faults end ls ≡ x ∷ [] → slice_get (faults end true ls) 0 ≡ Some x
  first_of ls x h =
      let k : slice_get (line_faults end ls) 0 ≡ Some x = rw h refl in
      subst (λ (r : List (List ℕ)). slice_get (faults end true r) 0 ≡ Some x) (append-nil ls) (fault_stays end true ls [] x k)

  pub stop_begun : (stop : Stop) → has_bytes (open_line bytes) ≡ true → StopsAt end (lines false bytes ++ open_line bytes ∷ []) stop → StopsAtEnd end bytes stop
  unfolding first_fault
  stop_begun (stops.Bad fault) e h =
      let k = begun_lines_are e in
      (rw k (first_of (lines false bytes ++ open_line bytes ∷ []) fault h.0), past_last fault.line h.1)
  stop_begun stops.Memory e h = tt

  pub lacks_begun : (stop : Stop) → has_bytes (open_line bytes) ≡ true → Lacks end (lines false bytes ++ open_line bytes ∷ []) stop → StopsAtEnd end bytes stop
  unfolding first_fault
  lacks_begun (stops.Bad fault) e h =
      let k = begun_lines_are e in
      let n = length-append (lines false bytes) (open_line bytes ∷ []) in
      let at : fault.line ≡ length (lines false bytes ++ open_line bytes ∷ []) = omega (arith, h.1) in
      (rw k h.0, past_last fault.line at)
  lacks_begun stops.Memory e h = tt

  behind_closed : (line : ℕ) → open_line bytes ≡ [] → line ≡ max (length (lines false bytes)) 1 → behind line bytes ≡ []
  behind_closed line o h = by (length (lines false bytes)) refl
    where
      by : (n : ℕ) → length (lines false bytes) ≡ n → behind line bytes ≡ []
      by zero e = behind-past line bytes (omega (arith, lf_count))
      by (suc n) e =
          let at : line ≡ length (lines false bytes) = omega arith in
          let k = behind-prefix bytes [] o in
          rw at (subst (λ (r : List ℕ). behind (length (lines false bytes)) r ≡ []) (append-nil bytes) k)

  pub lacks_closed : (stop : Stop) → has_bytes (open_line bytes) ≡ false → Lacks end (lines false bytes) stop → StopsAtEnd end bytes stop
  unfolding first_fault
  lacks_closed (stops.Bad fault) e h =
      let k = closed_lines_are e in
      (rw k h.0, behind_closed fault.line (empty_of (open_line bytes) e) h.1)
  lacks_closed stops.Memory e h = tt
