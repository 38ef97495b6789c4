-- The matrix is read, and more follows.
use Rattle.std.proofs.Common.{◌≡◌, ℕ, ◌+◌, true, false, nat_lt, List, [], ◌∷◌, ◌++◌, length, take, refl, sym, ap, ◌∙◌, arith, le-ltb, eqb-true}
use Rattle.std.proofs.Math.Seq.{take-append_seam}
use Rattle.sp_ids.specs.Entries as entries
use Rattle.mm_defs.specs.declared.answers.End.{End}
use Rattle.mm_defs.specs.declared.answers.End.TheVariants.{File, LastEntry}
use Rattle.mm_defs.specs.declared.header.Header.{Header}
use Rattle.mm_defs.specs.declared.header.Size.{Size}
use Rattle.mm_defs.specs.Words.{Line, words, lines, open_line, numbered, kept}
use Rattle.mm_defs.specs.Header.{header, size}
use Rattle.mm_defs.specs.File.{header_of, size_of, later_lines, entry_lines, items, line_faults, no_banner, missing, faults, entries_of, rest_of, behind, last_number, matrix_lines, Reads}
use Rattle.mm_defs.proofs.Behind.{behind-prefix}
use Rattle.mm_defs.proofs.Lines.{lines-append}
use Rattle.mm_defs.proofs.Roles.{later_lines-append, line_faults-past}
use Rattle.mm_reader.specs.declared.machine.Phase.{Phase}
use Rattle.mm_reader.specs.declared.machine.Phase.TheVariants as phases
use Rattle.mm_reader.specs.declared.machine.Position.{Position}
use Rattle.mm_reader.specs.declared.machine.Preamble.{Preamble}
use Rattle.mm_reader.specs.Machine.{HasBanner, HasEntries, HasLines, is_complete}

-- lines that say the same say the same entries
pub same_entries : (h h2 : Header) (s s2 : Size) (es es2 : List Line) → h ≡ h2 → s ≡ s2 → es ≡ es2
    → ◌≡◌ {A = entries.Entries} (record { rows = s.rows; cols = s.cols; field = h.field; items = items h s es }) (record { rows = s2.rows; cols = s2.cols; field = h2.field; items = items h2 s2 es2 })
same_entries h h2 s s2 es es2 a b c = rw (a, b, c) refl

-- the matrix of lines behind which others follow
module _ (h : Header) (s : Size) (done : ℕ) (t : entries.Entries) (ls more : List (List ℕ)) (b : HasBanner h ls) (has : HasEntries h s done t (later_lines ls)) (full : done ≡ s.count) where
  abbrev extra : List Line
  extra = kept (numbered (2 + length b.others) more)

  later_more : later_lines (ls ++ more) ≡ has.size_line ∷ (has.entry_lines ++ extra)
  later_more =
      let e : later_lines (ls ++ more) ≡ later_lines ls ++ extra = rw b.lines_are (later_lines-append b.first b.others more) in
      e ∙ ap (λ (x : List Line). x ++ extra) has.later_are

  header_is : header_of (ls ++ more) ≡ h
  header_is = rw b.lines_are (sym b.header_is)

  abbrev size_there : Size
  size_there = size (header_of (ls ++ more)) has.size_line.words

  size_is : s ≡ size_there
  size_is = has.size_is ∙ ap (λ (x : Header). size x has.size_line.words) (sym header_is)

  count_is : size_there.count ≡ length has.entry_lines
  count_is = sym (ap (λ (x : Size). x.count) size_is) ∙ sym full ∙ has.done_is

  prefix_is : take size_there.count (has.entry_lines ++ extra) ≡ has.entry_lines
  prefix_is = rw count_is (take-append_seam has.entry_lines extra)

  no_banner-none : no_banner (ls ++ more) ≡ []
  no_banner-none = rw b.lines_are refl

  missing-none : missing (ls ++ more) ≡ []
  missing-none =
      let n : nat_lt (length has.entry_lines) (length has.entry_lines) ≡ false = le-ltb (length has.entry_lines) (length has.entry_lines) (omega arith) in
      rw later_more (rw prefix_is (rw count_is (rw n refl)))

  faults-none : line_faults LastEntry ls ≡ [] → line_faults LastEntry (ls ++ more) ≡ []
  faults-none good =
      let z : s ≡ size (header (words b.first)) has.size_line.words = has.size_is ∙ ap (λ (x : Header). size x has.size_line.words) b.header_is in
      let count : length has.entry_lines ≡ (size (header (words b.first)) has.size_line.words).count = sym has.done_is ∙ full ∙ ap (λ (x : Size). x.count) z in
      let at : later_lines (b.first ∷ b.others) ≡ has.size_line ∷ has.entry_lines = ap later_lines (sym b.lines_are) ∙ has.later_are in
      let e : line_faults LastEntry (ls ++ more) ≡ line_faults LastEntry ls = rw b.lines_are (line_faults-past b.first b.others more has.size_line has.entry_lines at count) in
      e ∙ good

  pub good : line_faults LastEntry ls ≡ [] → faults LastEntry true (ls ++ more) ≡ []
  good g =
      let a = no_banner-none in
      let c = faults-none g in
      let d = missing-none in
      rw (a, c, d) refl

  pub entries_are : t ≡ entries_of (ls ++ more)
  unfolding entries_of
  entries_are =
      let k : entry_lines (ls ++ more) ≡ has.entry_lines = rw later_more prefix_is in
      let z : size_of (ls ++ more) ≡ s = rw later_more (sym size_is) in
      has.triples_are ∙ same_entries h (header_of (ls ++ more)) s (size_of (ls ++ more)) has.entry_lines (entry_lines (ls ++ more)) (sym header_is) (sym z) (sym k)

  matrix_is : matrix_lines (ls ++ more) ≡ has.size_line ∷ has.entry_lines
  matrix_is =
      let l = later_more in
      rw l (ap (λ (r : List Line). has.size_line ∷ r) prefix_is)

  pub last_is : last_number (later_lines ls) ≡ length ls → last_number (matrix_lines (ls ++ more)) ≡ length ls
  last_is e = ap last_number matrix_is ∙ ap last_number (sym has.later_are) ∙ e

-- the matrix is read, and this follows it
complete_entries : (b : Preamble) (at : Position) (t : entries.Entries) (used rest : List ℕ) → HasLines LastEntry (phases.Entries b at) t (lines false used)
    → is_complete LastEntry (phases.Entries b at) ≡ true → open_line used ≡ [] → Reads (used ++ rest) LastEntry t rest
unfolding rest_of
complete_entries b at t used rest l e closed =
    let h = b.header in
    let s = b.size in
    let done = at.done in
    let r = lines-append true used rest in
    let full = eqb-true done s.count e in
    let n = last_is h s done t (lines false used) r.0 l.phase_is.0 l.phase_is.1 full (l.last e) in
    record {
      good = rw r.1 (good h s done t (lines false used) r.0 l.phase_is.0 l.phase_is.1 full l.good);
      entries = rw r.1 (entries_are h s done t (lines false used) r.0 l.phase_is.0 l.phase_is.1 full);
      follows = rw r.1 (sym (ap (λ k. behind k (used ++ rest)) n ∙ behind-prefix used rest closed));
    }

pub complete_reads : (end : End) (phase : Phase) (t : entries.Entries) (used rest : List ℕ) → HasLines end phase t (lines false used) → is_complete end phase ≡ true → open_line used ≡ [] → Reads (used ++ rest) end t rest
complete_reads File phase t used rest l e closed = absurd cc
complete_reads LastEntry phases.Banner t used rest l e closed = absurd cc
complete_reads LastEntry (phases.Sizes h) t used rest l e closed = absurd cc
complete_reads LastEntry (phases.Entries b at) t used rest l e closed = complete_entries b at t used rest l e closed
