-- The machine, line by line of the usual form.
use Rattle.std.proofs.Common.{◌≡◌, ℕ, ◌+◌, ◌-◌, ◌<◌, ◌≤◌, true, false, List, [], ◌∷◌, ◌++◌, length, take, drop, get_or, refl, sym, ap, subst, ◌∙◌, arith, append-nil, append_assoc, take-append-drop, take-add, length-append, drop-drop, ne_eqb}
use Rattle.mm_defs.specs.declared.answers.End.{End}
use Rattle.mm_defs.specs.declared.answers.End.TheVariants.{File, LastEntry}
use Rattle.mm_defs.specs.Words.{lines, open_line}
use Rattle.sp_ids.specs.Entries as entries
use Rattle.mm_reader.specs.declared.machine.Machine.{Machine}
use Rattle.mm_reader.specs.declared.machine.Phase.TheVariants as phases
use Rattle.mm_reader.specs.declared.machine.Position.{Position}
use Rattle.mm_reader.specs.declared.machine.Preamble.{Preamble}
use Rattle.mm_reader.specs.declared.machine.Stop.{Stop}
use Rattle.mm_reader.specs.declared.machine.Stop.TheVariants as stops
use Rattle.std.proofs.Common.{Result, Ok, Err}
use Rattle.mm_reader.specs.Machine.{HasRoom, IsReady, StepsTo, TakesLine, is_complete}
use Rattle.mm_reader.specs.Plain.{AwaitsPlain, IsWholeLine, between}
use Rattle.mm_reader.specs.Stages.{begun_lines, GoesOn, Halts, IsAfter, StopsIn, StopsWithin}
use Rattle.mm_reader.proofs.PlainLaws.{whole_line, whole_closed_line, between_join, between-none, between-push, split_at}
use Rattle.mm_defs.proofs.WordLemmas.{empty_of}

pub stays : (m : Machine) (piece : List ℕ) (at : ℕ) → at ≤ length piece → IsReady m.phase m.triples → GoesOn m m piece at at
stays m piece at h ready = record {
  in_order = omega arith;
  within = h;
  number = omega arith;
  ready = ready;
  closed = λ end out full. absurd cc;
  stands = λ end bytes a out. rw (between-none piece at) (subst (λ (t : List ℕ). IsAfter end m t) (sym (append-nil bytes)) a);
}

-- a whole line of the matrix
module _ (m : Machine) (b : Preamble) (before : Position) (w : AwaitsPlain m b before) (piece : List ℕ) (at next : ℕ) (text : List ℕ) (p : IsWholeLine piece at next text) (t : entries.Entries) where
  abbrev Shown : Result Position Stop → Type 0
  Shown result = (end : End) → TakesLine b before m.triples (m.number + 1) end text t result

  closed_is : (end : End) (bytes : List ℕ) → IsAfter end m bytes → open_line bytes ≡ []
  closed_is end bytes a = empty_of (open_line bytes) (sym a.begun_is ∙ w.closed)

  shown_at : (result : Result Position Stop) → Shown result → (end : End) (bytes : List ℕ) → IsAfter end m bytes → StepsTo b end (lines false bytes ++ text ∷ []) t result
  shown_at result f end bytes a =
      let k = rw w.phase_is at a.lines_are.phase_is in
      f end (lines false bytes) k.0 k.1 a.lines_are.good (ap (λ n. n + 1) a.number_is)

  pub plain_goes : (after : Position) → HasRoom b after t → Shown (Ok after) → GoesOn m (record { phase = phases.Entries b after; number = m.number + 1; triples = t; begun = m.begun; line = m.line }) piece at next
  plain_goes after ready f = record {
    in_order = omega (arith, p.in_order);
    within = p.within;
    number = omega (arith, p.in_order);
    ready = ready;
    closed = λ end out full. w.closed;
    stands = λ end bytes a out.
        let o = closed_is end bytes a in
        let r = shown_at (Ok after) f end bytes a in
        let e = whole_line bytes text o p.no_lf in
        let c = whole_closed_line bytes text in
        let n : m.number + 1 ≡ length (lines false bytes ++ text ∷ []) = ap (λ k. k + 1) a.number_is ∙ sym (length-append (lines false bytes) (text ∷ [])) in
        subst (λ (x : List ℕ). IsAfter end (record { phase = phases.Entries b after; number = m.number + 1; triples = t; begun = m.begun; line = m.line }) (bytes ++ x)) (sym p.line_is)
        (record {
          lines_are = rw e r;
          number_is = rw e n;
          open_is = rw c (rw o at a.open_is);
          begun_is = rw c w.closed;
        });
  }

  halted : (stop : Stop) → Shown (Err stop) → (end : End) (bytes : List ℕ) → IsAfter end m bytes → StopsIn end (bytes ++ (text ++ 10 ∷ [])) stop
  halted (stops.Bad fault) f end bytes a =
      let r = shown_at (Err (stops.Bad fault)) f end bytes a in
      let e = whole_line bytes text (closed_is end bytes a) p.no_lf in
      record { bad = rw e r.0; number_is = rw e r.1; closed = whole_closed_line bytes text }
  halted stops.Memory f end bytes a = tt

  pub plain_halts : (stop : Stop) → Shown (Err stop) → (end : End) (bytes : List ℕ) → IsAfter end m bytes → is_complete end m.phase ≡ false → StopsWithin end bytes (drop at piece) stop
  plain_halts stop f end bytes a out =
      let ordered : at ≤ next = omega (arith, p.in_order) in
      record {
        prefix = text ++ 10 ∷ [];
        rest = drop next piece;
        piece_is = split_at piece at next ordered ∙ ap (λ (x : List ℕ). x ++ drop next piece) p.line_is;
        stops = halted stop f end bytes a;
      }

-- one byte
byte_at : (piece : List ℕ) (at : ℕ) → at < length piece → take ((at + 1) - at) (drop at piece) ≡ get_or piece at 0 ∷ []
byte_at piece at h = between-push piece at at (omega arith) h ∙ ap (λ (x : List ℕ). x ++ get_or piece at 0 ∷ []) (between-none piece at)

pub byte_goes : (m m2 : Machine) (piece : List ℕ) (at : ℕ) → at < length piece → begun_lines m2 ≤ begun_lines m + 1 → IsReady m2.phase m2.triples
    → ((end : End) → is_complete end m.phase ≡ false → is_complete end m2.phase ≡ true → m2.begun ≡ false)
    → ((end : End) (bytes : List ℕ) → IsAfter end m bytes → is_complete end m.phase ≡ false → IsAfter end m2 (bytes ++ get_or piece at 0 ∷ []))
    → GoesOn m m2 piece at (at + 1)
byte_goes m m2 piece at h number ready closed f = record {
  in_order = omega arith;
  within = omega arith;
  number = omega arith;
  ready = ready;
  closed = closed;
  stands = λ end bytes a out. subst (λ (x : List ℕ). IsAfter end m2 (bytes ++ x)) (sym (byte_at piece at h)) (f end bytes a out);
}

pub byte_halts : (m : Machine) (piece : List ℕ) (at : ℕ) (stop : Stop) → at < length piece
    → ((end : End) (bytes : List ℕ) → IsAfter end m bytes → is_complete end m.phase ≡ false → StopsIn end (bytes ++ get_or piece at 0 ∷ []) stop)
    → (end : End) (bytes : List ℕ) → IsAfter end m bytes → is_complete end m.phase ≡ false → StopsWithin end bytes (drop at piece) stop
byte_halts m piece at stop h f end bytes a out = record {
  prefix = get_or piece at 0 ∷ [];
  rest = drop (at + 1) piece;
  piece_is = split_at piece at (at + 1) (omega arith) ∙ ap (λ (x : List ℕ). x ++ drop (at + 1) piece) (byte_at piece at h);
  stops = f end bytes a out;
}

-- from the start of the piece
pub after_piece : (end : End) (m : Machine) (bytes piece : List ℕ) (at next : ℕ) → at ≤ next → IsAfter end m ((bytes ++ take at piece) ++ take (next - at) (drop at piece)) → IsAfter end m (bytes ++ take next piece)
after_piece end m bytes piece at next h a =
    let e : at + (next - at) ≡ next = omega arith in
    let k : (bytes ++ take at piece) ++ take (next - at) (drop at piece) ≡ bytes ++ take next piece =
    append_assoc bytes (take at piece) (take (next - at) (drop at piece)) ∙ ap (λ (x : List ℕ). bytes ++ x) (sym (take-add at (next - at) piece) ∙ ap (λ i. take i piece) e) in
    subst (λ (x : List ℕ). IsAfter end m x) k a

pub stops_piece : (end : End) (stop : Stop) (bytes piece : List ℕ) (at : ℕ) → StopsWithin end (bytes ++ take at piece) (drop at piece) stop → StopsWithin end bytes piece stop
stops_piece end stop bytes piece at s = record {
  prefix = take at piece ++ s.prefix;
  rest = s.rest;
  piece_is = sym (take-append-drop at piece) ∙ ap (λ (x : List ℕ). take at piece ++ x) s.piece_is ∙ sym (append_assoc (take at piece) s.prefix s.rest);
  stops = subst (λ (x : List ℕ). StopsIn end x stop) (append_assoc bytes (take at piece) s.prefix) s.stops;
}

-- ---- line behind line

pub open_entries : (end : End) (b : Preamble) (at : Position) → at.done < b.size.count → is_complete end (phases.Entries b at) ≡ false
open_entries File b at low = refl
open_entries LastEntry b at low = ne_eqb at.done b.size.count (omega arith)

pub goes_then : (a b c : Machine) (piece : List ℕ) (from mid to : ℕ) → GoesOn a b piece from mid → GoesOn b c piece mid to → ((end : End) → is_complete end b.phase ≡ false) → GoesOn a c piece from to
goes_then a b c piece from mid to f g out = record {
  in_order = omega (arith, f.in_order, g.in_order);
  within = g.within;
  number = omega (arith, f.number, g.number);
  ready = g.ready;
  closed = λ end was full. g.closed end (out end) full;
  stands = λ end bytes h was.
      let k : (bytes ++ between piece from mid) ++ between piece mid to ≡ bytes ++ between piece from to =
      append_assoc bytes (between piece from mid) (between piece mid to) ∙ ap (λ (x : List ℕ). bytes ++ x) (sym (between_join piece from mid to f.in_order g.in_order)) in
      subst (λ (x : List ℕ). IsAfter end c x) k (g.stands end (bytes ++ between piece from mid) (f.stands end bytes h was) (out end));
}

pub halts_then : (a b : Machine) (piece : List ℕ) (from mid : ℕ) (stop : Stop) → GoesOn a b piece from mid → Halts b piece mid stop → ((end : End) → is_complete end b.phase ≡ false) → Halts a piece from stop
halts_then a b piece from mid stop f halts out end bytes h was =
    let e : from + (mid - from) ≡ mid = omega (arith, f.in_order) in
    let k : drop mid piece ≡ drop (mid - from) (drop from piece) = sym (drop-drop (mid - from) from piece ∙ ap (λ i. drop i piece) e) in
    let s = halts end (bytes ++ between piece from mid) (f.stands end bytes h was) (out end) in
    stops_piece end stop bytes (drop from piece) (mid - from) (subst (λ (x : List ℕ). StopsWithin end (bytes ++ between piece from mid) x stop) k s)
