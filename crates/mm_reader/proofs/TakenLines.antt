-- Lines of the matrix, taken or refused.
use Rattle.std.proofs.Common.{◌≡◌, ℕ, ℤ, ◌+◌, ◌<◌, false, List, [], ◌∷◌, ◌++◌, sym, ap, subst, ◌∙◌, Some, None, Result, Ok, Err, IfOk, IfErr, OnOk}
use Rattle.sp_ids.specs.Entries as entries
use Rattle.mm_defs.specs.declared.answers.End.{End}
use Rattle.mm_defs.specs.declared.header.Format.TheVariants.{Coordinate, Array}
use Rattle.mm_defs.specs.declared.kinds.Kind.{Kind}
use Rattle.mm_defs.specs.Words.{word, words, is_skipped}
use Rattle.mm_defs.specs.Numbers.{integer}
use Rattle.mm_defs.specs.Faults.{first_kind, entry_rules, coordinate_rules, array_rules}
use Rattle.mm_defs.specs.File.{mirror, placed, triple, with_mirrors}
use Rattle.mm_reader.specs.declared.judge.Entry.{Entry}
use Rattle.mm_reader.specs.declared.machine.Position.{Position}
use Rattle.mm_reader.specs.declared.machine.Preamble.{Preamble}
use Rattle.mm_reader.specs.declared.machine.Stop.{Stop}
use Rattle.mm_reader.specs.declared.machine.Stop.TheVariants as stops
use Rattle.mm_reader.specs.Additions.{with_entries}
use Rattle.mm_reader.specs.ArrayPlaces.{place_of, said_next}
use Rattle.mm_reader.specs.Judged.{JudgedEntry, triple_of}
use Rattle.mm_reader.specs.Machine.{HasLines, HasRoom, TakesLine}
use Rattle.mm_reader.proofs.ArrayLaws.{entry_says, value_says, entry_rules_are, value_rules_are}
use Rattle.mm_reader.proofs.StepLaws.{entries_phase, entry_good, entry_bad}

module _ (b : Preamble) (at : Position) (t : entries.Entries) (room : HasRoom b at t) (low : at.done < b.size.count)
    (number : ℕ) (end : End) (line : List ℕ) (kept : is_skipped (words line) ≡ false) where
  refused : (kind : Kind) (after : entries.Entries) → first_kind (entry_rules b.header b.size (words line)) ≡ Some kind → TakesLine b at t number end line after (Err (stops.Bad (record { line = number; kind = kind })))
  refused kind after first ls banner has good n = entry_bad end ls line b.header number banner n good kept b.size at.done t has kind low first

  -- what a call that keeps the line's entries says
  taken : (after : entries.Entries) (r : Result Position Stop) → first_kind (entry_rules b.header b.size (words line)) ≡ None
      → OnOk r (after ≡ with_entries t (with_mirrors b.header.symmetry (said_next b.header.format b.header b.size at.done (words line))))
      → IfOk r (λ next. next.done ≡ at.done + 1) → IfErr r (λ stop. stop ≡ stops.Memory) → TakesLine b at t number end line after r
  taken after (Ok next) first is done stop ls banner has good n =
      subst (λ (k : ℕ). HasLines end (entries_phase b.header b.size k next.place) after (ls ++ line ∷ [])) (sym done)
      (entry_good end ls line b.header number banner n good kept b.size at.done t has next.place after room.within low first is)
  taken after (Err stop) first is done stop_is ls banner has good n = rw stop_is tt

  on_ok : (P Q : Type 0) (r : Result Position Stop) → (P → Q) → OnOk r P → OnOk r Q
  on_ok P Q (Ok x) f h = f h
  on_ok P Q (Err e) f h = tt

  -- ---- an entry line

  module _ (coordinate : b.header.format ≡ Coordinate) where
    pub entry_refused : (kind : Kind) (after : entries.Entries) → first_kind (coordinate_rules b.header b.size (words line)) ≡ Some kind → TakesLine b at t number end line after (Err (stops.Bad (record { line = number; kind = kind })))
    entry_refused kind after first = refused kind after (rw (entry_rules_are b.header b.size (words line) coordinate) first)

    pub entry_taken : (e : Entry) (after : entries.Entries) (r : Result Position Stop) → JudgedEntry (coordinate_rules b.header b.size (words line)) (triple b.header (words line)) (Ok e)
        → OnOk r (after ≡ with_entries t (triple_of e ∷ mirror b.header.symmetry (triple_of e)))
        → IfOk r (λ next. next.done ≡ at.done + 1) → IfErr r (λ stop. stop ≡ stops.Memory) → TakesLine b at t number end line after r
    entry_taken e after r judged is =
        taken after r (rw (entry_rules_are b.header b.size (words line) coordinate) judged.0)
        (on_ok _ _ r (λ a. a ∙ ap (λ (x : entries.Triple). with_entries t (x ∷ mirror b.header.symmetry x)) judged.1 ∙ ap (with_entries t) (sym (entry_says b.header b.size at.done (words line) coordinate))) is)

  -- ---- a value line

  module _ (array : b.header.format ≡ Array) where
    pub value_refused : (kind : Kind) (after : entries.Entries) → first_kind (array_rules b.header (words line)) ≡ Some kind → TakesLine b at t number end line after (Err (stops.Bad (record { line = number; kind = kind })))
    value_refused kind after first = refused kind after (rw (value_rules_are b.header b.size (words line) array) first)

    pub value_taken : (v : ℤ) (after : entries.Entries) (r : Result Position Stop) → first_kind (array_rules b.header (words line)) ≡ None → v ≡ integer (word (words line) 0)
        → OnOk r (after ≡ with_entries t (with_mirrors b.header.symmetry (placed (place_of at.place) v)))
        → IfOk r (λ next. next.done ≡ at.done + 1) → IfErr r (λ stop. stop ≡ stops.Memory) → TakesLine b at t number end line after r
    value_taken v after r first value is =
        taken after r (rw (value_rules_are b.header b.size (words line) array) first)
        (on_ok _ _ r (λ a. a ∙ ap (λ (x : ℤ). with_entries t (with_mirrors b.header.symmetry (placed (place_of at.place) x))) value ∙ ap (with_entries t) (sym (value_says b.header b.size at.done at.place (words line) array low room.next_is))) is)
