-- What one more line does to the machine, by its role.
use Rattle.std.proofs.Common.{◌≡◌, ℕ, ◌+◌, ◌<◌, true, false, ◌==◌, List, [], ◌∷◌, ◌++◌, length, refl, sym, ap, subst, ◌∙◌, arith, length-append, Some, None, eq-eqb}
use Rattle.sp_ids.specs.Entries as entries
use Rattle.mm_defs.specs.declared.answers.End.{End}
use Rattle.mm_defs.specs.declared.answers.End.TheVariants.{File, LastEntry}
use Rattle.mm_defs.specs.declared.header.Header.{Header}
use Rattle.mm_defs.specs.declared.header.Size.{Size}
use Rattle.mm_defs.specs.declared.kinds.Kind.{Kind}
use Rattle.mm_defs.specs.declared.kinds.Kind.TheVariants.{Trailing}
use Rattle.mm_defs.specs.Words.{Word, Line, words, is_skipped}
use Rattle.mm_defs.specs.Header.{header, size}
use Rattle.mm_defs.specs.Faults.{Rule, first_kind, banner_rules, size_rules, entry_rules}
use Rattle.mm_defs.specs.File.{Fault, fault_by, header_of, later_lines, line_faults, trailing, with_mirrors, items, last_number}
use Rattle.mm_defs.proofs.Roles.{line_at, later_lines-push, later_lines-push_skipped, banner_comes, skipped_comes, size_comes, entry_comes, trailing_comes}
use Rattle.mm_reader.specs.declared.array.ArrayPlace.{ArrayPlace}
use Rattle.mm_reader.specs.declared.machine.Phase.{Phase}
use Rattle.mm_reader.specs.declared.machine.Phase.TheVariants as phases
use Rattle.mm_reader.specs.Additions.{with_entries}
use Rattle.mm_reader.specs.ArrayPlaces.{said_next}
use Rattle.mm_reader.specs.Judged.{IsWithin}
use Rattle.mm_reader.specs.Machine.{HasBanner, HasEntries, HasLines, is_complete}
use Rattle.mm_reader.proofs.ArrayLaws.{in_places, items-none, items-push}

-- the phase behind the size line
abbrev pub entries_phase : Header → Size → ℕ → ArrayPlace → Phase
entries_phase h s done next = phases.Entries (record { header = h; size = s }) (record { done = done; place = next })

none_fault : (rules : List Word → List Rule) (l : Line) → first_kind (rules l.words) ≡ None → fault_by rules l ≡ []
none_fault rules l h = rw h refl

some_fault : (rules : List Word → List Rule) (l : Line) (kind : Kind) → first_kind (rules l.words) ≡ Some kind → fault_by rules l ≡ record { line = l.number; kind = kind } ∷ []
some_fault rules l kind h = rw h refl

sizes_open : (end : End) (h : Header) → is_complete end (phases.Sizes h) ≡ true → ⊥
sizes_open File h e = cc
sizes_open LastEntry h e = cc

last_number-push : (ls : List Line) (l : Line) → last_number (ls ++ l ∷ []) ≡ l.number
last_number-push [] l = refl
last_number-push (k ∷ []) l = refl
last_number-push (k ∷ m ∷ ls) l = last_number-push (m ∷ ls) l

-- what the banner line and the size line say
pub header_said : (h : Header) (ls : List (List ℕ)) → HasBanner h ls → header_of ls ≡ h
header_said h ls b = rw b.lines_are (sym b.header_is)

pub size_said : (h : Header) (s : Size) (done : ℕ) (t : entries.Entries) (ls : List (List ℕ)) → HasBanner h ls → (has : HasEntries h s done t (later_lines ls)) → s ≡ size (header_of ls) has.size_line.words
size_said h s done t ls b has = has.size_is ∙ ap (λ (x : Header). size x has.size_line.words) (sym (header_said h ls b))

-- ---- line 1

pub banner_good : (end : End) (l : List ℕ) (h : Header) (t : entries.Entries) → first_kind (banner_rules (words l)) ≡ None → h ≡ header (words l) → HasLines end (phases.Sizes h) t (l ∷ [])
banner_good end l h t none is = record {
  phase_is = (record { first = l; others = []; lines_are = refl; header_is = is }, refl);
  good = banner_comes end l ∙ none_fault banner_rules (line_at 1 l) none;
  last = λ e. absurd (sizes_open end h e);
}

pub banner_bad : (end : End) (l : List ℕ) (kind : Kind) → first_kind (banner_rules (words l)) ≡ Some kind
    → (line_faults end (l ∷ []) ≡ record { line = 1; kind = kind } ∷ []) × (◌≡◌ {A = ℕ} 1 1)
banner_bad end l kind some = (banner_comes end l ∙ some_fault banner_rules (line_at 1 l) kind some, refl)

-- ---- later lines

module _ (end : End) (ls : List (List ℕ)) (l : List ℕ) (h : Header) (n : ℕ) (b : HasBanner h ls) (n_is : n ≡ length ls + 1) (good : line_faults end ls ≡ []) where
  banner_stays : HasBanner h (ls ++ l ∷ [])
  banner_stays = record { first = b.first; others = b.others ++ l ∷ []; lines_are = ap (λ (t : List (List ℕ)). t ++ l ∷ []) b.lines_are; header_is = b.header_is }

  pub number_is : n ≡ length (ls ++ l ∷ [])
  number_is = n_is ∙ sym (length-append ls (l ∷ []))

  later_skipped : is_skipped (words l) ≡ true → later_lines (ls ++ l ∷ []) ≡ later_lines ls
  later_skipped e = rw b.lines_are (later_lines-push_skipped b.first b.others l e)

  faults_skipped : is_skipped (words l) ≡ true → line_faults end (ls ++ l ∷ []) ≡ []
  faults_skipped e =
      let k : line_faults end (ls ++ l ∷ []) ≡ line_faults end ls = rw b.lines_are (skipped_comes end b.first b.others l e) in
      k ∙ good

  pub sizes_skipped : (t : entries.Entries) → later_lines ls ≡ [] → is_skipped (words l) ≡ true → HasLines end (phases.Sizes h) t (ls ++ l ∷ [])
  sizes_skipped t none e = record {
    phase_is = (banner_stays, later_skipped e ∙ none);
    good = faults_skipped e;
    last = λ c. absurd (sizes_open end h c);
  }

  pub entries_skipped : (s : Size) (done : ℕ) (p : ArrayPlace) (t : entries.Entries) → HasEntries h s done t (later_lines ls) → is_complete end (entries_phase h s done p) ≡ false → is_skipped (words l) ≡ true
      → HasLines end (entries_phase h s done p) t (ls ++ l ∷ [])
  entries_skipped s done p t has out e = record {
    phase_is = (banner_stays, subst (λ (x : List Line). HasEntries h s done t x) (sym (later_skipped e)) has);
    good = faults_skipped e;
    last = λ c. absurd cc;
  }

  module _ (kept : is_skipped (words l) ≡ false) where
    length_at : n ≡ length (b.first ∷ b.others) + 1
    length_at = n_is ∙ ap (λ (t : List (List ℕ)). length t + 1) b.lines_are

    later_more : later_lines (ls ++ l ∷ []) ≡ later_lines ls ++ line_at n l ∷ []
    later_more = rw b.lines_are (later_lines-push b.first b.others l n kept length_at)

    -- the size line
    size_faults : later_lines ls ≡ [] → line_faults end (ls ++ l ∷ []) ≡ fault_by (size_rules h) (line_at n l)
    size_faults none =
        let at : later_lines (b.first ∷ b.others) ≡ [] = ap later_lines (sym b.lines_are) ∙ none in
        let k : line_faults end (ls ++ l ∷ []) ≡ line_faults end ls ++ fault_by (size_rules (header (words b.first))) (line_at n l) =
        rw b.lines_are (size_comes end b.first b.others l n kept length_at at) in
        k ∙ ap (λ (t : List Fault). t ++ fault_by (size_rules (header (words b.first))) (line_at n l)) good ∙ ap (λ (x : Header). fault_by (size_rules x) (line_at n l)) (sym b.header_is)

    pub size_good : (s : Size) (p : ArrayPlace) → later_lines ls ≡ [] → first_kind (size_rules h (words l)) ≡ None → s ≡ size h (words l)
        → HasLines end (entries_phase h s 0 p) (record { rows = s.rows; cols = s.cols; field = h.field; items = [] }) (ls ++ l ∷ [])
    size_good s p none first is = record {
      phase_is = (
        banner_stays,
        record {
          size_line = line_at n l;
          entry_lines = [];
          later_are = later_more ∙ ap (λ (t : List Line). t ++ line_at n l ∷ []) none;
          size_is = is;
          done_is = refl;
          in_count = omega arith;
          triples_are = ap (λ (x : List entries.Triple). record { rows = s.rows; cols = s.cols; field = h.field; items = x }) (sym (items-none h s));
        },
      );
      good = size_faults none ∙ none_fault (size_rules h) (line_at n l) first;
      last = λ c. ap last_number (later_more ∙ ap (λ (t : List Line). t ++ line_at n l ∷ []) none) ∙ number_is;
    }

    pub size_bad : (kind : Kind) → later_lines ls ≡ [] → first_kind (size_rules h (words l)) ≡ Some kind
        → (line_faults end (ls ++ l ∷ []) ≡ record { line = n; kind = kind } ∷ []) × (n ≡ length (ls ++ l ∷ []))
    size_bad kind none first = (size_faults none ∙ some_fault (size_rules h) (line_at n l) kind first, number_is)

    -- an entry line, or one behind them
    module _ (s : Size) (done : ℕ) (t : entries.Entries) (has : HasEntries h s done t (later_lines ls)) where
      later_at : later_lines (b.first ∷ b.others) ≡ has.size_line ∷ has.entry_lines
      later_at = ap later_lines (sym b.lines_are) ∙ has.later_are

      abbrev size_here : Size
      size_here = size (header (words b.first)) has.size_line.words

      size_at : s ≡ size_here
      size_at = has.size_is ∙ ap (λ (x : Header). size x has.size_line.words) b.header_is

      entry_faults : done < s.count → line_faults end (ls ++ l ∷ []) ≡ fault_by (entry_rules h s) (line_at n l)
      entry_faults low =
          let d = has.done_is in
          let c : s.count ≡ size_here.count = ap (λ (x : Size). x.count) size_at in
          let short : length has.entry_lines < size_here.count = omega arith in
          let k : line_faults end (ls ++ l ∷ []) ≡ line_faults end ls ++ fault_by (entry_rules (header (words b.first)) size_here) (line_at n l) =
          rw b.lines_are (entry_comes end b.first b.others l n kept length_at has.size_line has.entry_lines later_at short) in
          k ∙ ap (λ (x : List Fault). x ++ fault_by (entry_rules (header (words b.first)) size_here) (line_at n l)) good
          ∙ ap (λ (x : Header). fault_by (entry_rules x size_here) (line_at n l)) (sym b.header_is)
          ∙ ap (λ (x : Size). fault_by (entry_rules h x) (line_at n l)) (sym size_at)

      later_entries : later_lines (ls ++ l ∷ []) ≡ has.size_line ∷ (has.entry_lines ++ line_at n l ∷ [])
      later_entries = later_more ∙ ap (λ (x : List Line). x ++ line_at n l ∷ []) has.later_are

      -- what the line adds
      abbrev added : List entries.Triple
      added = with_mirrors h.symmetry (said_next h.format h s done (words l))

      triples_more : IsWithin h s → done < s.count → with_entries t added ≡ record { rows = s.rows; cols = s.cols; field = h.field; items = items h s (has.entry_lines ++ line_at n l ∷ []) }
      triples_more within low =
          let d : length has.entry_lines ≡ done = sym has.done_is in
          let e : items h s (has.entry_lines ++ line_at n l ∷ []) ≡ items h s has.entry_lines ++ added =
          items-push h s has.entry_lines (line_at n l) (λ array. in_places h s within array (length has.entry_lines) (omega arith))
          ∙ ap (λ k. items h s has.entry_lines ++ with_mirrors h.symmetry (said_next h.format h s k (words l))) d in
          rw e (ap (λ (x : entries.Entries). with_entries x added) has.triples_are)

      pub entry_good : (p : ArrayPlace) (after : entries.Entries) → IsWithin h s → done < s.count → first_kind (entry_rules h s (words l)) ≡ None
          → after ≡ with_entries t added
          → HasLines end (entries_phase h s (done + 1) p) after (ls ++ l ∷ [])
      entry_good p after within low first is = record {
        phase_is = (
          banner_stays,
          record {
            size_line = has.size_line;
            entry_lines = has.entry_lines ++ line_at n l ∷ [];
            later_are = later_entries;
            size_is = has.size_is;
            in_count = omega arith;
            done_is = ap (λ k. k + 1) has.done_is ∙ sym (length-append has.entry_lines (line_at n l ∷ []));
            triples_are = is ∙ triples_more within low;
          },
        );
        good = entry_faults low ∙ none_fault (entry_rules h s) (line_at n l) first;
        last = λ c. ap last_number later_entries ∙ last_number-push (has.size_line ∷ has.entry_lines) (line_at n l) ∙ number_is;
      }

      pub entry_bad : (kind : Kind) → done < s.count → first_kind (entry_rules h s (words l)) ≡ Some kind
          → (line_faults end (ls ++ l ∷ []) ≡ record { line = n; kind = kind } ∷ []) × (n ≡ length (ls ++ l ∷ []))
      entry_bad kind low first = (entry_faults low ∙ some_fault (entry_rules h s) (line_at n l) kind first, number_is)

      trailing_faults : done ≡ s.count → line_faults end (ls ++ l ∷ []) ≡ trailing end (line_at n l ∷ [])
      trailing_faults full =
          let c : s.count ≡ size_here.count = ap (λ (x : Size). x.count) size_at in
          let k : line_faults end (ls ++ l ∷ []) ≡ line_faults end ls ++ trailing end (line_at n l ∷ []) =
          rw b.lines_are (trailing_comes end b.first b.others l n kept length_at has.size_line has.entry_lines later_at (sym has.done_is ∙ full ∙ c)) in
          k ∙ ap (λ (x : List Fault). x ++ trailing end (line_at n l ∷ [])) good

      pub line_trails : (p : ArrayPlace) → done ≡ s.count → is_complete end (entries_phase h s done p) ≡ false
          → (line_faults end (ls ++ l ∷ []) ≡ record { line = n; kind = Trailing } ∷ []) × (n ≡ length (ls ++ l ∷ []))
      line_trails p full out = (trailing_faults full ∙ by end out, number_is)
        where
          by : (e : End) → is_complete e (entries_phase h s done p) ≡ false → trailing e (line_at n l ∷ []) ≡ record { line = n; kind = Trailing } ∷ []
          by File o = refl
          by LastEntry o = let k : (done == s.count) ≡ true = eq-eqb done s.count full in absurd cc
