-- How a reading ends, of a source that may tell its bytes.
use Rattle.std.proofs.Common.{◌≡◌, ◌≢◌, ℕ, ◌+◌, ◌-◌, ◌*◌, ◌<◌, ◌≤◌, Bool, true, false, ◌==◌, if◌then◌else◌, List, [], ◌++◌, length, drop, refl, sym, ap, ◌∙◌, arith, length-drop, Option, Some, None, Result, Ok, Err, OnOk, MatchResult, eq-eqb, ne_eqb}
use Rattle.sp_ids.specs.Entries as entries
use Rattle.sp_ports.specs.Bytes.{Gives, IsAtEnd, WhereKnown}
use Rattle.sp_ports.specs.Device.{SourceRose}
use Rattle.mm_defs.specs.File.{Reads}
use Rattle.mm_defs.specs.declared.answers.End.{End}
use Rattle.mm_defs.specs.declared.answers.ReadError.{ReadError}
use Rattle.mm_defs.specs.declared.answers.ReadError.TheVariants as errors
use Rattle.mm_defs.specs.declared.answers.End.TheVariants.{File, LastEntry}
use Rattle.mm_defs.specs.Calls.{HasItsKind, call_on}
use Rattle.mm_defs.specs.Words.{lines, open_line}
use Rattle.mm_reader.specs.declared.machine.Machine.{Machine}
use Rattle.mm_reader.specs.declared.machine.Phase.{Phase}
use Rattle.mm_reader.specs.declared.window.Window.{Window}
use Rattle.mm_reader.specs.Machine.{is_complete}
use Rattle.mm_reader.specs.Stages.{IsAfter}
use Rattle.mm_reader.specs.Windows.{ahead_of, Answers, IsWindow, Refuses, RefusesAtEnd}
use Rattle.mm_reader.proofs.CompleteLaws.{complete_reads}
use Rattle.mm_reader.proofs.MissingLines.{lacks_lines}
use Rattle.mm_reader.proofs.Progress.{Fed}
use Rattle.mm_reader.proofs.StreamLaws.{refused_answer, fault_answer, fault_short, end_refused, end_read, read_on}
use Rattle.mm_reader.proofs.WindowLaws.{length-ahead_of}
use Rattle.mm_defs.proofs.WordLemmas.{empty_of}

-- ---- the counts of failures

pub rose_since : (old now : Option (List ℕ)) (gave : List ℕ) (fb f1 fa : ℕ) → Gives old now gave → f1 ≡ fb → SourceRose now f1 fa → SourceRose old fb fa
rose_since None None gave fb f1 fa g e h = omega arith
rose_since None (Some r) gave fb f1 fa g e h = omega arith
rose_since (Some l) None gave fb f1 fa g e h = absurd g
rose_since (Some l) (Some r) gave fb f1 fa g e h = omega arith

-- ---- the exits

module _ (end : End) (w0 : Window) (fb fa : ℕ) (m : Machine) (w : Window) (win : IsWindow w) where
  small : length (ahead_of w) ≤ 65536
  small = let n = length-ahead_of w win in omega (arith, win.within)

  pub exit_refused : (w3 : Window) (old now : Option (List ℕ)) (error : ReadError) → Fed end w0 w old now m
      → ((bytes : List ℕ) → IsAfter end m bytes → Refuses end bytes (ahead_of w) w.room error)
      → WhereKnown old now (λ before after. Answers end (call_on w0.room (ahead_of w0) fb fa before after) w3 (Err error))
  exit_refused w3 None now error f h = tt
  exit_refused w3 (Some before) None error f h = absurd f.so_far.known
  exit_refused w3 (Some before) (Some after) error f h =
      let e : w0.room - length f.used ≡ w.room = omega (arith, f.so_far.size) in
      let fits : length f.used ≤ w0.room = omega (arith, f.so_far.size) in
      let k : Refuses end f.used (ahead_of w) (w0.room - length f.used) error = rw e (h f.used f.stands) in
      let r = refused_answer end (ahead_of w0) before after f.so_far.gave f.used (ahead_of w) w0.room fb fa f.so_far.known f.so_far.split fits (ahead_of w3 ++ after) error small k in
      record { answer = r.0; near = r.1; short = r.2 }

  pub exit_fault : (w3 : Window) (old now : Option (List ℕ)) → Fed end w0 w old now m → ahead_of w ≡ [] → is_complete end m.phase ≡ false → SourceRose old fb fa
      → WhereKnown old now (λ before after. Answers end (call_on w0.room (ahead_of w0) fb fa before after) w3 (Err errors.ReadFault))
  exit_fault w3 None now f none open_now h = tt
  exit_fault w3 (Some before) None f none open_now h = absurd f.so_far.known
  exit_fault w3 (Some before) (Some after) f none open_now h =
      let fits : length f.used ≤ w0.room = omega (arith, f.so_far.size) in
      record {
        answer = fault_answer end (ahead_of w0) before after f.so_far.gave f.used (ahead_of w) w0.room fb fa f.so_far.known f.so_far.split fits (ahead_of w3 ++ after) none h f.stands.lines_are.good;
        near = tt;
        short = fault_short end (ahead_of w0) before after f.so_far.gave f.used (ahead_of w) w0.room fb fa f.so_far.known f.so_far.split fits none (lacks_lines end m.phase m.triples (lines false f.used) f.stands.lines_are open_now);
      }

  pub exit_done : (old now : Option (List ℕ)) (t : entries.Entries) (f : Fed end w0 w old now m) → is_complete end m.phase ≡ true → open_line f.used ≡ [] → t ≡ m.triples
      → WhereKnown old now (λ before after. Answers end (call_on w0.room (ahead_of w0) fb fa before after) w (Ok t))
  exit_done None now t f e closed is = tt
  exit_done (Some before) None t f e closed is = absurd f.so_far.known
  exit_done (Some before) (Some after) t f e closed is =
      let fits : length f.used ≤ w0.room = omega (arith, f.so_far.size) in
      let r = complete_reads end m.phase m.triples f.used (ahead_of w ++ after) f.stands.lines_are e closed in
      record {
        answer = read_on end (ahead_of w0) before after f.so_far.gave f.used (ahead_of w) w0.room fb fa f.so_far.known f.so_far.split fits t (ahead_of w ++ after) refl (rw is r);
        near = tt;
        short = tt;
      }

  exit_of : (before after : List ℕ) (f : Fed end w0 w (Some before) (Some after) m) (result : Result entries.Entries ReadError) → ahead_of w ≡ [] → after ≡ [] → fa ≡ fb
      → MatchResult result (λ t. Reads f.used end t []) (RefusesAtEnd end f.used) → Answers end (call_on w0.room (ahead_of w0) fb fa before after) w result
  exit_of before after f (Ok t) none over steady h =
      let fits : length f.used ≤ w0.room = omega (arith, f.so_far.size) in
      record {
        answer = end_read end (ahead_of w0) before after f.so_far.gave f.used (ahead_of w) w0.room fb fa f.so_far.known f.so_far.split fits none over steady t (ahead_of w ++ after) (rw (none, over) refl) h;
        near = tt;
        short = tt;
      }
  exit_of before after f (Err error) none over steady h =
      let fits : length f.used ≤ w0.room = omega (arith, f.so_far.size) in
      let r = end_refused end (ahead_of w0) before after f.so_far.gave f.used (ahead_of w) w0.room fb fa f.so_far.known f.so_far.split fits none over steady (ahead_of w ++ after) error h in
      record { answer = r.0; near = r.1; short = r.2 }

  pub exit_end : (old now : Option (List ℕ)) (result : Result entries.Entries ReadError) → Fed end w0 w old now m → ahead_of w ≡ [] → IsAtEnd now → fa ≡ fb → is_complete end m.phase ≡ false
      → ((e : End) (bytes : List ℕ) → IsAfter e m bytes → is_complete e m.phase ≡ false → MatchResult result (λ t. Reads bytes e t []) (RefusesAtEnd e bytes))
      → WhereKnown old now (λ before after. Answers end (call_on w0.room (ahead_of w0) fb fa before after) w result)
  exit_end None now result f none over steady out h = tt
  exit_end (Some before) None result f none over steady out h = absurd f.so_far.known
  exit_end (Some before) (Some after) result f none over steady out h = exit_of before after f result none over steady (h end f.used f.stands out)

pub memory_known : (end : End) (w0 w3 : Window) (fb fa : ℕ) (o : Option (List ℕ)) → WhereKnown o o (λ before after. Answers end (call_on w0.room (ahead_of w0) fb fa before after) w3 (Err errors.OutOfMemory))
memory_known end w0 w3 fb fa None = tt
memory_known end w0 w3 fb fa (Some xs) = record { answer = tt; near = tt; short = tt }

-- where no line has begun, what was used ends with an LF, or is empty
pub closed_used : (end : End) (m : Machine) (used : List ℕ) → IsAfter end m used → m.begun ≡ false → open_line used ≡ []
closed_used end m used a closed = empty_of (open_line used) (sym a.begun_is ∙ closed)

-- where a matrix ends with the file, more lines may always follow
pub file_open : (end : End) (phase : Phase) → end ≡ File → is_complete end phase ≡ true → ⊥
file_open File phase e full = cc
file_open LastEntry phase e full = cc

pub on_ok : {T E : Type 0} (P : Type 0) (r : Result T E) → P → OnOk r P
on_ok P (Ok x) p = p
on_ok P (Err e) p = tt

pub same_error : {T U : Type 0} (e f : ReadError) → ◌≡◌ {A = Result T ReadError} (Err e) (Err f) → ◌≡◌ {A = Result U ReadError} (Err e) (Err f)
same_error e f h = let k : e ≡ f = cc in ap Err k

pub refused_no_fault : (end : End) (bytes ahead : List ℕ) (room : ℕ) (error : ReadError) → Refuses end bytes ahead room error → ◌≡◌ {A = Result entries.Entries ReadError} (Err error) (Err errors.ReadFault) → ⊥
refused_no_fault end bytes ahead room error h e = let k : error ≡ errors.ReadFault = cc in rw k at h

pub ended_no_fault : (P : entries.Entries → Type 0) (end : End) (bytes : List ℕ) (result : Result entries.Entries ReadError) → MatchResult result P (RefusesAtEnd end bytes) → result ≡ Err errors.ReadFault → ⊥
ended_no_fault P end bytes (Ok t) h e = cc
ended_no_fault P end bytes (Err error) h e = let k : error ≡ errors.ReadFault = cc in rw k at h

pub ended_in_room : (P : entries.Entries → Type 0) (end : End) (bytes : List ℕ) (result : Result entries.Entries ReadError) → MatchResult result P (RefusesAtEnd end bytes) → result ≡ Err errors.TooLong → ⊥
ended_in_room P end bytes (Ok t) h e = cc
ended_in_room P end bytes (Err error) h e = let k : error ≡ errors.TooLong = cc in rw k at h

pub refused_kind : (end : End) (bytes ahead : List ℕ) (room : ℕ) (error : ReadError) → Refuses end bytes ahead room error → HasItsKind {T = entries.Entries} (Err error)
refused_kind end bytes ahead room (errors.Malformed line kind) h = h.1
refused_kind end bytes ahead room (errors.Limit line kind) h = h.1
refused_kind end bytes ahead room errors.TooLong h = tt
refused_kind end bytes ahead room errors.ReadFault h = tt
refused_kind end bytes ahead room errors.OutOfMemory h = tt

pub ended_kind : (P : entries.Entries → Type 0) (end : End) (bytes : List ℕ) (result : Result entries.Entries ReadError) → MatchResult result P (RefusesAtEnd end bytes) → HasItsKind result
ended_kind P end bytes (Ok t) h = tt
ended_kind P end bytes (Err (errors.Malformed line kind)) h = h.2
ended_kind P end bytes (Err (errors.Limit line kind)) h = h.2
ended_kind P end bytes (Err errors.TooLong) h = tt
ended_kind P end bytes (Err errors.ReadFault) h = tt
ended_kind P end bytes (Err errors.OutOfMemory) h = tt

-- ---- each turn takes bytes, or is the last

abbrev pub measure : Window → ℕ
measure w = 2 * w.room + (if w.at_end then 0 else 1) + (if w.from == w.to then 1 else 0)

pub turn_smaller : (w w1 w2 : Window) (count : ℕ) → IsWindow w → IsWindow w2 → w1.room + count ≡ w.room → count ≡ length (ahead_of w) → w.at_end ≡ false → w2.room ≡ w1.room
    → (w2.at_end ≡ false → 0 < length (ahead_of w2)) → measure w2 < measure w
turn_smaller w w1 w2 count win win2 rooms all more same some = by (w.from == w.to) refl w2.at_end refl
  where
    most : (b : Bool) → (if b then 1 else 0) ≤ 1
    most true = omega arith
    most false = omega arith

    by : (b : Bool) → (w.from == w.to) ≡ b → (e : Bool) → w2.at_end ≡ e → measure w2 < measure w
    by true b true e = let n = length-ahead_of w win in let m = most (w2.from == w2.to) in rw (more, b, e) (omega arith)
    by false b true e =
        let n = length-ahead_of w win in
        let m = most (w2.from == w2.to) in
        let ne : w.from ≢ w.to = λ x. let y = eq-eqb w.from w.to x in cc in
        rw (more, b, e) (omega (arith, win.in_order))
    by true b false e =
        let k = some e in
        let n2 = length-ahead_of w2 win2 in
        let ne : (w2.from == w2.to) ≡ false = ne_eqb w2.from w2.to (omega arith) in
        let n = length-ahead_of w win in
        rw (more, b, e, ne) (omega arith)
    by false b false e =
        let k = some e in
        let n2 = length-ahead_of w2 win2 in
        let ne2 : (w2.from == w2.to) ≡ false = ne_eqb w2.from w2.to (omega arith) in
        let n = length-ahead_of w win in
        let ne : w.from ≢ w.to = λ x. let y = eq-eqb w.from w.to x in cc in
        rw (more, b, e, ne2) (omega (arith, win.in_order))

-- where nothing is left ahead, all was used
pub all_used : (xs ys : List ℕ) (n : ℕ) → n ≤ length xs → ys ≡ drop n xs → ys ≡ [] → n ≡ length xs
all_used xs ys n h e none = let k : length (drop n xs) ≡ 0 = ap length (sym e ∙ none) in omega (arith, length-drop n xs)
