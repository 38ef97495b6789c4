-- What the reading of a file with edit lines behind it says, from what the readers answer.
use Rattle.std.proofs.Common.{◌≡◌, ◌+◌, ◌-◌, ◌<◌, ◌≤◌, ◌++◌, ◌∙◌, ℕ, Bool, true, List, [], Err, Option, Some, None, append_assoc, append-nil, arith, ap, count_by, length, length-append, nat_le, refl, sym, subst, slice_get, take}
use Rattle.std.proofs.Math.Seq.{take-append-add, take-append_seam}
use Rattle.std.proofs.lemmas.Bool.Decides.{nat_tests}
use Rattle.std.proofs.lemmas.List.Sums.{sum_by-append}
use Rattle.sp_ids.specs.Entries.{Entries}
use Rattle.sp_ports.specs.Bytes.{Gives, GivesPrefix, WhereKnown}
use Rattle.sp_ports.specs.Device.{Device, SourceRose}
use Rattle.mm_defs.specs.Calls.{Call, HasItsKind, Intake, call_on, ended, given, got, room}
use Rattle.mm_defs.specs.EditedFiles.{edited_faults, first_bad_edited, first_edited_fault}
use Rattle.mm_defs.specs.EditLines.{edit_faults}
use Rattle.mm_defs.specs.File.{Fault}
use Rattle.mm_defs.specs.Words.{is_lf, lines}
use Rattle.mm_defs.specs.declared.answers.ReadError.{ReadError}
use Rattle.mm_defs.specs.declared.answers.ReadError.TheVariants as errors
use Rattle.mm_defs.proofs.AnswerLemmas.{given_prefix}
use Rattle.mm_defs.proofs.EditLineLemmas.{said_alike}
use Rattle.mm_defs.proofs.EditedSplits.{faults_behind, read_front}
use Rattle.mm_frames.specs.declared.edit.Edit.{Edit}
use Rattle.mm_frames.specs.Edits.{ReadsEdits, RefusesEdits, edit, edits_of, first_bad_edit}
use Rattle.btf_tool.specs.Inputs as forms
use Rattle.btf_tool.specs.Jobs.{WasRead, reading}
use Rattle.btf_tool.specs.Refusals.{refusal_for}
use Rattle.btf_tool.specs.Runs.{IsReadAs, IsUnread}
use Rattle.btf_tool.proofs.Completeness.{where_known}
use Rattle.btf_tool.proofs.FileAnswers.{HasRead, both, fresh, given_known, over_both, rose_before, second_empty, too_long, within}

-- the first call used so many LFs
abbrev pub CountsLines : Intake → List ℕ → List ℕ → Type 0
CountsLines new before between = new.lines + count_by is_lf (new.ahead ++ between) ≡ 0 + count_by is_lf before

first_alike : (one two : Bool) (bytes front some : List ℕ) (n k rows cols : ℕ) → one ≡ two → bytes ≡ front ++ some → n ≡ k → edited_faults two (lines two (front ++ some)) ≡ edit_faults n rows cols (lines two some)
    → first_edited_fault one bytes ≡ slice_get (edit_faults k rows cols (lines two some)) 0
unfolding first_edited_fault
first_alike one two bytes front some n k rows cols same is number faults = rw (same, is, ← number) (ap (λ (fs : List Fault). slice_get fs 0) faults)

-- what the two calls see of one input: the first reads the matrix, and the second is given what follows it
module _ (input : Device) (new : Intake) (f : ℕ) (t : Entries) (x y z gave : List ℕ) (limit : new.limit ≡ 68719476736) (h : HasRead new t x y) (counts : CountsLines new x y) (split : y ≡ gave ++ z) (steady : f ≡ input.failed_before) where
  abbrev second : Call
  second = call_on (room new) new.ahead f input.failed_after y z

  abbrev whole : Call
  whole = reading input x z

  abbrev front : List ℕ
  front = (read_front x (new.ahead ++ y) t h.reads).0

  front_is : x ≡ front ++ (new.ahead ++ y)
  front_is = (read_front x (new.ahead ++ y) t h.reads).1

  lengths : length x ≡ length front + (length new.ahead + length y)
  lengths = ap length front_is ∙ length-append front (new.ahead ++ y) ∙ ap (λ n. length front + n) (length-append new.ahead y)

  -- the second call may use what the matrix leaves of the limit
  room_is : room new + length front ≡ 68719476736
  room_is =
      let l = lengths in
      let w = h.within in
      let taken = h.taken in
      let n = length-append new.ahead y in
      omega (arith, limit, l, w, taken, n)

  lines_are : count_by is_lf front ≡ new.lines
  lines_are =
      let n : count_by is_lf x ≡ count_by is_lf front + count_by is_lf (new.ahead ++ y) = ap (count_by is_lf) front_is ∙ sum_by-append _ front (new.ahead ++ y) in
      omega (arith, n, counts)

  seam : (n : ℕ) (xs ys zs : List ℕ) → xs ≡ ys ++ zs → n ≡ length ys → take n xs ≡ ys
  seam n xs ys zs e k = ap (take n) e ∙ ap (λ i. take i (ys ++ zs)) k ∙ take-append_seam ys zs

  got_second : got second ≡ new.ahead ++ gave
  got_second =
      let n : length y ≡ length gave + length z = ap length split ∙ length-append gave z in
      ap (λ (b : List ℕ). new.ahead ++ b) (seam (length y - length z) y gave z split (omega (arith, n)))

  got_whole : got whole ≡ front ++ got second
  got_whole =
      let e : x ≡ (front ++ (new.ahead ++ gave)) ++ z = front_is ∙ ap (λ (b : List ℕ). front ++ b) (ap (λ (b : List ℕ). new.ahead ++ b) split ∙ sym (append_assoc new.ahead gave z)) ∙ sym (append_assoc front (new.ahead ++ gave) z) in
      let n : length x ≡ length (front ++ (new.ahead ++ gave)) + length z = ap length e ∙ length-append (front ++ (new.ahead ++ gave)) z in
      seam (length x - length z) x (front ++ (new.ahead ++ gave)) z e (omega (arith, n)) ∙ ap (λ (b : List ℕ). front ++ b) (sym got_second)

  given_whole : given whole ≡ front ++ given second
  given_whole =
      let r = room_is in
      let n : 68719476736 ≡ length front + room new = omega (arith, r) in
      ap (take 68719476736) got_whole ∙ ap (λ i. take i (front ++ got second)) n ∙ take-append-add front (got second) (room new)

  within_alike : (a b : ℕ) → a ≡ length front + b → nat_le a 68719476736 ≡ nat_le b (room new)
  within_alike a b e = let r = room_is in grind (arith, nat_tests)

  ended_alike : ended whole ≡ ended second
  ended_alike = rw (within_alike (length (got whole)) (length (got second)) (ap length got_whole ∙ length-append front (got second)), steady) refl

  -- the first bad line of the input is that of the edit lines
  pub bad_alike : first_bad_edited whole ≡ first_bad_edit new.lines t.rows t.cols second
  bad_alike =
      let p = given_prefix second in
      first_alike (ended whole) (ended second) (given whole) front (given second) (count_by is_lf front) new.lines t.rows t.cols ended_alike given_whole lines_are
      (faults_behind (ended second) front (given second) p.0 (new.ahead ++ y) t (rw (← front_is) h.reads) p.1)

  -- both were read
  pub both_read : (es : List Edit) (left : List ℕ) → ReadsEdits new.lines t.rows t.cols second es (left ++ z) → WasRead forms.Edited whole t (new.ahead ++ y)
  both_read es left r =
      let l = lengths in
      let m = room_is in
      let fits = r.within in
      let n = length-append new.ahead y in
      let b : edited_faults true (lines true (front ++ (new.ahead ++ y))) ≡ edit_faults (count_by is_lf front) t.rows t.cols (lines true (new.ahead ++ y)) =
      faults_behind true front (new.ahead ++ y) [] (new.ahead ++ y) t (rw (← front_is) h.reads) (append-nil (new.ahead ++ y)) in
      record {
        good = record { reads = h.reads; edits = ap (λ (bytes : List ℕ). edited_faults true (lines true bytes)) front_is ∙ b ∙ ap (λ k. edit_faults k t.rows t.cols (lines true (new.ahead ++ y))) lines_are ∙ r.good };
        within = omega (arith, l, m, n, fits);
        to_the_end = second_empty left z r.nothing_left;
      }

  too_many : room new < length (got second) → 68719476736 < length (got whole)
  too_many past = too_long input new f t x y z gave limit h split past

  few : length (got second) ≤ room new → length (got whole) ≤ 68719476736
  few fits = within input new f t x y z gave limit h split fits

-- what the edits say does not depend on where their lines stand
said_anywhere : (n : ℕ) (ls : List (List ℕ)) → edits_of n ls ≡ edits_of 0 ls
said_anywhere n ls = said_alike edit (n + 1) (0 + 1) ls

-- what both calls see of one input, where it tells its bytes
pub record Seen (new : Intake) (t : Entries) (x y : List ℕ) : Type 0 where
  pub matrix : HasRead new t x y
  pub counts : CountsLines new x y

abbrev pub SeenOn : Option (List ℕ) → Option (List ℕ) → Intake → Entries → Type 0
SeenOn old mid new t = WhereKnown old mid (Seen new t)

pub seen_on : (old mid : Option (List ℕ)) (new : Intake) (t : Entries) → WhereKnown old mid (λ x y. HasRead new t x y) → WhereKnown old mid (CountsLines new) → SeenOn old mid new t
seen_on old mid new t first counts = where_known old mid (both _ _ old mid first counts) (λ x y before h. record { matrix = h.0; counts = h.1 })

pub counts_lines : (start new : Intake) (old mid : Option (List ℕ)) → start ≡ fresh → WhereKnown old mid (λ x y. new.lines + count_by is_lf (new.ahead ++ y) ≡ start.lines + count_by is_lf (start.ahead ++ x))
    → WhereKnown old mid (CountsLines new)
counts_lines start new old mid is counts = subst (λ (i : Intake). WhereKnown old mid (λ x y. new.lines + count_by is_lf (new.ahead ++ y) ≡ i.lines + count_by is_lf (i.ahead ++ x))) is counts

-- the matrix and the edits were read
pub edited_read : (input : Device) (mid : Option (List ℕ)) (new : Intake) (f : ℕ) (t : Entries) (es : List Edit) (left : List ℕ) → new.limit ≡ 68719476736 → SeenOn input.before mid new t
    → WhereKnown mid input.after (λ y z. ReadsEdits new.lines t.rows t.cols (call_on (room new) new.ahead f input.failed_after y z) es (left ++ z)) → GivesPrefix mid input.after
    → f ≡ input.failed_before → input.failed_after ≡ input.failed_before → (bytes : List ℕ) × (es ≡ edits_of new.lines (lines true bytes))
    → (rest : List ℕ) × IsReadAs forms.Edited input t rest × (es ≡ edits_of 0 (lines true rest))
edited_read input mid new f t es left limit first second gave steady same said = by input.before mid input.after first second gave.1
  where
    by : (old mid now : Option (List ℕ)) → SeenOn old mid new t → WhereKnown mid now (λ y z. ReadsEdits new.lines t.rows t.cols (call_on (room new) new.ahead f input.failed_after y z) es (left ++ z)) → Gives mid now gave.0
        → (rest : List ℕ) × IsReadAs forms.Edited (record { before = old; after = now; failed_before = input.failed_before; failed_after = input.failed_after }) t rest × (es ≡ edits_of 0 (lines true rest))
    by None mid now first second given = (said.0, (same, tt), said.1 ∙ said_anywhere new.lines (lines true said.0))
    by (Some x) None now first second given = absurd first
    by (Some x) (Some y) None first second given = absurd second
    by (Some x) (Some y) (Some z) first second given = (
      new.ahead ++ y,
      (same, both_read input new f t x y z gave.0 limit first.matrix first.counts given steady es left second),
      second.edits_are ∙ said_anywhere new.lines (lines true (new.ahead ++ y)),
    )

-- the edits could not be read
pub edits_not_read : (input : Device) (mid : Option (List ℕ)) (new : Intake) (f : ℕ) (t : Entries) (e : ReadError) → new.limit ≡ 68719476736 → SeenOn input.before mid new t
    → WhereKnown mid input.after (λ y z. RefusesEdits new.lines t.rows t.cols (call_on (room new) new.ahead f input.failed_after y z) e) → GivesPrefix mid input.after
    → HasItsKind {T = List Edit} (Err e) → f ≡ input.failed_before → (e ≡ errors.ReadFault → SourceRose mid f input.failed_after) → IsUnread forms.Edited input (refusal_for e)
edits_not_read input mid new f t e limit first second gave kind steady rose = by e second kind rose
  where
    told : (P : List ℕ → List ℕ → Type 0) (Q : List ℕ → List ℕ → Type 0) → WhereKnown mid input.after P → ((x y z : List ℕ) → Seen new t x y → y ≡ gave.0 ++ z → P y z → Q x z) → WhereKnown input.before input.after Q
    told P Q second f =
        over_both input.before mid input.after first (both _ _ mid input.after second (given_known mid input.after gave.0 gave.1)) (λ x y z s p. f x y z s p.1 p.0)

    alike : (x y z : List ℕ) (o : Option Fault) → Seen new t x y → y ≡ gave.0 ++ z → first_bad_edit new.lines t.rows t.cols (call_on (room new) new.ahead f input.failed_after y z) ≡ o → first_bad_edited (reading input x z) ≡ o
    alike x y z o s split is = bad_alike input new f t x y z gave.0 limit s.matrix s.counts split steady ∙ is

    by : (e : ReadError) → WhereKnown mid input.after (λ y z. RefusesEdits new.lines t.rows t.cols (call_on (room new) new.ahead f input.failed_after y z) e) → HasItsKind {T = List Edit} (Err e) → (e ≡ errors.ReadFault → SourceRose mid f input.failed_after) → IsUnread forms.Edited input (refusal_for e)
    by (errors.Malformed line kind) second is rose = (is, told _ _ second (λ x y z s split h. alike x y z _ s split h.0))
    by (errors.Limit line kind) second is rose = (is, told _ _ second (λ x y z s split h. alike x y z _ s split h.0))
    by errors.TooLong second is rose =
        told _ _ second (λ x y z s split h. (alike x y z None s split h.0, too_many input new f t x y z gave.0 limit s.matrix s.counts split steady h.1))
    by errors.ReadFault second is rose = (
      rose_before _ input.before mid input.failed_before f input.failed_after first steady (rose refl),
      told _ _ second (λ x y z s split h. (alike x y z None s split h.0, few input new f t x y z gave.0 limit s.matrix s.counts split steady h.2)),
    )
    by errors.OutOfMemory second is rose = told _ _ second (λ x y z s split h. tt)
