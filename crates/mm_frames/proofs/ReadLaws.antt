-- What a reader of edit lines has read, byte by byte and at the end.
use Rattle.std.proofs.Common.{◌≡◌, ◌≢◌, ℕ, ◌+◌, ◌<◌, ◌^◌, Bool, true, false, if◌then◌else◌, List, [], ◌∷◌, ◌++◌, length, refl, sym, ap, ◌∙◌, append-nil, arith, length-append, eq-eqb, ne_eqb, Option, Some, None, Result, Ok, Err, MatchResult, slice_get}
use Rattle.std.specs.Global.{Vec}
use Rattle.sp_ports.specs.Bytes.{WhereKnown}
use Rattle.mm_defs.specs.declared.answers.ReadError.{ReadError}
use Rattle.mm_defs.specs.declared.answers.ReadError.TheVariants as errors
use Rattle.mm_defs.specs.Words.{is_lf, has_bytes, lines, open_line}
use Rattle.mm_defs.specs.File.{Fault}
use Rattle.mm_defs.specs.Calls.{Call, Intake, IsAnswerTo, call_on, ended, given, offered}
use Rattle.mm_defs.proofs.AnswerLemmas.{given_all, given_prefix}
use Rattle.mm_defs.proofs.SplitLemmas.{has_bytes-push}
use Rattle.mm_defs.proofs.Lines.{lines-none, open_line-none, lines-push_lf, open_line-push_lf, lines-push, open_line-push, lines-ended, lines-append}
use Rattle.sp_ports.specs.Device.{Device}
use Rattle.mm_reader.specs.Fronts.{Front, Stops, UsesByte}
use Rattle.mm_reader.specs.Inputs.{OnCall}
use Rattle.mm_lines.specs.KeptLines.{KeptLine}
use Rattle.mm_lines.specs.Lines.{IsLine}
use Rattle.mm_frames.specs.declared.edit.Edit.{Edit}
use Rattle.mm_defs.specs.EditLines.{edit_faults}
use Rattle.mm_frames.specs.Edits.{ReadsEdits, RefusesEdits, first_bad_edit}
use Rattle.mm_frames.specs.Readings.{TellsEdits}
use Rattle.mm_frames.specs.Stages.{AreRead, HasRead, HasUsed, RefusesLast, StandsAfter}
use Rattle.mm_defs.proofs.EditLineLemmas.{edit_faults-append}
use Rattle.mm_frames.proofs.EditLaws.{none_read}
use Rattle.mm_frames.proofs.UsedLaws.{fits, none_used, on_call, one_more, stopped_used, rose_since, used_first, past_given, failed_given, where_known}

-- ---- byte by byte

pub stands_at_start : (n rows cols : ℕ) (l : KeptLine) → IsLine l [] → StandsAfter n rows cols [] l false []
stands_at_start n rows cols l is =
    let a = lines-none false in
    record { lines_are = rw a (none_read n rows cols); open_is = rw open_line-none is; begun_is = rw open_line-none refl }

module _ (n rows cols : ℕ) (bytes : List ℕ) (b : ℕ) where
  pub byte_stands : (es : List Edit) (l l2 : KeptLine) (begun : Bool) → b ≢ 10 → StandsAfter n rows cols es l begun bytes → IsLine l2 (open_line bytes ++ b ∷ []) → StandsAfter n rows cols es l2 true (bytes ++ b ∷ [])
  byte_stands es l l2 begun other h is =
      let f : is_lf b ≡ false = ne_eqb b 10 other in
      let k = lines-push bytes b f in
      let o = open_line-push bytes b f in
      record { lines_are = rw k h.lines_are; open_is = rw o is; begun_is = rw o (sym (has_bytes-push (open_line bytes) b)) }

  pub lf_stands : (es : List Edit) (l2 : KeptLine) → b ≡ 10 → AreRead n rows cols (lines false bytes ++ open_line bytes ∷ []) es → IsLine l2 [] → StandsAfter n rows cols es l2 false (bytes ++ b ∷ [])
  lf_stands es l2 lf h is =
      let f : is_lf b ≡ true = eq-eqb b 10 lf in
      let k = lines-push_lf bytes b f in
      let o = open_line-push_lf bytes b f in
      record { lines_are = rw k h; open_is = rw o is; begun_is = rw o refl }

pub read_at_start : (rows cols : ℕ) (f : Front) (left : Option (List ℕ)) (l : KeptLine) → IsLine l [] → HasRead rows cols f f left left [] l false
read_at_start rows cols f left l is = record {
  used = [];
  so_far = none_used f left;
  lines_are = let e = lines-none false in rw e (omega arith);
  stands = stands_at_start f.lines rows cols l is;
}

-- one more byte was used
module _ (rows cols : ℕ) (f0 f f2 : Front) (old now now2 : Option (List ℕ)) (fb fa : ℕ) (b : ℕ) (es es2 : List Edit) (l l2 : KeptLine) (begun begun2 : Bool)
    (h : HasRead rows cols f0 f old now es l begun) (u : UsesByte f f2 (record { before = now; after = now2; failed_before = fb; failed_after = fa }) b) where
  pub read_more : length (lines false (h.used ++ b ∷ [])) ≡ length (lines false h.used) + (if is_lf b then 1 else 0) → StandsAfter f0.lines rows cols es2 l2 begun2 (h.used ++ b ∷ [])
      → HasRead rows cols f0 f2 old now2 es2 l2 begun2
  read_more count s =
      record {
        used = h.used ++ b ∷ [];
        so_far = one_more f0 f f2 old now now2 fb fa h.used h.so_far b u;
        lines_are = u.lines_are ∙ ap (λ k. k + (if is_lf b then 1 else 0)) h.lines_are ∙ add_more f0.lines (length (lines false h.used)) (if is_lf b then 1 else 0) ∙ ap (λ k. f0.lines + k) (sym count);
        stands = s;
      }
    where
      add_more : (a c d : ℕ) → a + c + d ≡ a + (c + d)
      add_more a c d = omega arith

-- one more byte, by what it is
module _ (rows cols : ℕ) (f0 f f2 : Front) (old now now2 : Option (List ℕ)) (fb fa : ℕ) (b : ℕ) (es : List Edit) (l l2 : KeptLine) (begun : Bool)
    (h : HasRead rows cols f0 f old now es l begun) (u : UsesByte f f2 (record { before = now; after = now2; failed_before = fb; failed_after = fa }) b) where
  pub read_byte : b ≢ 10 → IsLine l2 (open_line h.used ++ b ∷ []) → HasRead rows cols f0 f2 old now2 es l2 true
  read_byte other is =
      let e : is_lf b ≡ false = ne_eqb b 10 other in
      let k = lines-push h.used b e in
      read_more rows cols f0 f f2 old now now2 fb fa b es es l l2 begun true h u (rw (k, e) (omega arith)) (byte_stands f0.lines rows cols h.used b es l l2 begun other h.stands is)

  pub read_lf : (es2 : List Edit) → b ≡ 10 → AreRead f0.lines rows cols (lines false h.used ++ open_line h.used ∷ []) es2 → IsLine l2 [] → HasRead rows cols f0 f2 old now2 es2 l2 false
  read_lf es2 lf r is =
      let e : is_lf b ≡ true = eq-eqb b 10 lf in
      let k = lines-push_lf h.used b e in
      let m : length (lines false h.used ++ open_line h.used ∷ []) ≡ length (lines false h.used) + 1 = length-append (lines false h.used) (open_line h.used ∷ []) in
      read_more rows cols f0 f f2 old now now2 fb fa b es es2 l l2 begun false h u (rw (k, e) m) (lf_stands f0.lines rows cols h.used b es2 l2 lf r is)

  pub lf_number : (number : ℕ) → b ≡ 10 → number ≡ f2.lines → number ≡ f0.lines + length (lines false h.used) + 1
  lf_number number lf is =
      let e : is_lf b ≡ true = eq-eqb b 10 lf in
      let k : f2.lines ≡ f.lines + 1 = u.lines_are ∙ rw e refl in
      omega (arith, h.lines_are)

  pub byte_fits : b ≢ 10 → f.lines + f.room < 2 ^ 64 → f2.lines + f2.room + 1 < 2 ^ 64
  byte_fits other fits =
      let e : is_lf b ≡ false = ne_eqb b 10 other in
      let k : f2.lines ≡ f.lines + 0 = u.lines_are ∙ rw e refl in
      omega (arith, u.room_is)

-- ---- the end of a call

pub closed_lines : (bytes : List ℕ) → has_bytes (open_line bytes) ≡ false → lines true bytes ≡ lines false bytes
closed_lines bytes e = lines-ended bytes ∙ rw e (append-nil (lines false bytes))

pub begun_lines : (bytes : List ℕ) → has_bytes (open_line bytes) ≡ true → lines true bytes ≡ lines false bytes ++ open_line bytes ∷ []
begun_lines bytes e = lines-ended bytes ∙ rw e refl

first_fault : (xs ys zs : List Fault) (x : Fault) → xs ≡ ys ++ zs → ys ≡ x ∷ [] → slice_get xs 0 ≡ Some x
first_fault xs ys zs x e f = rw (e, f) refl

-- the last of the lines that had ended is bad
fault_stays : (n rows cols : ℕ) (ended : Bool) (used more : List ℕ) (x : Fault) → edit_faults n rows cols (lines false used) ≡ x ∷ []
    → slice_get (edit_faults n rows cols (lines ended (used ++ more))) 0 ≡ Some x
fault_stays n rows cols ended used more x bad =
    let r = lines-append ended used more in
    let k = edit_faults-append n rows cols (lines false used) r.0 in
    rw r.1 (first_fault _ (edit_faults n rows cols (lines false used)) k.0 x k.1 bad)

-- no line of what was given is bad
none_bad : (n rows cols : ℕ) (call : Call) (used : List ℕ) → edit_faults n rows cols (lines false used) ≡ [] → ended call ≡ false → given call ≡ used → first_bad_edit n rows cols call ≡ None
none_bad n rows cols call used good out g = rw (out, g) (rw good refl)

module _ (rows cols : ℕ) (f0 f : Front) (fb fa : ℕ) (used before after : List ℕ) (h : HasUsed f0 f (Some before) (Some after) used) where
  abbrev call : Call
  call = call_on f0.room f0.ahead fb fa before after

  pub past_limit : edit_faults f0.lines rows cols (lines false used) ≡ [] → length f.ahead ≡ 1 → f.room ≡ 0 → RefusesEdits f0.lines rows cols call errors.TooLong
  past_limit good one none =
      let p = past_given f0 f fb fa used before after h one none in
      (none_bad f0.lines rows cols call used good p.0 p.1, p.2)

  pub fault : edit_faults f0.lines rows cols (lines false used) ≡ [] → f.ahead ≡ [] → fb < fa → RefusesEdits f0.lines rows cols call errors.ReadFault
  fault good none rose =
      let p = failed_given f0 f fb fa used before after h none rose in
      (none_bad f0.lines rows cols call used good p.0 p.1, rose, p.2)

  refused_by : (x : Fault) → edit_faults f0.lines rows cols (lines false used) ≡ x ∷ [] → first_bad_edit f0.lines rows cols call ≡ Some x
  refused_by x bad =
      let g = used_first f0 f fb fa used before after h in
      ap (λ (t : List ℕ). slice_get (edit_faults f0.lines rows cols (lines (ended call) t)) 0) g.1 ∙ fault_stays f0.lines rows cols (ended call) used g.0 x bad

  pub line_refused : (e : ReadError) → RefusesLast f0.lines rows cols (lines false used) e → RefusesEdits f0.lines rows cols call e
  line_refused (errors.Malformed line kind) k = (refused_by (record { line = line; kind = kind }) k.0, k.1)
  line_refused (errors.Limit line kind) k = (refused_by (record { line = line; kind = kind }) k.0, k.1)
  line_refused errors.TooLong k = absurd k
  line_refused errors.ReadFault k = absurd k
  line_refused errors.OutOfMemory k = tt

-- ---- of a source that may tell its bytes

module _ (rows cols : ℕ) (f0 f f2 : Front) (old now now2 : Option (List ℕ)) (fb fm fa : ℕ) (es : List Edit) (l : KeptLine) (begun : Bool) (h : HasRead rows cols f0 f old now es l begun) where
  abbrev device : Device
  device = record { before = now; after = now2; failed_before = fm; failed_after = fa }

  abbrev Known : (Call → Type 0) → Type 0
  Known P = WhereKnown old now2 (λ before after. P (call_on f0.room f0.ahead fb fa before after))

  pub stop_known : fm ≡ fb → (error : ReadError) → Stops f f2 device error → Known (λ call. RefusesEdits f0.lines rows cols call error)
  stop_known steady error p =
      where_known f0 f2 old now2 h.used (stopped_used f0 f f2 old now now2 fm fa h.used h.so_far error p) fb fa (λ call after. RefusesEdits f0.lines rows cols call error) (λ before after e d k. by error before after e k p)
    where
      by : (error : ReadError) (before after : List ℕ) → old ≡ Some before → HasUsed f0 f2 (Some before) (Some after) h.used → Stops f f2 device error → RefusesEdits f0.lines rows cols (call_on f0.room f0.ahead fb fa before after) error
      by (errors.Malformed line kind) before after e k p = absurd p
      by (errors.Limit line kind) before after e k p = absurd p
      by errors.TooLong before after e k p = past_limit rows cols f0 f2 fb fa h.used before after k h.stands.lines_are.good p.one_past (p.room_is ∙ p.no_room)
      by errors.ReadFault before after e k p =
          let since = rose_since old now h.so_far.gave fm fa h.so_far.given p.fault in
          let r = rw e at since in
          fault rows cols f0 f2 fb fa h.used before after k h.stands.lines_are.good p.none (omega (arith, r))
      by errors.OutOfMemory before after e k p = absurd p

  pub line_known : (b : ℕ) → b ≡ 10 → UsesByte f f2 device b → (error : ReadError) → RefusesLast f0.lines rows cols (lines false h.used ++ open_line h.used ∷ []) error → Known (λ call. RefusesEdits f0.lines rows cols call error)
  line_known b lf u error bad =
      let e = lines-push_lf h.used b (eq-eqb b 10 lf) in
      where_known f0 f2 old now2 (h.used ++ b ∷ []) (one_more f0 f f2 old now now2 fm fa h.used h.so_far b u) fb fa (λ call after. RefusesEdits f0.lines rows cols call error)
      (λ before after o d k. line_refused rows cols f0 f2 fb fa (h.used ++ b ∷ []) before after k error (rw e bad))

-- ---- a bad line is answered

-- no line is bad of what was given, where no line is of all that was offered
good_given : (n rows cols : ℕ) (call : Call) → edit_faults n rows cols (lines true (offered call)) ≡ [] → first_bad_edit n rows cols call ≡ None
good_given n rows cols call good = by (ended call) refl
  where
    some_bad : (xs : List Fault) → edit_faults n rows cols (lines false (given call)) ≡ xs → xs ≡ []
    some_bad [] e = refl
    some_bad (x ∷ xs) e =
        let p = given_prefix call in
        let r = lines-append true (given call) p.0 in
        let k = edit_faults-append n rows cols (lines false (given call)) r.0 in
        let all = rw (← p.1) at good in
        let z : x ∷ xs ++ k.0 ≡ [] = ap (λ (t : List Fault). t ++ k.0) (sym e) ∙ sym k.1 ∙ ap (edit_faults n rows cols) (sym r.1) ∙ all in
        absurd cc

    by : (e : Bool) → ended call ≡ e → first_bad_edit n rows cols call ≡ None
    by true e = let k = given_all call e in rw (e, k) (rw good refl)
    by false e = let f = some_bad (edit_faults n rows cols (lines false (given call))) refl in rw e (rw f refl)

-- a bad line is answered, and the first one
bad_line_known : (n rows cols : ℕ) (call : Call) (left : List ℕ) (result : Result (Vec Edit) ReadError) → MatchResult result (λ v. ReadsEdits n rows cols call v.items left) (RefusesEdits n rows cols call)
    → (fault : Fault) → first_bad_edit n rows cols call ≡ Some fault → IsAnswerTo fault result
bad_line_known n rows cols call left (Ok v) h fault bad = let k = good_given n rows cols call h.good in absurd cc
bad_line_known n rows cols call left (Err (errors.Malformed line kind)) h fault bad = cc
bad_line_known n rows cols call left (Err (errors.Limit line kind)) h fault bad = cc
bad_line_known n rows cols call left (Err errors.TooLong) h fault bad = let k = h.0 in cc
bad_line_known n rows cols call left (Err errors.ReadFault) h fault bad = let k = h.0 in cc
bad_line_known n rows cols call left (Err errors.OutOfMemory) h fault bad = tt

bad_line_on_call : (rows cols : ℕ) (input : Intake) (source : Device) (ahead : List ℕ) (result : Result (Vec Edit) ReadError)
    → OnCall input source (λ call. MatchResult result (λ v. ReadsEdits input.lines rows cols call v.items (ahead ++ call.after)) (RefusesEdits input.lines rows cols call))
    → OnCall input source (λ call. (fault : Fault) → first_bad_edit input.lines rows cols call ≡ Some fault → IsAnswerTo fault result)
bad_line_on_call rows cols input source ahead result h =
    on_call input source (λ call. MatchResult result (λ v. ReadsEdits input.lines rows cols call v.items (ahead ++ call.after)) (RefusesEdits input.lines rows cols call))
    (λ call. (fault : Fault) → first_bad_edit input.lines rows cols call ≡ Some fault → IsAnswerTo fault result)
    (λ call k. bad_line_known input.lines rows cols call (ahead ++ call.after) result k) h

pub edits_told : (rows cols : ℕ) (input : Intake) (source : Device) (ahead : List ℕ) (result : Result (Vec Edit) ReadError)
    → OnCall input source (λ call. MatchResult result (λ v. ReadsEdits input.lines rows cols call v.items (ahead ++ call.after)) (RefusesEdits input.lines rows cols call))
    → TellsEdits rows cols input source ahead result
edits_told rows cols input source ahead result h = record { answer = h; bad = bad_line_on_call rows cols input source ahead result h }
