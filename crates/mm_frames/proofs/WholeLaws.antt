-- Whole frames that were read, and what the call answers behind them.
use Rattle.std.proofs.Common.{◌≡◌, ◌≢◌, ℕ, ◌+◌, ◌<◌, Bool, true, false, List, [], ◌∷◌, ◌++◌, length, refl, sym, ap, subst, ◌∙◌, append_assoc, append-nil, arith, length-append, Option, Some, None, Result, Ok, Err, MatchResult, inl, inr}
use Rattle.std.specs.Global.{Vec}
use Rattle.sp_ports.specs.Bytes.{Gives, WhereKnown}
use Rattle.sp_ports.specs.Device.{Device}
use Rattle.mm_defs.specs.declared.kinds.Kind.TheVariants.{ShortFile}
use Rattle.mm_defs.specs.Calls.{Call, call_on, ended, given}
use Rattle.mm_reader.specs.Fronts.{Front}
use Rattle.mm_frames.specs.declared.batch.BatchError.{BatchError}
use Rattle.mm_frames.specs.declared.batch.BatchError.TheVariants as errors
use Rattle.mm_frames.specs.Batches.{AreFrames, BatchFault, IsBatch, ReadsBatch, RefusesBatch, bad_frame_from, files_of, first_bad_file, first_bad_frame}
use Rattle.mm_frames.specs.declared.header.FrameHeader.{FrameHeader}
use Rattle.mm_frames.specs.Frames.{AnswersFile, AnswersHeader, AnswersLast, AreWhole, HasEnded, HasFiles, IsBadFrame, IsDone, IsGoodHeader, RefusesUsed, UsesSuch}
use Rattle.mm_frames.specs.Stages.{HasUsed}
use Rattle.mm_frames.proofs.BatchLaws.{batch_good, frame_stays, past_frame}
use Rattle.mm_frames.proofs.FrameLaws.{few_here, frame_here, last_frame}
use Rattle.mm_frames.proofs.StepLaws.{short_last}
use Rattle.mm_frames.proofs.UsedLaws.{failed_given, fits, none_used, over_given, past_given, rose_since, used_first, used_then, where_known}

-- ---- whole frames

pub whole_none : AreWhole [] []
whole_none = record { judged = λ ended more. refl; frames = λ more others h. h; few = omega arith }

pub files_none : (f : Front) (left : Option (List ℕ)) → HasFiles f f left left []
files_none f left = record { used = []; so_far = none_used f left; whole = whole_none }

module _ (bytes : List ℕ) (files : List (List ℕ)) (w : AreWhole bytes files) (line : List ℕ) (n : ℕ) (h : IsGoodHeader (length files) line n) where
  pub whole_more : (file : List ℕ) → length file ≡ n → AreWhole (bytes ++ (line ++ 10 ∷ file)) (files ++ file ∷ [])
  whole_more file e = record { judged = judged; frames = frames; few = let c = few_here (length files) line n h in let l = length-append files (file ∷ []) in omega arith }
    where
      split : (more : List ℕ) → (bytes ++ (line ++ 10 ∷ file)) ++ more ≡ bytes ++ (line ++ 10 ∷ (file ++ more))
      split more = append_assoc bytes (line ++ 10 ∷ file) more ∙ ap (λ (t : List ℕ). bytes ++ t) (append_assoc line (10 ∷ file) more)

      judged : (ended : Bool) (more : List ℕ) → first_bad_frame ended ((bytes ++ (line ++ 10 ∷ file)) ++ more) ≡ bad_frame_from ended (length (files ++ file ∷ [])) more
      judged ended more =
          let c = few_here (length files) line n h in
          let l : length files + 1 ≡ length (files ++ file ∷ []) = sym (length-append files (file ∷ [])) in
          ap (first_bad_frame ended) (split more) ∙ w.judged ended (line ++ 10 ∷ (file ++ more))
          ∙ past_frame ended (length files) (line ++ 10 ∷ (file ++ more)) file more (frame_here (length files) line n h file more e) c
          ∙ ap (λ k. bad_frame_from ended k more) l

      frames : (more : List ℕ) (others : List (List ℕ)) → AreFrames more others → AreFrames ((bytes ++ (line ++ 10 ∷ file)) ++ more) ((files ++ file ∷ []) ++ others)
      frames more others k =
          let a = w.frames (line ++ 10 ∷ (file ++ more)) (file ∷ others) (more, frame_here (length files) line n h file more e, k) in
          let s = split more in
          let t : (files ++ file ∷ []) ++ others ≡ files ++ file ∷ others = append_assoc files (file ∷ []) others in
          rw (s, t) a

  pub batch_with_last : n ≡ 0 → IsBatch (bytes ++ line) (files ++ [] ∷ [])
  batch_with_last z = record {
    frames = w.frames line ([] ∷ []) ([], last_frame (length files) line n h z, refl);
    few = let c = few_here (length files) line n h in let l = length-append files ([] ∷ []) in omega arith;
  }

pub whole_batch : (bytes : List ℕ) (files : List (List ℕ)) → AreWhole bytes files → IsBatch bytes files
whole_batch bytes files w =
    let a = w.frames [] [] refl in
    let b = append-nil bytes in
    let f = append-nil files in
    record { frames = rw (b, f) at a; few = w.few }

-- ---- a refusal, seen from the whole call

module _ (bad bad2 : Bool → Option BatchFault) (same : (ended : Bool) → bad ended ≡ bad2 ended) (now : Front) (old mid new : Option (List ℕ)) (fb fm fa : ℕ) (gave : List ℕ) (g : Gives old mid gave) (steady : fm ≡ fb) where
  abbrev part : Device
  part = record { before = mid; after = new; failed_before = fm; failed_after = fa }

  abbrev whole : Device
  whole = record { before = old; after = new; failed_before = fb; failed_after = fa }

  pub done_since : IsDone now part → IsDone now whole
  done_since d = record { none = d.none; over = d.over; steady = d.steady ∙ steady }

  bad_since : (fault : BatchFault) → IsBadFrame bad now part fault → IsBadFrame bad2 now whole fault
  bad_since fault (inl h) = inl (sym (same false) ∙ h)
  bad_since fault (inr h) = inr (sym (same true) ∙ h.0, done_since h.1)

  pub refused_since : (e : BatchError) → RefusesUsed bad now part e → RefusesUsed bad2 now whole e
  refused_since (errors.Malformed file kind) h = (bad_since (record { file = file; kind = kind }) h.0, h.1)
  refused_since (errors.Limit file kind) h = (bad_since (record { file = file; kind = kind }) h.0, h.1)
  refused_since errors.TooLong h = (sym (same false) ∙ h.0, h.1, h.2)
  refused_since errors.ReadFault h = (sym (same false) ∙ h.0, h.1, rw (← steady) (rose_since old mid gave fm fa g h.2))
  refused_since errors.OutOfMemory h = tt

module _ (f0 f : Front) (old now : Option (List ℕ)) (fb fa : ℕ) (used : List ℕ) (h : HasUsed f0 f old now used) where
  abbrev source : Device
  source = record { before = old; after = now; failed_before = fb; failed_after = fa }

  abbrev Known : (Call → List ℕ → Type 0) → Type 0
  Known P = WhereKnown old now (λ before after. P (call_on f0.room f0.ahead fb fa before after) after)

  pub refused_known : (e : BatchError) → RefusesUsed (λ ended. first_bad_frame ended used) f source e → Known (λ call after. RefusesBatch call e)
  refused_known e r = where_known f0 f old now used h fb fa (λ call after. RefusesBatch call e) (λ before after o d k. by before after o d k e r)
    where
      none_bad : (call : Call) → first_bad_frame false used ≡ None → ended call ≡ false → given call ≡ used → first_bad_file call ≡ None
      none_bad call good out g = rw (out, g) good

      fault_known : (before after : List ℕ) → now ≡ Some after → HasUsed f0 f (Some before) (Some after) used → (fault : BatchFault) → IsBadFrame (λ ended. first_bad_frame ended used) f source fault
          → first_bad_file (call_on f0.room f0.ahead fb fa before after) ≡ Some fault
      fault_known before after d k fault (inl bad) =
          let g = used_first f0 f fb fa used before after k in
          ap (first_bad_frame (ended (call_on f0.room f0.ahead fb fa before after))) g.1 ∙ frame_stays (ended (call_on f0.room f0.ahead fb fa before after)) used g.0 fault bad
      fault_known before after d k fault (inr bad) =
          let over = bad.1.over in
          let o = over_given f0 f fb fa used before after k bad.1.none (rw d at over) bad.1.steady in
          rw (o.0, o.1) bad.0

      by : (before after : List ℕ) → old ≡ Some before → now ≡ Some after → HasUsed f0 f (Some before) (Some after) used → (e : BatchError) → RefusesUsed (λ ended. first_bad_frame ended used) f source e
          → RefusesBatch (call_on f0.room f0.ahead fb fa before after) e
      by before after o d k (errors.Malformed file kind) r = (fault_known before after d k (record { file = file; kind = kind }) r.0, r.1)
      by before after o d k (errors.Limit file kind) r = (fault_known before after d k (record { file = file; kind = kind }) r.0, r.1)
      by before after o d k errors.TooLong r =
          let p = past_given f0 f fb fa used before after k r.1 r.2 in
          (none_bad (call_on f0.room f0.ahead fb fa before after) r.0 p.0 p.1, p.2)
      by before after o d k errors.ReadFault r =
          let rose = r.2 in
          let more = rw o at rose in
          let p = failed_given f0 f fb fa used before after k r.1 more in
          (none_bad (call_on f0.room f0.ahead fb fa before after) r.0 p.0 p.1, more, p.2)
      by before after o d k errors.OutOfMemory r = tt

  pub batch_known : (files : List (List ℕ)) → IsDone f source → IsBatch used files → Known (λ call after. ReadsBatch call files (f.ahead ++ after))
  batch_known files done batch = where_known f0 f old now used h fb fa (λ call after. ReadsBatch call files (f.ahead ++ after)) (λ before after o d k. by before after d k)
    where
      by : (before after : List ℕ) → now ≡ Some after → HasUsed f0 f (Some before) (Some after) used → ReadsBatch (call_on f0.room f0.ahead fb fa before after) files (f.ahead ++ after)
      by before after d k =
          let over = done.over in
          let none_left = rw d at over in
          let none = done.none in
          let o = (over_given f0 f fb fa used before after k none none_left done.steady).2 in
          let b = batch_good used files batch in
          record {
            batch = rw o batch;
            none_bad = rw o b;
            nothing_left = rw (none, none_left) refl;
            within = rw o (fits f0 f fb fa used before after k);
          }

-- the input ended with a good header
pub last_known : (f0 f : Front) (old now : Option (List ℕ)) (fb fa : ℕ) (used line : List ℕ) (files : List (List ℕ)) (n : ℕ) (h : HasUsed f0 f old now (used ++ line)) → AreWhole used files → IsGoodHeader (length files) line n → line ≢ []
    → IsDone f (record { before = old; after = now; failed_before = fb; failed_after = fa }) → (result : Result (Vec (Vec ℕ)) BatchError) → AnswersLast files n result
    → WhereKnown old now (λ before after. MatchResult result (λ v. ReadsBatch (call_on f0.room f0.ahead fb fa before after) (files_of v.items) (f.ahead ++ after)) (RefusesBatch (call_on f0.room f0.ahead fb fa before after)))
last_known f0 f old now fb fa used line files n h w good some done (Ok v) k =
    let b = batch_with_last used files w line n good k.0 in
    let e = k.1 in
    batch_known f0 f old now fb fa (used ++ line) h (files_of v.items) done (rw e b)
last_known f0 f old now fb fa used line files n h w good some done (Err (errors.Malformed file kind)) k =
    let bad : first_bad_frame true (used ++ line) ≡ Some (record { file = length files + 1; kind = ShortFile }) = w.judged true line ∙ short_last (length files) line n good some k.0 in
    rw (k.1, k.2) (refused_known f0 f old now fb fa (used ++ line) h (errors.Malformed (length files + 1) ShortFile) (inr (bad, done), refl))
last_known f0 f old now fb fa used line files n h w good some done (Err (errors.Limit file kind)) k = absurd k
last_known f0 f old now fb fa used line files n h w good some done (Err errors.TooLong) k = absurd k
last_known f0 f old now fb fa used line files n h w good some done (Err errors.ReadFault) k = absurd k
last_known f0 f old now fb fa used line files n h w good some done (Err errors.OutOfMemory) k = refused_known f0 f old now fb fa (used ++ line) h errors.OutOfMemory tt

-- ---- a turn of the reader: a header, and then its file

module _ (f0 f f1 : Front) (old mid now1 : Option (List ℕ)) (fb fm fh : ℕ) (steady : fm ≡ fb) (files : List (List ℕ)) (h : HasFiles f0 f old mid files) (before : ℕ) (count : before ≡ length files) where
  abbrev header_source : Device
  header_source = record { before = mid; after = now1; failed_before = fm; failed_after = fh }

  judged_here : (more : List ℕ) (ended : Bool) → bad_frame_from ended before more ≡ first_bad_frame ended (h.used ++ more)
  judged_here more ended = ap (λ k. bad_frame_from ended k more) count ∙ sym (h.whole.judged ended more)

  pub header_used : (used : List ℕ) → HasUsed f f1 mid now1 used → HasUsed f0 f1 old now1 (h.used ++ used)
  header_used used u = used_then f0 f f1 old mid now1 h.used used h.so_far u

  abbrev Known1 : (Call → List ℕ → Type 0) → Type 0
  Known1 P = WhereKnown old now1 (λ before after. P (call_on f0.room f0.ahead fb fh before after) after)

  pub header_answered : (error : BatchError) → UsesSuch f f1 header_source (AnswersHeader before f1 header_source (Err error)) → Known1 (λ call after. RefusesBatch call error)
  header_answered error u =
      refused_known f0 f1 old now1 fb fh (h.used ++ u.used) (header_used u.used u.so_far) error
      (refused_since (λ ended. bad_frame_from ended before u.used) (λ ended. first_bad_frame ended (h.used ++ u.used)) (judged_here u.used) f1 old mid now1 fb fm fh h.so_far.gave h.so_far.given steady error u.such)

  done_here : IsDone f1 header_source → IsDone f1 (record { before = old; after = now1; failed_before = fb; failed_after = fh })
  done_here d = record { none = d.none; over = d.over; steady = d.steady ∙ steady }

  pub end_answered : UsesSuch f f1 header_source (AnswersHeader before f1 header_source (Ok None)) → Known1 (λ call after. ReadsBatch call files (f1.ahead ++ after))
  end_answered u =
      let e : h.used ++ u.used ≡ h.used = ap (λ (t : List ℕ). h.used ++ t) u.such.0 ∙ append-nil h.used in
      batch_known f0 f1 old now1 fb fh (h.used ++ u.used) (header_used u.used u.so_far) files (done_here u.such.1) (rw e (whole_batch h.used files h.whole))

  module _ (header : FrameHeader) (u : UsesSuch f f1 header_source (AnswersHeader before f1 header_source (Ok (Some header)))) where
    good_here : IsGoodHeader (length files) u.such.line header.bytes
    good_here = subst (λ k. IsGoodHeader k u.such.line header.bytes) count u.such.good

    pub last_answered : header.last ≡ true → (result : Result (Vec (Vec ℕ)) BatchError) → AnswersLast files header.bytes result
        → WhereKnown old now1 (λ before after. MatchResult result (λ v. ReadsBatch (call_on f0.room f0.ahead fb fh before after) (files_of v.items) (f1.ahead ++ after)) (RefusesBatch (call_on f0.room f0.ahead fb fh before after)))
    last_answered last result k =
        let e = subst (λ b. HasEnded b u.such.line u.used f1 header_source) last u.such.has_ended in
        last_known f0 f1 old now1 fb fh h.used u.such.line files header.bytes (subst (λ (t : List ℕ). HasUsed f0 f1 old now1 (h.used ++ t)) e.0 (header_used u.used u.so_far)) h.whole good_here e.1 (done_here e.2) result k

    module _ (more : header.last ≡ false) (steady1 : fh ≡ fm) (f2 : Front) (now2 : Option (List ℕ)) (fa : ℕ) where
      abbrev file_source : Device
      file_source = record { before = now1; after = now2; failed_before = fh; failed_after = fa }

      used_is : u.used ≡ u.such.line ++ 10 ∷ []
      used_is = subst (λ b. HasEnded b u.such.line u.used f1 header_source) more u.such.has_ended

      pub file_used : (used : List ℕ) → HasUsed f1 f2 now1 now2 used → HasUsed f0 f2 old now2 (h.used ++ (u.such.line ++ 10 ∷ used))
      file_used used k =
          let e : (h.used ++ u.used) ++ used ≡ h.used ++ (u.such.line ++ 10 ∷ used) =
          append_assoc h.used u.used used ∙ ap (λ (t : List ℕ). h.used ++ t) (ap (λ (t : List ℕ). t ++ used) used_is ∙ append_assoc u.such.line (10 ∷ []) used) in
          subst (HasUsed f0 f2 old now2) e (used_then f0 f1 f2 old now1 now2 (h.used ++ u.used) used (header_used u.used u.so_far) k)

      pub file_answered : (error : BatchError) → UsesSuch f1 f2 file_source (AnswersFile before u.such.line header.bytes f2 file_source (Err error))
          → WhereKnown old now2 (λ before after. RefusesBatch (call_on f0.room f0.ahead fb fa before after) error)
      file_answered error v =
          let k = header_used u.used u.so_far in
          refused_known f0 f2 old now2 fb fa (h.used ++ (u.such.line ++ 10 ∷ v.used)) (file_used v.used v.so_far) error
          (refused_since (λ ended. bad_frame_from ended before (u.such.line ++ 10 ∷ v.used)) (λ ended. first_bad_frame ended (h.used ++ (u.such.line ++ 10 ∷ v.used))) (judged_here (u.such.line ++ 10 ∷ v.used)) f2 old now1 now2 fb fh fa k.gave k.given
          (steady1 ∙ steady) error v.such)

      module _ (file : Vec ℕ) (v : UsesSuch f1 f2 file_source (AnswersFile before u.such.line header.bytes f2 file_source (Ok file))) where
        pub one_file_more : HasFiles f0 f2 old now2 (files ++ file.items ∷ [])
        one_file_more = record {
          used = h.used ++ (u.such.line ++ 10 ∷ v.used);
          so_far = file_used v.used v.so_far;
          whole = let e = v.such.0 in rw e (whole_more h.used files h.whole u.such.line header.bytes good_here file.items (sym (ap length e) ∙ v.such.1));
        }

        pub less_room : f2.room < f.room
        less_room =
            let n : length u.used ≡ length u.such.line + 1 = ap length used_is ∙ length-append u.such.line (10 ∷ []) in
            omega (arith, u.so_far.size, v.so_far.size)
