-- Whole batches: their files, and their first bad frame.
use Rattle.std.proofs.Common.{◌≡◌, ◌≢◌, ℕ, zero, suc, ◌+◌, ◌<◌, ◌≤◌, Bool, true, false, ◌&&◌, ◌||◌, nat_lt, List, [], ◌∷◌, ◌++◌, length, take, refl, sym, ap, ◌∙◌, arith, Option, Some, None, Result, Ok, Err, MatchResult}
use Rattle.std.specs.Global.{Vec}
use Rattle.sp_ids.specs.Limits.{max_batch_files}
use Rattle.sp_ports.specs.Device.{Device}
use Rattle.mm_defs.specs.declared.kinds.Kind.{Kind}
use Rattle.mm_defs.specs.declared.kinds.Kind.TheVariants.{ShortFile}
use Rattle.mm_defs.specs.Faults.{first_kind}
use Rattle.mm_defs.specs.Calls.{Call, Intake, ended, given, offered}
use Rattle.mm_defs.proofs.AnswerLemmas.{given_all, given_prefix, length_got}
use Rattle.mm_defs.proofs.Rules.{first_none, first_some}
use Rattle.mm_reader.specs.Inputs.{OnCall}
use Rattle.mm_frames.specs.declared.batch.BatchError.{BatchError}
use Rattle.mm_frames.specs.declared.batch.BatchError.TheVariants as errors
use Rattle.mm_frames.specs.Batches.{AreFrames, BatchFault, HasFrame, IsBatch, IsFrameAnswerTo, ReadsBatch, RefusesBatch, TellsFrame, bad_frame_among, bad_frame_from, behind_frame, behind_header, fault_or, file_bytes, files_of, first_bad_file, first_bad_frame, frame_kind, has_lf, header_rules, header_words}
use Rattle.mm_frames.specs.Readings.{TellsFiles}
use Rattle.mm_frames.proofs.FrameLaws.{behind_frame-more, few_before, file-is, frame_has_no_kind, frame_is, has_lf-more, header_words-more, length-behind_frame, none_more, rest-is, some_bytes}
use Rattle.mm_frames.proofs.UsedLaws.{on_call}

-- ---- frame by frame

-- each frame has a byte, so that more frames than bytes make no difference
enough : (j k : ℕ) (ended : Bool) (before : ℕ) (bytes : List ℕ) → length bytes ≤ j → length bytes ≤ k → bad_frame_among j ended before bytes ≡ bad_frame_among k ended before bytes
enough j k ended before [] a b = refl
enough zero k ended before (c ∷ bytes) a b = absurd (omega arith)
enough (suc j) zero ended before (c ∷ bytes) a b = absurd (omega arith)
enough (suc j) (suc k) ended before (c ∷ bytes) a b =
    let n = length-behind_frame c bytes in
    ap (fault_or (before + 1) (frame_kind ended before (c ∷ bytes))) (enough j k ended (before + 1) (behind_frame (c ∷ bytes)) (omega arith) (omega arith))

pub none_from : (ended : Bool) (before : ℕ) → bad_frame_from ended before [] ≡ None
unfolding bad_frame_from
none_from ended before = refl

-- the first frame and the later ones
pub from_frame : (ended : Bool) (before : ℕ) (bytes : List ℕ) → bytes ≢ []
    → bad_frame_from ended before bytes ≡ fault_or (before + 1) (frame_kind ended before bytes) (bad_frame_from ended (before + 1) (behind_frame bytes))
unfolding bad_frame_from
from_frame ended before [] some = absurd (some refl)
from_frame ended before (b ∷ bytes) some =
    let n = length-behind_frame b bytes in
    ap (fault_or (before + 1) (frame_kind ended before (b ∷ bytes))) (enough (length bytes) (length (behind_frame (b ∷ bytes))) ended (before + 1) (behind_frame (b ∷ bytes)) n (omega arith))

-- a frame to which no kind applies is passed
pub past_frame : (ended : Bool) (before : ℕ) (bytes file rest : List ℕ) → HasFrame bytes file rest → before < max_batch_files → bad_frame_from ended before bytes ≡ bad_frame_from ended (before + 1) rest
past_frame ended before bytes file rest h few =
    let k = frame_has_no_kind bytes file rest h ended before few in
    from_frame ended before bytes (some_bytes bytes file rest h) ∙ rw k (ap (bad_frame_from ended (before + 1)) (rest-is bytes file rest h))

-- ---- a batch has one list of files, and no bad frame

frames_are_one : (bytes : List ℕ) (files others : List (List ℕ)) → AreFrames bytes files → AreFrames bytes others → files ≡ others
frames_are_one bytes [] [] h k = refl
frames_are_one bytes [] (other ∷ others) h k = absurd (some_bytes bytes other k.0 k.1 h)
frames_are_one bytes (file ∷ files) [] h k = absurd (some_bytes bytes file h.0 h.1 k)
frames_are_one bytes (file ∷ files) (other ∷ others) h k =
    let f : file ≡ other = sym (file-is bytes file h.0 h.1) ∙ file-is bytes other k.0 k.1 in
    let r : h.0 ≡ k.0 = sym (rest-is bytes file h.0 h.1) ∙ rest-is bytes other k.0 k.1 in
    let l : files ≡ others = frames_are_one k.0 files others (rw (← r) h.2) k.2 in
    rw (f, l) refl

pub one_list : (bytes : List ℕ) (files others : List (List ℕ)) → IsBatch bytes files → IsBatch bytes others → files ≡ others
one_list bytes files others h k = frames_are_one bytes files others h.frames k.frames

frames_good : (ended : Bool) (before : ℕ) (bytes : List ℕ) (files : List (List ℕ)) → AreFrames bytes files → before + length files ≤ max_batch_files → bad_frame_from ended before bytes ≡ None
frames_good ended before bytes [] h few = ap (bad_frame_from ended before) h ∙ none_from ended before
frames_good ended before bytes (file ∷ files) h few = past_frame ended before bytes file h.0 h.1 (omega arith) ∙ frames_good ended (before + 1) h.0 files h.2 (omega arith)

pub batch_good : (bytes : List ℕ) (files : List (List ℕ)) → IsBatch bytes files → first_bad_frame true bytes ≡ None
batch_good bytes files h = frames_good true 0 bytes files h.frames (omega (arith, h.few))

-- the files of bytes without a bad frame
record FoundFiles (before : ℕ) (bytes : List ℕ) : Type 0 where
  files : List (List ℕ)
  frames : AreFrames bytes files
  few : before + length files ≤ max_batch_files

no_fault : (file : ℕ) (o : Option Kind) (later : Option BatchFault) → fault_or file o later ≡ None → (o ≡ None) × (later ≡ None)
no_fault file None later h = (refl, h)
no_fault file (Some k) later h = absurd cc

found : (most before : ℕ) (bytes : List ℕ) → length bytes ≤ most → before ≤ max_batch_files → bad_frame_among most true before bytes ≡ None → FoundFiles before bytes
found most before [] fits few none = record { files = []; frames = refl; few = omega arith }
found zero before (b ∷ bytes) fits few none = absurd (omega arith)
found (suc most) before (b ∷ bytes) fits few none =
    let n = no_fault (before + 1) (frame_kind true before (b ∷ bytes)) (bad_frame_among most true (before + 1) (behind_frame (b ∷ bytes))) none in
    let l = length-behind_frame b bytes in
    let c = few_before before (b ∷ bytes) n.0 in
    let f = frame_is before (b ∷ bytes) n.0 in
    let later = found most (before + 1) (behind_frame (b ∷ bytes)) (omega arith) (omega arith) n.1 in
    record { files = take (file_bytes (header_words (b ∷ bytes))) (behind_header (b ∷ bytes)) ∷ later.files; frames = (behind_frame (b ∷ bytes), f, later.frames); few = omega (arith, later.few) }

pub good_batch : (bytes : List ℕ) → first_bad_frame true bytes ≡ None → (files : List (List ℕ)) × IsBatch bytes files
unfolding bad_frame_from
good_batch bytes none =
    let f = found (length bytes) 0 bytes (omega arith) (omega arith) none in
    (f.files, record { frames = f.frames; few = omega (arith, f.few) })

-- ---- a bad frame stays the first one

kind_stays : (ended : Bool) (before : ℕ) (bytes more : List ℕ) (kind : Kind) → frame_kind false before bytes ≡ Some kind → frame_kind ended before (bytes ++ more) ≡ Some kind
kind_stays ended before bytes more kind h = by (has_lf bytes) refl
  where
    either : (a : Bool) → (a || true) ≡ true
    either true = refl
    either false = refl

    header_kind : (o : Option Kind) → first_kind (header_rules before (header_words bytes)) ≡ o → first_kind (header_rules before (header_words bytes) ++ (ShortFile, false) ∷ []) ≡ Some kind → o ≡ Some kind
    header_kind None e k = let l = first_none (header_rules before (header_words bytes)) ((ShortFile, false) ∷ []) e in absurd cc
    header_kind (Some x) e k = let l = first_some (header_rules before (header_words bytes)) ((ShortFile, false) ∷ []) x e in sym l ∙ k

    by : (x : Bool) → has_lf bytes ≡ x → frame_kind ended before (bytes ++ more) ≡ Some kind
    by false e = let n = rw e at h in absurd cc
    by true e =
        let k = rw e at h in
        let g = header_kind (first_kind (header_rules before (header_words bytes))) refl k in
        let l = has_lf-more bytes more e in
        let w = header_words-more bytes more e in
        let g2 : first_kind (header_rules before (header_words (bytes ++ more))) ≡ Some kind = rw w g in
        rw (l, either ended)
        (first_some (header_rules before (header_words (bytes ++ more))) ((ShortFile, ended && nat_lt (length (behind_header (bytes ++ more))) (file_bytes (header_words (bytes ++ more)))) ∷ []) kind g2)

stays : (most : ℕ) (ended : Bool) (before : ℕ) (bytes more : List ℕ) (fault : BatchFault) → bad_frame_among most false before bytes ≡ Some fault → bad_frame_from ended before (bytes ++ more) ≡ Some fault
stays most ended before [] more fault h = absurd cc
stays zero ended before (b ∷ bytes) more fault h = absurd cc
stays (suc most) ended before (b ∷ bytes) more fault h = from_frame ended before ((b ∷ bytes) ++ more) (λ e. absurd cc) ∙ by (frame_kind false before (b ∷ bytes)) refl (stays most ended (before + 1) (behind_frame (b ∷ bytes)) more fault)
  where
    by : (o : Option Kind) → frame_kind false before (b ∷ bytes) ≡ o
        → (bad_frame_among most false (before + 1) (behind_frame (b ∷ bytes)) ≡ Some fault → bad_frame_from ended (before + 1) (behind_frame (b ∷ bytes) ++ more) ≡ Some fault)
        → fault_or (before + 1) (frame_kind ended before ((b ∷ bytes) ++ more)) (bad_frame_from ended (before + 1) (behind_frame ((b ∷ bytes) ++ more))) ≡ Some fault
    by None e ih =
        let k = rw e at h in
        let some : behind_frame (b ∷ bytes) ≢ [] = λ n. let m = rw n at k in absurd cc in
        let r = behind_frame-more before (b ∷ bytes) more e some in
        let n = none_more before (b ∷ bytes) more e some ended in
        rw n (ap (bad_frame_from ended (before + 1)) r ∙ ih k)
    by (Some kind) e ih = let k = kind_stays ended before (b ∷ bytes) more kind e in rw k (rw e at h)

pub frame_stays : (ended : Bool) (bytes more : List ℕ) (fault : BatchFault) → first_bad_frame false bytes ≡ Some fault → first_bad_frame ended (bytes ++ more) ≡ Some fault
unfolding bad_frame_from
frame_stays ended bytes more fault h = stays (length bytes) ended 0 bytes more fault h

-- ---- of a call

-- no frame of a batch is bad, however much of it was given
pub batch_given : (call : Call) (files : List (List ℕ)) → IsBatch (offered call) files → first_bad_file call ≡ None
batch_given call files batch = by (ended call) refl
  where
    good : first_bad_frame true (offered call) ≡ None
    good = batch_good (offered call) files batch

    some_bad : (o : Option BatchFault) → first_bad_frame false (given call) ≡ o → first_bad_frame false (given call) ≡ None
    some_bad None e = e
    some_bad (Some fault) e =
        let r = given_prefix call in
        let b = frame_stays true (given call) r.0 fault e in
        let k = rw r.1 at b in
        let g = good in
        absurd cc

    by : (e : Bool) → ended call ≡ e → first_bad_file call ≡ None
    by true e = let k = given_all call e in rw (e, k) good
    by false e = rw e (some_bad (first_bad_frame false (given call)) refl)

pub reported : (call : Call) (error : BatchError) (fault : BatchFault) → RefusesBatch call error → first_bad_file call ≡ Some fault → TellsFrame fault error
reported call (errors.Malformed file kind) fault h bad = cc
reported call (errors.Limit file kind) fault h bad = cc
reported call errors.TooLong fault h bad = let n = h.0 in cc
reported call errors.ReadFault fault h bad = let n = h.0 in cc
reported call errors.OutOfMemory fault h bad = tt

pub batch_read : (call : Call) (error : BatchError) (files : List (List ℕ)) → RefusesBatch call error → IsBatch (offered call) files → length (offered call) ≤ call.room → call.failures_after ≡ call.failures_before
    → error ≡ errors.OutOfMemory
batch_read call (errors.Malformed file kind) files h batch fits steady = let n = batch_given call files batch in let m = h.0 in absurd cc
batch_read call (errors.Limit file kind) files h batch fits steady = let n = batch_given call files batch in let m = h.0 in absurd cc
batch_read call errors.TooLong files h batch fits steady = let k = length_got call in absurd (omega (arith, h.1))
batch_read call errors.ReadFault files h batch fits steady = absurd (omega (arith, h.1))
batch_read call errors.OutOfMemory files h batch fits steady = refl

-- a bad frame is answered, and the first one
bad_frame_known : (call : Call) (left : List ℕ) (result : Result (Vec (Vec ℕ)) BatchError) → MatchResult result (λ v. ReadsBatch call (files_of v.items) left) (RefusesBatch call)
    → (fault : BatchFault) → first_bad_file call ≡ Some fault → IsFrameAnswerTo fault result
bad_frame_known call left (Ok v) h fault bad = let n = batch_given call (files_of v.items) h.batch in absurd cc
bad_frame_known call left (Err error) h fault bad = reported call error fault h bad

bad_frame_on_call : (input : Intake) (source : Device) (ahead : List ℕ) (result : Result (Vec (Vec ℕ)) BatchError)
    → OnCall input source (λ call. MatchResult result (λ v. ReadsBatch call (files_of v.items) (ahead ++ call.after)) (RefusesBatch call))
    → OnCall input source (λ call. (fault : BatchFault) → first_bad_file call ≡ Some fault → IsFrameAnswerTo fault result)
bad_frame_on_call input source ahead result h =
    on_call input source (λ call. MatchResult result (λ v. ReadsBatch call (files_of v.items) (ahead ++ call.after)) (RefusesBatch call)) (λ call. (fault : BatchFault) → first_bad_file call ≡ Some fault → IsFrameAnswerTo fault result)
    (λ call k. bad_frame_known call (ahead ++ call.after) result k) h

pub files_told : (input : Intake) (source : Device) (ahead : List ℕ) (result : Result (Vec (Vec ℕ)) BatchError)
    → OnCall input source (λ call. MatchResult result (λ v. ReadsBatch call (files_of v.items) (ahead ++ call.after)) (RefusesBatch call))
    → TellsFiles input source ahead result
files_told input source ahead result h = record { answer = h; bad = bad_frame_on_call input source ahead result h }
