-- Which status has to come, from what each status says.
use Rattle.std.proofs.Common.{◌≡◌, ◌+◌, ◌-◌, ◌≤◌, ◌<◌, ◌⊎◌, ◌++◌, ◌∙◌, ℕ, Bool, true, false, List, length, take, inl, inr, refl, sym, ap, subst, arith, length-take, Option, Some, None, if◌then◌else◌}
use Rattle.std.proofs.lemmas.Option.{none-some}
use Rattle.sp_ids.specs.declared.outcomes.Status.{Status}
use Rattle.sp_ids.specs.declared.outcomes.Status.TheVariants as statuses
use Rattle.sp_ports.specs.Device.{CountHasNotFallen, Device, HasReadFault, HasWriteFault, SourceRose}
use Rattle.mm_defs.proofs.AnswerLemmas.{given_all, length_got, given_within}
use Rattle.mm_defs.specs.Calls.{Call, ended, given, got, offered}
use Rattle.mm_defs.specs.Faults.{is_limit}
use Rattle.mm_defs.specs.declared.kinds.Kind.{Kind}
use Rattle.mm_frames.specs.Batches.{BatchFault, IsBatch, RefusesBatch, first_bad_file, first_bad_frame}
use Rattle.mm_frames.specs.declared.batch.BatchError.{BatchError}
use Rattle.mm_frames.specs.declared.batch.BatchError.TheVariants as errors
use Rattle.btf_words.specs.BatchWords.{AreTaken}
use Rattle.btf_tool.specs.Jobs.{reading}
use Rattle.btf_tool.specs.Refusals.{status_of_answer}
use Rattle.btf_tool.specs.Runs.{Fulfils, IsOrNoMemory, Run}
use Rattle.btf_tool.specs.declared.answers.Answer.{Answer}
use Rattle.btf_tool.specs.declared.answers.Answer.TheVariants.{Negative, Positive}
use Rattle.batch_core.specs.BatchRefusals.{status_of}
use Rattle.batch_core.specs.BatchRuns.{Completes, EndsWell, HasCause, IsAnswer, IsAnswerFor, IsBadFile, Says, WithAnswer, status_of_fault}
use Rattle.batch_core.specs.declared.refusals.BatchRefusal.{BatchRefusal}
use Rattle.batch_core.specs.declared.refusals.BatchRefusal.TheVariants.{Limit, Malformed, OutOfMemory, ReadFault, TooLong, Usage, WriteFault}
use Rattle.batch_core.proofs.BatchReadings.{where_known}

-- what the laws on batches say
pub record Laws : Type 0 where
  pub one_list : (bytes : List ℕ) (files others : List (List ℕ)) → IsBatch bytes files → IsBatch bytes others → files ≡ others
  pub given_good : (call : Call) (files : List (List ℕ)) → IsBatch (offered call) files → first_bad_file call ≡ None
  pub stays : (ended : Bool) (bytes more : List ℕ) (fault : BatchFault) → first_bad_frame false bytes ≡ Some fault → first_bad_frame ended (bytes ++ more) ≡ Some fault
  pub read : (call : Call) (error : BatchError) (files : List (List ℕ)) → RefusesBatch call error → IsBatch (offered call) files → length (offered call) ≤ call.room
      → call.failures_after ≡ call.failures_before → error ≡ errors.OutOfMemory

module _ (laws : Laws) where
  stays_none : (ended : Bool) (bytes more : List ℕ) → first_bad_frame ended (bytes ++ more) ≡ None → first_bad_frame false bytes ≡ None
  stays_none ended bytes more none = by (first_bad_frame false bytes) refl
    where
      by : (o : Option BatchFault) → first_bad_frame false bytes ≡ o → first_bad_frame false bytes ≡ None
      by None e = e
      by (Some x) e = let h = laws.stays ended bytes more x e in absurd (none-some x (sym none ∙ h))

  -- what was given has no bad frame where none is within the limit
  limit_given : (call : Call) → call.room < length (offered call) → first_bad_frame false (take call.room (offered call)) ≡ None → first_bad_file call ≡ None
  limit_given call past none = by (ended call) refl
    where
      by : (e : Bool) → ended call ≡ e → first_bad_frame (ended call) (given call) ≡ None
      by true e =
          let k : length (given call) ≡ length (offered call) = ap length (given_all call e) in
          let m : length (given call) ≤ call.room = rw (length-take call.room (got call)) (omega arith) in
          absurd (omega arith)
      by false e = let r = given_within call in rw e (stays_none false (given call) r.0 (rw (← r.1) none))

  -- an input that tells its bytes and did not fail counts as before
  steady : (input : Device) (x : List ℕ) → input.before ≡ Some x → CountHasNotFallen input → ¬ HasReadFault input → input.failed_after ≡ input.failed_before
  steady input x tells counts no_fault =
      omega (arith, counts, λ (rose : input.failed_before < input.failed_after). no_fault (subst (λ (b : Option (List ℕ)). SourceRose b input.failed_before input.failed_after) (sym tells) rose))

  -- a batch within the limit gave no byte past it, and is not too long
  ends_well : (files : List (List ℕ)) (answer : Answer) (status : Status) → IsAnswerFor files answer → IsOrNoMemory status (status_of_answer answer) → EndsWell files status
  ends_well files Positive status good ends = record { all_good = λ all. ends; some_bad = λ not. absurd (not good) }
  ends_well files Negative status bad ends = record { all_good = λ all. absurd (bad all); some_bad = λ not. ends }

  -- the run was answered
  answered : (r : Run) (status : Status) (P : List ℕ → Type 0) (answer : Answer) → AreTaken r.words → WithAnswer answer r.input P
      → (¬ HasWriteFault r.out → IsOrNoMemory status (status_of_answer answer)) → Completes r status
  answered r status P answer taken written ends = record {
    usage = λ not. absurd (not taken);
    bad_file = λ _. where_known r.input.before r.input.after is.was_read
        (λ x y before read fault bad. absurd (none-some fault (sym (laws.given_good (reading r.input x y) is.files read.batch) ∙ bad)));
    good = λ _ no_read no_write. where_known r.input.before r.input.after is.was_read
        (λ x y before read files batch few. subst (λ (fs : List (List ℕ)). EndsWell fs status) (laws.one_list x is.files files read.batch batch)
        (ends_well is.files answer status is.answer_is (ends no_write)));
    not_good = λ _ no_read. where_known r.input.before r.input.after is.was_read (λ x y before read none. absurd (none is.files read.batch read.within));
    too_many = λ _. where_known r.input.before r.input.after is.was_read (λ x y before read none past. let n = length_got (reading r.input x y) in let few = read.within in absurd (omega (arith, n, few, past)));
    too_long = λ _ no_read. where_known r.input.before r.input.after is.was_read (λ x y before read past none. let few = read.within in absurd (omega (arith, few, past)));
  }
    where
      is : IsAnswer r.input answer written.0
      is = written.1

  -- how a bad frame is told
  told : Bool → ℕ → Kind → BatchError
  told limit file kind = if limit then errors.Limit file kind else errors.Malformed file kind

  refuses : (limit : Bool) (call : Call) (file : ℕ) (kind : Kind) → (first_bad_file call ≡ Some (record { file = file; kind = kind })) × (is_limit kind ≡ limit) → RefusesBatch call (told limit file kind)
  unfolding told
  refuses true call file kind h = h
  refuses false call file kind h = h

  not_memory : (limit : Bool) (file : ℕ) (kind : Kind) → told limit file kind ≡ errors.OutOfMemory → ⊥
  unfolding told
  not_memory true file kind e = cc
  not_memory false file kind e = cc

  -- the status of the first bad frame
  kind_status : (file : ℕ) (kind : Kind) (fault : BatchFault) (first : Option BatchFault) (limit : Bool) → first ≡ Some (record { file = file; kind = kind }) → is_limit kind ≡ limit → first ≡ Some fault
      → (if limit then statuses.Limit else statuses.Malformed) ≡ status_of_fault fault
  kind_status file kind fault first limit one is two =
      let same : record { file = file; kind = kind } ≡ fault = cc in
      ap (λ (b : Bool). if b then statuses.Limit else statuses.Malformed) (sym is) ∙ ap status_of_fault same

  either : (status : Status) (limit : Bool) → status ≡ (if limit then statuses.Limit else statuses.Malformed) → (status ≡ statuses.Malformed) ⊎ (status ≡ statuses.Limit)
  either status true said = inr said
  either status false said = inl said

  -- the run was refused for a bad frame
  bad : (r : Run) (status : Status) (file : ℕ) (kind : Kind) (limit : Bool) → status ≡ (if limit then statuses.Limit else statuses.Malformed) → AreTaken r.words → CountHasNotFallen r.input
      → IsBadFile limit r.input (record { file = file; kind = kind }) → Completes r status
  bad r status file kind limit said taken later first = record {
    usage = λ not. absurd (not taken);
    bad_file = λ _. where_known r.input.before r.input.after first
        (λ x y before h fault two. inl (said ∙ kind_status file kind fault (first_bad_file (reading r.input x y)) limit h.0 h.1 two));
    good = λ _ no_read no_write. where_known r.input.before r.input.after first
        (λ x y before h files batch few. absurd (not_memory limit file kind
        (laws.read (reading r.input x y) (told limit file kind) files (refuses limit (reading r.input x y) file kind h) batch few (steady r.input x before later no_read))));
    not_good = λ _ no_read. where_known r.input.before r.input.after first (λ x y before h none. inl (either status limit said));
    too_many = λ _. where_known r.input.before r.input.after first (λ x y before h none past. absurd (none-some _ (sym none ∙ h.0)));
    too_long = λ _ no_read. where_known r.input.before r.input.after first
        (λ x y before h past none. absurd (none-some _ (sym (limit_given (reading r.input x y) past none) ∙ h.0)));
  }

  too_long_or_memory : errors.TooLong ≡ errors.OutOfMemory → ⊥
  too_long_or_memory e = cc

  -- each refusal
  refused : (r : Run) (status : Status) (refusal : BatchRefusal) → status ≡ status_of refusal → HasCause r refusal → Completes r status
  refused r status Usage said c = record {
    usage = λ _. inl said;
    bad_file = λ taken. absurd (c.0 taken);
    good = λ taken. absurd (c.0 taken);
    not_good = λ taken. absurd (c.0 taken);
    too_many = λ taken. absurd (c.0 taken);
    too_long = λ taken. absurd (c.0 taken);
  }
  refused r status (Malformed file kind) said c = bad r status file kind false said c.0 c.1 c.2.0
  refused r status (Limit file kind) said c = bad r status file kind true said c.0 c.1 c.2.0
  refused r status TooLong said c = record {
    usage = λ not. absurd (not c.0);
    bad_file = λ _. where_known r.input.before r.input.after c.2.0 (λ x y before h fault two. absurd (none-some fault (sym h.0 ∙ two)));
    good = λ _ no_read no_write. where_known r.input.before r.input.after c.2.0
        (λ x y before h files batch few. absurd (too_long_or_memory (laws.read (reading r.input x y) errors.TooLong files h batch few (steady r.input x before c.1 no_read))));
    not_good = λ _ no_read. where_known r.input.before r.input.after c.2.0 (λ x y before h none. inl (inr said));
    too_many = λ _. where_known r.input.before r.input.after c.2.0 (λ x y before h none past. inl said);
    too_long = λ _ no_read. where_known r.input.before r.input.after c.2.0 (λ x y before h past none. inl said);
  }
  refused r status ReadFault said c = record {
    usage = λ not. absurd (not c.0);
    bad_file = λ _. where_known r.input.before r.input.after c.2.0.1 (λ x y before h fault two. absurd (none-some fault (sym h.0 ∙ two)));
    good = λ _ no_read. absurd (no_read c.2.0.0);
    not_good = λ _ no_read. absurd (no_read c.2.0.0);
    too_many = λ _. where_known r.input.before r.input.after c.2.0.1 (λ x y before h none past. let few = h.1 in absurd (omega (arith, few, past)));
    too_long = λ _ no_read. absurd (no_read c.2.0.0);
  }
  refused r status WriteFault said c = answered r status _ c.2.2.0 c.0 c.2.2.1 (λ no_write. absurd (no_write c.2.0))
  refused r status OutOfMemory said c = record {
    usage = λ _. inr said;
    bad_file = λ _. where_known r.input.before r.input.after c.1 (λ x y before h fault two. inr said);
    good = λ _ no_read no_write. where_known r.input.before r.input.after c.1 (λ x y before h files batch few. record { all_good = λ _. inr said; some_bad = λ _. inr said });
    not_good = λ _ no_read. where_known r.input.before r.input.after c.1 (λ x y before h none. inr said);
    too_many = λ _. where_known r.input.before r.input.after c.1 (λ x y before h none past. inr said);
    too_long = λ _ no_read. where_known r.input.before r.input.after c.1 (λ x y before h past none. inr said);
  }

  completes : (r : Run) (status : Status) → Says r status → Completes r status
  completes r statuses.Ok s = answered r statuses.Ok _ Positive s.taken s.written (λ _. inl refl)
  completes r statuses.Negative s = answered r statuses.Negative _ Negative s.taken s.written (λ _. inl refl)
  completes r statuses.Usage s = refused r statuses.Usage s.refusal s.status_is s.cause
  completes r statuses.Malformed s = refused r statuses.Malformed s.refusal s.status_is s.cause
  completes r statuses.Limit s = refused r statuses.Limit s.refusal s.status_is s.cause
  completes r statuses.ReadFault s = refused r statuses.ReadFault s.refusal s.status_is s.cause
  completes r statuses.WriteFault s = refused r statuses.WriteFault s.refusal s.status_is s.cause
  completes r statuses.OutOfMemory s = refused r statuses.OutOfMemory s.refusal s.status_is s.cause
  completes r statuses.NeedsInteger s = refused r statuses.NeedsInteger s.refusal s.status_is s.cause

  pub fulfils : (r : Run) (status : Status) → Says r status → Fulfils Says Completes r status
  fulfils r status s = record { says = s; complete = completes r status s }
