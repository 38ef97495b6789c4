-- Which status has to come, from what each status says.
use Rattle.std.proofs.Common.{IfOk, ◌≡◌, ◌≤◌, ◌<◌, ◌⊎◌, ℕ, Bool, true, false, List, [], length, inl, inr, refl, sym, ap, ◌∙◌, subst, arith, Option, Some, None, Ok, Err, Result, if◌then◌else◌}
use Rattle.std.proofs.lemmas.Option.{none-some}
use Rattle.sp_ids.specs.Entries.{Entries}
use Rattle.sp_ids.specs.declared.outcomes.Status.{Status}
use Rattle.sp_ids.specs.declared.outcomes.Status.TheVariants as statuses
use Rattle.sp_ports.specs.Bytes.{WhereKnown}
use Rattle.btf_words.specs.Words.{AreTaken, job_of}
use Rattle.btf_words.specs.declared.jobs.WordsError.{WordsError}
use Rattle.btf_words.specs.declared.jobs.WordsError.TheVariants as wants
use Rattle.btf_words.specs.declared.jobs.Job.{Job}
use Rattle.btf_words.specs.declared.jobs.Job.TheVariants.{Rank, Analyse, Diagonal, Check, Load, Edit, Bottleneck}
use Rattle.mm_defs.specs.Faults.{is_limit}
use Rattle.mm_defs.specs.File.{Fault}
use Rattle.mm_defs.specs.Calls.{Call, got, offered}
use Rattle.mm_defs.specs.declared.kinds.Kind.{Kind}
use Rattle.mm_defs.proofs.AnswerLemmas.{length_got}
use Rattle.bip_defs.specs.Matrix.{Matrix}
use Rattle.bip_defs.proofs.Uniqueness.{same_matrix}
use Rattle.btf_check.specs.Verdicts.{IsVerdict}
use Rattle.btf_check.specs.declared.verdict.Verdict.{Verdict}
use Rattle.sp_ids.specs.declared.triples.Field.TheVariants.{Integer}
use Rattle.sp_pattern.specs.Stored.{IsPattern}
use Rattle.sp_pattern.specs.Weights.{weight_limit, weight_of}
use Rattle.btf_tool.specs.declared.answers.Answer.{Answer}
use Rattle.btf_tool.specs.declared.answers.Answer.TheVariants.{Negative, Positive}
use Rattle.btf_tool.specs.declared.refusals.Refusal.{Refusal}
use Rattle.btf_tool.specs.declared.refusals.Refusal.TheVariants.{Usage, Malformed, Limit, TooLong, SumLimit, NeedsInteger, ReadFault, WriteFault, OutOfMemory}
use Rattle.sp_ports.specs.Device.{CountHasNotFallen, Device, HasWriteFault, IsSteady, IsUntouched, WroteAsFar}
use Rattle.btf_tool.specs.Jobs.{GavePrefix, IsFitFor, IsMatrixOf, IsTextOf, NeedsIntegers, OfReading, ReadsFile, WasRead, Weighs, WithAnswer, WithFileAnswer, drops_of, form_of, reading}
use Rattle.btf_tool.specs.Inputs.{Form, IsGoodInput, first_bad_in}
use Rattle.btf_tool.specs.Inputs as forms
use Rattle.btf_tool.specs.VerdictText.{answer_of}
use Rattle.btf_tool.specs.Refusals.{line_of, refusal_without_words, status_of, status_of_answer}
use Rattle.btf_tool.specs.Runs.{ComesToDiagonal, Completes, EndsWell, Fulfils, HasCause, IsBadLine, IsGoodSoFar, IsOrNoMemory, IsPast, IsTooLong, JobSays, NameMaker, Names, NamesReader, Run, Says, StaysKnown, WithFile, status_of_fault}
use Rattle.btf_tool.proofs.Bottlenecks.{comes_to_bottleneck}
use Rattle.btf_tool.proofs.Diagonals.{comes_to_diagonal, no_sum_past}
use Rattle.btf_tool.proofs.FullMatchings.{FullHasRank, no_diagonal_memory, past_ends}
use Rattle.btf_tool.proofs.Inputs.{no_bad_line, none_within}

-- what follows of what holds where bytes are told
pub where_known : {P Q : List ℕ → List ℕ → Type 0} (before after : Option (List ℕ)) → WhereKnown before after P
    → ((x y : List ℕ) → before ≡ Some x → P x y → Q x y) → WhereKnown before after Q
where_known None after h f = tt
where_known (Some x) None h f = absurd h
where_known (Some x) (Some y) h f = f x y refl h

-- the status of the first bad line
kind_status : (line : ℕ) (kind : Kind) (fault : Fault) (first : Option Fault) (limit : Bool) → first ≡ Some (record { line = line; kind = kind }) → is_limit kind ≡ limit → first ≡ Some fault
    → (if limit then statuses.Limit else statuses.Malformed) ≡ status_of_fault fault
kind_status line kind fault first limit one is two =
    let same : record { line = line; kind = kind } ≡ fault = cc in
    ap (λ (b : Bool). if b then statuses.Limit else statuses.Malformed) (sym is) ∙ ap status_of_fault same

-- a good input has no bad line
good_clash : (form : Form) (call : Call) (t : Entries) (rest : List ℕ) (fault : Fault) → IsGoodInput form (offered call) t rest → first_bad_in form call ≡ Some fault → ⊥
good_clash form call t rest fault good some = none-some fault (sym (no_bad_line form call t rest good) ∙ some)

-- good inputs of the same bytes have the same entries, and the same behind them
same_entries : (form : Form) (bytes : List ℕ) (t u : Entries) (rest more : List ℕ) → IsGoodInput form bytes t rest → IsGoodInput form bytes u more → t ≡ u
same_entries form bytes t u rest more h k = h.reads.entries ∙ sym k.reads.entries

same_rest : (form : Form) (bytes : List ℕ) (t u : Entries) (rest more : List ℕ) → IsGoodInput form bytes t rest → IsGoodInput form bytes u more → rest ≡ more
same_rest form bytes t u rest more h k = h.reads.follows ∙ sym k.reads.follows

-- a file within the limit gave no byte past it, and is not too long
not_past : (call : Call) → length (offered call) ≤ call.room → call.room < length (got call) → ⊥
not_past call within past = let n = length_got call in omega (arith, n, within, past)

not_long : (bytes : List ℕ) → length bytes ≤ 68719476736 → 68719476736 < length bytes → ⊥
not_long bytes within past = omega (arith, within, past)

-- words name one job
one_job : (words : List (List ℕ)) (one two : Job) → Names words one → Names words two → one ≡ two
one_job words one two h k =
    let e : Some one ≡ Some two = sym h.job_is ∙ k.job_is in
    cc

-- words that name a job that makes its matrix name no other
pub made_named : (words : List (List ℕ)) (job : Job) → Names words job → NameMaker words → ¬ ReadsFile job
made_named words job names maker = subst (λ (j : Job). ¬ ReadsFile j) (one_job words maker.0 job maker.1 names) maker.2

-- a job that reads a file answered over it
over_file : (job : Job) (answer : Answer) (input : Device) (P : List ℕ → Type 0) → ReadsFile job → WithAnswer job answer input P → WithFileAnswer job answer input P
over_file (Rank drop_zeros) answer input P reads h = h
over_file (Analyse choice report drop_zeros) answer input P reads h = h
over_file (Diagonal drop_zeros) answer input P reads h = h
over_file (Check drop_zeros) answer input P reads h = h
over_file (Load size seed choice) answer input P reads h = absurd reads
over_file Edit answer input P reads h = h
over_file (Bottleneck drop_zeros) answer input P reads h = h

-- the answer over a file that an input gave which tells its bytes
record IsAnswerOver (job : Job) (call : Call) (answer : Answer) (text : List ℕ) : Type 0 where
  entries : Entries
  rest : List ℕ
  matrix : Matrix
  was_read : WasRead (form_of job) call entries rest
  is_fit : IsFitFor job entries
  is_matrix : IsMatrixOf (drops_of job) entries matrix
  fits : IsPattern matrix
  is_text : IsTextOf job entries matrix rest answer text

answer_told : (job : Job) (answer : Answer) (input : Device) (P : List ℕ → Type 0) → WithFileAnswer job answer input P → OfReading input (λ call. (text : List ℕ) × IsAnswerOver job call answer text)
answer_told job answer input P (text, is, done) =
    where_known input.before input.after is.was_read
    (λ x y before read. (text, record { entries = is.entries; rest = is.rest; matrix = is.matrix; was_read = read; is_fit = is.is_fit; is_matrix = is.is_matrix; fits = is.fits; is_text = is.is_text }))

-- a matrix that was made was answered as was asked
made_positive : (job : Job) (answer : Answer) (input : Device) (P : List ℕ → Type 0) → ¬ ReadsFile job → WithAnswer job answer input P → answer ≡ Positive
made_positive (Rank drop_zeros) answer input P makes h = absurd (makes tt)
made_positive (Analyse choice report drop_zeros) answer input P makes h = absurd (makes tt)
made_positive (Diagonal drop_zeros) answer input P makes h = absurd (makes tt)
made_positive (Check drop_zeros) answer input P makes h = absurd (makes tt)
made_positive (Load size seed choice) answer input P makes h = h.1.positive
made_positive Edit answer input P makes h = absurd (makes tt)
made_positive (Bottleneck drop_zeros) answer input P makes h = absurd (makes tt)

-- what the law `one_verdict` says
abbrev pub HasOneVerdict : Type 0
HasOneVerdict = (a : Matrix) (bytes : List ℕ) (v w : Verdict) → IsPattern a → IsVerdict a bytes v → IsVerdict a bytes w → v ≡ w

-- the answer over a good file is the one of that file
ends_well : HasOneVerdict → FullHasRank → (job : Job) (call : Call) (answer : Answer) (text : List ℕ) (t : Entries) (rest : List ℕ) (status : Status) → ReadsFile job
    → IsAnswerOver job call answer text → IsGoodInput (form_of job) (offered call) t rest → IsOrNoMemory status (status_of_answer answer) → EndsWell job t rest status
ends_well one_verdict full_rank (Rank drop_zeros) call answer text t rest status file h good ends = subst (λ (x : Answer). IsOrNoMemory status (status_of_answer x)) h.is_text.0 ends
ends_well one_verdict full_rank (Analyse choice report drop_zeros) call answer text t rest status file h good ends = subst (λ (x : Answer). IsOrNoMemory status (status_of_answer x)) h.is_text.0 ends
ends_well one_verdict full_rank (Diagonal drop_zeros) call answer text t rest status file h good ends =
    subst (λ (x : Entries). ComesToDiagonal drop_zeros x status) (same_entries forms.Alone (offered call) h.entries t h.rest rest h.was_read.good good)
    (comes_to_diagonal full_rank drop_zeros h.entries h.matrix answer text status h.is_matrix h.is_text ends)
ends_well one_verdict full_rank (Check drop_zeros) call answer text t rest status file h good ends = record {
  comes = comes answer ends;
  right = λ a verdict matrix is_verdict.
      let same_t : h.entries ≡ t = same_entries forms.Followed (offered call) h.entries t h.rest rest h.was_read.good good in
      let same_bytes : h.rest ≡ rest = same_rest forms.Followed (offered call) h.entries t h.rest rest h.was_read.good good in
      let mine : IsMatrixOf drop_zeros t h.matrix = subst (λ (x : Entries). IsMatrixOf drop_zeros x h.matrix) same_t h.is_matrix in
      let same_a : h.matrix ≡ a = same_matrix _ _ _ h.matrix a mine matrix in
      let v : IsVerdict h.matrix h.rest h.is_text.verdict = h.is_text.is_verdict in
      let w : IsVerdict h.matrix h.rest verdict = subst (λ (bytes : List ℕ). IsVerdict h.matrix bytes verdict) (sym same_bytes) (subst (λ (x : Matrix). IsVerdict x rest verdict) (sym same_a) is_verdict) in
      let same_v : h.is_text.verdict ≡ verdict = one_verdict h.matrix h.rest h.is_text.verdict verdict h.fits v w in
      subst (λ (x : Answer). IsOrNoMemory status (status_of_answer x)) (h.is_text.answer_is ∙ ap answer_of same_v) ends;
}
  where
    comes : (answer : Answer) → IsOrNoMemory status (status_of_answer answer) → (status ≡ statuses.Negative) ⊎ IsOrNoMemory status statuses.Ok
    comes Positive ends = inr ends
    comes Negative (inl is) = inl is
    comes Negative (inr none) = inr (inr none)
ends_well one_verdict full_rank (Load size seed choice) call answer text t rest status file h good ends = absurd file
ends_well one_verdict full_rank Edit call answer text t rest status file h good ends = subst (λ (x : Answer). IsOrNoMemory status (status_of_answer x)) h.is_text.0 ends
ends_well one_verdict full_rank (Bottleneck drop_zeros) call answer text t rest status file h good ends =
    subst (λ (x : Entries). ComesToDiagonal drop_zeros x status) (same_entries forms.Alone (offered call) h.entries t h.rest rest h.was_read.good good)
    (comes_to_bottleneck full_rank drop_zeros h.entries h.matrix answer text status h.is_matrix h.is_text ends)

-- the file of a job that needs integers, and answered over it, is an integer file
answer_integer : (job : Job) (call : Call) (answer : Answer) (text : List ℕ) (t : Entries) (rest : List ℕ) → NeedsIntegers job → IsAnswerOver job call answer text
    → IsGoodInput (form_of job) (offered call) t rest → t.field ≡ Integer
answer_integer job call answer text t rest needs h good =
    subst (λ (x : Entries). x.field ≡ Integer) (same_entries (form_of job) (offered call) h.entries t h.rest rest h.was_read.good good) (h.is_fit needs)

-- and no sum of a file that was weighed passes the limit
own_within : (job : Job) (call : Call) (answer : Answer) (text : List ℕ) (r c : ℕ) → Weighs job → (h : IsAnswerOver job call answer text) → weight_limit < weight_of h.entries r c → ⊥
own_within (Rank drop_zeros) call answer text r c weighs h past = weighs
own_within (Analyse choice report drop_zeros) call answer text r c weighs h past = weighs
own_within (Diagonal drop_zeros) call answer text r c weighs h past = no_sum_past drop_zeros h.entries h.matrix h.is_text.weighing r c h.is_matrix h.is_text.are_weights past
own_within (Check drop_zeros) call answer text r c weighs h past = weighs
own_within (Load size seed choice) call answer text r c weighs h past = weighs
own_within Edit call answer text r c weighs h past = weighs
own_within (Bottleneck drop_zeros) call answer text r c weighs h past = no_sum_past drop_zeros h.entries h.matrix h.is_text.weighing r c h.is_matrix h.is_text.are_weights past

answer_within : (job : Job) (call : Call) (answer : Answer) (text : List ℕ) (t : Entries) (rest : List ℕ) (r c : ℕ) → Weighs job → IsAnswerOver job call answer text
    → IsGoodInput (form_of job) (offered call) t rest → weight_limit < weight_of t r c → ⊥
answer_within job call answer text t rest r c weighs h good past =
    own_within job call answer text r c weighs h
    (subst (λ (x : Entries). weight_limit < weight_of x r c) (sym (same_entries (form_of job) (offered call) h.entries t h.rest rest h.was_read.good good)) past)

-- the job that the words name, in place of another that they name
abbrev in_place : (words : List (List ℕ)) (one two : Job) → Names words one → Names words two → (P : Job → Type 0) → P one → P two
in_place words one two h k P p = subst P (one_job words one two h k) p

-- the run was answered
answered : HasOneVerdict → FullHasRank → (r : Run) (status : Status) (P : List ℕ → Type 0) (answer : Answer) (job : Job) → Names r.words job → WithAnswer job answer r.input P
    → (¬ HasWriteFault r.out → IsOrNoMemory status (status_of_answer answer)) → Completes r status
answered one_verdict full_rank r status P answer job names written ends = record {
  usage = λ not. absurd (not names.taken);
  bad_line = λ other reader. where_known r.input.before r.input.after (over other reader)
      (λ x y before h fault bad. absurd (good_clash (form_of other) (reading r.input x y) h.1.entries h.1.rest fault h.1.was_read.good bad));
  good = λ other reader no_read no_write. where_known r.input.before r.input.after (over other reader)
      (λ x y before h t rest good few fit. ends_well one_verdict full_rank other (reading r.input x y) answer h.0 t rest status reader.1 h.1 good (ends no_write));
  other_field = λ other reader needs no_read. where_known r.input.before r.input.after (over other reader)
      (λ x y before h t rest good few not. absurd (not (answer_integer other (reading r.input x y) answer h.0 t rest needs h.1 good)));
  past = λ other reader weighs no_read. where_known r.input.before r.input.after (over other reader)
      (λ x y before h t rest good few integer row col past. absurd (answer_within other (reading r.input x y) answer h.0 t rest row col weighs h.1 good past));
  not_good = λ other reader no_read. where_known r.input.before r.input.after (over other reader)
      (λ x y before h none. absurd (none h.1.entries h.1.rest h.1.was_read.good h.1.was_read.within));
  too_many = λ other reader. where_known r.input.before r.input.after (over other reader)
      (λ x y before h none past. absurd (not_past (reading r.input x y) h.1.was_read.within past));
  too_long = λ other reader no_read. where_known r.input.before r.input.after (over other reader)
      (λ x y before h past none. absurd (not_long x h.1.was_read.within past));
  made = λ maker no_write.
      let positive : answer ≡ Positive = made_positive maker.0 answer r.input P maker.2 (in_place r.words job maker.0 names maker.1 (λ (j : Job). WithAnswer j answer r.input P) written) in
      subst (λ (x : Answer). IsOrNoMemory status (status_of_answer x)) positive (ends no_write);
}
  where
    over : (other : Job) → NamesReader r.words other → OfReading r.input (λ call. (text : List ℕ) × IsAnswerOver other call answer text)
    over other reader = answer_told other answer r.input P (over_file other answer r.input P reader.1 (in_place r.words job other names reader.0 (λ (j : Job). WithAnswer j answer r.input P) written))

-- the run was refused for a bad line
bad : (r : Run) (status : Status) (line : ℕ) (kind : Kind) (limit : Bool) → status ≡ (if limit then statuses.Limit else statuses.Malformed)
    → (job : Job) → Names r.words job → ReadsFile job → is_limit kind ≡ limit
    → IsBadLine (form_of job) r.input (record { line = line; kind = kind }) → Completes r status
bad r status line kind limit said job names reads is first = record {
  usage = λ not. absurd (not names.taken);
  bad_line = λ other reader. where_known r.input.before r.input.after (of other reader)
      (λ x y before h fault two. inl (said ∙ kind_status line kind fault (first_bad_in (form_of other) (reading r.input x y)) limit h is two));
  good = λ other reader no_read no_write. where_known r.input.before r.input.after (of other reader)
      (λ x y before h t rest good few fit. absurd (good_clash (form_of other) (reading r.input x y) t rest _ good h));
  other_field = λ other reader needs no_read. where_known r.input.before r.input.after (of other reader)
      (λ x y before h t rest good few not. absurd (good_clash (form_of other) (reading r.input x y) t rest _ good h));
  past = λ other reader weighs no_read. where_known r.input.before r.input.after (of other reader)
      (λ x y before h t rest good few integer row col past. absurd (good_clash (form_of other) (reading r.input x y) t rest _ good h));
  not_good = λ other reader no_read. where_known r.input.before r.input.after (of other reader) (λ x y before h none. inl (either limit said));
  too_many = λ other reader. where_known r.input.before r.input.after (of other reader)
      (λ x y before h none past. absurd (none-some _ (sym none ∙ h)));
  too_long = λ other reader no_read. where_known r.input.before r.input.after (of other reader)
      (λ x y before h past none. absurd (none-some _ (sym (none_within (form_of other) (reading r.input x y) past none) ∙ h)));
  made = λ maker. absurd (made_named r.words job names maker reads);
}
  where
    of : (other : Job) → NamesReader r.words other → IsBadLine (form_of other) r.input (record { line = line; kind = kind })
    of other reader = in_place r.words job other names reader.0 (λ (j : Job). IsBadLine (form_of j) r.input (record { line = line; kind = kind })) first

    either : (limit : Bool) → status ≡ (if limit then statuses.Limit else statuses.Malformed) → (status ≡ statuses.Malformed) ⊎ (status ≡ statuses.Limit)
    either true said = inr said
    either false said = inl said

-- a job that is out of memory ends as it may
no_memory_ends : (job : Job) (t : Entries) (rest : List ℕ) (status : Status) → status ≡ statuses.OutOfMemory → EndsWell job t rest status
no_memory_ends (Rank drop_zeros) t rest status said = inr said
no_memory_ends (Analyse choice report drop_zeros) t rest status said = inr said
no_memory_ends (Diagonal drop_zeros) t rest status said = no_diagonal_memory drop_zeros t status said
no_memory_ends (Check drop_zeros) t rest status said = record { comes = inr (inr said); right = λ a verdict matrix is_verdict. inr said }
no_memory_ends (Load size seed choice) t rest status said = inr said
no_memory_ends Edit t rest status said = inr said
no_memory_ends (Bottleneck drop_zeros) t rest status said = no_diagonal_memory drop_zeros t status said

-- a job that needs integers reads a file
needs_reads : (job : Job) → NeedsIntegers job → ReadsFile job
needs_reads (Rank drop_zeros) needs = tt
needs_reads (Analyse choice report drop_zeros) needs = tt
needs_reads (Diagonal drop_zeros) needs = tt
needs_reads (Check drop_zeros) needs = tt
needs_reads (Load size seed choice) needs = absurd needs
needs_reads Edit needs = tt
needs_reads (Bottleneck drop_zeros) needs = tt

-- a job that adds up values needs integers, and ends over its file as one that has a diagonal
weighs_needs : (job : Job) → Weighs job → NeedsIntegers job
weighs_needs (Rank drop_zeros) weighs = absurd weighs
weighs_needs (Analyse choice report drop_zeros) weighs = absurd weighs
weighs_needs (Diagonal drop_zeros) weighs = tt
weighs_needs (Check drop_zeros) weighs = absurd weighs
weighs_needs (Load size seed choice) weighs = absurd weighs
weighs_needs Edit weighs = absurd weighs
weighs_needs (Bottleneck drop_zeros) weighs = tt

weighs_ends : (job : Job) (t : Entries) (rest : List ℕ) (status : Status) → Weighs job → ComesToDiagonal (drops_of job) t status → EndsWell job t rest status
weighs_ends (Rank drop_zeros) t rest status weighs comes = absurd weighs
weighs_ends (Analyse choice report drop_zeros) t rest status weighs comes = absurd weighs
weighs_ends (Diagonal drop_zeros) t rest status weighs comes = comes
weighs_ends (Check drop_zeros) t rest status weighs comes = absurd weighs
weighs_ends (Load size seed choice) t rest status weighs comes = absurd weighs
weighs_ends Edit t rest status weighs comes = absurd weighs
weighs_ends (Bottleneck drop_zeros) t rest status weighs comes = comes

-- what a refusal over a good file has to answer to, for a job that does Q with a file of which P holds
record AnswersTo (Q : Job → Type 0) (P : Job → Entries → Type 0) (status : Status) : Type 0 where
  ends : (job : Job) (t : Entries) (rest : List ℕ) → Q job → P job t → IsFitFor job t → EndsWell job t rest status
  other_field : (job : Job) (t : Entries) → P job t → ¬ (t.field ≡ Integer) → IsOrNoMemory status statuses.NeedsInteger
  past : (job : Job) (t : Entries) → P job t → t.field ≡ Integer → IsOrNoMemory status statuses.Limit

-- the run was refused for what its file gives
by_entries : (r : Run) (status : Status) (Q : Job → Type 0) (P : Job → Entries → Type 0) (job : Job) → Names r.words job → ReadsFile job → Q job → WithFile job r.input (P job) → AnswersTo Q P status → Completes r status
by_entries r status Q P job names file_read is file to = record {
  usage = λ not. absurd (not names.taken);
  bad_line = λ other reader. where_known r.input.before r.input.after (of other reader)
      (λ x y before h fault bad. absurd (good_clash (form_of other) (reading r.input x y) h.0 h.1 fault h.2.good bad));
  good = λ other reader no_read no_write. where_known r.input.before r.input.after (of other reader)
      (λ x y before h t rest good few fit. to.ends other t rest (does other reader) (as_given other (offered (reading r.input x y)) h.0 t h.1 rest h.2.good good h.3) fit);
  other_field = λ other reader needs no_read. where_known r.input.before r.input.after (of other reader)
      (λ x y before h t rest good few not. to.other_field other t (as_given other (offered (reading r.input x y)) h.0 t h.1 rest h.2.good good h.3) not);
  past = λ other reader weighs no_read. where_known r.input.before r.input.after (of other reader)
      (λ x y before h t rest good few integer row col past. to.past other t (as_given other (offered (reading r.input x y)) h.0 t h.1 rest h.2.good good h.3) integer);
  not_good = λ other reader no_read. where_known r.input.before r.input.after (of other reader) (λ x y before h none. absurd (none h.0 h.1 h.2.good h.2.within));
  too_many = λ other reader. where_known r.input.before r.input.after (of other reader) (λ x y before h none past. absurd (not_past (reading r.input x y) h.2.within past));
  too_long = λ other reader no_read. where_known r.input.before r.input.after (of other reader) (λ x y before h past none. absurd (not_long x h.2.within past));
  made = λ maker. absurd (made_named r.words job names maker file_read);
}
  where
    does : (other : Job) → NamesReader r.words other → Q other
    does other reader = in_place r.words job other names reader.0 Q is

    of : (other : Job) → NamesReader r.words other → WithFile other r.input (P other)
    of other reader = in_place r.words job other names reader.0 (λ (j : Job). WithFile j r.input (P j)) file

    as_given : (other : Job) (bytes : List ℕ) (u t : Entries) (more rest : List ℕ) → IsGoodInput (form_of other) bytes u more → IsGoodInput (form_of other) bytes t rest → P other u → P other t
    as_given other bytes u t more rest h k p = subst (P other) (same_entries (form_of other) bytes u t more rest h k) p

-- a sum past the limit
abbrev PastLimit : ℕ → ℕ → Job → Entries → Type 0
PastLimit row col job t = (t.field ≡ Integer) × IsPast (drops_of job) t row col

past_answers : (row col : ℕ) (status : Status) → status ≡ statuses.Limit → AnswersTo Weighs (PastLimit row col) status
past_answers row col status said = record {
  ends = λ job t rest weighs h fit. weighs_ends job t rest status weighs (past_ends (drops_of job) t h.1.0 row col status h.1.2);
  other_field = λ job t h not. absurd (not h.0);
  past = λ job t h integer. inl said;
}

-- a file of another field
abbrev OtherField : Job → Entries → Type 0
OtherField job t = ¬ (t.field ≡ Integer)

other_field_answers : (status : Status) → status ≡ statuses.NeedsInteger → AnswersTo NeedsIntegers OtherField status
other_field_answers status said = record {
  ends = λ job t rest needs not fit. absurd (not (fit needs));
  other_field = λ job t not _. inl said;
  past = λ job t not integer. absurd (not integer);
}

-- each refusal
refused : HasOneVerdict → FullHasRank → (r : Run) (status : Status) (refusal : Refusal) → status ≡ status_of refusal → HasCause r refusal → Completes r status
refused one_verdict full_rank r status Usage said c = record {
  usage = λ _. inl said;
  bad_line = λ other reader. absurd (c.0 reader.0.taken);
  good = λ other reader. absurd (c.0 reader.0.taken);
  other_field = λ other reader. absurd (c.0 reader.0.taken);
  past = λ other reader. absurd (c.0 reader.0.taken);
  not_good = λ other reader. absurd (c.0 reader.0.taken);
  too_many = λ other reader. absurd (c.0 reader.0.taken);
  too_long = λ other reader. absurd (c.0 reader.0.taken);
  made = λ maker. absurd (c.0 maker.1.taken);
}
refused one_verdict full_rank r status (Malformed line kind) said c = bad r status line kind false said c.0 c.1 c.3.0 c.3.1 c.3.2
refused one_verdict full_rank r status (Limit line kind) said c = bad r status line kind true said c.0 c.1 c.3.0 c.3.1 c.3.2
refused one_verdict full_rank r status TooLong said c = record {
  usage = λ not. absurd (not c.1.taken);
  bad_line = λ other reader. where_known r.input.before r.input.after (of other reader) (λ x y before h fault two. absurd (none-some fault (sym h.0 ∙ two)));
  good = λ other reader no_read no_write. where_known r.input.before r.input.after (of other reader)
      (λ x y before h t rest good few fit. absurd (not_past (reading r.input x y) few h.1));
  other_field = λ other reader needs no_read. where_known r.input.before r.input.after (of other reader)
      (λ x y before h t rest good few not. absurd (not_past (reading r.input x y) few h.1));
  past = λ other reader weighs no_read. where_known r.input.before r.input.after (of other reader)
      (λ x y before h t rest good few integer row col past. absurd (not_past (reading r.input x y) few h.1));
  not_good = λ other reader no_read. where_known r.input.before r.input.after (of other reader) (λ x y before h none. inl (inr said));
  too_many = λ other reader. where_known r.input.before r.input.after (of other reader) (λ x y before h none past. inl said);
  too_long = λ other reader no_read. where_known r.input.before r.input.after (of other reader) (λ x y before h past none. inl said);
  made = λ maker. absurd (made_named r.words c.0 c.1 maker c.3.0);
}
  where
    of : (other : Job) → NamesReader r.words other → IsTooLong (form_of other) r.input
    of other reader = in_place r.words c.0 other c.1 reader.0 (λ (j : Job). IsTooLong (form_of j) r.input) c.3.1
refused one_verdict full_rank r status ReadFault said c = record {
  usage = λ not. absurd (not c.1.taken);
  bad_line = λ other reader. where_known r.input.before r.input.after (of other reader) (λ x y before h fault two. absurd (none-some fault (sym h.0 ∙ two)));
  good = λ other reader no_read. absurd (no_read c.3.1);
  other_field = λ other reader needs no_read. absurd (no_read c.3.1);
  past = λ other reader weighs no_read. absurd (no_read c.3.1);
  not_good = λ other reader no_read. absurd (no_read c.3.1);
  too_many = λ other reader. where_known r.input.before r.input.after (of other reader) (λ x y before h none past. let few = h.1 in absurd (omega (arith, few, past)));
  too_long = λ other reader no_read. absurd (no_read c.3.1);
  made = λ maker. absurd (made_named r.words c.0 c.1 maker c.3.0);
}
  where
    of : (other : Job) → NamesReader r.words other → IsGoodSoFar (form_of other) r.input
    of other reader = in_place r.words c.0 other c.1 reader.0 (λ (j : Job). IsGoodSoFar (form_of j) r.input) c.3.2
refused one_verdict full_rank r status (SumLimit row col) said c =
    by_entries r status Weighs (PastLimit row col) c.0 c.1 (needs_reads c.0 (weighs_needs c.0 c.3.0)) c.3.0 c.3.2 (past_answers row col status said)
refused one_verdict full_rank r status NeedsInteger said c = by_entries r status NeedsIntegers OtherField c.0 c.1 (needs_reads c.0 c.3.0) c.3.0 c.3.2 (other_field_answers status said)
refused one_verdict full_rank r status WriteFault said c = answered one_verdict full_rank r status _ c.3.2.0 c.0 c.1 c.3.2.1 (λ no_write. absurd (no_write c.3.0))
refused one_verdict full_rank r status OutOfMemory said c = record {
  usage = λ _. inr said;
  bad_line = λ other reader. where_known r.input.before r.input.after c.1 (λ x y before h fault two. inr said);
  good = λ other reader no_read no_write. where_known r.input.before r.input.after c.1 (λ x y before h t rest good few fit. no_memory_ends other t rest status said);
  other_field = λ other reader needs no_read. where_known r.input.before r.input.after c.1 (λ x y before h t rest good few not. inr said);
  past = λ other reader weighs no_read. where_known r.input.before r.input.after c.1 (λ x y before h t rest good few integer row col past. inr said);
  not_good = λ other reader no_read. where_known r.input.before r.input.after c.1 (λ x y before h none. inr said);
  too_many = λ other reader. where_known r.input.before r.input.after c.1 (λ x y before h none past. inr said);
  too_long = λ other reader no_read. where_known r.input.before r.input.after c.1 (λ x y before h past none. inr said);
  made = λ maker no_write. inr said;
}

completes : HasOneVerdict → FullHasRank → (r : Run) (status : Status) → Says r status → Completes r status
completes one_verdict full_rank r statuses.Ok s = answered one_verdict full_rank r statuses.Ok _ Positive s.job s.names s.written (λ _. inl refl)
completes one_verdict full_rank r statuses.Negative s = answered one_verdict full_rank r statuses.Negative _ Negative s.job s.names s.written (λ _. inl refl)
completes one_verdict full_rank r statuses.Usage s = refused one_verdict full_rank r statuses.Usage s.refusal s.status_is s.cause
completes one_verdict full_rank r statuses.Malformed s = refused one_verdict full_rank r statuses.Malformed s.refusal s.status_is s.cause
completes one_verdict full_rank r statuses.Limit s = refused one_verdict full_rank r statuses.Limit s.refusal s.status_is s.cause
completes one_verdict full_rank r statuses.ReadFault s = refused one_verdict full_rank r statuses.ReadFault s.refusal s.status_is s.cause
completes one_verdict full_rank r statuses.WriteFault s = refused one_verdict full_rank r statuses.WriteFault s.refusal s.status_is s.cause
completes one_verdict full_rank r statuses.OutOfMemory s = refused one_verdict full_rank r statuses.OutOfMemory s.refusal s.status_is s.cause
completes one_verdict full_rank r statuses.NeedsInteger s = refused one_verdict full_rank r statuses.NeedsInteger s.refusal s.status_is s.cause

pub fulfils : HasOneVerdict → FullHasRank → (r : Run) (status : Status) → Says r status → Fulfils Says Completes r status
fulfils one_verdict full_rank r status s = record { says = s; complete = completes one_verdict full_rank r status s }

by_refusal : (r : Run) (refusal : Refusal) → WroteAsFar r.err (line_of refusal) → HasCause r refusal → Says r (status_of refusal)
by_refusal r Usage wrote cause = record { refusal = Usage; status_is = refl; line = wrote; cause = cause }
by_refusal r (Malformed line kind) wrote cause = record { refusal = Malformed line kind; status_is = refl; line = wrote; cause = cause }
by_refusal r (Limit line kind) wrote cause = record { refusal = Limit line kind; status_is = refl; line = wrote; cause = cause }
by_refusal r TooLong wrote cause = record { refusal = TooLong; status_is = refl; line = wrote; cause = cause }
by_refusal r (SumLimit row col) wrote cause = record { refusal = SumLimit row col; status_is = refl; line = wrote; cause = cause }
by_refusal r NeedsInteger wrote cause = record { refusal = NeedsInteger; status_is = refl; line = wrote; cause = cause }
by_refusal r ReadFault wrote cause = record { refusal = ReadFault; status_is = refl; line = wrote; cause = cause }
by_refusal r WriteFault wrote cause = record { refusal = WriteFault; status_is = refl; line = wrote; cause = cause }
by_refusal r OutOfMemory wrote cause = record { refusal = OutOfMemory; status_is = refl; line = wrote; cause = cause }

-- a refusal that was told, with its cause
pub refusal_says : (r : Run) (status : Status) (refusal : Refusal) → status ≡ status_of refusal → WroteAsFar r.err (line_of refusal) → HasCause r refusal → Says r status
refusal_says r status refusal said wrote cause = subst (λ (s : Status). Says r s) (sym said) (by_refusal r refusal wrote cause)

-- the refusal of a job
pub job_refused : (r : Run) (job : Job) (refusal : Refusal) → Names r.words job → JobSays job r.input r.out (Err refusal) → HasCause r refusal
job_refused r job Usage names says = absurd says.2
job_refused r job (Malformed line kind) names says = (job, names, says.0, says.2)
job_refused r job (Limit line kind) names says = (job, names, says.0, says.2)
job_refused r job TooLong names says = (job, names, says.0, says.2)
job_refused r job (SumLimit row col) names says = (job, names, says.0, says.2)
job_refused r job NeedsInteger names says = (job, names, says.0, says.2)
job_refused r job ReadFault names says = (job, names, says.0, says.2)
job_refused r job WriteFault names says = (job, names, says.0, says.2)
job_refused r job OutOfMemory names says = (says.0, says.2.0, says.2.1)

-- an input that tells its bytes and was not used tells them still
pub untouched_tells : (input : Device) → IsUntouched input → StaysKnown input
untouched_tells input same = subst (λ (after : Option (List ℕ)). WhereKnown input.before after (λ x y. Unit {0})) (sym same.0) (still input.before)
  where
    still : (bytes : Option (List ℕ)) → WhereKnown bytes bytes (λ x y. Unit {0})
    still None = tt
    still (Some x) = tt

-- it gave nothing
pub untouched_gave : (input : Device) → IsUntouched input → OfReading input GavePrefix
untouched_gave input same =
    subst (λ (after : Option (List ℕ)). WhereKnown input.before after (λ x y. GavePrefix (reading input x y))) (sym same.0) (still input.before)
  where
    still : (bytes : Option (List ℕ)) → WhereKnown bytes bytes (λ x y. GavePrefix (reading input x y))
    still None = tt
    still (Some x) = record { gave = []; in_order = refl; few = omega arith }

-- the count of a device that was not used has not fallen
pub untouched_counts : (d : Device) → IsUntouched d → CountHasNotFallen d
untouched_counts d same = omega (arith, same.1)

-- nor has that of a device whose calls all succeeded
steady_counts : (d : Device) → IsSteady d → CountHasNotFallen d
steady_counts d same = omega (arith, same)

pub job_counts : (job : Job) (input out : Device) (result : Result Answer Refusal) → JobSays job input out result → CountHasNotFallen input × CountHasNotFallen out
job_counts job input out (Ok answer) says = (steady_counts input says.1, steady_counts out says.2)
job_counts job input out (Err refusal) says = (says.0, says.1)

pub line_counts : (d : Device) (text : List ℕ) → WroteAsFar d text → CountHasNotFallen d
line_counts d text (inl took) = steady_counts d took.steady
line_counts d text (inr took) = took.counts

-- ---- what `run` cites

-- words that name no job were refused, and nothing was read or written
pub words_refused : (r : Run) (error : WordsError) (refusal : Refusal) (status : Status) → refusal ≡ refusal_without_words error → (error ≡ wants.Usage → ¬ AreTaken r.words)
    → IsUntouched r.input → IsUntouched r.out → status ≡ status_of refusal → WroteAsFar r.err (line_of refusal) → Says r status
words_refused r error refusal status is usage unread unwritten said line =
    refusal_says r status refusal said line (subst (λ (x : Refusal). HasCause r x) (sym is) (cause error usage))
  where
    cause : (e : WordsError) → (e ≡ wants.Usage → ¬ AreTaken r.words) → HasCause r (refusal_without_words e)
    cause wants.Usage not_taken = (not_taken refl, unread, unwritten)
    cause wants.OutOfMemory not_taken = (untouched_counts r.input unread, untouched_tells r.input unread, unwritten)

-- the job that was read from the words
pub named : (words : List (List ℕ)) (result : Result Job WordsError) (job : Job) → result ≡ Ok job
    → IfOk result (λ j. AreTaken words) → IfOk result (λ j. job_of words ≡ Some j) → Names words job
named words result job is taken names = record {
  taken = subst (λ (r : Result Job WordsError). IfOk r (λ j. AreTaken words)) is taken;
  job_is = subst (λ (r : Result Job WordsError). IfOk r (λ j. job_of words ≡ Some j)) is names;
}

by_answer : (r : Run) (answer : Answer) (job : Job) → Names r.words job → JobSays job r.input r.out (Ok answer) → IsUntouched r.err → Says r (status_of_answer answer)
by_answer r Positive job names done untouched = record { job = job; names = names; may = done.0; written = done.3; steady_input = done.1; steady_out = done.2; nothing_written = untouched }
by_answer r Negative job names done untouched = record { job = job; names = names; may = done.0; written = done.3; steady_input = done.1; steady_out = done.2; nothing_written = untouched }

-- the job was done
pub job_done : (r : Run) (job : Job) (result : Result Answer Refusal) (answer : Answer) (status : Status) → result ≡ Ok answer → Names r.words job
    → JobSays job r.input r.out result → status ≡ status_of_answer answer → IsUntouched r.err → Says r status
job_done r job result answer status is names says said untouched =
    subst (λ (s : Status). Says r s) (sym said)
    (by_answer r answer job names (subst (λ (o : Result Answer Refusal). JobSays job r.input r.out o) is says) untouched)

-- the job was refused
pub job_not_done : (r : Run) (job : Job) (result : Result Answer Refusal) (refusal : Refusal) (status : Status) → result ≡ Err refusal → Names r.words job
    → JobSays job r.input r.out result → status ≡ status_of refusal → WroteAsFar r.err (line_of refusal) → Says r status
job_not_done r job result refusal status is names says said line =
    refusal_says r status refusal said line
    (job_refused r job refusal names (subst (λ (o : Result Answer Refusal). JobSays job r.input r.out o) is says))
