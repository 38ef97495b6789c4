-- What the steps of a job say together.
use Rattle.std.proofs.Common.{◌≡◌, ℕ, List, Ok, Err, refl, sym, subst, Result}
use Rattle.std.specs.Result.{IsErrAnd}
use Rattle.sp_ids.specs.Entries.{Entries}
use Rattle.bip_defs.specs.Matrix.{Matrix}
use Rattle.bip_graph.specs.Answers.{IsRankText}
use Rattle.bip_graph.specs.Texts.{Sizes, rank_text, sizes_of}
use Rattle.btf_tool.specs.Ranks.{IsRankOf}
use Rattle.btf_words.specs.declared.jobs.Job.{Job}
use Rattle.btf_words.specs.declared.jobs.Job.TheVariants.{Rank, Analyse, Diagonal, Check, Load, Edit, Bottleneck}
use Rattle.bip_graph.specs.declared.answers.Heaviest.{Heaviest}
use Rattle.btf_text.specs.Diagonals.{diagonal_text}
use Rattle.integer_diagonal.specs.Heaviest.{IsHeaviest}
use Rattle.sp_pattern.specs.Weights.{AreWeightsOf, Weighing}
use Rattle.btf_tool.specs.Diagonals.{IsDiagonalText, answer_on}
use Rattle.btf_check.specs.Verdicts.{IsVerdict}
use Rattle.btf_check.specs.declared.verdict.Verdict.{Verdict}
use Rattle.sp_pattern.specs.Stored.{IsPattern}
use Rattle.btf_tool.specs.declared.answers.Answer.{Answer}
use Rattle.btf_tool.specs.declared.answers.Answer.TheVariants.{Negative, Positive}
use Rattle.btf_tool.specs.declared.refusals.Refusal.{Refusal}
use Rattle.btf_tool.specs.declared.refusals.Refusal.TheVariants.{WriteFault, OutOfMemory}
use Rattle.mm_reader.specs.EntryLimits.{AreWithinLimits}
use Rattle.sp_ports.specs.Device.{CountHasNotFallen, Device, IsUntouched, Took, TookPrefix}
use Rattle.btf_tool.specs.Jobs.{IsFitFor, IsMatrixOf, IsTextOf, MayAnswer, OfReading, ReadsFile, WasRead, WithAnswer, WithFileAnswer, drops_of, form_of}
use Rattle.btf_tool.specs.VerdictText.{IsVerdictText, answer_of, verdict_text}
use Rattle.btf_tool.specs.Runs.{IsReadAs, JobSays}
use Rattle.btf_tool.proofs.Completeness.{untouched_counts, where_known}

-- what holds of this refusal holds of a result that is it
pub as_refusal : {T : Type 0} (result : Result T Refusal) (refusal : Refusal) (Q : Result T Refusal → Type 0)
    → IsErrAnd result (λ e. e ≡ refusal) → Q (Err refusal) → Q result
as_refusal (Ok v) refusal Q is q = absurd is
as_refusal (Err e) refusal Q is q = subst (λ (r : Refusal). Q (Err r)) (sym is) q

-- memory ran out after the reading
pub no_memory : (job : Job) (input out : Device) (t : Entries) (rest : List ℕ) → IsReadAs (form_of job) input t rest → CountHasNotFallen input → IsUntouched out → JobSays job input out (Err OutOfMemory)
no_memory job input out t rest says later same = (later, untouched_counts out same, (where_known input.before input.after says.1 (λ x y before h. tt), same))

-- a job that reads a file answers over it
from_file : (job : Job) (answer : Answer) (input : Device) (P : List ℕ → Type 0) → ReadsFile job → WithFileAnswer job answer input P → WithAnswer job answer input P
from_file (Rank drop_zeros) answer input P reads h = h
from_file (Analyse choice report drop_zeros) answer input P reads h = h
from_file (Diagonal drop_zeros) answer input P reads h = h
from_file (Check drop_zeros) answer input P reads h = h
from_file (Load size seed choice) answer input P reads h = absurd reads
from_file Edit answer input P reads h = h
from_file (Bottleneck drop_zeros) answer input P reads h = h

with_answer : (job : Job) (answer : Answer) (input : Device) (P : List ℕ → Type 0) (text : List ℕ) (t : Entries) (rest : List ℕ) (a : Matrix) → ReadsFile job → OfReading input (λ call. WasRead (form_of job) call t rest)
    → AreWithinLimits t → IsFitFor job t → IsMatrixOf (drops_of job) t a → IsPattern a → IsTextOf job t a rest answer text → P text → WithAnswer job answer input P
with_answer job answer input P text t rest a reads read within fit matrix fits is_text p =
    from_file job answer input P reads
    (text, record { entries = t; rest = rest; matrix = a; was_read = read; within = within; is_fit = fit; is_matrix = matrix; fits = fits; is_text = is_text }, p)

-- a text of the job's is one of an answer that it may give
may_answer : (job : Job) (answer : Answer) (t : Entries) (a : Matrix) (rest text : List ℕ) → IsTextOf job t a rest answer text → MayAnswer job answer
may_answer (Rank drop_zeros) answer t a rest text h = subst (λ (x : Answer). MayAnswer (Rank drop_zeros) x) (sym h.0) tt
may_answer (Analyse choice report drop_zeros) answer t a rest text h = subst (λ (x : Answer). MayAnswer (Analyse choice report drop_zeros) x) (sym h.0) tt
may_answer (Diagonal drop_zeros) Positive t a rest text h = tt
may_answer (Diagonal drop_zeros) Negative t a rest text h = tt
may_answer (Check drop_zeros) Positive t a rest text h = tt
may_answer (Check drop_zeros) Negative t a rest text h = tt
may_answer (Load size seed choice) answer t a rest text h = subst (λ (x : Answer). MayAnswer (Load size seed choice) x) (sym h.0) tt
may_answer Edit answer t a rest text h = subst (λ (x : Answer). MayAnswer Edit x) (sym h.0) tt
may_answer (Bottleneck drop_zeros) Positive t a rest text h = tt
may_answer (Bottleneck drop_zeros) Negative t a rest text h = tt

-- the answer was written, or a write of it failed
pub job_written : (job : Job) (answer : Answer) (input out : Device) (text : List ℕ) (t : Entries) (rest : List ℕ) (a : Matrix) → ReadsFile job → IsReadAs (form_of job) input t rest → AreWithinLimits t → IsFitFor job t
    → IsMatrixOf (drops_of job) t a → IsPattern a → IsTextOf job t a rest answer text → Took out text → JobSays job input out (Ok answer)
job_written job answer input out text t rest a reads says within fit matrix fits is_text took =
    (may_answer job answer t a rest text is_text, says.0, took.steady, with_answer job answer input (Took out) text t rest a reads says.1 within fit matrix fits is_text took)

pub job_not_written : (job : Job) (answer : Answer) (input out : Device) (text : List ℕ) (t : Entries) (rest : List ℕ) (a : Matrix) → ReadsFile job → IsReadAs (form_of job) input t rest → AreWithinLimits t → CountHasNotFallen input
    → IsFitFor job t → IsMatrixOf (drops_of job) t a → IsPattern a → IsTextOf job t a rest answer text → TookPrefix out text → JobSays job input out (Err WriteFault)
job_not_written job answer input out text t rest a reads says within counts fit matrix fits is_text prefix =
    (counts, prefix.counts, (prefix.fault, says.0, (answer, with_answer job answer input (TookPrefix out) text t rest a reads says.1 within fit matrix fits is_text prefix)))

-- the text of the same lists
pub same_text : (Q : List ℕ → Type 0) (s : Sizes) (k : ℕ) (rows others cols more : List ℕ) → rows ≡ others → cols ≡ more → Q (rank_text s k rows cols) → Q (rank_text s k others more)
same_text Q s k rows others cols more one two q =
    subst (λ (cs : List ℕ). Q (rank_text s k others cs)) two (subst (λ (rs : List ℕ). Q (rank_text s k rs cols)) one q)

-- what `rank` finds is what its text says
pub rank_answers : (a : Matrix) (rank : ℕ) (rows cols : List ℕ) → IsRankOf a rank rows cols → IsRankText a (rank_text (sizes_of a) rank rows cols)
rank_answers a rank rows cols h = record { rank = rank; rows = rows; cols = cols; is_rank = h.is_rank; are_rows = h.are_rows; are_cols = h.are_cols; spelled = refl }

-- the verdict is what its line says
pub verdict_answers : (a : Matrix) (bytes : List ℕ) (verdict : Verdict) → IsVerdict a bytes verdict → IsVerdictText a bytes (answer_of verdict) (verdict_text verdict)
verdict_answers a bytes verdict is = record { verdict = verdict; is_verdict = is; answer_is = refl; spelled = refl }

-- ---- `diagonal`

-- the text is that of the answer
pub diagonal_answers : (t : Entries) (a : Matrix) (w : Weighing) (h : Heaviest) → AreWeightsOf t a w → IsHeaviest w h → IsDiagonalText t a (answer_on h) (diagonal_text w h)
diagonal_answers t a w h weights heaviest = record { weighing = w; are_weights = weights; heaviest = h; is_heaviest = heaviest; answer_is = refl; spelled = refl }
