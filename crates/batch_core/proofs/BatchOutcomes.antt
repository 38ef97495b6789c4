-- What the steps of a run say together.
use Rattle.std.proofs.Common.{◌≡◌, ◌∙◌, ℕ, List, arith, refl, sym, subst, Option, Ok, Err, Result, IfOk}
use Rattle.sp_ids.specs.declared.outcomes.Status.{Status}
use Rattle.sp_ports.specs.Device.{Device, IsUntouched, WroteAsFar}
use Rattle.btf_words.specs.BatchWords.{AreTaken}
use Rattle.btf_words.specs.declared.jobs.WordsError.{WordsError}
use Rattle.btf_words.specs.declared.jobs.WordsError.TheVariants as wants
use Rattle.btf_tool.specs.Jobs.{OfReading}
use Rattle.btf_tool.specs.Refusals.{status_of_answer}
use Rattle.btf_tool.specs.Runs.{Run, StaysKnown}
use Rattle.btf_tool.specs.declared.answers.Answer.{Answer}
use Rattle.btf_tool.specs.declared.answers.Answer.TheVariants.{Negative, Positive}
use Rattle.btf_tool.specs.declared.file_answer.FileAnswer.{FileAnswer}
use Rattle.batch_core.specs.BatchRefusals.{line_of, refusal_without_words, status_of}
use Rattle.batch_core.specs.BatchRuns.{BatchSays, HasCause, Says, WasRead, WithAnswer}
use Rattle.batch_core.specs.BatchText.{answer_of, text_of_slots}
use Rattle.batch_core.specs.Shares.{AreFull, AreSlotsOf, IsWithinLimits, Slots}
use Rattle.batch_core.specs.declared.refusals.BatchRefusal.{BatchRefusal}
use Rattle.batch_core.specs.declared.refusals.BatchRefusal.TheVariants.{Limit, Malformed, OutOfMemory, ReadFault, TooLong, Usage, WriteFault}
use Rattle.batch_core.proofs.BatchTexts.{AreAnswered, all_answered, slots_answer, slots_text}

-- ---- over words that are taken

-- this is what is answered over the files that were read
pub with_answer : (input : Device) (files : List (List ℕ)) (slots : List (Option FileAnswer)) (P : List ℕ → Type 0) → OfReading input (λ call. WasRead call files) → IsWithinLimits files → AreAnswered files slots
    → P (text_of_slots slots) → WithAnswer (answer_of slots) input P
with_answer input files slots P read limits are done =
    (text_of_slots slots, record { files = files; was_read = read; limits = limits; answer_is = slots_answer files slots are; is_text = slots_text files slots are }, done)

-- the same, where the files and the slots are those of the answers
pub with_answers : (input : Device) (files given : List (List ℕ)) (answers : Slots) (slots : List (Option FileAnswer)) (P : List ℕ → Type 0) → OfReading input (λ call. WasRead call files)
    → IsWithinLimits files → answers.files ≡ given → given ≡ files → AreSlotsOf answers.files answers.slots → AreFull answers → slots ≡ answers.slots → P (text_of_slots slots) → WithAnswer (answer_of slots) input P
with_answers input files given answers slots P read limits of_given same are full these done =
    with_answer input files slots P read limits
    (subst (λ (s : List (Option FileAnswer)). AreAnswered files s) (sym these)
    (subst (λ (fs : List (List ℕ)). AreAnswered fs answers.slots) (of_given ∙ same) (all_answered answers.files answers.slots are full))) done

-- ---- a run

by_refusal : (r : Run) (refusal : BatchRefusal) → WroteAsFar r.err (line_of refusal) → HasCause r refusal → Says r (status_of refusal)
by_refusal r Usage wrote cause = record { refusal = Usage; status_is = refl; line = wrote; cause = cause }
by_refusal r (Malformed file kind) wrote cause = record { refusal = Malformed file kind; status_is = refl; line = wrote; cause = cause }
by_refusal r (Limit file kind) wrote cause = record { refusal = Limit file kind; status_is = refl; line = wrote; cause = cause }
by_refusal r TooLong wrote cause = record { refusal = TooLong; status_is = refl; line = wrote; cause = cause }
by_refusal r ReadFault wrote cause = record { refusal = ReadFault; status_is = refl; line = wrote; cause = cause }
by_refusal r WriteFault wrote cause = record { refusal = WriteFault; status_is = refl; line = wrote; cause = cause }
by_refusal r OutOfMemory wrote cause = record { refusal = OutOfMemory; status_is = refl; line = wrote; cause = cause }

-- a refusal that was told, with its cause
pub refusal_says : (r : Run) (status : Status) (refusal : BatchRefusal) → status ≡ status_of refusal → WroteAsFar r.err (line_of refusal) → HasCause r refusal → Says r status
refusal_says r status refusal said wrote cause = subst (λ (s : Status). Says r s) (sym said) (by_refusal r refusal wrote cause)

-- words that are not taken were refused, and nothing was read or written
pub words_refused : (r : Run) (error : WordsError) (refusal : BatchRefusal) (status : Status) → refusal ≡ refusal_without_words error → (error ≡ wants.Usage → ¬ AreTaken r.words)
    → IsUntouched r.input → StaysKnown r.input → IsUntouched r.out → status ≡ status_of refusal → WroteAsFar r.err (line_of refusal) → Says r status
words_refused r error refusal status is usage unread known unwritten said line =
    refusal_says r status refusal said line (subst (λ (x : BatchRefusal). HasCause r x) (sym is) (cause error usage))
  where
    cause : (e : WordsError) → (e ≡ wants.Usage → ¬ AreTaken r.words) → HasCause r (refusal_without_words e)
    cause wants.Usage not_taken = (not_taken refl, unread, unwritten)
    cause wants.OutOfMemory not_taken = (omega (arith, unread.1), known, unwritten)

has_cause : (r : Run) (refusal : BatchRefusal) → AreTaken r.words → BatchSays r.input r.out (Err refusal) → HasCause r refusal
has_cause r Usage taken says = absurd says.2.0
has_cause r (Malformed file kind) taken says = (taken, says.0, says.2)
has_cause r (Limit file kind) taken says = (taken, says.0, says.2)
has_cause r TooLong taken says = (taken, says.0, says.2)
has_cause r ReadFault taken says = (taken, says.0, says.2)
has_cause r WriteFault taken says = (taken, says.0, says.2)
has_cause r OutOfMemory taken says = (says.0, says.2.0, says.2.1)

by_answer : (r : Run) (answer : Answer) → AreTaken r.words → BatchSays r.input r.out (Ok answer) → IsUntouched r.err → Says r (status_of_answer answer)
by_answer r Positive taken done untouched = record { taken = taken; written = done.2; steady_input = done.0; steady_out = done.1; nothing_written = untouched }
by_answer r Negative taken done untouched = record { taken = taken; written = done.2; steady_input = done.0; steady_out = done.1; nothing_written = untouched }

-- words that name workers are taken
pub words_taken : (words : List (List ℕ)) (result : Result ℕ WordsError) (workers : ℕ) → result ≡ Ok workers → IfOk result (λ w. AreTaken words) → AreTaken words
words_taken words result workers is taken = subst (λ (r : Result ℕ WordsError). IfOk r (λ w. AreTaken words)) is taken

-- the batch was answered
pub answer_says : (r : Run) (result : Result Answer BatchRefusal) (answer : Answer) (status : Status) → result ≡ Ok answer → AreTaken r.words → BatchSays r.input r.out result
    → status ≡ status_of_answer answer → IsUntouched r.err → Says r status
answer_says r result answer status is taken says said untouched =
    subst (λ (s : Status). Says r s) (sym said) (by_answer r answer taken (subst (λ (o : Result Answer BatchRefusal). BatchSays r.input r.out o) is says) untouched)

-- it was refused
pub refused_says : (r : Run) (result : Result Answer BatchRefusal) (refusal : BatchRefusal) (status : Status) → result ≡ Err refusal → AreTaken r.words → BatchSays r.input r.out result
    → status ≡ status_of refusal → WroteAsFar r.err (line_of refusal) → Says r status
refused_says r result refusal status is taken says said line =
    refusal_says r status refusal said line (has_cause r refusal taken (subst (λ (o : Result Answer BatchRefusal). BatchSays r.input r.out o) is says))
