-- There is one text over the files of a batch, and it is that of their answers.
use Rattle.std.proofs.Common.{◌≡◌, ◌≢◌, ◌<◌, ◌+◌, ◌∙◌, ◌++◌, ℕ, suc, take, drop, get_or, arith, append_assoc, append-nil, length-take, Bool, true, false, List, [], ◌∷◌, Option, Some, None, ap, ap₂, length, refl, sym, subst, inl, inr, if◌then◌else◌}
use Rattle.std.proofs.lemmas.Option.{none-some}
use Rattle.std.proofs.lemmas.List.{take-append-drop, take_more}
use Rattle.bip_defs.proofs.Uniqueness.{same_matrix}
use Rattle.bip_defs.specs.ConnectedComponents as connected
use Rattle.bip_defs.specs.Matrix.{HasPlaces, Matrix}
use Rattle.bip_graph.specs.Answers.{IsAnalysis, report_of}
use Rattle.bip_graph.specs.Decompositions.{Decomposes, components_of, decomposition_of}
use Rattle.bip_graph.specs.Texts.{report_text}
use Rattle.bip_graph.specs.declared.answers.Decomposition.{Decomposition}
use Rattle.btf_lines.specs.Lines.{limit_line, malformed_line}
use Rattle.btf_text.specs.Batches.{behind_file_line, files_end}
use Rattle.btf_text.specs.Reports.{report_with, reported}
use Rattle.btf_tool.specs.FileAnswer.{IsFileAnswer}
use Rattle.btf_tool.specs.Runs.{status_of_fault}
use Rattle.btf_tool.specs.declared.answers.Answer.{Answer}
use Rattle.btf_tool.specs.declared.answers.Answer.TheVariants.{Negative, Positive}
use Rattle.btf_tool.specs.declared.file_answer.FileAnswer as found
use Rattle.btf_tool.specs.declared.file_answer.FileAnswer.TheVariants.{Bad, Report as Reported}
use Rattle.mm_defs.proofs.Prefixes.{good_file}
use Rattle.mm_defs.specs.File.{Fault, first_fault}
use Rattle.mm_defs.specs.declared.answers.End.TheVariants.{File}
use Rattle.sp_ids.specs.Entries.{Entries, places}
use Rattle.sp_ids.specs.Exit.{exit_code}
use Rattle.sp_ids.specs.declared.outcomes.Status.TheVariants as statuses
use Rattle.batch_core.specs.BatchRuns.{IsAnswerFor}
use Rattle.batch_core.specs.BatchText.{AreFileTexts, IsBatchText, IsFileText, answer_of, line_of_fault, text_of_answer, text_of_slots, texts_of_slots}
use Rattle.batch_core.specs.Shares.{AreSlotsOf, IsAnswerAt, slot_at}

-- what the law `one_report` says
abbrev pub HasOneReport : Type 0
HasOneReport = (a : Matrix) (version : ℕ) (order : Bool) (s t : List ℕ) → IsAnalysis a version order false false s → IsAnalysis a version order false false t → s ≡ t

one_file_text : HasOneReport → (number : ℕ) (file s t : List ℕ) → IsFileText number file s → IsFileText number file t → s ≡ t
one_file_text one number file s t (inl p) (inl q) =
    let same_t : p.entries ≡ q.entries = p.reads.entries ∙ sym q.reads.entries in
    let mine : HasPlaces q.entries.rows q.entries.cols (places q.entries) p.matrix = subst (λ (x : Entries). HasPlaces x.rows x.cols (places x) p.matrix) same_t p.is_matrix in
    let same_a : p.matrix ≡ q.matrix = same_matrix _ _ _ p.matrix q.matrix mine q.is_matrix in
    let same_r : p.report ≡ q.report = one q.matrix 2 false p.report q.report (subst (λ (a : Matrix). IsAnalysis a 2 false false false p.report) same_a p.is_report) q.is_report in
    p.spelled ∙ ap (behind_file_line number 0) same_r ∙ sym q.spelled
one_file_text one number file s t (inl p) (inr q) = absurd (none-some q.fault (sym (good_file File file p.reads.good) ∙ q.first))
one_file_text one number file s t (inr p) (inl q) = absurd (none-some p.fault (sym (good_file File file q.reads.good) ∙ p.first))
one_file_text one number file s t (inr p) (inr q) =
    let some : Some p.fault ≡ Some q.fault = sym p.first ∙ q.first in
    let same : p.fault ≡ q.fault = cc in
    p.spelled ∙ ap (λ (f : Fault). behind_file_line number (exit_code (status_of_fault f)) (line_of_fault f)) same ∙ sym q.spelled

one_texts : HasOneReport → (number : ℕ) (files : List (List ℕ)) (s t : List ℕ) → AreFileTexts number files s → AreFileTexts number files t → s ≡ t
one_texts one number [] s t p q = p ∙ sym q
one_texts one number (file ∷ files) s t p q =
    p.4 ∙ ap₂ (λ (x y : List ℕ). x ++ y) (one_file_text one number file p.0 q.0 p.2 q.2) (one_texts one (suc number) files p.1 q.1 p.3 q.3) ∙ sym q.4

pub one_text : HasOneReport → (files : List (List ℕ)) (s t : List ℕ) → IsBatchText files s → IsBatchText files t → s ≡ t
one_text one files s t p q =
    p.spelled ∙ ap (λ (x : List ℕ). x ++ files_end (length files)) (one_texts one 1 files p.texts q.texts p.are_texts q.are_texts) ∙ sym q.spelled

-- ---- the text of the answers

same_report : (a : Matrix) (d : Decomposition) (components : Option connected.Components) → Decomposes a d → reported d components false None ≡ report_of a (decomposition_of d) components false None
same_report a d components is = ap (λ sizes. report_with sizes d components false None) (λ i. record { rows = is.rows i; cols = is.cols_are i; entries = is.entries i })

answer_text : (number : ℕ) (file : List ℕ) (answer : found.FileAnswer) → IsFileAnswer file answer → IsFileText number file (text_of_answer number answer)
answer_text number file (Reported d c) is = inl (record {
  entries = is.entries;
  matrix = is.matrix;
  report = report_text (reported d (Some (components_of c)) false None);
  reads = is.reads;
  is_matrix = is.is_matrix;
  is_report = record {
    decomposition = decomposition_of d;
    is_decomposition = is.decomposes.decomposition;
    components = Some (components_of c);
    of_version = (refl, is.are_components);
    matching = None;
    are_pairs = refl;
    spelled = ap report_text (same_report is.matrix d (Some (components_of c)) is.decomposes);
  };
  spelled = refl;
})
answer_text number file (Bad limit line kind) is = inr (record {
  fault = record { line = line; kind = kind };
  first = is.first;
  spelled = ap (λ (b : Bool). behind_file_line number (exit_code (if b then statuses.Limit else statuses.Malformed)) (if b then limit_line line kind else malformed_line line kind)) is.limit_is;
})

-- each file has a full slot, with the answer to it
abbrev pub AreAnswered : List (List ℕ) → List (Option found.FileAnswer) → Type 0
AreAnswered [] [] = Unit {0}
AreAnswered [] (slot ∷ slots) = ⊥
AreAnswered (file ∷ files) [] = ⊥
AreAnswered (file ∷ files) (None ∷ slots) = ⊥
AreAnswered (file ∷ files) (Some answer ∷ slots) = IsFileAnswer file answer × AreAnswered files slots

first_answer : (file : List ℕ) (files : List (List ℕ)) (answer : found.FileAnswer) → IsAnswerAt (file ∷ files) 0 answer → IsFileAnswer file answer
first_answer file files answer h =
    let at : Some file ≡ Some h.file = h.at in
    let same : h.file ≡ file = cc in
    subst (λ (f : List ℕ). IsFileAnswer f answer) same h.is_answer

later_slots : (file : List ℕ) (files : List (List ℕ)) (slot : Option found.FileAnswer) (slots : List (Option found.FileAnswer)) → AreSlotsOf (file ∷ files) (slot ∷ slots) → AreSlotsOf files slots
later_slots file files slot slots are = record {
  count = let n = are.count in omega (arith, n);
  right = λ i answer h. let later = are.right (suc i) answer h in record { file = later.file; at = later.at; is_answer = later.is_answer };
}

-- slots that are full have the answers
pub all_answered : (files : List (List ℕ)) (slots : List (Option found.FileAnswer)) → AreSlotsOf files slots → ((i : ℕ) → i < length files → slot_at slots i ≢ None) → AreAnswered files slots
all_answered [] [] are full = tt
all_answered [] (slot ∷ slots) are full = let n = are.count in absurd (omega (arith, n))
all_answered (file ∷ files) [] are full = let n = are.count in absurd (omega (arith, n))
all_answered (file ∷ files) (None ∷ slots) are full = absurd (full 0 (omega arith) refl)
all_answered (file ∷ files) (Some answer ∷ slots) are full = (
  first_answer file files answer (are.right 0 answer refl),
  all_answered files slots (later_slots file files (Some answer) slots are) (λ i lt. full (suc i) (omega (arith, lt))),
)

slots_texts : (number : ℕ) (files : List (List ℕ)) (slots : List (Option found.FileAnswer)) → AreAnswered files slots → AreFileTexts number files (texts_of_slots number slots)
slots_texts number [] [] are = refl
slots_texts number [] (slot ∷ slots) are = absurd are
slots_texts number (file ∷ files) [] are = absurd are
slots_texts number (file ∷ files) (None ∷ slots) are = absurd are
slots_texts number (file ∷ files) (Some answer ∷ slots) are = (
  text_of_answer number answer,
  texts_of_slots (suc number) slots,
  answer_text number file answer are.0,
  slots_texts (suc number) files slots are.1,
  refl,
)

as_many : (files : List (List ℕ)) (slots : List (Option found.FileAnswer)) → AreAnswered files slots → length slots ≡ length files
as_many [] [] are = refl
as_many [] (slot ∷ slots) are = absurd are
as_many (file ∷ files) [] are = absurd are
as_many (file ∷ files) (None ∷ slots) are = absurd are
as_many (file ∷ files) (Some answer ∷ slots) are = ap suc (as_many files slots are.1)

pub slots_text : (files : List (List ℕ)) (slots : List (Option found.FileAnswer)) → AreAnswered files slots → IsBatchText files (text_of_slots slots)
slots_text files slots are = record {
  texts = texts_of_slots 1 slots;
  are_texts = slots_texts 1 files slots are;
  spelled = ap (λ (n : ℕ). texts_of_slots 1 slots ++ files_end n) (as_many files slots are);
}

-- ---- whether each file is good

behind_good : (file : List ℕ) (files : List (List ℕ)) (answer : Answer) → first_fault File true file ≡ None → IsAnswerFor files answer → IsAnswerFor (file ∷ files) answer
behind_good file files Positive good are = (good, are)
behind_good file files Negative good not = λ all. not all.1

pub slots_answer : (files : List (List ℕ)) (slots : List (Option found.FileAnswer)) → AreAnswered files slots → IsAnswerFor files (answer_of slots)
slots_answer [] [] are = tt
slots_answer [] (slot ∷ slots) are = absurd are
slots_answer (file ∷ files) [] are = absurd are
slots_answer (file ∷ files) (None ∷ slots) are = absurd are
slots_answer (file ∷ files) (Some (Reported d c) ∷ slots) are = behind_good file files (answer_of slots) (good_file File file are.0.reads.good) (slots_answer files slots are.1)
slots_answer (file ∷ files) (Some (Bad limit line kind) ∷ slots) are = λ all. none-some _ (sym all.0 ∙ are.0.first)

-- ---- slot by slot

texts_append : (number : ℕ) (slots more : List (Option found.FileAnswer)) → texts_of_slots number (slots ++ more) ≡ texts_of_slots number slots ++ texts_of_slots (number + length slots) more
texts_append number [] more = ap (λ (n : ℕ). texts_of_slots n more) (omega arith)
texts_append number (None ∷ slots) more =
    texts_append (suc number) slots more ∙ ap (λ (n : ℕ). texts_of_slots (suc number) slots ++ texts_of_slots n more) (omega arith)
texts_append number (Some answer ∷ slots) more =
    ap (λ (t : List ℕ). text_of_answer number answer ++ t) (texts_append (suc number) slots more ∙ ap (λ (n : ℕ). texts_of_slots (suc number) slots ++ texts_of_slots n more) (omega arith))
    ∙ sym (append_assoc (text_of_answer number answer) (texts_of_slots (suc number) slots) (texts_of_slots (number + suc (length slots)) more))

-- an empty slot adds nothing
pub texts_past_none : (slots : List (Option found.FileAnswer)) (i : ℕ) (slot : Option found.FileAnswer) → i < length slots → slot ≡ get_or slots i slot
    → ((answer : found.FileAnswer) → slot ≡ Some answer → ⊥) → texts_of_slots 1 (take i slots) ≡ texts_of_slots 1 (take (i + 1) slots)
texts_past_none slots i None inside at none =
    sym (ap (texts_of_slots 1) (take_more slots i None inside ∙ ap (λ (s : Option found.FileAnswer). take i slots ++ s ∷ []) (sym at))
    ∙ texts_append 1 (take i slots) (None ∷ []) ∙ append-nil (texts_of_slots 1 (take i slots)))
texts_past_none slots i (Some answer) inside at none = absurd (none answer refl)

-- a full slot adds its answer
pub texts_past_some : (slots : List (Option found.FileAnswer)) (i : ℕ) (slot : Option found.FileAnswer) (answer : found.FileAnswer) → i < length slots → slot ≡ get_or slots i slot → slot ≡ Some answer
    → texts_of_slots 1 (take i slots) ++ text_of_answer (i + 1) answer ≡ texts_of_slots 1 (take (i + 1) slots)
texts_past_some slots i slot answer inside at is =
    let few : length (take i slots) ≡ i = simp length-take (omega arith) in
    sym (ap (texts_of_slots 1) (take_more slots i slot inside ∙ ap (λ (s : Option found.FileAnswer). take i slots ++ s ∷ []) (sym at ∙ is))
    ∙ texts_append 1 (take i slots) (Some answer ∷ [])
    ∙ ap (λ (t : List ℕ). texts_of_slots 1 (take i slots) ++ t) (append-nil (text_of_answer (1 + length (take i slots)) answer) ∙ ap (λ (n : ℕ). text_of_answer n answer) (omega (arith, few))))

-- what the first slots are answered by begins the text of all
pub texts_begin : (slots : List (Option found.FileAnswer)) (i : ℕ) → (rest : List ℕ) × (texts_of_slots 1 slots ≡ texts_of_slots 1 (take i slots) ++ rest)
texts_begin slots i = (
  texts_of_slots (1 + length (take i slots)) (drop i slots),
  ap (texts_of_slots 1) (sym (take-append-drop i slots)) ∙ texts_append 1 (take i slots) (drop i slots),
)
