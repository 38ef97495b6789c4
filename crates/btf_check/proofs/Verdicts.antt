-- The verdict on bytes follows from what they spell.
use Rattle.std.proofs.Common.{◌≡◌, ◌∙◌, ℕ, ◌<◌, Bool, true, false, true≢false, List, Option, Some, None, refl, sym, ap, subst, arith}
use Rattle.bip_defs.specs.ConnectedComponents.{Components}
use Rattle.bip_defs.specs.Lists.{IsRising}
use Rattle.bip_defs.specs.Decomposition.{Decomposition, IsDecompositionOf}
use Rattle.bip_defs.specs.Matching.{IsMatching, cols_of}
use Rattle.bip_defs.specs.Matrix.{Matrix, Place}
use Rattle.bip_graph.specs.Answers.{AreOfVersion, ArePairs, IsAnalysis, report_of}
use Rattle.bip_graph.specs.Texts.{Report, report_text}
use Rattle.report_reader.specs.Readable.{FitsText, IsReadable}
use Rattle.sp_pattern.specs.Stored.{IsPattern}
use Rattle.btf_check.specs.Reasons.{IsMet}
use Rattle.btf_check.specs.Verdicts.{IsJudged, IsMetBy, IsReportOf, IsValid, IsVerdict, Spells}
use Rattle.btf_check.specs.declared.verdict.Verdict.{Verdict}
use Rattle.btf_check.specs.declared.verdict.Verdict.TheVariants.{Invalid, Valid}
use Rattle.btf_check.proofs.ReasonLemmas.{met_of_report, report_of_met}

-- what the law `one_spelling` says
abbrev pub HaveOneSpelling : Type 0
HaveOneSpelling = (r s : Report) → IsReadable r → IsReadable s → report_text r ≡ report_text s → r ≡ s

-- what the law `reports_can_be_read` says
abbrev pub CanBeRead : Type 0
CanBeRead = (a : Matrix) (d : Decomposition) (v : ℕ) (cs : Option Components) (order : Bool) (m : List Place) → FitsText a → IsDecompositionOf a d → AreOfVersion a v cs → IsMatching a m → IsRising (cols_of m) → IsReadable (report_of a d cs order (Some m))

-- the bytes spell one report
one_report : HaveOneSpelling → (bytes : List ℕ) (r s : Report) → Spells bytes r → Spells bytes s → r ≡ s
one_report one bytes r s h k = one r s h.readable k.readable (sym h.spelled ∙ k.spelled)

report_valid : (a : Matrix) (bytes : List ℕ) (r : Report) → bytes ≡ report_text r → IsReportOf a r → IsValid a bytes
report_valid a bytes r spelled is = (
  is.version,
  is.order,
  record {
    decomposition = is.decomposition;
    is_decomposition = is.is_decomposition;
    components = is.components;
    of_version = is.of_version;
    matching = Some is.matching;
    are_pairs = (refl, is.maximum, is.rising);
    spelled = spelled ∙ ap report_text is.same;
  },
)

-- nothing is asked of a report under 0 or 1
none_asked : (a : Matrix) (r : Report) (j : ℕ) → j < 2 → IsMet a r j
none_asked a r j lt = record { pairs = λ (e : j ≡ 2). absurd (omega arith); maximum = λ (e : j ≡ 3). absurd (omega arith); parts = λ (e : j ≡ 4). absurd (omega arith); blocks = λ (e : j ≡ 5). absurd (omega arith); components = λ (e : j ≡ 6). absurd (omega arith) }

pub no_report : (a : Matrix) (bytes : List ℕ) → ((r : Report) → IsReadable r → ¬ (bytes ≡ report_text r)) → IsVerdict a bytes (Invalid 1)
no_report a bytes none = record {
  fails = λ met. let (r, s) = met.grammar refl in none r s.readable s.spelled;
  before = λ j lt. record { grammar = λ (e : j ≡ 1). absurd (omega arith); report = λ r s. none_asked a r j (omega arith) };
}

pub judged : HaveOneSpelling → (a : Matrix) (bytes : List ℕ) (r : Report) (v : Verdict) → IsReadable r → bytes ≡ report_text r → IsJudged a r v → IsVerdict a bytes v
judged one a bytes r Valid can spelled is = report_valid a bytes r spelled is
judged one a bytes r (Invalid k) can spelled first = record {
  fails = λ met. first.fails (met.report r this);
  before = λ j lt. record { grammar = λ e. (r, this); report = λ s k. subst (λ x. IsMet a x j) (one_report one bytes r s this k) (first.before j lt) };
}
  where
    this : Spells bytes r
    this = record { readable = can; spelled = spelled }

-- The law.

pub valid_by_met : (a : Matrix) (bytes : List ℕ) → ((k : ℕ) → IsMetBy a bytes k) → IsValid a bytes
valid_by_met a bytes met = let (r, s) = (met 1).grammar refl in report_valid a bytes r s.spelled (report_of_met a r s.readable.pairs s.readable.with_pairs s.readable.are_pairs.rising (λ k. (met k).report r s))

analysed : (a : Matrix) (bytes : List ℕ) (v : ℕ) (order : Bool) → IsAnalysis a v order true false bytes → (r : Report) × IsReportOf a r × (bytes ≡ report_text r)
analysed a bytes v order is = by is.matching is.are_pairs is.spelled
  where
    by : (o : Option (List Place)) → ArePairs a true false o → bytes ≡ report_text (report_of a is.decomposition is.components order o) → (r : Report) × IsReportOf a r × (bytes ≡ report_text r)
    by None h e = absurd (true≢false h)
    by (Some m) h e = (report_of a is.decomposition is.components order (Some m), record { decomposition = is.decomposition; is_decomposition = is.is_decomposition; version = v; components = is.components; of_version = is.of_version; order = order; matching = m; maximum = h.1; rising = h.2; same = refl }, e)

-- a pattern's numbers fit a text
fits : (a : Matrix) → IsPattern a → FitsText a
fits a pattern = record { rows = pattern.few_rows; columns = pattern.few_cols; entries = pattern.few_entries }

pub met_by_valid : HaveOneSpelling → CanBeRead → (a : Matrix) (bytes : List ℕ) → IsPattern a → IsValid a bytes → (k : ℕ) → IsMetBy a bytes k
met_by_valid one can a bytes pattern (v, order, is) k =
    let (r, report, e) = analysed a bytes v order is in
    let this : Spells bytes r = record { readable = subst IsReadable (sym report.same) (can a report.decomposition report.version report.components report.order report.matching (fits a pattern) report.is_decomposition report.of_version report.maximum.matching report.rising); spelled = e } in
    record { grammar = λ e. (r, this); report = λ s h. subst (λ x. IsMet a x k) (one_report one bytes r s this h) (met_of_report a r report k) }

-- What a report that was read leaves.

pub rising_pairs : (r : Report) (ps : List Place) → r.pairs ≡ Some ps → IsReadable r → IsRising (cols_of ps)
rising_pairs r ps e can =
    let same : can.pairs ≡ ps = cc (can.with_pairs, e) in
    subst (λ (z : List Place). IsRising (cols_of z)) same can.are_pairs.rising
