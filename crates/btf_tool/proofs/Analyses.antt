-- What is found of a matrix is what its texts say.
use Rattle.std.proofs.Common.{◌||◌, Bool, true, false, Option, List, [], ◌∷◌, ◌≡◌, ℕ, ap, codes, refl, sym, ◌∙◌}
use Rattle.bip_defs.specs.ConnectedComponents.{Components}
use Rattle.bip_defs.specs.Lists.{IsRising}
use Rattle.bip_defs.specs.Matching.{cols_of}
use Rattle.bip_defs.specs.Matrix.{Matrix, Place}
use Rattle.bip_graph.specs.Answers.{AreOfVersion, ArePairs, IsAnalysis, IsMaximumOrLeast, report_of, where_asked}
use Rattle.bip_graph.specs.Decompositions.{Decomposes, decomposition_of}
use Rattle.bip_graph.specs.Texts.{Sizes, matrix_line, rank_line, report_text, square_line, text_of}
use Rattle.bip_graph.specs.declared.answers.Decomposition.{Decomposition}
use Rattle.btf_text.specs.Reports.{lengths_line, report_with, reported, summary_text}
use Rattle.btf_words.specs.Choices.{are_least, are_listed, number_of}
use Rattle.btf_words.specs.declared.jobs.ListedPairs.{ListedPairs}
use Rattle.btf_words.specs.declared.jobs.ListedPairs.TheVariants as pairs
use Rattle.btf_words.specs.declared.jobs.ReportOptions.{ReportOptions}
use Rattle.btf_tool.specs.Summaries.{IsSummary}

-- what is reported of it by its decomposition is its report
pub report_is : (a : Matrix) (d : Decomposition) (components : Option Components) (order : Bool) (pairs : Option (List Place)) → Decomposes a d
    → reported d components order pairs ≡ report_of a (decomposition_of d) components order pairs
report_is a d components order pairs is = ap (λ sizes. report_with sizes d components order pairs) (λ i. record { rows = is.rows i; cols = is.cols_are i; entries = is.entries i })

-- the report has what is asked for
pub analysis_answers : (a : Matrix) (d : Decomposition) (m : List Place) (components : Option Components) (report : ReportOptions) (listed : Bool) → Decomposes a d
    → IsMaximumOrLeast a (are_least report.pairs) m → IsRising (cols_of m) → AreOfVersion a (number_of report.version) components → listed ≡ are_listed report.pairs
    → IsAnalysis a (number_of report.version) report.order (are_listed report.pairs) (are_least report.pairs)
    (report_text (report_of a (decomposition_of d) components report.order (where_asked listed m)))
analysis_answers a d m components report listed decomposes best rising of_version e = record {
  decomposition = decomposition_of d;
  is_decomposition = decomposes.decomposition;
  components = components;
  of_version = of_version;
  matching = where_asked listed m;
  are_pairs = as_asked listed (least_too report.pairs ∙ sym e);
  spelled = refl;
}
  where
    least_too : (pairs : ListedPairs) → are_listed pairs || are_least pairs ≡ are_listed pairs
    least_too pairs.None = refl
    least_too pairs.Any = refl
    least_too pairs.Least = refl

    as_asked : (b : Bool) → are_listed report.pairs || are_least report.pairs ≡ b
        → ArePairs a (are_listed report.pairs) (are_least report.pairs) (where_asked b m)
    as_asked true f = (f, best, rising)
    as_asked false f = f

pub summary_answers : (a : Matrix) (d : Decomposition) → Decomposes a d → IsSummary a (summary_text d)
summary_answers a d is = record {
  decomposition = decomposition_of d;
  is_decomposition = is.decomposition;
  spelled = ap over (λ i. record { rows = is.rows i; cols = is.cols_are i; entries = is.entries i });
}
  where
    over : Sizes → List ℕ
    over s = text_of (
        matrix_line s
        ∷ rank_line d.rank
        ∷ lengths_line (codes "horizontal") d.parts.hr.items d.parts.hc.items
        ∷ square_line d.blocks
        ∷ lengths_line (codes "vertical") d.parts.vr.items d.parts.vc.items
        ∷ [])
