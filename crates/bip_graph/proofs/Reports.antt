-- Where the pairs of a report stand.
use Rattle.std.proofs.Common.{◌≡◌, ◌↔◌, ◌||◌, ◌∙◌, ℕ, Bool, true, false, true≢false, List, [], ◌∷◌, ◌++◌, Option, Some, None, sym, ap, append-nil, codes, refl, arith}
use Rattle.std.proofs.lemmas.Grind.{flat_map-append}
use Rattle.std.proofs.lemmas.List.{append_cancel_right}
use Rattle.bip_defs.specs.ConnectedComponents.{Components}
use Rattle.bip_defs.specs.Decomposition.{Decomposition}
use Rattle.bip_defs.specs.Matrix.{Matrix, Place}
use Rattle.bip_defs.proofs.Connected.{same_components}
use Rattle.bip_defs.proofs.LeastMatching.{one_list}
use Rattle.bip_defs.proofs.Uniqueness.{same_decomposition}
use Rattle.bip_graph.specs.Answers.{AreOfVersion, ArePairs, IsAnalysis, IsWithPairs, report_of}
use Rattle.bip_graph.specs.Texts.{Report, TextLine, end_line, horizontal_components, matrix_line, order_lines, pair_lines, part, rank_line, report_text, spelled, square_lines, text_of, version_line, vertical_components}

-- the lines of a report before its pairs
abbrev prefix_lines : Report → List TextLine
prefix_lines r =
    version_line r.components
    ∷ matrix_line r.sizes
    ∷ rank_line r.rank
    ∷ part (codes "horizontal") r.horizontal_rows r.horizontal_cols
    ++ horizontal_components r.components
    ++ square_lines r.blocks
    ++ part (codes "vertical") r.vertical_rows r.vertical_cols
    ++ vertical_components r.components
    ++ order_lines r.orders

text_split : (r : Report) → report_text r ≡ text_of (prefix_lines r) ++ text_of (pair_lines r.pairs) ++ text_of (end_line ∷ [])
text_split r =
    flat_map-append spelled (prefix_lines r ++ pair_lines r.pairs) (end_line ∷ [])
    ∙ ap (λ (t : List ℕ). t ++ text_of (end_line ∷ [])) (flat_map-append spelled (prefix_lines r) (pair_lines r.pairs))

-- the text before the pairs, which needs none of them
abbrev prefix_of : Matrix → Decomposition → Option Components → Bool → List ℕ
prefix_of a d components order = text_of (prefix_lines (report_of a d components order None))

text_without : (a : Matrix) (d : Decomposition) (cs : Option Components) (order : Bool) → report_text (report_of a d cs order None) ≡ prefix_of a d cs order ++ text_of (end_line ∷ [])
text_without a d cs order =
    text_split (report_of a d cs order None) ∙ ap (λ (t : List ℕ). t ++ text_of (end_line ∷ [])) (append-nil (prefix_of a d cs order))

-- a report without pairs is spelled as one
spelled_without : (a : Matrix) (v : ℕ) (order : Bool) (t : List ℕ) (is : IsAnalysis a v order false false t) → t ≡ report_text (report_of a is.decomposition is.components order None)
spelled_without a v order t is = by is.matching is.are_pairs is.spelled
  where
    by : (o : Option (List Place)) → ArePairs a false false o → t ≡ report_text (report_of a is.decomposition is.components order o) → t ≡ report_text (report_of a is.decomposition is.components order None)
    by None h e = e
    by (Some m) h e = absurd (true≢false (sym h.0))

-- a version has one list of components
one_of_version : (a : Matrix) (v : ℕ) (cs ds : Option Components) → AreOfVersion a v cs → AreOfVersion a v ds → cs ≡ ds
one_of_version a v None None h k = refl
one_of_version a v None (Some d) h k = absurd (omega (arith, h, k.0))
one_of_version a v (Some c) None h k = absurd (omega (arith, h.0, k))
one_of_version a v (Some c) (Some d) h k = ap Some (same_components a c d h.1 k.1)

-- two reports that list the same pairs
same_text : (a : Matrix) (v : ℕ) (order pairs least : Bool) (s t : List ℕ) (p : IsAnalysis a v order pairs least s) (q : IsAnalysis a v order pairs least t) → p.matching ≡ q.matching → s ≡ t
same_text a v order pairs least s t p q e =
    p.spelled
    ∙ ap (λ (d : Decomposition). report_text (report_of a d p.components order p.matching)) (same_decomposition a p.decomposition q.decomposition p.is_decomposition q.is_decomposition)
    ∙ ap (λ (cs : Option Components). report_text (report_of a q.decomposition cs order p.matching)) (one_of_version a v p.components q.components p.of_version q.of_version)
    ∙ ap (λ (m : Option (List Place)). report_text (report_of a q.decomposition q.components order m)) e
    ∙ sym q.spelled

no_pairs : (a : Matrix) (o : Option (List Place)) → ArePairs a false false o → o ≡ None
no_pairs a None h = refl
no_pairs a (Some m) h = absurd (true≢false (sym h.0))

pub or_true : (b : Bool) → b || true ≡ true
or_true true = refl
or_true false = refl

least_pairs : (a : Matrix) (pairs : Bool) (o u : Option (List Place)) → ArePairs a pairs true o → ArePairs a pairs true u → o ≡ u
least_pairs a pairs None u h k = absurd (true≢false (sym (or_true pairs) ∙ h))
least_pairs a pairs (Some m) None h k = absurd (true≢false (sym (or_true pairs) ∙ k))
least_pairs a pairs (Some m) (Some n) h k = ap Some (one_list a m n h.1 k.1 h.2 k.2)

pub same_report : (a : Matrix) (v : ℕ) (order : Bool) (s t : List ℕ) → IsAnalysis a v order false false s → IsAnalysis a v order false false t → s ≡ t
same_report a v order s t p q = same_text a v order false false s t p q (no_pairs a p.matching p.are_pairs ∙ sym (no_pairs a q.matching q.are_pairs))

pub same_least_report : (a : Matrix) (v : ℕ) (order pairs : Bool) (s t : List ℕ) → IsAnalysis a v order pairs true s → IsAnalysis a v order pairs true t → s ≡ t
same_least_report a v order pairs s t p q = same_text a v order pairs true s t p q (least_pairs a pairs p.matching q.matching p.are_pairs q.are_pairs)

pub with_pairs : (a : Matrix) (v : ℕ) (order pairs least : Bool) (t : List ℕ) → pairs || least ≡ true → IsAnalysis a v order pairs least t → IsWithPairs a v order least t
with_pairs a v order pairs least t asked is = by is.matching is.are_pairs is.spelled
  where
    by : (o : Option (List Place)) → ArePairs a pairs least o → t ≡ report_text (report_of a is.decomposition is.components order o) → IsWithPairs a v order least t
    by None h e = absurd (true≢false (sym asked ∙ h))
    by (Some m) h e = record {
      prefix = prefix_of a is.decomposition is.components order;
      matching = m;
      is_matching = h.1;
      is_rising = h.2;
      is_report = record {
        decomposition = is.decomposition;
        is_decomposition = is.is_decomposition;
        components = is.components;
        of_version = is.of_version;
        matching = None;
        are_pairs = refl;
        spelled = sym (text_without a is.decomposition is.components order);
      };
      spelled = e ∙ text_split (report_of a is.decomposition is.components order (Some m));
    }

pub without_pairs : (a : Matrix) (v : ℕ) (order pairs least : Bool) (t : List ℕ) → pairs || least ≡ true → IsWithPairs a v order least t → IsAnalysis a v order pairs least t
without_pairs a v order pairs least t asked is =
    let d = is.is_report.decomposition in
    let cs = is.is_report.components in
    let end = text_of (end_line ∷ []) in
    let same : is.prefix ≡ prefix_of a d cs order =
    append_cancel_right is.prefix (prefix_of a d cs order) end (spelled_without a v order _ is.is_report ∙ text_without a d cs order) in
    record {
      decomposition = d;
      is_decomposition = is.is_report.is_decomposition;
      components = cs;
      of_version = is.is_report.of_version;
      matching = Some is.matching;
      are_pairs = (asked, is.is_matching, is.is_rising);
      spelled = is.spelled ∙ ap (λ (f : List ℕ). f ++ text_of (pair_lines (Some is.matching)) ++ end) same ∙ sym (text_split (report_of a d cs order (Some is.matching)));
    }

pub with_or_without : (a : Matrix) (v : ℕ) (order pairs least : Bool) (t : List ℕ) → pairs || least ≡ true → IsAnalysis a v order pairs least t ↔ IsWithPairs a v order least t
with_or_without a v order pairs least t asked = (with_pairs a v order pairs least t asked, without_pairs a v order pairs least t asked)
