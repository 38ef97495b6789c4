-- One more edit line.
use Rattle.std.proofs.Common.{◌≡◌, ℕ, ◌+◌, Bool, true, false, if◌then◌else◌, List, [], ◌∷◌, ◌++◌, length, map, refl, sym, ap, ◌∙◌, append-nil, arith, Some, None, Result, Ok, Err, IfErr}
use Rattle.std.proofs.lemmas.List.{length-map, map-append}
use Rattle.mm_defs.specs.declared.answers.ReadError.TheVariants as errors
use Rattle.mm_defs.specs.declared.kinds.Kind.{Kind}
use Rattle.mm_defs.specs.declared.kinds.Kind.TheVariants.{ColumnRange, RowRange}
use Rattle.mm_defs.specs.Words.{Line, Word, word, words, is_skipped}
use Rattle.mm_defs.specs.Numbers.{is_number, number}
use Rattle.mm_defs.specs.Faults.{first_kind, is_limit, is_outside}
use Rattle.mm_defs.specs.File.{Fault, fault_by}
use Rattle.mm_defs.proofs.EditLineLemmas.{edit_lines-append, faults_from-append}
use Rattle.mm_defs.proofs.Roles.{line_at}
use Rattle.mm_frames.specs.declared.edit.Edit.{Edit}
use Rattle.mm_reader.specs.Judged.{JudgedPlace, range_rules}
use Rattle.mm_defs.specs.EditLines.{edit_place_rules, edit_rules, edit_lines, edit_faults_from, edit_faults}
use Rattle.mm_frames.specs.Edits.{edit, is_edit_kind}
use Rattle.mm_frames.specs.Stages.{AreRead, RefusesLast}

-- the row and the column of a line are numbers
pub place_judged : (rows cols : ℕ) (ws : List Word) (r : Result (ℕ × ℕ) Kind) → is_number (word ws 1) ≡ true → is_number (word ws 2) ≡ true
    → JudgedPlace (range_rules rows cols (number (word ws 1)) (number (word ws 2))) (number (word ws 1)) (number (word ws 2)) r
    → JudgedPlace (edit_place_rules rows cols ws) (number (word ws 1)) (number (word ws 2)) r
place_judged rows cols ws (Ok p) a b j = (rw (a, b) j.0, j.1, j.2)
place_judged rows cols ws (Err kind) a b j = rw (a, b) j

-- a place that is not in the matrix
pub range_kind : (rows cols i j : ℕ) (r : Result (ℕ × ℕ) Kind) → JudgedPlace (range_rules rows cols i j) i j r → IfErr r (λ kind. is_edit_kind kind ≡ true)
range_kind rows cols i j (Ok p) h = tt
range_kind rows cols i j (Err kind) h = by (is_outside rows i) (is_outside cols j) refl refl
  where
    told : (x : Kind) → Some x ≡ Some kind → is_edit_kind x ≡ true → is_edit_kind kind ≡ true
    told x e k = cc

    by : (a b : Bool) → is_outside rows i ≡ a → is_outside cols j ≡ b → is_edit_kind kind ≡ true
    by true b e f = let k = rw e at h in told RowRange k refl
    by false true e f = let k = rw (e, f) at h in told ColumnRange k refl
    by false false e f = let k = rw (e, f) at h in absurd cc

pub none_read : (n rows cols : ℕ) → AreRead n rows cols [] []
unfolding edit_faults
none_read n rows cols = record { good = refl; edits_are = refl }

module _ (rows cols number n : ℕ) (l : List ℕ) (es : List Edit) (ls : List (List ℕ)) (r : AreRead n rows cols ls es) (number_is : number ≡ n + length ls + 1) where
  pub line_skipped : is_skipped (words l) ≡ true → AreRead n rows cols (ls ++ l ∷ []) es
  unfolding edit_faults
  line_skipped e =
      let k : edit_lines n (ls ++ l ∷ []) ≡ edit_lines n ls = edit_lines-append n ls (l ∷ []) ∙ rw e (append-nil (edit_lines n ls)) in
      record {
        good = ap (edit_faults_from rows cols 0) k ∙ r.good;
        edits_are = r.edits_are ∙ ap (map (λ (x : Line). edit x.words)) (sym k);
      }

  module _ (here : is_skipped (words l) ≡ false) where
    lines_more : edit_lines n (ls ++ l ∷ []) ≡ edit_lines n ls ++ line_at number l ∷ []
    lines_more =
        let k : n + 1 + length ls ≡ number = omega arith in
        edit_lines-append n ls (l ∷ []) ∙ rw (here, k) refl

    before_is : length (edit_lines n ls) ≡ length es
    before_is = sym (ap length r.edits_are ∙ length-map (edit_lines n ls) (λ (x : Line). edit x.words))

    faults_more : edit_faults n rows cols (ls ++ l ∷ []) ≡ fault_by (edit_rules rows cols (length es)) (line_at number l)
    unfolding edit_faults
    faults_more =
        let z : 0 + length (edit_lines n ls) ≡ length es = omega (arith, before_is) in
        ap (edit_faults_from rows cols 0) lines_more ∙ faults_from-append rows cols 0 (edit_lines n ls) (line_at number l ∷ [])
        ∙ ap (λ (t : List Fault). t ++ edit_faults_from rows cols (0 + length (edit_lines n ls)) (line_at number l ∷ [])) r.good
        ∙ ap (λ k. fault_by (edit_rules rows cols k) (line_at number l) ++ []) z ∙ append-nil (fault_by (edit_rules rows cols (length es)) (line_at number l))

    pub line_good : (e : Edit) → first_kind (edit_rules rows cols (length es) (words l)) ≡ None → e ≡ edit (words l) → AreRead n rows cols (ls ++ l ∷ []) (es ++ e ∷ [])
    line_good e none is = record {
      good = faults_more ∙ rw none refl;
      edits_are = ap (λ (x : Edit). es ++ x ∷ []) is ∙ ap (λ (t : List Edit). t ++ edit (words l) ∷ []) r.edits_are
          ∙ sym (ap (map (λ (x : Line). edit x.words)) lines_more ∙ map-append (λ (x : Line). edit x.words) (edit_lines n ls) (line_at number l ∷ []));
    }

    pub line_bad : (kind : Kind) → first_kind (edit_rules rows cols (length es) (words l)) ≡ Some kind
        → RefusesLast n rows cols (ls ++ l ∷ []) (if is_limit kind then errors.Limit number kind else errors.Malformed number kind)
    line_bad kind some = by (is_limit kind) refl
      where
        fault : edit_faults n rows cols (ls ++ l ∷ []) ≡ record { line = number; kind = kind } ∷ []
        fault = faults_more ∙ rw some refl

        by : (b : Bool) → is_limit kind ≡ b → RefusesLast n rows cols (ls ++ l ∷ []) (if is_limit kind then errors.Limit number kind else errors.Malformed number kind)
        by true e = rw e (fault, e)
        by false e = rw e (fault, e)
