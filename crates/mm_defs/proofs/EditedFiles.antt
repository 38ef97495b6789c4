-- A matrix file with edit lines behind it: what is found in a prefix stays, whatever follows.
use Rattle.std.proofs.Common.{◌≡◌, ◌≢◌, ℕ, zero, suc, ◌+◌, ◌<◌, ◌≤◌, Bool, true, false, nat_lt, List, [], ◌∷◌, ◌++◌, length, take, drop, take_all, refl, sym, ap, ◌∙◌, append_assoc, append-nil, arith, slice_get, Some, None, ltb-true}
use Rattle.std.proofs.lemmas.List.{drop_all}
use Rattle.mm_defs.specs.declared.answers.End.TheVariants.{LastEntry}
use Rattle.mm_defs.specs.declared.header.Header.{Header}
use Rattle.mm_defs.specs.declared.header.Size.{Size}
use Rattle.mm_defs.specs.EditedFiles.{edited_faults, first_edited_fault, matrix_end}
use Rattle.mm_defs.specs.EditLines.{edit_faults, edit_faults_from, edit_lines}
use Rattle.mm_defs.specs.Faults.{Rule, banner_rules, entry_rules, size_rules}
use Rattle.mm_defs.specs.File.{Fault, fault_by, faults, first_fault, last_number, later_lines, line_faults, lines_after, missing, size_of, words_of_first}
use Rattle.mm_defs.specs.Header.{header, size}
use Rattle.mm_defs.specs.Words.{Line, Word, is_skipped, kept, lines, numbered, words}
use Rattle.mm_defs.proofs.EditLineLemmas.{faults_from-append}
use Rattle.mm_defs.proofs.Enough.{enough}
use Rattle.mm_defs.proofs.Lines.{lines-append}
use Rattle.mm_defs.proofs.Prefixes.{first-append}
use Rattle.mm_defs.proofs.Roles.{faults_of, later_lines-append, line_at, line_faults-is, line_faults-none, walk}

-- ---- the lines behind the matrix

-- the number of the last of these lines, or this one where there are none
abbrev last_or : ℕ → List Line → ℕ
last_or n [] = n
last_or n (l ∷ ls) = last_or l.number ls

last_or-one : (ls : List Line) → last_number ls ≡ last_or 1 ls
last_or-one [] = refl
last_or-one (l ∷ []) = refl
last_or-one (l ∷ m ∷ ls) = last_or-one (m ∷ ls)

-- lines behind the first j that are kept: where they begin
record Cut (k j : ℕ) (ls : List (List ℕ)) : Type 0 where
  by : ℕ
  last_is : last_or k (take j (kept (numbered (suc k) ls))) ≡ k + by
  few : by ≤ length ls
  others : kept (numbered (suc (k + by)) (drop by ls)) ≡ drop j (kept (numbered (suc k) ls))

cut_none : (k j : ℕ) → Cut k j []
cut_none k zero = record { by = 0; last_is = omega arith; few = omega arith; others = refl }
cut_none k (suc j) = record { by = 0; last_is = omega arith; few = omega arith; others = refl }

-- behind one more line
cut_next : (k n : ℕ) (l : List ℕ) (ls : List (List ℕ)) → kept (numbered (suc (suc k + n)) (drop n ls)) ≡ kept (numbered (suc (k + suc n)) (drop (suc n) (l ∷ ls)))
cut_next k n l ls = let e : suc k + n ≡ k + suc n = omega arith in ap (λ i. kept (numbered (suc i) (drop n ls))) e

cut : (k j : ℕ) (ls : List (List ℕ)) → Cut k j ls
cut k j [] = cut_none k j
cut k j (l ∷ ls) = by_skipped (is_skipped (words l)) refl j (λ (i : ℕ). cut (suc k) i ls)
  where
    nothing : kept (numbered (suc (k + 0)) (l ∷ ls)) ≡ kept (numbered (suc k) (l ∷ ls))
    nothing = let e : k + 0 ≡ k = omega arith in ap (λ i. kept (numbered (suc i) (l ∷ ls))) e

    skipped : (j : ℕ) → is_skipped (words l) ≡ true → Cut (suc k) j ls → (some : List Line) → take j (kept (numbered (suc (suc k)) ls)) ≡ some → Cut k j (l ∷ ls)
    skipped j e c [] none =
        let last : suc k ≡ suc k + c.by = rw none at c.last_is in
        let z : c.by ≡ 0 = omega (arith, last) in
        let z2 : suc k + 0 ≡ suc k = omega arith in
        let o : kept (numbered (suc (suc k)) ls) ≡ drop j (kept (numbered (suc (suc k)) ls)) = rw (z, z2) at c.others in
        record { by = 0; last_is = rw (e, none) (omega arith); few = omega arith; others = nothing ∙ rw e o }
    skipped j e c (m ∷ ms) some =
        let last : last_or m.number ms ≡ suc k + c.by = rw some at c.last_is in
        let few = c.few in
        record {
          by = suc c.by;
          last_is = rw (e, some) (omega (arith, last));
          few = omega (arith, few);
          others = sym (cut_next k c.by l ls) ∙ c.others ∙ rw e refl;
        }

    here : (j : ℕ) → is_skipped (words l) ≡ false → ((j : ℕ) → Cut (suc k) j ls) → Cut k j (l ∷ ls)
    here zero e c = record { by = 0; last_is = omega arith; few = omega arith; others = nothing }
    here (suc j) e c =
        let one = c j in
        let last = one.last_is in
        let few = one.few in
        record {
          by = suc one.by;
          last_is = rw e (omega (arith, last));
          few = omega (arith, few);
          others = sym (cut_next k one.by l ls) ∙ one.others ∙ rw e refl;
        }

    by_skipped : (b : Bool) → is_skipped (words l) ≡ b → (j : ℕ) → ((j : ℕ) → Cut (suc k) j ls) → Cut k j (l ∷ ls)
    by_skipped true e j c = skipped j e (c j) (take j (kept (numbered (suc (suc k)) ls))) refl
    by_skipped false e j c = here j e c

-- the lines of the matrix, of the later lines and how many follow the size line
abbrev matrix_of : Header → List Line → List Line
matrix_of h later = take 1 later ++ take (size h (words_of_first (take 1 later))).count (drop 1 later)

abbrev behind_in : Header → List Line → List Line
behind_in h later = drop (size h (words_of_first (take 1 later))).count (drop 1 later)

matrix_taken : (h : Header) (later : List Line) → matrix_of h later ≡ take (suc (size h (words_of_first (take 1 later))).count) later
matrix_taken h [] = let none : List Line = [] in take_all (size h []).count none (omega arith) ∙ sym (take_all (suc (size h []).count) none (omega arith))
matrix_taken h (s ∷ es) = refl

behind_dropped : (h : Header) (later : List Line) → behind_in h later ≡ drop (suc (size h (words_of_first (take 1 later))).count) later
behind_dropped h [] = let none : List Line = [] in drop_all (size h []).count none (omega arith) ∙ sym (drop_all (suc (size h []).count) none (omega arith))
behind_dropped h (s ∷ es) = refl

-- the matrix ends within the lines, and what is kept of the lines behind it are those that follow its lines
pub record EndsWithin (ls : List (List ℕ)) : Type 0 where
  pub within : matrix_end ls ≤ length ls
  pub behind_it : edit_lines (matrix_end ls) (drop (matrix_end ls) ls) ≡ lines_after ls

pub ends_within : (first : List ℕ) (others : List (List ℕ)) → EndsWithin (first ∷ others)
ends_within first others =
    let later : List Line = later_lines (first ∷ others) in
    let h : Header = header (words first) in
    let count : ℕ = (size h (words_of_first (take 1 later))).count in
    let c = cut 1 (suc count) others in
    let last = c.last_is in
    let m : matrix_end (first ∷ others) ≡ last_or 1 (take (suc count) later) = ap last_number (matrix_taken h later) ∙ last_or-one (take (suc count) later) in
    let n : matrix_end (first ∷ others) ≡ suc c.by = omega (arith, m, last) in
    let few = c.few in
    let e : suc c.by + 1 ≡ suc (1 + c.by) = omega arith in
    record {
      within = omega (arith, n, few);
      behind_it = ap (λ i. edit_lines i (drop i (first ∷ others))) n ∙ ap (λ i. kept (numbered i (drop c.by others))) e ∙ c.others ∙ sym (behind_dropped h later);
    }

-- ---- the faults by the lines that are kept

-- so many lines of the matrix, and the edit lines behind them
abbrev edited_walk : (List Word → List Rule) → ℕ → ℕ → ℕ → List Line → List Fault
edited_walk rules rows cols zero ls = edit_faults_from rows cols 0 ls
edited_walk rules rows cols (suc n) [] = []
edited_walk rules rows cols (suc n) (l ∷ ls) = fault_by rules l ++ edited_walk rules rows cols n ls

edited_walk-is : (rules : List Word → List Rule) (rows cols n : ℕ) (ls : List Line) → walk LastEntry rules n ls ++ edit_faults_from rows cols 0 (drop n ls) ≡ edited_walk rules rows cols n ls
edited_walk-is rules rows cols zero [] = refl
edited_walk-is rules rows cols zero (l ∷ ls) = refl
edited_walk-is rules rows cols (suc n) [] = refl
edited_walk-is rules rows cols (suc n) (l ∷ ls) = append_assoc (fault_by rules l) _ _ ∙ ap (λ (t : List Fault). fault_by rules l ++ t) (edited_walk-is rules rows cols n ls)

edited_walk-append : (rules : List Word → List Rule) (rows cols n : ℕ) (ls ms : List Line) → (more : List Fault) × (edited_walk rules rows cols n (ls ++ ms) ≡ edited_walk rules rows cols n ls ++ more)
edited_walk-append rules rows cols zero ls ms = (edit_faults_from rows cols (0 + length ls) ms, faults_from-append rows cols 0 ls ms)
edited_walk-append rules rows cols (suc n) [] ms = (edited_walk rules rows cols (suc n) ms, refl)
edited_walk-append rules rows cols (suc n) (l ∷ ls) ms =
    let r = edited_walk-append rules rows cols n ls ms in
    (r.0, ap (λ (t : List Fault). fault_by rules l ++ t) r.1 ∙ sym (append_assoc (fault_by rules l) (edited_walk rules rows cols n ls) r.0))

-- by the first line, and the later ones that are not skipped
abbrev edited_of : Line → List Line → List Fault
edited_of b [] = fault_by banner_rules b
edited_of b (s ∷ es) = fault_by banner_rules b ++ fault_by (size_rules (header b.words)) s
    ++ edited_walk (entry_rules (header b.words) (size (header b.words) s.words)) (size (header b.words) s.words).rows (size (header b.words) s.words).cols (size (header b.words) s.words).count es

edited_of-is : (b : Line) (later : List Line)
    → faults_of LastEntry b later ++ edit_faults_from (size (header b.words) (words_of_first (take 1 later))).rows (size (header b.words) (words_of_first (take 1 later))).cols 0 (behind_in (header b.words) later) ≡ edited_of b later
edited_of-is b [] = ap (λ (ls : List Line). fault_by banner_rules b ++ edit_faults_from (size (header b.words) []).rows (size (header b.words) []).cols 0 ls) (drop_all _ [] (omega arith)) ∙ append-nil (fault_by banner_rules b)
edited_of-is b (s ∷ es) =
    let z : Size = size (header b.words) s.words in
    simp append_assoc (ap (λ (t : List Fault). fault_by banner_rules b ++ (fault_by (size_rules (header b.words)) s ++ t)) (edited_walk-is (entry_rules (header b.words) z) z.rows z.cols z.count es))

edited_of-append : (b : Line) (ls ms : List Line) → (more : List Fault) × (edited_of b (ls ++ ms) ≡ edited_of b ls ++ more)
edited_of-append b [] [] = ([], sym (append-nil (fault_by banner_rules b)))
edited_of-append b [] (s ∷ es) =
    let z : Size = size (header b.words) s.words in
    (fault_by (size_rules (header b.words)) s ++ edited_walk (entry_rules (header b.words) z) z.rows z.cols z.count es, simp append_assoc)
edited_of-append b (s ∷ es) ms =
    let z : Size = size (header b.words) s.words in
    let r = edited_walk-append (entry_rules (header b.words) z) z.rows z.cols z.count es ms in
    (r.0, ap (λ (t : List Fault). fault_by banner_rules b ++ fault_by (size_rules (header b.words)) s ++ t) r.1 ∙ simp append_assoc)

-- of lines with which the input has not ended
open_faults-is : (first : List ℕ) (others : List (List ℕ)) → edited_faults false (first ∷ others) ≡ edited_of (line_at 1 first) (later_lines (first ∷ others))
unfolding edited_faults edit_faults
open_faults-is first others =
    let w = ends_within first others in
    ap (λ (ls : List Line). line_faults LastEntry (first ∷ others) ++ edit_faults_from (size_of (first ∷ others)).rows (size_of (first ∷ others)).cols 0 ls) w.behind_it
    ∙ ap (λ (t : List Fault). t ++ edit_faults_from (size_of (first ∷ others)).rows (size_of (first ∷ others)).cols 0 (lines_after (first ∷ others))) (line_faults-is LastEntry first others)
    ∙ edited_of-is (line_at 1 first) (later_lines (first ∷ others))

open_faults-none : edited_faults false [] ≡ []
unfolding edited_faults edit_faults
open_faults-none = rw (line_faults-none LastEntry) refl

-- the faults of a prefix stay the first ones
open_faults-append : (ls ms : List (List ℕ)) → (more : List Fault) × (edited_faults false (ls ++ ms) ≡ edited_faults false ls ++ more)
open_faults-append [] ms = (edited_faults false ms, rw open_faults-none refl)
open_faults-append (first ∷ others) ms =
    let r = edited_of-append (line_at 1 first) (later_lines (first ∷ others)) (kept (numbered (2 + length others) ms)) in
    (r.0, open_faults-is first (others ++ ms) ∙ ap (edited_of (line_at 1 first)) (later_lines-append first others ms) ∙ r.1 ∙ ap (λ (t : List Fault). t ++ r.0) (sym (open_faults-is first others)))

-- ---- where lines of the matrix are missing

-- no line follows them
pub none_after : (ls : List (List ℕ)) → missing ls ≢ [] → lines_after ls ≡ []
none_after [] lacks = let none : List Line = [] in drop_all (size_of []).count none (omega arith)
none_after (first ∷ others) lacks = by (later_lines (first ∷ others)) refl
  where
    of_count : (s : Line) (es : List Line) → later_lines (first ∷ others) ≡ s ∷ es → (few : Bool) → nat_lt (length es) (size (header (words first)) s.words).count ≡ few → lines_after (first ∷ others) ≡ []
    of_count s es e true few =
        let lt : length es < (size (header (words first)) s.words).count = ltb-true _ _ few in
        rw e (drop_all _ es (omega arith))
    of_count s es e false few = absurd (lacks (enough (first ∷ others) s es e few))

    by : (ls : List Line) → later_lines (first ∷ others) ≡ ls → lines_after (first ∷ others) ≡ []
    by [] e = let none : List Line = [] in rw e (drop_all (size (header (words first)) []).count none (omega arith))
    by (s ∷ es) e = of_count s es e (nat_lt (length es) (size (header (words first)) s.words).count) refl

-- so there are no edit lines
pub no_edits : (ls : List (List ℕ)) → missing ls ≢ [] → edit_faults (matrix_end ls) (size_of ls).rows (size_of ls).cols (drop (matrix_end ls) ls) ≡ []
unfolding edit_faults
no_edits [] lacks = refl
no_edits (first ∷ others) lacks =
    let w = ends_within first others in
    ap (edit_faults_from (size_of (first ∷ others)).rows (size_of (first ∷ others)).cols 0) (w.behind_it ∙ none_after (first ∷ others) lacks)

swap_none : (xs ys zs : List Fault) → (xs ≢ [] → ys ≡ []) → (zs ++ xs) ++ ys ≡ (zs ++ ys) ++ xs
swap_none [] ys zs h = ap (λ (t : List Fault). t ++ ys) (append-nil zs) ∙ sym (append-nil (zs ++ ys))
swap_none (x ∷ xs) ys zs h = let e : ys ≡ [] = h (λ k. cc) in rw e (append-nil (zs ++ x ∷ xs) ∙ ap (λ (t : List Fault). t ++ x ∷ xs) (sym (append-nil zs)))

-- where the input ends with the lines, what is missing comes last
ended_faults-is : (l : List ℕ) (ls : List (List ℕ)) → edited_faults true (l ∷ ls) ≡ edited_faults false (l ∷ ls) ++ missing (l ∷ ls)
unfolding edited_faults
ended_faults-is l ls = swap_none (missing (l ∷ ls)) _ (line_faults LastEntry (l ∷ ls)) (no_edits (l ∷ ls))

-- ---- what is found in a prefix

-- the first fault of lines stays the first one, also where the input ends behind more lines
open_fault_stays : (ls ms : List (List ℕ)) (x : Fault) → slice_get (edited_faults false ls) 0 ≡ Some x → slice_get (edited_faults false (ls ++ ms)) 0 ≡ Some x
open_fault_stays ls ms x h = let r = open_faults-append ls ms in rw r.1 (first-append (edited_faults false ls) r.0 x h)

edited_fault_stays : (ended : Bool) (ls ms : List (List ℕ)) (x : Fault) → slice_get (edited_faults false ls) 0 ≡ Some x → slice_get (edited_faults ended (ls ++ ms)) 0 ≡ Some x
edited_fault_stays ended [] ms x h = let n : None ≡ Some x = rw open_faults-none at h in absurd cc
edited_fault_stays false (l ∷ ls) ms x h = open_fault_stays (l ∷ ls) ms x h
edited_fault_stays true (l ∷ ls) ms x h = rw (ended_faults-is l (ls ++ ms)) (first-append (edited_faults false (l ∷ (ls ++ ms))) (missing (l ∷ (ls ++ ms))) x (open_fault_stays (l ∷ ls) ms x h))

-- a bad line stays the first one
pub bad_edited_stays : (ended : Bool) (bytes more : List ℕ) (x : Fault) → first_edited_fault false bytes ≡ Some x → first_edited_fault ended (bytes ++ more) ≡ Some x
unfolding first_edited_fault
bad_edited_stays ended bytes more x h =
    let r = lines-append ended bytes more in
    rw r.1 (edited_fault_stays ended (lines false bytes) r.0 x h)

-- a good file with good edit lines has no fault
pub good_edited_file : (bytes : List ℕ) → edited_faults true (lines true bytes) ≡ [] → first_edited_fault true bytes ≡ None
unfolding first_edited_fault
good_edited_file bytes good = rw good refl

-- ---- the matrix by itself

-- a fault of the matrix comes before those of edit lines
pub bad_matrix : (ended : Bool) (bytes : List ℕ) (x : Fault) → first_fault LastEntry ended bytes ≡ Some x → first_edited_fault ended bytes ≡ Some x
unfolding first_fault first_edited_fault edited_faults
bad_matrix ended bytes x h = first-append (faults LastEntry ended (lines ended bytes)) _ x h

-- while a line of the matrix is wanted there are no edit lines
pub no_edit_yet : (bytes : List ℕ) → missing (lines false bytes) ≢ [] → first_fault LastEntry false bytes ≡ None → first_edited_fault false bytes ≡ None
unfolding first_fault first_edited_fault edited_faults
no_edit_yet bytes lacks none =
    rw (no_edits (lines false bytes) lacks, append-nil (line_faults LastEntry (lines false bytes))) none
