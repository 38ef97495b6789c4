-- What one more line adds to the faults, by its role.
use Rattle.std.proofs.Common.{◌≡◌, ℕ, zero, suc, ◌+◌, ◌<◌, true, false, not, List, [], ◌∷◌, ◌++◌, length, take, drop, refl, sym, ap, ◌∙◌, append_assoc, append-nil, arith, add-zero}
use Rattle.std.proofs.lemmas.List.{map-append}
use Rattle.std.proofs.lemmas.List.Elements.{filter-append}
use Rattle.mm_defs.specs.declared.answers.End.{End}
use Rattle.mm_defs.specs.declared.answers.End.TheVariants.{File, LastEntry}
use Rattle.mm_defs.specs.Words.{Word, Line, words, is_skipped, numbered, kept}
use Rattle.mm_defs.specs.Header.{header, size}
use Rattle.mm_defs.specs.Faults.{Rule, banner_rules, size_rules, entry_rules}
use Rattle.mm_defs.specs.File.{Fault, later_lines, words_of_first, fault_by, faults_by, trailing, line_faults}

-- ---- lines with their numbers

abbrev pub line_at : ℕ → List ℕ → Line
line_at n l = record { number = n; words = words l }

pub numbered-append : (n : ℕ) (ls ms : List (List ℕ)) → numbered n (ls ++ ms) ≡ numbered n ls ++ numbered (n + length ls) ms
numbered-append n [] ms = rw add-zero refl
numbered-append n (l ∷ ls) ms =
    let e : suc n + length ls ≡ n + length (l ∷ ls) = omega arith in
    ap (λ (t : List Line). line_at n l ∷ t) (numbered-append (suc n) ls ms ∙ ap (λ k. numbered (suc n) ls ++ numbered k ms) e)

-- what more lines add to the later lines
pub later_lines-append : (first : List ℕ) (others ms : List (List ℕ)) → later_lines ((first ∷ others) ++ ms) ≡ later_lines (first ∷ others) ++ kept (numbered (2 + length others) ms)
later_lines-append first others ms =
    ap kept (numbered-append 2 others ms) ∙ filter-append (λ (l : Line). not (is_skipped l.words)) (numbered 2 others) (numbered (2 + length others) ms)

-- a line that is skipped adds none
pub later_lines-push_skipped : (first : List ℕ) (others : List (List ℕ)) (l : List ℕ) → is_skipped (words l) ≡ true
    → later_lines ((first ∷ others) ++ l ∷ []) ≡ later_lines (first ∷ others)
later_lines-push_skipped first others l e = later_lines-append first others (l ∷ []) ∙ rw e (append-nil (later_lines (first ∷ others)))

-- another line is the next of them
pub later_lines-push : (first : List ℕ) (others : List (List ℕ)) (l : List ℕ) (n : ℕ) → is_skipped (words l) ≡ false → n ≡ length (first ∷ others) + 1
    → later_lines ((first ∷ others) ++ l ∷ []) ≡ later_lines (first ∷ others) ++ line_at n l ∷ []
later_lines-push first others l n e is =
    let k : 2 + length others ≡ n = omega arith in
    later_lines-append first others (l ∷ []) ∙ rw (e, k) refl

-- ---- the faults of the lines behind the size line

-- so many entry lines, and the lines behind them
abbrev pub walk : End → (List Word → List Rule) → ℕ → List Line → List Fault
walk end rules n [] = []
walk end rules zero (l ∷ ls) = trailing end (l ∷ ls)
walk end rules (suc n) (l ∷ ls) = fault_by rules l ++ walk end rules n ls

trailing-none : (end : End) → trailing end [] ≡ []
trailing-none File = refl
trailing-none LastEntry = refl

walk-is : (end : End) (rules : List Word → List Rule) (n : ℕ) (ls : List Line) → faults_by rules (take n ls) ++ trailing end (drop n ls) ≡ walk end rules n ls
walk-is end rules zero [] = trailing-none end
walk-is end rules (suc n) [] = trailing-none end
walk-is end rules zero (l ∷ ls) = refl
walk-is end rules (suc n) (l ∷ ls) = simp append_assoc (ap (λ (t : List Fault). fault_by rules l ++ t) (walk-is end rules n ls))

pub walk-zero : (end : End) (rules : List Word → List Rule) (ls : List Line) → walk end rules zero ls ≡ trailing end ls
walk-zero end rules [] = sym (trailing-none end)
walk-zero end rules (l ∷ ls) = refl

trailing-append : (end : End) (ls ms : List Line) → trailing end (ls ++ ms) ≡ trailing end ls ++ trailing end ms
trailing-append File ls ms = map-append _ ls ms
trailing-append LastEntry ls ms = refl

walk-append : (end : End) (rules : List Word → List Rule) (n : ℕ) (ls ms : List Line) → (more : List Fault) × (walk end rules n (ls ++ ms) ≡ walk end rules n ls ++ more)
walk-append end rules n [] ms = (walk end rules n ms, refl)
walk-append end rules zero (l ∷ ls) ms = (trailing end ms, trailing-append end (l ∷ ls) ms)
walk-append end rules (suc n) (l ∷ ls) ms =
    let r = walk-append end rules n ls ms in
    (r.0, ap (λ (t : List Fault). fault_by rules l ++ t) r.1 ∙ sym (append_assoc (fault_by rules l) (walk end rules n ls) r.0))

walk-push : (end : End) (rules : List Word → List Rule) (n : ℕ) (ls : List Line) (l : Line) → length ls < n → walk end rules n (ls ++ l ∷ []) ≡ walk end rules n ls ++ fault_by rules l
walk-push end rules zero ls l h = absurd (omega arith)
walk-push end rules (suc n) [] l h = append-nil _
walk-push end rules (suc n) (k ∷ ls) l h =
    let h2 : length ls < n = omega arith in
    ap (λ (t : List Fault). fault_by rules k ++ t) (walk-push end rules n ls l h2) ∙ sym (append_assoc (fault_by rules k) (walk end rules n ls) (fault_by rules l))

walk-push_past : (end : End) (rules : List Word → List Rule) (n : ℕ) (ls : List Line) (l : Line) → length ls ≡ n → walk end rules n (ls ++ l ∷ []) ≡ walk end rules n ls ++ trailing end (l ∷ [])
walk-push_past end rules zero [] l h = refl
walk-push_past end rules (suc n) [] l h = absurd (omega arith)
walk-push_past end rules zero (k ∷ ls) l h = absurd (omega arith)
walk-push_past end rules (suc n) (k ∷ ls) l h =
    let h2 : length ls ≡ n = omega arith in
    ap (λ (t : List Fault). fault_by rules k ++ t) (walk-push_past end rules n ls l h2) ∙ sym (append_assoc (fault_by rules k) (walk end rules n ls) (trailing end (l ∷ [])))

-- ---- the faults of all lines

-- by the first line, and the later ones that are not skipped
abbrev pub faults_of : End → Line → List Line → List Fault
faults_of end b [] = fault_by banner_rules b
faults_of end b (s ∷ es) = fault_by banner_rules b ++ fault_by (size_rules (header b.words)) s ++ walk end (entry_rules (header b.words) (size (header b.words) s.words)) (size (header b.words) s.words).count es

sum_is : (end : End) (b : Line) (later : List Line)
    → faults_by banner_rules (b ∷ [])
    ++ faults_by (size_rules (header b.words)) (take 1 later)
    ++ faults_by (entry_rules (header b.words) (size (header b.words) (words_of_first (take 1 later)))) (take (size (header b.words) (words_of_first (take 1 later))).count (drop 1 later))
    ++ trailing end (drop (size (header b.words) (words_of_first (take 1 later))).count (drop 1 later))
    ≡ faults_of end b later
sum_is end b [] =
    simp (append-nil, append_assoc) (ap (λ (t : List Fault). fault_by banner_rules b ++ t) (walk-is end (entry_rules (header b.words) (size (header b.words) [])) (size (header b.words) []).count []) ∙ append-nil (fault_by banner_rules b))
sum_is end b (s ∷ es) =
    simp (append-nil, append_assoc) (ap (λ (t : List Fault). fault_by banner_rules b ++ (fault_by (size_rules (header b.words)) s ++ t)) (walk-is end (entry_rules (header b.words) (size (header b.words) s.words)) (size (header b.words) s.words).count es))

pub line_faults-is : (end : End) (first : List ℕ) (others : List (List ℕ)) → line_faults end (first ∷ others) ≡ faults_of end (line_at 1 first) (later_lines (first ∷ others))
unfolding line_faults
line_faults-is end first others = sum_is end (line_at 1 first) (later_lines (first ∷ others))

pub line_faults-none : (end : End) → line_faults end [] ≡ []
unfolding line_faults
line_faults-none File = refl
line_faults-none LastEntry = refl

faults_of-append : (end : End) (b : Line) (ls ms : List Line) → (more : List Fault) × (faults_of end b (ls ++ ms) ≡ faults_of end b ls ++ more)
faults_of-append end b [] [] = ([], sym (append-nil (fault_by banner_rules b)))
faults_of-append end b [] (s ∷ es) = (fault_by (size_rules (header b.words)) s ++ walk end (entry_rules (header b.words) (size (header b.words) s.words)) (size (header b.words) s.words).count es, simp append_assoc)
faults_of-append end b (s ∷ es) ms =
    let r = walk-append end (entry_rules (header b.words) (size (header b.words) s.words)) (size (header b.words) s.words).count es ms in
    (r.0, ap (λ (t : List Fault). fault_by banner_rules b ++ fault_by (size_rules (header b.words)) s ++ t) r.1 ∙ simp append_assoc)

-- the faults of a prefix stay the first ones
pub line_faults-append : (end : End) (ls ms : List (List ℕ)) → (more : List Fault) × (line_faults end (ls ++ ms) ≡ line_faults end ls ++ more)
line_faults-append end [] ms = (line_faults end ms, rw (line_faults-none end) refl)
line_faults-append end (first ∷ others) ms =
    let r = faults_of-append end (line_at 1 first) (later_lines (first ∷ others)) (kept (numbered (2 + length others) ms)) in
    (r.0, line_faults-is end first (others ++ ms) ∙ ap (faults_of end (line_at 1 first)) (later_lines-append first others ms) ∙ r.1 ∙ ap (λ (t : List Fault). t ++ r.0) (sym (line_faults-is end first others)))

-- ---- one more line, by its role

-- the first line is the banner
pub banner_comes : (end : End) (l : List ℕ) → line_faults end (l ∷ []) ≡ fault_by banner_rules (line_at 1 l)
banner_comes end l = line_faults-is end l []

-- a later line may be skipped
pub skipped_comes : (end : End) (first : List ℕ) (others : List (List ℕ)) (l : List ℕ) → is_skipped (words l) ≡ true
    → line_faults end ((first ∷ others) ++ l ∷ []) ≡ line_faults end (first ∷ others)
skipped_comes end first others l e =
    line_faults-is end first (others ++ l ∷ []) ∙ ap (faults_of end (line_at 1 first)) (later_lines-push_skipped first others l e) ∙ sym (line_faults-is end first others)

module _ (end : End) (first : List ℕ) (others : List (List ℕ)) (l : List ℕ) (n : ℕ) (kept_is : is_skipped (words l) ≡ false) (n_is : n ≡ length (first ∷ others) + 1) where
  pushed : line_faults end ((first ∷ others) ++ l ∷ []) ≡ faults_of end (line_at 1 first) (later_lines (first ∷ others) ++ line_at n l ∷ [])
  pushed = line_faults-is end first (others ++ l ∷ []) ∙ ap (faults_of end (line_at 1 first)) (later_lines-push first others l n kept_is n_is)

  -- it is the size line
  pub size_comes : later_lines (first ∷ others) ≡ []
      → line_faults end ((first ∷ others) ++ l ∷ []) ≡ line_faults end (first ∷ others) ++ fault_by (size_rules (header (words first))) (line_at n l)
  size_comes e = pushed ∙ rw (line_faults-is end first others, e) (simp append-nil)

  -- it is an entry line
  pub entry_comes : (s : Line) (es : List Line) → later_lines (first ∷ others) ≡ s ∷ es → length es < (size (header (words first)) s.words).count
      → line_faults end ((first ∷ others) ++ l ∷ []) ≡ line_faults end (first ∷ others) ++ fault_by (entry_rules (header (words first)) (size (header (words first)) s.words)) (line_at n l)
  entry_comes s es e h =
      pushed ∙ rw (line_faults-is end first others, e) (simp append_assoc (ap (λ (t : List Fault). fault_by banner_rules (line_at 1 first) ++ (fault_by (size_rules (header (words first))) s ++ t)) (walk-push end (entry_rules (header (words first)) (size (header (words first)) s.words)) (size (header (words first)) s.words).count es (line_at n l) h)))

  -- it follows the entry lines
  pub trailing_comes : (s : Line) (es : List Line) → later_lines (first ∷ others) ≡ s ∷ es → length es ≡ (size (header (words first)) s.words).count
      → line_faults end ((first ∷ others) ++ l ∷ []) ≡ line_faults end (first ∷ others) ++ trailing end (line_at n l ∷ [])
  trailing_comes s es e h =
      pushed ∙ rw (line_faults-is end first others, e) (simp append_assoc (ap (λ (t : List Fault). fault_by banner_rules (line_at 1 first) ++ (fault_by (size_rules (header (words first))) s ++ t)) (walk-push_past end (entry_rules (header (words first)) (size (header (words first)) s.words)) (size (header (words first)) s.words).count es (line_at n l) h)))

-- ---- lines behind the matrix

walk-past : (end : End) (rules : List Word → List Rule) (n : ℕ) (ls ms : List Line) → length ls ≡ n → walk end rules n (ls ++ ms) ≡ walk end rules n ls ++ trailing end ms
walk-past end rules zero [] ms h = walk-zero end rules ms
walk-past end rules (suc n) [] ms h = absurd (omega arith)
walk-past end rules zero (l ∷ ls) ms h = absurd (omega arith)
walk-past end rules (suc n) (l ∷ ls) ms h =
    let h2 : length ls ≡ n = omega arith in
    ap (λ (t : List Fault). fault_by rules l ++ t) (walk-past end rules n ls ms h2) ∙ sym (append_assoc (fault_by rules l) (walk end rules n ls) (trailing end ms))

-- they are not judged, where the matrix ends with its last entry
pub line_faults-past : (first : List ℕ) (others ms : List (List ℕ)) (s : Line) (es : List Line) → later_lines (first ∷ others) ≡ s ∷ es → length es ≡ (size (header (words first)) s.words).count
    → line_faults LastEntry ((first ∷ others) ++ ms) ≡ line_faults LastEntry (first ∷ others)
line_faults-past first others ms s es e h =
    let more : List Line = kept (numbered (2 + length others) ms) in
    let k : later_lines ((first ∷ others) ++ ms) ≡ s ∷ (es ++ more) = later_lines-append first others ms ∙ ap (λ (t : List Line). t ++ more) e in
    let w = walk-past LastEntry (entry_rules (header (words first)) (size (header (words first)) s.words)) (size (header (words first)) s.words).count es more h in
    line_faults-is LastEntry first (others ++ ms) ∙ ap (faults_of LastEntry (line_at 1 first)) k
    ∙ ap (λ (t : List Fault). fault_by banner_rules (line_at 1 first) ++ fault_by (size_rules (header (words first))) s ++ t) (w ∙ append-nil (walk LastEntry (entry_rules (header (words first)) (size (header (words first)) s.words)) (size (header (words first)) s.words).count es))
    ∙ ap (faults_of LastEntry (line_at 1 first)) (sym e) ∙ sym (line_faults-is LastEntry first others)
