-- Where a matrix that is read ends: none of its lines stands behind it.
use Rattle.std.proofs.Common.{◌≡◌, ◌≢◌, ℕ, zero, suc, ◌+◌, ◌-◌, ◌<◌, ◌≤◌, Bool, true, false, nat_lt, List, [], ◌∷◌, ◌++◌, length, take, drop, count_by, refl, ap, ◌∙◌, arith, append-nil, length-append, length-take-le, take_all, le-ltb, ltb-true, ltb-false}
use Rattle.std.proofs.Math.Seq.{take-append-add}
use Rattle.std.proofs.lemmas.List.Sums.{sum_by-cons}
use Rattle.sp_ids.specs.Entries as entries
use Rattle.mm_defs.specs.declared.answers.End.{End}
use Rattle.mm_defs.specs.declared.answers.End.TheVariants.{File, LastEntry}
use Rattle.mm_defs.specs.Words.{Line, words, is_lf, is_skipped, lines, numbered, kept}
use Rattle.mm_defs.specs.Header.{header, size}
use Rattle.mm_defs.specs.File.{Fault, Reads, header_of, later_lines, size_lines, entry_lines, matrix_lines, last_number, missing, no_banner, line_faults, faults, rest_of, behind}
use Rattle.mm_defs.specs.Calls.{LacksLines}
use Rattle.mm_defs.proofs.Behind.{length-lines, length-behind}
use Rattle.mm_defs.proofs.Lines.{lines-append}
use Rattle.mm_defs.proofs.Roles.{later_lines-append}

-- ---- the numbers of lines

-- all numbers are at least this
abbrev AllFrom : ℕ → List Line → Type 0
AllFrom k [] = Unit {0}
AllFrom k (l ∷ ls) = (k ≤ l.number) × AllFrom k ls

numbered-from : (k n : ℕ) (ls : List (List ℕ)) → k ≤ n → AllFrom k (kept (numbered n ls))
numbered-from k n [] h = tt
numbered-from k n (l ∷ ls) h = by (is_skipped (words l)) refl (numbered-from k (suc n) ls (omega arith))
  where
    by : (skipped : Bool) → is_skipped (words l) ≡ skipped → AllFrom k (kept (numbered (suc n) ls)) → AllFrom k (kept (numbered n (l ∷ ls)))
    by true e r = rw e r
    by false e r = rw e (h, r)

from-append : (k : ℕ) (ls ms : List Line) → AllFrom k ls → AllFrom k ms → AllFrom k (ls ++ ms)
from-append k [] ms a b = b
from-append k (l ∷ ls) ms a b = (a.0, from-append k ls ms a.1 b)

from-take : (k n : ℕ) (ls : List Line) → AllFrom k ls → AllFrom k (take n ls)
from-take k zero ls h = tt
from-take k (suc n) [] h = tt
from-take k (suc n) (l ∷ ls) h = (h.0, from-take k n ls h.1)

from-drop : (k n : ℕ) (ls : List Line) → AllFrom k ls → AllFrom k (drop n ls)
from-drop k zero ls h = h
from-drop k (suc n) [] h = tt
from-drop k (suc n) (l ∷ ls) h = from-drop k n ls h.1

last-from : (k : ℕ) (l : Line) (ls : List Line) → AllFrom k (l ∷ ls) → k ≤ last_number (l ∷ ls)
last-from k l [] h = h.0
last-from k l (m ∷ ls) h = last-from k m ls h.1

last_number-append : (ls : List Line) (m : Line) (ms : List Line) → last_number (ls ++ m ∷ ms) ≡ last_number (m ∷ ms)
last_number-append [] m ms = refl
last_number-append (l ∷ []) m ms = refl
last_number-append (l ∷ k ∷ ls) m ms = last_number-append (k ∷ ls) m ms

later-from : (ls : List (List ℕ)) → AllFrom 1 (later_lines ls)
later-from [] = tt
later-from (l ∷ ls) = numbered-from 1 2 ls (omega arith)

last-some : (ls : List Line) → AllFrom 1 ls → 1 ≤ last_number ls
last-some [] h = omega arith
last-some (l ∷ ls) h = last-from 1 l ls h

pub matrix-some : (ls : List (List ℕ)) → 1 ≤ last_number (matrix_lines ls)
matrix-some ls =
    let a = from-take 1 1 (later_lines ls) (later-from ls) in
    let b = from-take 1 _ (drop 1 (later_lines ls)) (from-drop 1 1 (later_lines ls) (later-from ls)) in
    last-some (matrix_lines ls) (from-append 1 (size_lines ls) (entry_lines ls) a b)

-- ---- lines that hold the matrix

take-prefix : {X : Type 0} (n : ℕ) (xs ys : List X) → length xs ≤ n → take n (xs ++ ys) ≡ xs ++ take (n - length xs) ys
take-prefix n xs ys h =
    let e : n ≡ length xs + (n - length xs) = omega arith in
    ap (λ k. take k (xs ++ ys)) e ∙ take-append-add xs ys (n - length xs)

pub enough : (ls : List (List ℕ)) (s : Line) (es : List Line) → later_lines ls ≡ s ∷ es → nat_lt (length es) (size (header_of ls) s.words).count ≡ false → missing ls ≡ []
enough ls s es e few =
    let h : (size (header_of ls) s.words).count ≤ length es = ltb-false _ _ few in
    let k : length (take (size (header_of ls) s.words).count es) ≡ (size (header_of ls) s.words).count = length-take-le (size (header_of ls) s.words).count es h in
    let n : nat_lt (size (header_of ls) s.words).count (size (header_of ls) s.words).count ≡ false = le-ltb (size (header_of ls) s.words).count (size (header_of ls) s.words).count (omega arith) in
    rw e (rw (k, n) refl)

-- lines behind which no line of the matrix stands
module _ (first : List ℕ) (others more : List (List ℕ)) (whole : missing ((first ∷ others) ++ more) ≡ []) (low : last_number (matrix_lines ((first ∷ others) ++ more)) ≤ length (first ∷ others)) where
  abbrev extra : List Line
  extra = kept (numbered (2 + length others) more)

  later : later_lines ((first ∷ others) ++ more) ≡ later_lines (first ∷ others) ++ extra
  later = later_lines-append first others more

  no_size : (ms : List Line) → AllFrom (2 + length others) ms → later_lines ((first ∷ others) ++ more) ≡ ms → ⊥
  no_size [] h e = let k = rw e at whole in cc
  no_size (m ∷ ms) h e =
      let r = from-take (2 + length others) (size (header (words first)) m.words).count ms h.1 in
      let n = last-from (2 + length others) m (take (size (header (words first)) m.words).count ms) (h.0, r) in
      let k = rw e at low in
      omega arith

  no_entry : (s : Line) (es ms : List Line) → AllFrom (2 + length others) ms → later_lines ((first ∷ others) ++ more) ≡ s ∷ (es ++ ms) → nat_lt (length es) (size (header (words first)) s.words).count ≡ true → ⊥
  no_entry s es [] h e few =
      let lt : length es < (size (header (words first)) s.words).count = ltb-true _ _ few in
      let all : take (size (header (words first)) s.words).count (es ++ []) ≡ es = ap (take (size (header (words first)) s.words).count) (append-nil es) ∙ take_all (size (header (words first)) s.words).count es (omega arith) in
      let k = rw (e, all, few) at whole in
      cc
  no_entry s es (m ∷ ms) h e few =
      let lt : length es < (size (header (words first)) s.words).count = ltb-true _ _ few in
      let n : ℕ = (size (header (words first)) s.words).count - length es - 1 in
      let one : (size (header (words first)) s.words).count - length es ≡ suc n = omega arith in
      let all : take (size (header (words first)) s.words).count (es ++ m ∷ ms) ≡ es ++ m ∷ take n ms = take-prefix (size (header (words first)) s.words).count es (m ∷ ms) (omega arith) ∙ ap (λ k. es ++ take k (m ∷ ms)) one in
      let r = from-take (2 + length others) n ms h.1 in
      let f = last-from (2 + length others) m (take n ms) (h.0, r) in
      let a = last_number-append (s ∷ es) m (take n ms) in
      let k = rw (e, all, a) at low in
      omega arith

  pub no_later : missing (first ∷ others) ≡ []
  no_later = by (later_lines (first ∷ others)) refl
    where
      of_count : (s : Line) (es : List Line) → later_lines (first ∷ others) ≡ s ∷ es → (few : Bool) → nat_lt (length es) (size (header (words first)) s.words).count ≡ few → missing (first ∷ others) ≡ []
      of_count s es e true few = absurd (no_entry s es extra (numbered-from (2 + length others) (2 + length others) more (omega arith)) (later ∙ ap (λ (t : List Line). t ++ extra) e) few)
      of_count s es e false few = enough (first ∷ others) s es e few

      by : (ls : List Line) → later_lines (first ∷ others) ≡ ls → missing (first ∷ others) ≡ []
      by [] e = absurd (no_size extra (numbered-from (2 + length others) (2 + length others) more (omega arith)) (later ∙ ap (λ (t : List Line). t ++ extra) e))
      by (s ∷ es) e = of_count s es e (nat_lt (length es) (size (header (words first)) s.words).count) refl

-- ---- bytes that hold the matrix

-- behind more LFs than a prefix has there are not all the bytes that follow it
behind-longer : (n : ℕ) (prefix more : List ℕ) → count_by is_lf prefix < n → more ≢ [] → length (behind n (prefix ++ more)) < length more
behind-longer zero prefix more h some = absurd (omega arith)
behind-longer (suc n) [] [] h some = absurd (some refl)
behind-longer (suc n) [] (b ∷ more) h some = by (is_lf b) refl
  where
    by : (lf : Bool) → is_lf b ≡ lf → length (behind (suc n) (b ∷ more)) < length (b ∷ more)
    by true e = let k = length-behind n more in rw e (omega arith)
    by false e = let k = length-behind (suc n) more in rw e (omega arith)
behind-longer (suc n) (b ∷ prefix) more h some = by (is_lf b) refl (behind-longer n prefix more) (behind-longer (suc n) prefix more)
  where
    by : (lf : Bool) → is_lf b ≡ lf → (count_by is_lf prefix < n → more ≢ [] → length (behind n (prefix ++ more)) < length more)
        → (count_by is_lf prefix < suc n → more ≢ [] → length (behind (suc n) (prefix ++ more)) < length more) → length (behind (suc n) (b ∷ prefix ++ more)) < length more
    by true e yes_lf no_lf =
        let k : count_by is_lf (b ∷ prefix) ≡ suc (count_by is_lf prefix) = sum_by-cons _ b prefix ∙ rw e (omega arith) in
        rw e (yes_lf (omega (arith, k, h)) some)
    by false e yes_lf no_lf =
        let k : count_by is_lf (b ∷ prefix) ≡ count_by is_lf prefix = sum_by-cons _ b prefix ∙ rw e (omega arith) in
        rw e (no_lf (omega (arith, k, h)) some)

pub right_none : (xs ys : List Fault) → xs ++ ys ≡ [] → ys ≡ []
right_none [] ys h = h
right_none (x ∷ xs) ys h = absurd cc

pub none_missing : (ls : List (List ℕ)) → faults LastEntry true ls ≡ [] → missing ls ≡ []
none_missing ls h = right_none (no_banner ls ++ line_faults LastEntry ls) (missing ls) h

-- a good file whose matrix ends within a prefix
matrix_in_prefix : (prefix more : List ℕ) → faults LastEntry true (lines true (prefix ++ more)) ≡ [] → more ≢ [] → length (prefix ++ more) - length (rest_of LastEntry (prefix ++ more)) ≤ length prefix
    → missing (lines false prefix) ≡ []
unfolding rest_of
matrix_in_prefix prefix more good some fits =
    let r = lines-append true prefix more in
    let whole : missing (lines false prefix ++ r.0) ≡ [] = rw r.1 at (none_missing (lines true (prefix ++ more)) good) in
    by_last r.0 r.1 whole (nat_lt (length (lines false prefix)) (last_number (matrix_lines (lines true (prefix ++ more))))) refl
  where
    by_lines : (ls rest : List (List ℕ)) → missing (ls ++ rest) ≡ [] → last_number (matrix_lines (ls ++ rest)) ≤ length ls → missing ls ≡ []
    by_lines [] rest whole low = let n = matrix-some rest in absurd (omega arith)
    by_lines (first ∷ others) rest whole low = no_later first others rest whole low

    by_last : (rest : List (List ℕ)) → lines true (prefix ++ more) ≡ lines false prefix ++ rest → missing (lines false prefix ++ rest) ≡ []
        → (past : Bool) → nat_lt (length (lines false prefix)) (last_number (matrix_lines (lines true (prefix ++ more)))) ≡ past → missing (lines false prefix) ≡ []
    by_last rest e whole true h =
        let n = length-lines prefix in
        let lt : length (lines false prefix) < last_number (matrix_lines (lines true (prefix ++ more))) = ltb-true _ _ h in
        let k = behind-longer (last_number (matrix_lines (lines true (prefix ++ more)))) prefix more (omega arith) some in
        let a = length-append prefix more in
        absurd (omega arith)
    by_last rest e whole false h =
        let le : last_number (matrix_lines (lines true (prefix ++ more))) ≤ length (lines false prefix) = ltb-false _ _ h in
        by_lines (lines false prefix) rest whole (rw e at le)

-- no line is missing in a prefix that holds what is read
pub prefix_lacks_none : (end : End) (prefix more : List ℕ) (t : entries.Entries) (follows : List ℕ) → Reads (prefix ++ more) end t follows → length (prefix ++ more) - length follows ≤ length prefix → more ≢ []
    → LacksLines end (lines false prefix) → ⊥
unfolding rest_of
prefix_lacks_none File prefix more t follows reads fits some lacks =
    let e : length follows ≡ 0 = ap length reads.follows in
    let a = length-append prefix more in
    let n : length more ≢ 0 = none_long more some in
    omega arith
  where
    none_long : (xs : List ℕ) → xs ≢ [] → length xs ≢ 0
    none_long [] h = absurd (h refl)
    none_long (x ∷ xs) h = λ e. cc
prefix_lacks_none LastEntry prefix more t follows reads fits some lacks =
    let e : length follows ≡ length (rest_of LastEntry (prefix ++ more)) = ap length reads.follows in
    lacks (matrix_in_prefix prefix more reads.good some (rw e at fits))
