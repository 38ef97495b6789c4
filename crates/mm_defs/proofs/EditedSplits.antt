-- Where the edit lines of a file begin: behind its matrix the faults are theirs.
use Rattle.std.proofs.Common.{◌≡◌, ◌≢◌, ℕ, zero, suc, ◌+◌, ◌<◌, ◌≤◌, Bool, true, false, nat_lt, List, [], ◌∷◌, ◌++◌, length, take, drop, take_all, count_by, refl, sym, ap, ◌∙◌, arith, append-nil, ltb-true, ltb-false, le-ltb, length-take-le, length-append}
use Rattle.std.specs.List.{slice_split, onto_first}
use Rattle.std.proofs.Math.Seq.{drop-append_seam}
use Rattle.std.proofs.lemmas.List.{append_cancel_right, drop_all}
use Rattle.std.proofs.lemmas.List.Splits.{length-slice_split}
use Rattle.std.proofs.lemmas.List.Sums.{sum_by-cons}
use Rattle.sp_ids.specs.Entries.{Entries}
use Rattle.mm_defs.specs.declared.answers.End.TheVariants.{LastEntry}
use Rattle.mm_defs.specs.declared.header.Size.{Size}
use Rattle.mm_defs.specs.EditedFiles.{edited_faults, matrix_end}
use Rattle.mm_defs.specs.EditLines.{edit_faults}
use Rattle.mm_defs.specs.Faults.{Rule, banner_rules, entry_rules, size_rules}
use Rattle.mm_defs.specs.File.{Fault, Reads, behind, entries_of, fault_by, faults, last_number, later_lines, line_faults, matrix_lines, missing, no_banner, rest_of, size_of}
use Rattle.mm_defs.specs.Header.{header, size}
use Rattle.mm_defs.specs.Words.{Line, Word, but_last, has_bytes, is_lf, kept, last_part, lines, numbered, open_line, words}
use Rattle.mm_defs.proofs.Behind.{behind-past, behind_is_end, length-lines}
use Rattle.mm_defs.proofs.EditLineLemmas.{edit_faults-none}
use Rattle.mm_defs.proofs.EditedFiles.{ends_within, no_edits}
use Rattle.mm_defs.proofs.Enough.{matrix-some, no_later, none_missing, right_none}
use Rattle.mm_defs.proofs.Lines.{lines-append, lines-ended, lines-none, open_line-none}
use Rattle.mm_defs.proofs.Roles.{faults_of, later_lines-append, line_at, line_faults-append, line_faults-is, walk, walk-zero}
use Rattle.mm_defs.proofs.SplitLemmas.{but_empty_last-append, but_last-append, split-append, split_cons}

-- ---- bytes up to an LF

-- the bytes up to the nth LF, and it
record UpTo (n : ℕ) (bytes : List ℕ) : Type 0 where
  front : List ℕ
  all : bytes ≡ front ++ behind n bytes
  lfs : count_by is_lf front ≡ n
  whole : open_line front ≡ []

open_after_lf : (b : ℕ) (bytes : List ℕ) → is_lf b ≡ true → open_line bytes ≡ [] → open_line (b ∷ bytes) ≡ []
unfolding open_line
open_after_lf b bytes e h =
    let c = split_cons is_lf bytes in
    let k : last_part (c.0 ∷ c.1) ≡ [] = rw c.2 at h in
    rw (e, c.2) k

open_later : (b : ℕ) (bytes : List ℕ) → is_lf b ≡ false → 0 < count_by is_lf bytes → open_line bytes ≡ [] → open_line (b ∷ bytes) ≡ []
unfolding open_line
open_later b bytes e some h =
    let c = split_cons is_lf bytes in
    let n = length-slice_split is_lf bytes in
    rw (e, c.2) (by c.0 c.1 (rw c.2 at n) (rw c.2 at h))
  where
    by : (s : List ℕ) (ss : List (List ℕ)) → length (s ∷ ss) ≡ count_by is_lf bytes + 1 → last_part (s ∷ ss) ≡ [] → last_part (onto_first b (s ∷ ss)) ≡ []
    by s [] n h = absurd (omega (arith, n, some))
    by s (q ∷ qs) n h = h

module _ (n b : ℕ) (bytes : List ℕ) where
  up_to_lf : is_lf b ≡ true → UpTo n bytes → UpTo (suc n) (b ∷ bytes)
  up_to_lf e u =
      let m : count_by is_lf (b ∷ u.front) ≡ suc (count_by is_lf u.front) = sum_by-cons _ b u.front ∙ rw e (omega arith) in
      record { front = b ∷ u.front; all = rw e (ap (λ (t : List ℕ). b ∷ t) u.all); lfs = m ∙ ap suc u.lfs; whole = open_after_lf b u.front e u.whole }

  up_to_later : is_lf b ≡ false → UpTo (suc n) bytes → UpTo (suc n) (b ∷ bytes)
  up_to_later e u =
      let m : count_by is_lf (b ∷ u.front) ≡ count_by is_lf u.front = sum_by-cons _ b u.front ∙ rw e (omega arith) in
      let l = u.lfs in
      record { front = b ∷ u.front; all = rw e (ap (λ (t : List ℕ). b ∷ t) u.all); lfs = m ∙ u.lfs; whole = open_later b u.front e (omega (arith, l)) u.whole }

up_to : (n : ℕ) (bytes : List ℕ) → n ≤ count_by is_lf bytes → UpTo n bytes
up_to zero bytes h = record { front = []; all = refl; lfs = refl; whole = open_line-none }
up_to (suc n) [] h = absurd (omega arith)
up_to (suc n) (b ∷ bytes) h = by (is_lf b) refl (up_to n bytes) (up_to (suc n) bytes)
  where
    by : (lf : Bool) → is_lf b ≡ lf → (n ≤ count_by is_lf bytes → UpTo n bytes) → (suc n ≤ count_by is_lf bytes → UpTo (suc n) bytes) → UpTo (suc n) (b ∷ bytes)
    by true e yes_lf no_lf =
        let k : count_by is_lf (b ∷ bytes) ≡ suc (count_by is_lf bytes) = sum_by-cons _ b bytes ∙ rw e (omega arith) in
        up_to_lf n b bytes e (yes_lf (omega (arith, k, h)))
    by false e yes_lf no_lf =
        let k : count_by is_lf (b ∷ bytes) ≡ count_by is_lf bytes = sum_by-cons _ b bytes ∙ rw e (omega arith) in
        up_to_later n b bytes e (no_lf (omega (arith, k, h)))

-- the lines of what follows come behind those up to there
lines-split : (ended : Bool) (front more : List ℕ) → open_line front ≡ [] → lines ended (front ++ more) ≡ lines false front ++ lines ended more
unfolding lines open_line
lines-split true front more h = let c = split_cons is_lf more in rw (split-append is_lf front more, h, c.2) (but_empty_last-append (but_last (slice_split is_lf front)) c.0 c.1)
lines-split false front more h = let c = split_cons is_lf more in rw (split-append is_lf front more, h, c.2) (but_last-append (but_last (slice_split is_lf front)) c.0 c.1)

-- ---- lines that hold the matrix

-- there is a size line, and as many lines as it says follow it
record Holds (first : List ℕ) (others : List (List ℕ)) : Type 0 where
  at : Line
  follow : List Line
  later_are : later_lines (first ∷ others) ≡ at ∷ follow
  many : (size (header (words first)) at.words).count ≤ length follow

holds : (first : List ℕ) (others : List (List ℕ)) → missing (first ∷ others) ≡ [] → Holds first others
holds first others whole = by (later_lines (first ∷ others)) refl
  where
    of_count : (s : Line) (es : List Line) → later_lines (first ∷ others) ≡ s ∷ es → (few : Bool) → nat_lt (length es) (size (header (words first)) s.words).count ≡ few → Holds first others
    of_count s es e true few =
        let lt : length es < (size (header (words first)) s.words).count = ltb-true _ _ few in
        let all : take (size (header (words first)) s.words).count es ≡ es = take_all (size (header (words first)) s.words).count es (omega arith) in
        let k = rw (e, all, few) at whole in
        absurd cc
    of_count s es e false few = record { at = s; follow = es; later_are = e; many = ltb-false _ _ few }

    by : (ls : List Line) → later_lines (first ∷ others) ≡ ls → Holds first others
    by [] e = let k = rw e at whole in absurd cc
    by (s ∷ es) e = of_count s es e (nat_lt (length es) (size (header (words first)) s.words).count) refl

take-within : (n : ℕ) (ls ms : List Line) → n ≤ length ls → take n (ls ++ ms) ≡ take n ls
take-within zero ls ms h = refl
take-within (suc n) [] ms h = absurd (omega arith)
take-within (suc n) (l ∷ ls) ms h = let k : n ≤ length ls = omega arith in ap (λ (t : List Line). l ∷ t) (take-within n ls ms k)

walk-within : (rules : List Word → List Rule) (n : ℕ) (ls ms : List Line) → n ≤ length ls → walk LastEntry rules n (ls ++ ms) ≡ walk LastEntry rules n ls
walk-within rules zero [] ms h = walk-zero LastEntry rules ms
walk-within rules zero (l ∷ ls) ms h = refl
walk-within rules (suc n) [] ms h = absurd (omega arith)
walk-within rules (suc n) (l ∷ ls) ms h = let k : n ≤ length ls = omega arith in ap (λ (t : List Fault). fault_by rules l ++ t) (walk-within rules n ls ms k)

-- what follows changes nothing of the matrix
record KeepsMatrix (ls ms : List (List ℕ)) : Type 0 where
  size_is : size_of (ls ++ ms) ≡ size_of ls
  matrix_is : matrix_lines (ls ++ ms) ≡ matrix_lines ls
  whole : missing (ls ++ ms) ≡ []
  faults_are : line_faults LastEntry (ls ++ ms) ≡ line_faults LastEntry ls

keeps_matrix : (first : List ℕ) (others ms : List (List ℕ)) → missing (first ∷ others) ≡ [] → KeepsMatrix (first ∷ others) ms
keeps_matrix first others ms whole =
    let h = holds first others whole in
    let z : Size = size (header (words first)) h.at.words in
    let extra : List Line = kept (numbered (2 + length others) ms) in
    let k : later_lines ((first ∷ others) ++ ms) ≡ h.at ∷ (h.follow ++ extra) = later_lines-append first others ms ∙ ap (λ (t : List Line). t ++ extra) h.later_are in
    let t : take z.count (h.follow ++ extra) ≡ take z.count h.follow = take-within z.count h.follow extra h.many in
    let w : walk LastEntry (entry_rules (header (words first)) z) z.count (h.follow ++ extra) ≡ walk LastEntry (entry_rules (header (words first)) z) z.count h.follow = walk-within (entry_rules (header (words first)) z) z.count h.follow extra h.many in
    let a : length (take z.count h.follow) ≡ z.count = length-take-le z.count h.follow h.many in
    let n : nat_lt z.count z.count ≡ false = le-ltb z.count z.count (omega arith) in
    record {
      size_is = rw (k, h.later_are) refl;
      matrix_is = rw (k, h.later_are, t) refl;
      whole = rw (k, t, a, n) refl;
      faults_are = line_faults-is LastEntry first (others ++ ms) ∙ ap (faults_of LastEntry (line_at 1 first)) k
          ∙ ap (λ (x : List Fault). fault_by banner_rules (line_at 1 first) ++ fault_by (size_rules (header (words first))) h.at ++ x) w
          ∙ ap (faults_of LastEntry (line_at 1 first)) (sym h.later_are) ∙ sym (line_faults-is LastEntry first others);
    }

-- ---- the faults behind the matrix

left_none : (xs ys : List Fault) → xs ++ ys ≡ [] → xs ≡ []
left_none [] ys h = refl
left_none (x ∷ xs) ys h = absurd cc

none_wrong : (ls : List (List ℕ)) → faults LastEntry true ls ≡ [] → line_faults LastEntry ls ≡ []
none_wrong ls h = right_none (no_banner ls) (line_faults LastEntry ls) (left_none (no_banner ls ++ line_faults LastEntry ls) (missing ls) h)

-- other lines behind the matrix
behind_lines : (ended : Bool) (ls rest ms : List (List ℕ)) → faults LastEntry true (ls ++ rest) ≡ [] → matrix_end (ls ++ rest) ≡ length ls
    → edited_faults ended (ls ++ ms) ≡ edit_faults (length ls) (size_of (ls ++ rest)).rows (size_of (ls ++ rest)).cols ms
unfolding edited_faults
behind_lines ended [] rest ms good here = let n = matrix-some rest in absurd (omega (arith, n, here))
behind_lines ended (first ∷ others) rest ms good here =
    let ls : List (List ℕ) = first ∷ others in
    let w = no_later first others rest (none_missing (ls ++ rest) good) (omega (arith, here)) in
    let a = keeps_matrix first others rest w in
    let c = keeps_matrix first others ms w in
    let n : matrix_end (ls ++ ms) ≡ length ls = ap last_number (c.matrix_is ∙ sym a.matrix_is) ∙ here in
    let z : size_of (ls ++ ms) ≡ size_of (ls ++ rest) = c.size_is ∙ sym a.size_is in
    let f : faults LastEntry ended (ls ++ ms) ≡ [] = none ended (c.faults_are ∙ sym a.faults_are ∙ none_wrong (ls ++ rest) good) c.whole in
    ap (λ (t : List Fault). t ++ edit_faults (matrix_end (ls ++ ms)) (size_of (ls ++ ms)).rows (size_of (ls ++ ms)).cols (drop (matrix_end (ls ++ ms)) (ls ++ ms))) f
    ∙ ap (λ i. edit_faults i (size_of (ls ++ ms)).rows (size_of (ls ++ ms)).cols (drop i (ls ++ ms))) n
    ∙ ap (λ (x : Size). edit_faults (length ls) x.rows x.cols (drop (length ls) (ls ++ ms))) z
    ∙ ap (edit_faults (length ls) (size_of (ls ++ rest)).rows (size_of (ls ++ rest)).cols) (drop-append_seam ls ms)
  where
    none : (ended : Bool) → line_faults LastEntry ((first ∷ others) ++ ms) ≡ [] → missing ((first ∷ others) ++ ms) ≡ [] → faults LastEntry ended ((first ∷ others) ++ ms) ≡ []
    none true f m = rw (f, m) refl
    none false f m = f

-- other bytes behind the LF that ends the matrix
behind_front : (ended : Bool) (front rest some : List ℕ) → open_line front ≡ [] → matrix_end (lines true (front ++ rest)) ≡ count_by is_lf front → faults LastEntry true (lines true (front ++ rest)) ≡ []
    → edited_faults ended (lines ended (front ++ some)) ≡ edit_faults (count_by is_lf front) (size_of (lines true (front ++ rest))).rows (size_of (lines true (front ++ rest))).cols (lines ended some)
behind_front ended front rest some whole here good =
    let s = lines-split true front rest whole in
    let n = length-lines front in
    let e : matrix_end (lines false front ++ lines true rest) ≡ length (lines false front) = sym (ap matrix_end s) ∙ here ∙ sym n in
    let b = behind_lines ended (lines false front) (lines true rest) (lines ended some) (rw s at good) e in
    rw (lines-split ended front some whole, s, ← n) b

-- a matrix whose last line has no LF
no_lf_lacks : (bytes : List ℕ) → faults LastEntry true (lines true bytes) ≡ [] → count_by is_lf bytes < matrix_end (lines true bytes) → missing (lines false bytes) ≢ []
no_lf_lacks bytes good past = by (lines false bytes) refl
  where
    by : (ls : List (List ℕ)) → lines false bytes ≡ ls → missing ls ≢ []
    by [] e whole = absurd cc
    by (first ∷ others) e whole =
        let r = lines-append true bytes [] in
        let a : lines true bytes ≡ (first ∷ others) ++ r.0 = ap (lines true) (sym (append-nil bytes)) ∙ r.1 ∙ ap (λ (t : List (List ℕ)). t ++ r.0) e in
        let k = keeps_matrix first others r.0 whole in
        let n : matrix_end (lines true bytes) ≡ matrix_end (first ∷ others) = ap matrix_end a ∙ ap last_number k.matrix_is in
        let w = ends_within first others in
        let few = w.within in
        let l : length (first ∷ others) ≡ count_by is_lf bytes = ap length (sym e) ∙ length-lines bytes in
        omega (arith, n, few, l, past)

no_lf_none : (ended : Bool) (bytes : List ℕ) → faults LastEntry true (lines true bytes) ≡ [] → count_by is_lf bytes < matrix_end (lines true bytes) → edited_faults ended (lines ended bytes) ≡ []
unfolding edited_faults
no_lf_none true bytes good past =
    let long : length (lines true bytes) ≤ count_by is_lf bytes + 1 = at_most (has_bytes (open_line bytes)) refl in
    let d : drop (matrix_end (lines true bytes)) (lines true bytes) ≡ [] = drop_all (matrix_end (lines true bytes)) (lines true bytes) (omega (arith, long, past)) in
    rw (good, d) (edit_faults-none (matrix_end (lines true bytes)) (size_of (lines true bytes)).rows (size_of (lines true bytes)).cols)
  where
    at_most : (b : Bool) → has_bytes (open_line bytes) ≡ b → length (lines true bytes) ≤ count_by is_lf bytes + 1
    at_most true e =
        let l : lines true bytes ≡ lines false bytes ++ open_line bytes ∷ [] = lines-ended bytes ∙ rw e refl in
        let n = ap length l ∙ length-append (lines false bytes) (open_line bytes ∷ []) in
        let m = length-lines bytes in
        omega (arith, n, m)
    at_most false e =
        let l : lines true bytes ≡ lines false bytes = lines-ended bytes ∙ rw e (append-nil (lines false bytes)) in
        let n = ap length l in
        let m = length-lines bytes in
        omega (arith, n, m)
no_lf_none false bytes good past =
    let r = lines-append true bytes [] in
    let s = line_faults-append LastEntry (lines false bytes) r.0 in
    let a : lines true bytes ≡ lines false bytes ++ r.0 = ap (lines true) (sym (append-nil bytes)) ∙ r.1 in
    let f : line_faults LastEntry (lines false bytes) ≡ [] = left_none (line_faults LastEntry (lines false bytes)) s.0 (sym s.1 ∙ ap (line_faults LastEntry) (sym a) ∙ none_wrong (lines true bytes) good) in
    rw (f, no_edits (lines false bytes) (no_lf_lacks bytes good past)) refl

both_none : (xs ys : List ℕ) → xs ++ ys ≡ [] → xs ≡ []
both_none [] ys h = refl
both_none (x ∷ xs) ys h = absurd cc

-- the sizes of a matrix that was read
sizes_are : (bytes : List ℕ) (t : Entries) → t ≡ entries_of (lines true bytes) → (t.rows ≡ (size_of (lines true bytes)).rows) × (t.cols ≡ (size_of (lines true bytes)).cols)
unfolding entries_of
sizes_are bytes t e = (ap (λ (x : Entries). x.rows) e, ap (λ (x : Entries). x.cols) e)

-- Where a matrix is read, the faults of its bytes with some of those that follow it are the faults of these as edit lines.
pub faults_behind : (ended : Bool) (front some more rest : List ℕ) (t : Entries) → Reads (front ++ rest) LastEntry t rest → some ++ more ≡ rest
    → edited_faults ended (lines ended (front ++ some)) ≡ edit_faults (count_by is_lf front) t.rows t.cols (lines ended some)
unfolding rest_of
faults_behind ended front some more rest t reads split = by (nat_lt (count_by is_lf (front ++ rest)) (matrix_end (lines true (front ++ rest)))) refl
  where
    by : (past : Bool) → nat_lt (count_by is_lf (front ++ rest)) (matrix_end (lines true (front ++ rest))) ≡ past → edited_faults ended (lines ended (front ++ some)) ≡ edit_faults (count_by is_lf front) t.rows t.cols (lines ended some)
    by true h =
        let lt : count_by is_lf (front ++ rest) < matrix_end (lines true (front ++ rest)) = ltb-true _ _ h in
        let none : rest ≡ [] = reads.follows ∙ behind-past (matrix_end (lines true (front ++ rest))) (front ++ rest) lt in
        let few : some ≡ [] = both_none some more (split ∙ none) in
        let same : front ++ some ≡ front ++ rest = ap (λ (t : List ℕ). front ++ t) (few ∙ sym none) in
        ap (λ (bytes : List ℕ). edited_faults ended (lines ended bytes)) same ∙ no_lf_none ended (front ++ rest) reads.good lt
        ∙ sym (ap (edit_faults (count_by is_lf front) t.rows t.cols) (ap (lines ended) few ∙ lines-none ended) ∙ edit_faults-none (count_by is_lf front) t.rows t.cols)
    by false h =
        let le : matrix_end (lines true (front ++ rest)) ≤ count_by is_lf (front ++ rest) = ltb-false _ _ h in
        let u = up_to (matrix_end (lines true (front ++ rest))) (front ++ rest) le in
        let same : front ≡ u.front = append_cancel_right front u.front rest (u.all ∙ ap (λ (t : List ℕ). u.front ++ t) (sym reads.follows)) in
        let here : matrix_end (lines true (front ++ rest)) ≡ count_by is_lf front = sym (ap (count_by is_lf) same ∙ u.lfs) in
        let z = sizes_are (front ++ rest) t reads.entries in
        rw (z.0, z.1) (behind_front ended front rest some (ap open_line same ∙ u.whole) here reads.good)

-- what follows a matrix that was read is the end of its bytes
pub read_front : (bytes rest : List ℕ) (t : Entries) → Reads bytes LastEntry t rest → (front : List ℕ) × (bytes ≡ front ++ rest)
unfolding rest_of
read_front bytes rest t h =
    let b = behind_is_end (matrix_end (lines true bytes)) bytes in
    (b.0, b.1 ∙ ap (λ (t : List ℕ). b.0 ++ t) (sym h.follows))
