-- One frame of a batch: its header, its file, and which kind applies to it.
use Rattle.std.proofs.Common.{◌≡◌, ◌≢◌, ℕ, ◌+◌, ◌<◌, ◌≤◌, Bool, true, false, ◌&&◌, ◌||◌, nat_le, nat_lt, List, [], ◌∷◌, ◌++◌, length, take, codes, refl, sym, ap, subst, ◌∙◌, arith, append_assoc, take-append-drop, length-append, length-drop, length-take-le, eqb-true, ltb-false, ltb-true, le-ltb, leb-false, Option, Some, None, inl, inr}
use Rattle.std.proofs.Math.Seq.{drop-append_seam, take-append_seam}
use Rattle.std.proofs.lemmas.Bool.{lt-leb}
use Rattle.std.proofs.lemmas.List.{drop-append-le, drop_all}
use Rattle.std.proofs.lemmas.Slice.Eq.{bytes_eq-Decides}
use Rattle.sp_ids.specs.Limits.{max_batch_files, max_batch_file_bytes}
use Rattle.mm_defs.specs.declared.kinds.Kind.{Kind}
use Rattle.mm_defs.specs.declared.kinds.Kind.TheVariants.{ShortFile}
use Rattle.mm_defs.specs.Words.{Word, is_lf, word, words}
use Rattle.mm_defs.specs.Numbers.{is_number}
use Rattle.mm_defs.specs.Faults.{first_kind}
use Rattle.mm_defs.specs.File.{behind}
use Rattle.mm_defs.proofs.AnswerLemmas.{and_left, and_right}
use Rattle.mm_defs.proofs.Rules.{first_none, first_some}
use Rattle.mm_frames.specs.Batches.{BeginsWith, HasFrame, behind_frame, behind_header, file_bytes, first_line, frame_kind, has_lf, header_rules, header_words, is_header}
use Rattle.mm_frames.specs.Frames.{IsGoodHeader}

-- ---- the first line

or_left : (a b : Bool) → (a || b) ≡ false → a ≡ false
or_left false b h = refl
or_left true b h = absurd cc

or_right : (a b : Bool) → (a || b) ≡ false → b ≡ false
or_right false b h = h
or_right true b h = absurd cc

pub first_line-lf : (line more : List ℕ) → has_lf line ≡ false → first_line (line ++ 10 ∷ more) ≡ line
first_line-lf [] more h = refl
first_line-lf (b ∷ line) more h =
    let e : is_lf b ≡ false = or_left (is_lf b) (has_lf line) h in
    rw e (ap (λ (t : List ℕ). b ∷ t) (first_line-lf line more (or_right (is_lf b) (has_lf line) h)))

pub behind-lf : (line more : List ℕ) → has_lf line ≡ false → behind 1 (line ++ 10 ∷ more) ≡ more
behind-lf [] more h = refl
behind-lf (b ∷ line) more h =
    let e : is_lf b ≡ false = or_left (is_lf b) (has_lf line) h in
    rw e (behind-lf line more (or_right (is_lf b) (has_lf line) h))

pub has_lf-lf : (line more : List ℕ) → has_lf (line ++ 10 ∷ more) ≡ true
has_lf-lf [] more = refl
has_lf-lf (b ∷ line) more = by (is_lf b) (has_lf-lf line more)
  where
    by : (x : Bool) → has_lf (line ++ 10 ∷ more) ≡ true → (x || has_lf (line ++ 10 ∷ more)) ≡ true
    by true h = refl
    by false h = h

pub first_line-all : (line : List ℕ) → has_lf line ≡ false → first_line line ≡ line
first_line-all [] h = refl
first_line-all (b ∷ line) h =
    let e : is_lf b ≡ false = or_left (is_lf b) (has_lf line) h in
    rw e (ap (λ (t : List ℕ). b ∷ t) (first_line-all line (or_right (is_lf b) (has_lf line) h)))

pub behind-all : (line : List ℕ) → has_lf line ≡ false → behind 1 line ≡ []
behind-all [] h = refl
behind-all (b ∷ line) h =
    let e : is_lf b ≡ false = or_left (is_lf b) (has_lf line) h in
    rw e (behind-all line (or_right (is_lf b) (has_lf line) h))

pub first_line-no_lf : (bytes : List ℕ) → has_lf (first_line bytes) ≡ false
first_line-no_lf [] = refl
first_line-no_lf (b ∷ bytes) = by (is_lf b) refl (first_line-no_lf bytes)
  where
    by : (x : Bool) → is_lf b ≡ x → has_lf (first_line bytes) ≡ false → has_lf (first_line (b ∷ bytes)) ≡ false
    by true e h = rw e refl
    by false e h = rw e (rw e h)

pub bytes_split : (bytes : List ℕ) → has_lf bytes ≡ true → bytes ≡ first_line bytes ++ 10 ∷ behind 1 bytes
bytes_split [] h = absurd cc
bytes_split (b ∷ bytes) h = by (is_lf b) refl (bytes_split bytes)
  where
    by : (x : Bool) → is_lf b ≡ x → (has_lf bytes ≡ true → bytes ≡ first_line bytes ++ 10 ∷ behind 1 bytes) → b ∷ bytes ≡ first_line (b ∷ bytes) ++ 10 ∷ behind 1 (b ∷ bytes)
    by true e ih = rw e (ap (λ (c : ℕ). c ∷ bytes) (eqb-true b 10 e))
    by false e ih =
        let t : has_lf bytes ≡ true = rw e at h in
        rw e (ap (λ (t : List ℕ). b ∷ t) (ih t))

length-behind_first : (b : ℕ) (bytes : List ℕ) → length (behind 1 bytes) ≤ length bytes → length (behind 1 (b ∷ bytes)) ≤ length bytes
length-behind_first b bytes h = by (is_lf b) refl
  where
    by : (x : Bool) → is_lf b ≡ x → length (behind 1 (b ∷ bytes)) ≤ length bytes
    by true e = rw e (omega arith)
    by false e = rw e h

length-behind_all : (bytes : List ℕ) → length (behind 1 bytes) ≤ length bytes
length-behind_all [] = omega arith
length-behind_all (b ∷ bytes) = let n = length-behind_first b bytes (length-behind_all bytes) in omega arith

pub length-behind : (b : ℕ) (bytes : List ℕ) → length (behind 1 (b ∷ bytes)) ≤ length bytes
length-behind b bytes = length-behind_first b bytes (length-behind_all bytes)

pub length-behind_frame : (b : ℕ) (bytes : List ℕ) → length (behind_frame (b ∷ bytes)) ≤ length bytes
length-behind_frame b bytes =
    let n = length-behind b bytes in
    let m = length-drop (file_bytes (header_words (b ∷ bytes))) (behind_header (b ∷ bytes)) in
    omega arith

-- ---- the words of a header

pub header_is : (ws : List Word) (w : Word) → ws ≡ codes "file" ∷ w ∷ [] → is_number w ≡ true → is_header ws ≡ true
header_is ws w e n = rw e (rw n refl)

two_words : (ws : List Word) → length ws ≡ 2 → ws ≡ word ws 0 ∷ word ws 1 ∷ []
two_words [] h = absurd cc
two_words (a ∷ []) h = absurd cc
two_words (a ∷ b ∷ []) h = refl
two_words (a ∷ b ∷ c ∷ ws) h = absurd (omega arith)

pub header_words-are : (ws : List Word) → is_header ws ≡ true → (ws ≡ codes "file" ∷ word ws 1 ∷ []) × (is_number (word ws 1) ≡ true)
header_words-are ws h =
    let a = and_left _ _ h in
    let n : length ws ≡ 2 = eqb-true (length ws) 2 (and_left _ _ a) in
    let f : word ws 0 ≡ codes "file" = (bytes_eq-Decides (word ws 0) (codes "file")).0 (and_right _ _ a) in
    (two_words ws n ∙ ap (λ (x : Word). x ∷ word ws 1 ∷ []) f, and_right _ _ h)

-- ---- kinds, in order

pub header_good : (before : ℕ) (ws : List Word) → is_header ws ≡ true → before < max_batch_files → file_bytes ws ≤ max_batch_file_bytes → first_kind (header_rules before ws) ≡ None
header_good before ws h few small =
    let a = lt-leb max_batch_files before few in
    let b = le-ltb max_batch_file_bytes (file_bytes ws) small in
    rw h (rw a (rw b refl))

-- what is known of a header to which no kind applies
pub record GoodWords (before : ℕ) (ws : List Word) : Type 0 where
  pub is : is_header ws ≡ true
  pub few : before < max_batch_files
  pub small : file_bytes ws ≤ max_batch_file_bytes

pub good_words : (before : ℕ) (ws : List Word) → first_kind (header_rules before ws) ≡ None → GoodWords before ws
good_words before ws h = by (is_header ws) (nat_le max_batch_files before) (nat_lt max_batch_file_bytes (file_bytes ws)) refl refl refl
  where
    by : (a b c : Bool) → is_header ws ≡ a → nat_le max_batch_files before ≡ b → nat_lt max_batch_file_bytes (file_bytes ws) ≡ c → GoodWords before ws
    by false b c e f g = let n = rw e at h in absurd cc
    by true true c e f g = let n = rw (e, f) at h in absurd cc
    by true false true e f g = let n = rw (e, f, g) at h in absurd cc
    by true false false e f g = record { is = e; few = leb-false max_batch_files before f; small = ltb-false max_batch_file_bytes (file_bytes ws) g }

-- ---- a frame

-- the header of the frame has ended or it has not, and no kind applies
pub frame_good : (ended : Bool) (before : ℕ) (bytes : List ℕ) → first_kind (header_rules before (header_words bytes)) ≡ None
    → (ended ≡ true → file_bytes (header_words bytes) ≤ length (behind_header bytes)) → frame_kind ended before bytes ≡ None
frame_good ended before bytes good long = by (ended || has_lf bytes) refl
  where
    short : (e : Bool) → (e ≡ true → file_bytes (header_words bytes) ≤ length (behind_header bytes)) → (e && nat_lt (length (behind_header bytes)) (file_bytes (header_words bytes))) ≡ false
    short false l = refl
    short true l = le-ltb (length (behind_header bytes)) (file_bytes (header_words bytes)) (l refl)

    by : (x : Bool) → (ended || has_lf bytes) ≡ x → frame_kind ended before bytes ≡ None
    by false e = rw e refl
    by true e =
        let s = short ended long in
        rw e (first_none (header_rules before (header_words bytes)) ((ShortFile, ended && nat_lt (length (behind_header bytes)) (file_bytes (header_words bytes))) ∷ []) good ∙ rw s refl)

no_words : (w : Word) → words [] ≡ codes "file" ∷ w ∷ [] → ⊥
unfolding words
no_words w e = absurd cc

-- what the first line and what follows it are, where a frame is first
module _ (bytes file rest : List ℕ) (h : HasFrame bytes file rest) where
  first_is : first_line bytes ≡ h.line
  first_is = by h.begins
    where
      by : BeginsWith bytes h.line file rest → first_line bytes ≡ h.line
      by (inl e) = rw e (first_line-lf h.line (file ++ rest) h.header.one_line)
      by (inr e) = rw e.0 (first_line-all h.line h.header.one_line)

  pub words-are : header_words bytes ≡ codes "file" ∷ h.header.word ∷ []
  words-are = ap words first_is ∙ h.header.words_are

  pub bytes-are : file_bytes (header_words bytes) ≡ length file
  bytes-are = rw words-are h.header.bytes_are

  pub behind-is : behind_header bytes ≡ file ++ rest
  behind-is = by h.begins
    where
      by : BeginsWith bytes h.line file rest → behind_header bytes ≡ file ++ rest
      by (inl e) = rw e (behind-lf h.line (file ++ rest) h.header.one_line)
      by (inr e) = rw (e.0, e.1, e.2) (behind-all h.line h.header.one_line)

  pub rest-is : behind_frame bytes ≡ rest
  rest-is = rw (bytes-are, behind-is) (drop-append_seam file rest)

  pub file-is : take (file_bytes (header_words bytes)) (behind_header bytes) ≡ file
  file-is = rw (bytes-are, behind-is) (take-append_seam file rest)

  pub some_bytes : bytes ≢ []
  some_bytes none =
      let e : words [] ≡ codes "file" ∷ h.header.word ∷ [] = subst (λ (t : List ℕ). header_words t ≡ codes "file" ∷ h.header.word ∷ []) none words-are in
      no_words h.header.word e

  pub frame_has_no_kind : (ended : Bool) (before : ℕ) → before < max_batch_files → frame_kind ended before bytes ≡ None
  frame_has_no_kind ended before few =
      let n = length-append file rest in
      let s : file_bytes (header_words bytes) ≤ max_batch_file_bytes = rw bytes-are h.small in
      frame_good ended before bytes (header_good before (header_words bytes) (header_is (header_words bytes) h.header.word words-are h.header.numeric) few s) (λ e. rw (bytes-are, behind-is) (omega arith))

no_length : (xs : List ℕ) → length xs ≡ 0 → xs ≡ []
no_length [] z = refl
no_length (x ∷ xs) z = absurd (omega arith)

-- a frame to which no kind applies, where the input ended behind it
module _ (before : ℕ) (bytes : List ℕ) (none : frame_kind true before bytes ≡ None) where
  header_good_here : first_kind (header_rules before (header_words bytes)) ≡ None
  header_good_here = by (first_kind (header_rules before (header_words bytes))) refl
    where
      by : (o : Option Kind) → first_kind (header_rules before (header_words bytes)) ≡ o → first_kind (header_rules before (header_words bytes)) ≡ None
      by None e = e
      by (Some k) e = let n = first_some (header_rules before (header_words bytes)) ((ShortFile, nat_lt (length (behind_header bytes)) (file_bytes (header_words bytes))) ∷ []) k e in absurd cc

  long_enough : file_bytes (header_words bytes) ≤ length (behind_header bytes)
  long_enough = by (nat_lt (length (behind_header bytes)) (file_bytes (header_words bytes))) refl
    where
      by : (x : Bool) → nat_lt (length (behind_header bytes)) (file_bytes (header_words bytes)) ≡ x → file_bytes (header_words bytes) ≤ length (behind_header bytes)
      by false e = ltb-false (length (behind_header bytes)) (file_bytes (header_words bytes)) e
      by true e =
          let k = first_none (header_rules before (header_words bytes)) ((ShortFile, nat_lt (length (behind_header bytes)) (file_bytes (header_words bytes))) ∷ []) header_good_here in
          let n : first_kind ((ShortFile, nat_lt (length (behind_header bytes)) (file_bytes (header_words bytes))) ∷ []) ≡ None = sym k ∙ none in
          let m = rw e at n in
          absurd cc

  abbrev pub first_file : List ℕ
  first_file = take (file_bytes (header_words bytes)) (behind_header bytes)

  length-first_file : length first_file ≡ file_bytes (header_words bytes)
  length-first_file = length-take-le (file_bytes (header_words bytes)) (behind_header bytes) long_enough

  pub few_before : before < max_batch_files
  few_before = (good_words before (header_words bytes) header_good_here).few

  pub frame_is : HasFrame bytes first_file (behind_frame bytes)
  frame_is =
      let g = good_words before (header_words bytes) header_good_here in
      let w = header_words-are (header_words bytes) g.is in
      record {
        line = first_line bytes;
        header = record {
          one_line = first_line-no_lf bytes;
          word = word (header_words bytes) 1;
          words_are = w.0;
          numeric = w.1;
          bytes_are = sym length-first_file;
        };
        begins = by (has_lf bytes) refl;
        small = let n = length-first_file in rw n g.small;
      }
    where
      all : first_file ++ behind_frame bytes ≡ behind_header bytes
      all = take-append-drop (file_bytes (header_words bytes)) (behind_header bytes)

      by : (x : Bool) → has_lf bytes ≡ x → BeginsWith bytes (first_line bytes) first_file (behind_frame bytes)
      by true e = inl (bytes_split bytes e ∙ ap (λ (t : List ℕ). first_line bytes ++ 10 ∷ t) (sym all))
      by false e =
          let b : behind_header bytes ≡ [] = behind-all bytes e in
          let n : length first_file + length (behind_frame bytes) ≡ 0 = sym (length-append first_file (behind_frame bytes)) ∙ ap length (all ∙ b) in
          inr (sym (first_line-all bytes e), no_length first_file (omega arith), no_length (behind_frame bytes) (omega arith))

-- ---- bytes with an LF, and more behind them

module _ (bytes more : List ℕ) (lf : has_lf bytes ≡ true) where
  more_split : bytes ++ more ≡ first_line bytes ++ 10 ∷ (behind 1 bytes ++ more)
  more_split = ap (λ (t : List ℕ). t ++ more) (bytes_split bytes lf) ∙ append_assoc (first_line bytes) (10 ∷ behind 1 bytes) more

  pub has_lf-more : has_lf (bytes ++ more) ≡ true
  has_lf-more = ap has_lf more_split ∙ has_lf-lf (first_line bytes) (behind 1 bytes ++ more)

  pub header_words-more : header_words (bytes ++ more) ≡ header_words bytes
  header_words-more = ap words (ap first_line more_split ∙ first_line-lf (first_line bytes) (behind 1 bytes ++ more) (first_line-no_lf bytes))

  pub behind-more : behind_header (bytes ++ more) ≡ behind_header bytes ++ more
  behind-more = ap (behind 1) more_split ∙ behind-lf (first_line bytes) (behind 1 bytes ++ more) (first_line-no_lf bytes)

-- a frame to which no kind applies yet, and bytes behind it
module _ (before : ℕ) (bytes more : List ℕ) (none : frame_kind false before bytes ≡ None) (some : behind_frame bytes ≢ []) where
  has_lf-here : has_lf bytes ≡ true
  has_lf-here = by (has_lf bytes) refl
    where
      by : (x : Bool) → has_lf bytes ≡ x → has_lf bytes ≡ true
      by true e = e
      by false e = absurd (some (rw (behind-all bytes e) (drop_all (file_bytes (header_words bytes)) [] (omega arith))))

  file_within : file_bytes (header_words bytes) ≤ length (behind_header bytes)
  file_within = by (nat_lt (length (behind_header bytes)) (file_bytes (header_words bytes))) refl
    where
      by : (x : Bool) → nat_lt (length (behind_header bytes)) (file_bytes (header_words bytes)) ≡ x → file_bytes (header_words bytes) ≤ length (behind_header bytes)
      by false e = ltb-false (length (behind_header bytes)) (file_bytes (header_words bytes)) e
      by true e =
          let l = ltb-true (length (behind_header bytes)) (file_bytes (header_words bytes)) e in
          absurd (some (drop_all (file_bytes (header_words bytes)) (behind_header bytes) (omega arith)))

  header_none : first_kind (header_rules before (header_words bytes)) ≡ None
  header_none = by (first_kind (header_rules before (header_words bytes))) refl
    where
      by : (o : Option Kind) → first_kind (header_rules before (header_words bytes)) ≡ o → first_kind (header_rules before (header_words bytes)) ≡ None
      by None e = e
      by (Some k) e =
          let f = first_some (header_rules before (header_words bytes)) ((ShortFile, false) ∷ []) k e in
          let lf = has_lf-here in
          let n = rw lf at none in
          absurd cc

  pub behind_frame-more : behind_frame (bytes ++ more) ≡ behind_frame bytes ++ more
  behind_frame-more =
      let lf = has_lf-here in
      let w = header_words-more bytes more lf in
      let b = behind-more bytes more lf in
      rw (w, b) (drop-append-le (file_bytes (header_words bytes)) (behind_header bytes) more file_within)

  pub none_more : (ended : Bool) → frame_kind ended before (bytes ++ more) ≡ None
  none_more ended =
      let lf = has_lf-here in
      let w = header_words-more bytes more lf in
      let b = behind-more bytes more lf in
      let n = length-append (behind_header bytes) more in
      let f = file_within in
      frame_good ended before (bytes ++ more) (rw w header_none) (λ e. rw (w, b) (omega arith))

-- ---- a good header, and a file behind it

module _ (before : ℕ) (line : List ℕ) (n : ℕ) (h : IsGoodHeader before line n) where
  pub few_here : before < max_batch_files
  few_here = (good_words before (words line) h.good).few

  frame_from : (file rest bytes : List ℕ) → length file ≡ n → BeginsWith bytes line file rest → HasFrame bytes file rest
  frame_from file rest bytes e begins =
      let g = good_words before (words line) h.good in
      let w = header_words-are (words line) g.is in
      let b : file_bytes (words line) ≡ length file = sym h.bytes_are ∙ sym e in
      record {
        line = line;
        header = record { one_line = h.one_line; word = word (words line) 1; words_are = w.0; numeric = w.1; bytes_are = b };
        begins = begins;
        small = rw (← b) g.small;
      }

  pub frame_here : (file rest : List ℕ) → length file ≡ n → HasFrame (line ++ 10 ∷ (file ++ rest)) file rest
  frame_here file rest e = frame_from file rest (line ++ 10 ∷ (file ++ rest)) e (inl refl)

  pub last_frame : n ≡ 0 → HasFrame line [] []
  last_frame zero_bytes = frame_from [] [] line (sym zero_bytes) (inr (refl, refl, refl))
