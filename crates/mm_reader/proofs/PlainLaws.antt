-- Runs of bytes, and entry lines of the usual form.
use Rattle.std.proofs.Common.{◌≡◌, ◌≢◌, ℕ, ◌+◌, ◌-◌, ◌*◌, ◌<◌, ◌≤◌, Bool, true, false, not, ◌&&◌, ◌==◌, List, [], ◌∷◌, ◌++◌, length, take, drop, get_or, refl, sym, ap, ◌∙◌, arith, append-nil, append_assoc, length-drop, take-append-drop, drop-drop, get_or-drop, take-add, filter, length-take, length-take-le, leb-true, eqb-true, eq-eqb, ne_eqb, ◌^◌, Some, Result}
use Rattle.std.specs.List.{list_all}
use Rattle.std.specs.Char.{is_ascii_digit}
use Rattle.std.specs.Str.{all_ascii_digits}
use Rattle.std.proofs.lemmas.List.{take_more}
use Rattle.std.proofs.lemmas.List.Folds.{list_all-append}
use Rattle.std.proofs.lemmas.Int.Digits.{digits_value_push}
use Rattle.std.proofs.lemmas.Str.Parse.{digits_value_short, numerals_by_value, tells_all_ascii_digits}
use Rattle.std.specs.List.{slice_split}
use Rattle.sp_ids.specs.declared.triples.Field.{Field}
use Rattle.mm_defs.specs.declared.header.Header.{Header}
use Rattle.mm_defs.specs.declared.header.Size.{Size}
use Rattle.mm_defs.specs.declared.kinds.Kind.{Kind}
use Rattle.mm_defs.specs.Header.{value_words, is_integer_field}
use Rattle.mm_defs.specs.Faults.{place_rules, coordinate_rules}
use Rattle.mm_defs.specs.File.{triple, triple_at}
use Rattle.mm_defs.specs.Words.{Word, is_lf, is_blank, has_bytes, word, words, lines, open_line, but_last, last_part, is_skipped}
use Rattle.mm_defs.proofs.AnswerLemmas.{and_left, and_right}
use Rattle.mm_defs.proofs.SplitLemmas.{split-append, but_last-append, last_part-append}
use Rattle.mm_defs.proofs.Lines.{lines-push_lf, open_line-push_lf}
use Rattle.mm_defs.specs.Numbers.{value, unsigned, is_number, number}
use Rattle.mm_reader.specs.declared.judge.Entry.{Entry}
use Rattle.mm_lines.specs.declared.number.Integer.{Integer}
use Rattle.mm_reader.specs.declared.plain.PlainLine.{PlainLine}
use Rattle.mm_reader.specs.Judged.{JudgedEntry}
use Rattle.mm_lines.specs.Tokens.{capped, ReadsInteger}
use Rattle.mm_reader.specs.Plain.{between, is_inner, is_visible, stands_apart, IsRun, IsDigits, IsNextLine, HasValues, IsUsual, IsWholeLine, SaysEntry}
use Rattle.mm_reader.proofs.Judges.{entry_judged}
use Rattle.mm_defs.proofs.WordLemmas.{words-none, words-blank, all_ascii_digits-push, digit_at}

pub between-none : (bytes : List ℕ) (from : ℕ) → between bytes from from ≡ []
between-none bytes from = let e : from - from ≡ 0 = omega arith in rw e refl

pub between-push : (bytes : List ℕ) (from at : ℕ) → from ≤ at → at < length bytes → between bytes from (at + 1) ≡ between bytes from at ++ get_or bytes at 0 ∷ []
between-push bytes from at h low =
    let e : (at + 1) - from ≡ (at - from) + 1 = omega arith in
    let n = length-drop from bytes in
    let k : at - from < length (drop from bytes) = omega arith in
    let g : get_or (drop from bytes) (at - from) 0 ≡ get_or bytes at 0 = get_or-drop from bytes (at - from) 0 ∙ ap (λ i. get_or bytes i 0) (omega arith) in
    ap (λ i. take i (drop from bytes)) e ∙ take_more (drop from bytes) (at - from) 0 k ∙ ap (λ b. between bytes from at ++ b ∷ []) g

both : (a b : Bool) → a ≡ true → b ≡ true → (a && (b && true)) ≡ true
both true true x y = refl
both true false x y = absurd cc
both false b x y = absurd cc

pub run_more : (sort : ℕ → Bool) (bytes : List ℕ) (from at : ℕ) → IsRun sort bytes from at → at < length bytes → sort (get_or bytes at 0) ≡ true → IsRun sort bytes from (at + 1)
run_more sort bytes from at r low yes_it_is =
    let e = between-push bytes from at r.in_order low in
    let k = list_all-append sort (between bytes from at) (get_or bytes at 0 ∷ []) in
    record {
      in_order = omega (arith, r.in_order);
      within = omega arith;
      all = rw (e, k) (both (list_all sort (between bytes from at)) (sort (get_or bytes at 0)) r.all yes_it_is);
    }

pub both_of : (a b : Bool) → a ≡ true → b ≡ true → (a && b) ≡ true
both_of true true x y = refl
both_of true false x y = absurd cc
both_of false b x y = absurd cc

-- so few digits are a small number
pub few_digits : (bytes : List ℕ) (from at n : ℕ) → IsDigits bytes from at n → at < from + 18 → n < 100000000000000000
few_digits bytes from at n d few =
    let l : length (between bytes from at) ≤ 17 = rw (length-take (at - from) (drop from bytes)) (omega arith) in
    let k : value (between bytes from at) < 10 ^ 17 = digits_value_short (numerals_by_value (λ (ds : List ℕ). all_ascii_digits ds ≡ true) tells_all_ascii_digits) (between bytes from at) 17 d.all l in
    omega (arith, d.value_is)

pub digits_more : (bytes : List ℕ) (from at n : ℕ) → IsDigits bytes from at n → at < length bytes → at < from + 18 → is_ascii_digit (get_or bytes at 0) ≡ true
    → IsDigits bytes from (at + 1) (n * 10 + (get_or bytes at 0 - 48))
digits_more bytes from at n d low few yes_it_is =
    let small = few_digits bytes from at n d few in
    let high : get_or bytes at 0 ≤ 57 = leb-true _ _ (and_right _ _ yes_it_is) in
    let e = between-push bytes from at d.in_order low in
    let k = all_ascii_digits-push (between bytes from at) (get_or bytes at 0) in
    let v : value (between bytes from at ++ get_or bytes at 0 ∷ []) ≡ value (between bytes from at) * 10 + (get_or bytes at 0 - 48) =
    digits_value_push 10 (between bytes from at) (get_or bytes at 0) ∙ rw (digit_at (get_or bytes at 0) yes_it_is) refl in
    record {
      in_order = omega (arith, d.in_order);
      within = omega arith;
      all = rw (e, k) (both_of (all_ascii_digits (between bytes from at)) (is_ascii_digit (get_or bytes at 0)) d.all yes_it_is);
      value_is = rw (e, v) (ap (λ x. x * 10 + (get_or bytes at 0 - 48)) d.value_is);
      small = omega arith;
    }

-- ---- bytes by their sorts

pub between_join : (bytes : List ℕ) (from mid to : ℕ) → from ≤ mid → mid ≤ to → between bytes from to ≡ between bytes from mid ++ between bytes mid to
between_join bytes from mid to h k =
    let e : to - from ≡ (mid - from) + (to - mid) = omega arith in
    let m : from + (mid - from) ≡ mid = omega arith in
    ap (λ i. take i (drop from bytes)) e ∙ take-add (mid - from) (to - mid) (drop from bytes)
    ∙ ap (λ (t : List ℕ). between bytes from mid ++ take (to - mid) t) (drop-drop (mid - from) from bytes ∙ ap (λ i. drop i bytes) m)

pub split_at : (bytes : List ℕ) (from to : ℕ) → from ≤ to → drop from bytes ≡ between bytes from to ++ drop to bytes
split_at bytes from to h =
    let e : from + (to - from) ≡ to = omega arith in
    sym (take-append-drop (to - from) (drop from bytes)) ∙ ap (λ (t : List ℕ). between bytes from to ++ t) (drop-drop (to - from) from bytes ∙ ap (λ k. drop k bytes) e)

no_bytes : (bytes : List ℕ) (from to : ℕ) → from ≤ to → to ≤ length bytes → between bytes from to ≡ [] → from ≡ to
no_bytes bytes from to h k e =
    let n : length (between bytes from to) ≡ 0 = ap length e in
    let d = length-drop from bytes in
    let m : to - from ≤ length (drop from bytes) = omega arith in
    let l = length-take-le (to - from) (drop from bytes) m in
    omega arith

pub weaker : (p q : ℕ → Bool) → ((b : ℕ) → p b ≡ true → q b ≡ true) → (xs : List ℕ) → list_all p xs ≡ true → list_all q xs ≡ true
weaker p q f [] h = refl
weaker p q f (x ∷ xs) h = both_of (q x) (list_all q xs) (f x (and_left (p x) (list_all p xs) h)) (weaker p q f xs (and_right (p x) (list_all p xs) h))

pub all_append : (p : ℕ → Bool) (xs ys : List ℕ) → list_all p xs ≡ true → list_all p ys ≡ true → list_all p (xs ++ ys) ≡ true
all_append p xs ys a b = list_all-append p xs ys ∙ both_of (list_all p xs) (list_all p ys) a b

digit_visible : (b : ℕ) → is_ascii_digit b ≡ true → is_visible b ≡ true
digit_visible b h =
    let low : 48 ≤ b = leb-true _ _ (and_left _ _ h) in
    rw (ne_eqb b 10 (omega arith), ne_eqb b 32 (omega arith), ne_eqb b 9 (omega arith), ne_eqb b 13 (omega arith)) refl

pub digits_visible : (xs : List ℕ) → all_ascii_digits xs ≡ true → list_all is_visible xs ≡ true
digits_visible [] h = refl
digits_visible (x ∷ xs) h = both_of (is_visible x) (list_all is_visible xs) (digit_visible x (and_left _ _ h)) (digits_visible xs (and_right _ _ h))

not_true : (a : Bool) → not a ≡ true → a ≡ false
not_true true h = absurd cc
not_true false h = refl

pub visible_inner : (b : ℕ) → is_visible b ≡ true → is_inner b ≡ true
visible_inner b h = and_left (not (is_lf b)) (not (is_blank b)) h

pub blank_inner : (b : ℕ) → is_blank b ≡ true → is_inner b ≡ true
blank_inner b h = by (is_lf b) refl
  where
    by : (e : Bool) → is_lf b ≡ e → is_inner b ≡ true
    by false e = rw e refl
    by true e = let k : b ≡ 10 = eqb-true b 10 e in let n : is_blank 10 ≡ true = rw k at h in absurd cc

-- ---- words from the start

words-skip : (b : ℕ) (rest : List ℕ) → is_blank b ≡ true → words (b ∷ rest) ≡ words rest
unfolding words
words-skip b rest e = rw e refl

words-skip_all : (blanks rest : List ℕ) → list_all is_blank blanks ≡ true → words (blanks ++ rest) ≡ words rest
words-skip_all [] rest h = refl
words-skip_all (b ∷ blanks) rest h = words-skip b (blanks ++ rest) (and_left _ _ h) ∙ words-skip_all blanks rest (and_right _ _ h)

split_none : (p : ℕ → Bool) (xs : List ℕ) → list_all (λ b. not (p b)) xs ≡ true → slice_split p xs ≡ xs ∷ []
split_none p [] h = refl
split_none p (x ∷ xs) h =
    let e : p x ≡ false = not_true (p x) (and_left _ _ h) in
    let k = split_none p xs (and_right _ _ h) in
    rw (e, k) refl

split_first : (p : ℕ → Bool) (xs : List ℕ) (y : ℕ) (ys : List ℕ) → list_all (λ b. not (p b)) xs ≡ true → p y ≡ true → slice_split p (xs ++ y ∷ ys) ≡ xs ∷ slice_split p ys
split_first p [] y ys h e = rw e refl
split_first p (x ∷ xs) y ys h e =
    let f : p x ≡ false = not_true (p x) (and_left _ _ h) in
    let k = split_first p xs y ys (and_right _ _ h) e in
    rw (f, k) refl

no_blank_of : (b : ℕ) → is_visible b ≡ true → not (is_blank b) ≡ true
no_blank_of b h = and_right (not (is_lf b)) (not (is_blank b)) h

words-first : (a : ℕ) (w : List ℕ) (b : ℕ) (rest : List ℕ) → list_all is_visible (a ∷ w) ≡ true → is_blank b ≡ true → words ((a ∷ w) ++ b ∷ rest) ≡ (a ∷ w) ∷ words rest
unfolding words
words-first a w b rest h e = ap (filter has_bytes) (split_first is_blank (a ∷ w) b rest (weaker is_visible (λ x. not (is_blank x)) no_blank_of (a ∷ w) h) e)

words-only : (a : ℕ) (w : List ℕ) → list_all is_visible (a ∷ w) ≡ true → words (a ∷ w) ≡ (a ∷ w) ∷ []
unfolding words
words-only a w h = ap (filter has_bytes) (split_none is_blank (a ∷ w) (weaker is_visible (λ x. not (is_blank x)) no_blank_of (a ∷ w) h))

-- a word, and what stands apart from it
words-word : (w rest : List ℕ) → has_bytes w ≡ true → list_all is_visible w ≡ true → stands_apart rest ≡ true → words (w ++ rest) ≡ w ∷ words rest
words-word [] rest s v h = absurd cc
words-word (a ∷ w) [] s v h = ap words (append-nil (a ∷ w)) ∙ words-only a w v ∙ ap (λ (t : List (List ℕ)). (a ∷ w) ∷ t) (sym words-none)
words-word (a ∷ w) (b ∷ rest) s v h = words-first a w b rest v h ∙ ap (λ (t : List (List ℕ)). (a ∷ w) ∷ t) (sym (words-skip b rest h))

-- blanks, a word, and what stands apart from it
pub words-next : (blanks w rest : List ℕ) → list_all is_blank blanks ≡ true → has_bytes w ≡ true → list_all is_visible w ≡ true → stands_apart rest ≡ true
    → words (blanks ++ (w ++ rest)) ≡ w ∷ words rest
words-next blanks w rest k s v h = words-skip_all blanks (w ++ rest) k ∙ words-word w rest s v h

-- blanks alone
pub words-only_blanks : (blanks : List ℕ) → list_all is_blank blanks ≡ true → words blanks ≡ []
words-only_blanks blanks h = ap words (sym (append-nil blanks)) ∙ words-skip_all blanks [] h ∙ words-none

-- blanks at the end
words-blanks : (line blanks : List ℕ) → list_all is_blank blanks ≡ true → words (line ++ blanks) ≡ words line
words-blanks line [] h = ap words (append-nil line)
words-blanks line (b ∷ blanks) h =
    ap words (sym (append_assoc line (b ∷ []) blanks)) ∙ words-blanks (line ++ b ∷ []) blanks (and_right _ _ h) ∙ words-blank line b (and_left _ _ h)

pub blanks_apart : (blanks rest : List ℕ) → has_bytes blanks ≡ true → list_all is_blank blanks ≡ true → stands_apart (blanks ++ rest) ≡ true
blanks_apart [] rest s h = absurd cc
blanks_apart (b ∷ blanks) rest s h = and_left _ _ h

pub apart_blanks : (xs blanks : List ℕ) → stands_apart xs ≡ true → list_all is_blank blanks ≡ true → stands_apart (xs ++ blanks) ≡ true
apart_blanks [] [] h k = refl
apart_blanks [] (b ∷ blanks) h k = and_left _ _ k
apart_blanks (x ∷ xs) blanks h k = h

-- the words of a whole line: two, and those behind them
line_words : (w1 b1 w2 vs b2 : List ℕ) → has_bytes w1 ≡ true → has_bytes b1 ≡ true → has_bytes w2 ≡ true
    → list_all is_visible w1 ≡ true → list_all is_blank b1 ≡ true → list_all is_visible w2 ≡ true → stands_apart vs ≡ true → list_all is_blank b2 ≡ true
    → words (w1 ++ (b1 ++ (w2 ++ (vs ++ b2)))) ≡ w1 ∷ w2 ∷ words vs
line_words w1 b1 w2 vs b2 h1 h2 h3 v1 v2 v3 apart v4 =
    words-word w1 (b1 ++ (w2 ++ (vs ++ b2))) h1 v1 (blanks_apart b1 (w2 ++ (vs ++ b2)) h2 v2)
    ∙ ap (λ (t : List (List ℕ)). w1 ∷ t) (words-next b1 w2 (vs ++ b2) v2 h3 v3 (apart_blanks vs b2 apart v4))
    ∙ ap (λ (t : List (List ℕ)). w1 ∷ w2 ∷ t) (words-blanks vs b2 v4)

-- digits are a number without a sign
unsigned_digits : (w : List ℕ) → all_ascii_digits w ≡ true → unsigned w ≡ w
unsigned_digits [] h = refl
unsigned_digits (b ∷ w) h =
    let low : 48 ≤ b = leb-true _ _ (and_left _ _ (and_left _ _ h)) in
    rw (ne_eqb b 43 (omega arith)) refl

digits_number : (w : List ℕ) → has_bytes w ≡ true → all_ascii_digits w ≡ true → is_number w ≡ true
digits_number w s h = rw (unsigned_digits w h) (both_of (has_bytes w) (all_ascii_digits w) s h)

digits_value_is : (w : List ℕ) (n : ℕ) → all_ascii_digits w ≡ true → n ≡ value w → n < 2 ^ 63 → n ≡ capped (number w)
digits_value_is w n h e small = let u = unsigned_digits w h in let k : n ≡ number w = e ∙ sym (ap value u) in omega arith

pub some_bytes : (bytes : List ℕ) (from to : ℕ) → from ≤ to → to ≤ length bytes → to ≢ from → has_bytes (between bytes from to) ≡ true
some_bytes bytes from to h k ne = by (between bytes from to) refl
  where
    by : (xs : List ℕ) → between bytes from to ≡ xs → has_bytes xs ≡ true
    by [] e = absurd (ne (sym (no_bytes bytes from to h k e)))
    by (x ∷ xs) e = refl

-- bytes without an LF, and the LF behind them
pub whole_found : (bytes : List ℕ) (from end next : ℕ) (line : List ℕ) → from ≤ end → end < length bytes → next ≡ end + 1 → get_or bytes end 0 ≡ 10
    → between bytes from end ≡ line → list_all is_inner line ≡ true → IsWholeLine bytes from next line
whole_found bytes from end next line ordered within to_is lf_is whole inner = record {
  in_order = omega arith;
  within = omega arith;
  line_is = ap (between bytes from) to_is ∙ between-push bytes from end ordered within
      ∙ ap (λ (t : List ℕ). t ++ get_or bytes end 0 ∷ []) whole ∙ ap (λ b. line ++ b ∷ []) lf_is;
  no_lf = split_none is_lf line inner;
}

-- the line that was found
pub plain_found : (f : Field) (bytes : List ℕ) (from e1 s2 e2 e3 next row col : ℕ) (value : Integer) → IsDigits bytes from e1 row → e1 ≢ from
    → IsRun is_blank bytes e1 s2 → s2 ≢ e1 → IsDigits bytes s2 e2 col → e2 ≢ s2 → HasValues f bytes e2 e3 value → IsNextLine bytes e3 next
    → IsUsual (SaysEntry f (record { row = row; col = col; value = value; next = next })) bytes from next
plain_found f bytes from e1 s2 e2 e3 next row col value d1 n1 r1 n2 d2 n3 v n =
    let end = n.end in
    let r2 = n.blanks_are in
    let w1 : List ℕ = between bytes from e1 in
    let b1 : List ℕ = between bytes e1 s2 in
    let w2 : List ℕ = between bytes s2 e2 in
    let vs : List ℕ = between bytes e2 e3 in
    let b2 : List ℕ = between bytes e3 end in
    let h1 = some_bytes bytes from e1 d1.in_order d1.within n1 in
    let h2 = some_bytes bytes e1 s2 r1.in_order r1.within n2 in
    let h3 = some_bytes bytes s2 e2 d2.in_order d2.within n3 in
    let v1 = digits_visible w1 d1.all in
    let v3 = digits_visible w2 d2.all in
    let line : List ℕ = w1 ++ (b1 ++ (w2 ++ (vs ++ b2))) in
    let all_line : list_all is_inner line ≡ true =
    all_append is_inner w1 (b1 ++ (w2 ++ (vs ++ b2))) (weaker is_visible is_inner visible_inner w1 v1)
    (all_append is_inner b1 (w2 ++ (vs ++ b2)) (weaker is_blank is_inner blank_inner b1 r1.all)
    (all_append is_inner w2 (vs ++ b2) (weaker is_visible is_inner visible_inner w2 v3)
    (all_append is_inner vs b2 v.inner (weaker is_blank is_inner blank_inner b2 r2.all)))) in
    let behind_second : s2 ≤ end = omega (arith, d2.in_order, v.in_order, r2.in_order) in
    let behind_first : e1 ≤ end = omega (arith, r1.in_order) in
    let ordered : from ≤ end = omega (arith, d1.in_order) in
    let whole : between bytes from end ≡ line =
    between_join bytes from e1 end d1.in_order behind_first ∙ ap (λ (t : List ℕ). w1 ++ t)
    (between_join bytes e1 s2 end r1.in_order behind_second ∙ ap (λ (t : List ℕ). b1 ++ t)
    (between_join bytes s2 e2 end d2.in_order (omega (arith, v.in_order, r2.in_order)) ∙ ap (λ (t : List ℕ). w2 ++ t)
    (between_join bytes e2 e3 end v.in_order r2.in_order))) in
    record {
      line = line;
      whole = whole_found bytes from end next line ordered n.within n.to_is n.lf_is whole all_line;
      says = record {
        first = w1;
        second = w2;
        values = words vs;
        words_are = line_words w1 b1 w2 vs b2 h1 h2 h3 v1 r1.all v3 v.apart r2.all;
        count = v.count;
        first_is = digits_number w1 h1 d1.all;
        second_is = digits_number w2 h3 d2.all;
        row_is = digits_value_is w1 row d1.all d1.value_is d1.small;
        col_is = digits_value_is w2 col d2.all d2.value_is d2.small;
        reads = v.reads;
      };
    }

-- ---- what an entry line of the usual form does

number_first : (b : ℕ) (bs : List ℕ) (c : Bool) → (b == 37) ≡ c → is_number (b ∷ bs) ≡ true → c ≡ false
number_first b bs false e h = refl
number_first b bs true e h =
    let k : b ≡ 37 = eqb-true b 37 e in
    let n : is_number (37 ∷ bs) ≡ true = rw k at h in
    absurd cc

pub number_kept : (w : List ℕ) (ws : List (List ℕ)) → is_number w ≡ true → is_skipped (w ∷ ws) ≡ false
number_kept [] ws h = absurd cc
number_kept (b ∷ bs) ws h = number_first b bs (b == 37) refl h

plain_count : (f : Field) (a b : List ℕ) (vs : List (List ℕ)) → length vs ≡ value_words f → (length (a ∷ b ∷ vs) == 2 + value_words f) ≡ true
plain_count f a b vs h = eq-eqb (length (a ∷ b ∷ vs)) (2 + value_words f) (omega arith)

module _ (h : Header) (l : PlainLine) (line : List ℕ) (p : SaysEntry h.field l line) where
  pub plain_kept : is_skipped (words line) ≡ false
  plain_kept = ap is_skipped p.words_are ∙ number_kept p.first (p.second ∷ p.values) p.first_is

  -- what is judged of its place and value is judged of the line
  pub plain_judged : (s : Size) (r : Result Entry Kind)
      → ((i j : ℕ) (w : Word) → l.row ≡ capped i → l.col ≡ capped j → (is_integer_field h.field ≡ true → ReadsInteger w (Some l.value))
      → JudgedEntry (place_rules h s i j w) (triple_at h.field i j w) r)
      → JudgedEntry (coordinate_rules h s (words line)) (triple h (words line)) r
  plain_judged s r judged =
      let ws : List Word = words line in
      let w0 : word ws 0 ≡ p.first = ap (λ (t : List Word). word t 0) p.words_are in
      let w1 : word ws 1 ≡ p.second = ap (λ (t : List Word). word t 1) p.words_are in
      let w2 : word ws 2 ≡ word p.values 0 = ap (λ (t : List Word). word t 2) p.words_are in
      let n : (length ws == 2 + value_words h.field) ≡ true =
      ap (λ (t : List Word). length t == 2 + value_words h.field) p.words_are ∙ plain_count h.field p.first p.second p.values p.count in
      entry_judged h s ws r n (ap is_number w0 ∙ p.first_is) (ap is_number w1 ∙ p.second_is)
      (judged (number (word ws 0)) (number (word ws 1)) (word ws 2) (rw w0 p.row_is) (rw w1 p.col_is) (λ i. rw w2 (p.reads i)))

-- a whole line behind lines that have ended
pub whole_line : (bytes line : List ℕ) → open_line bytes ≡ [] → slice_split is_lf line ≡ line ∷ [] → lines false (bytes ++ (line ++ 10 ∷ [])) ≡ lines false bytes ++ line ∷ []
unfolding lines open_line
whole_line bytes line closed none =
    let s : slice_split is_lf (bytes ++ line) ≡ but_last (slice_split is_lf bytes) ++ (last_part (slice_split is_lf bytes) ++ line) ∷ [] = split-append is_lf bytes line ∙ rw none refl in
    let a : but_last (slice_split is_lf (bytes ++ line)) ≡ but_last (slice_split is_lf bytes) = ap but_last s ∙ but_last-append (but_last (slice_split is_lf bytes)) (last_part (slice_split is_lf bytes) ++ line) [] ∙ append-nil (but_last (slice_split is_lf bytes)) in
    let o : last_part (slice_split is_lf (bytes ++ line)) ≡ line = ap last_part s ∙ last_part-append (but_last (slice_split is_lf bytes)) (last_part (slice_split is_lf bytes) ++ line) [] ∙ ap (λ (t : List ℕ). t ++ line) closed in
    ap (λ (t : List ℕ). but_last (slice_split is_lf t)) (sym (append_assoc bytes line (10 ∷ []))) ∙ lines-push_lf (bytes ++ line) 10 refl
    ∙ ap (λ (t : List (List ℕ)). t ++ last_part (slice_split is_lf (bytes ++ line)) ∷ []) a ∙ ap (λ (t : List ℕ). but_last (slice_split is_lf bytes) ++ t ∷ []) o

pub whole_closed_line : (bytes line : List ℕ) → open_line (bytes ++ (line ++ 10 ∷ [])) ≡ []
whole_closed_line bytes line = ap open_line (sym (append_assoc bytes line (10 ∷ []))) ∙ open_line-push_lf (bytes ++ line) 10 refl
