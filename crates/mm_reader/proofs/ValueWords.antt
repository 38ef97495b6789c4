-- Value words of entry lines of the usual form.
use Rattle.std.proofs.Common.{◌≡◌, ◌≢◌, ℕ, ◌<◌, ◌≤◌, Bool, true, false, ◌||◌, ◌==◌, List, [], ◌∷◌, ◌++◌, length, refl, sym, ap, subst, ◌∙◌, arith, append-nil, append_assoc, leb-true, eqb-true, ne_eqb, ◌^◌, Option, Some, None, IfSome, ℤ, Result}
use Rattle.std.specs.List.{list_all}
use Rattle.std.specs.Str.{all_ascii_digits}
use Rattle.sp_ids.specs.declared.triples.Field.{Field}
use Rattle.sp_ids.specs.declared.triples.Field.TheVariants as fields
use Rattle.mm_defs.specs.declared.header.Header.{Header}
use Rattle.mm_defs.specs.declared.kinds.Kind.{Kind}
use Rattle.mm_defs.specs.Faults.{array_rules, value_rules}
use Rattle.mm_defs.specs.Header.{value_words, is_integer_field}
use Rattle.mm_defs.specs.Numbers.{value, bare, is_negative, is_integer, integer}
use Rattle.mm_defs.specs.Words.{is_blank, has_bytes, is_skipped, word, words}
use Rattle.mm_defs.proofs.AnswerLemmas.{and_left, and_right}
use Rattle.mm_lines.specs.declared.number.Integer.{Integer}
use Rattle.mm_reader.specs.declared.plain.PlainValue.{PlainValue}
use Rattle.mm_reader.specs.Judged.{Judged}
use Rattle.mm_lines.specs.Tokens.{capped, ReadsInteger}
use Rattle.mm_reader.proofs.Judges.{value_judged}
use Rattle.mm_reader.specs.Plain.{between, is_inner, is_visible, is_sign, stands_apart, IsRun, IsDigits, IsSign, IsIntegerHere, IsNextWord, IsNextInteger, IsNextLine, IsUsual, HasValues, SaysValue}
use Rattle.mm_defs.proofs.WordLemmas.{words-none}
use Rattle.mm_reader.proofs.PlainLaws.{both_of, between-none, between_join, weaker, all_append, some_bytes, digits_visible, visible_inner, blank_inner, words-next, words-only_blanks, blanks_apart, apart_blanks, whole_found}

-- ---- signs

-- a sign and digits
record IsSigned (s ds : List ℕ) : Type 0 where
  digits : bare (s ++ ds) ≡ ds
  minus : is_negative (s ++ ds) ≡ is_negative s
  seen : list_all is_visible (s ++ ds) ≡ true

no_sign : (ds : List ℕ) → all_ascii_digits ds ≡ true → IsSigned [] ds
no_sign [] h = record { digits = refl; minus = refl; seen = refl }
no_sign (d ∷ ds) h =
    let low : 48 ≤ d = leb-true _ _ (and_left _ _ (and_left _ _ h)) in
    let m = ne_eqb d 45 (omega arith) in
    let p = ne_eqb d 43 (omega arith) in
    record { digits = rw (m, p) refl; minus = rw m refl; seen = digits_visible (d ∷ ds) h }

one_sign : (b : ℕ) (ds : List ℕ) (m p : Bool) → (b == 45) ≡ m → (b == 43) ≡ p → is_sign (b ∷ []) ≡ true → all_ascii_digits ds ≡ true → IsSigned (b ∷ []) ds
one_sign b ds true p e f h k =
    let is : 45 ≡ b = sym (eqb-true b 45 e) in
    subst (λ x. IsSigned (x ∷ []) ds) is (record { digits = refl; minus = refl; seen = digits_visible ds k })
one_sign b ds false true e f h k =
    let is : 43 ≡ b = sym (eqb-true b 43 f) in
    subst (λ x. IsSigned (x ∷ []) ds) is (record { digits = refl; minus = refl; seen = digits_visible ds k })
one_sign b ds false false e f h k = let n : false ≡ true = rw (e, f) at h in absurd cc

signed : (s ds : List ℕ) → is_sign s ≡ true → all_ascii_digits ds ≡ true → IsSigned s ds
signed [] ds h k = no_sign ds k
signed (b ∷ []) ds h k = one_sign b ds (b == 45) (b == 43) refl refl h k
signed (b ∷ c ∷ bs) ds h k = let n : false ≡ true = and_right ((b == 45) || (b == 43)) false h in absurd cc

-- ---- the next word

module _ (bytes : List ℕ) (from to : ℕ) (n : IsNextWord bytes from to) where
  next_is : between bytes from to ≡ between bytes from n.start ++ between bytes n.start to
  next_is = between_join bytes from n.start to n.blanks_are.in_order n.word_is.in_order

  blanks_some : has_bytes (between bytes from n.start) ≡ true
  blanks_some = some_bytes bytes from n.start n.blanks_are.in_order n.blanks_are.within (omega (arith, n.some_blanks))

  word_some : has_bytes (between bytes n.start to) ≡ true
  word_some = some_bytes bytes n.start to n.word_is.in_order n.word_is.within (omega (arith, n.some_bytes))

  next_words : (rest : List ℕ) → stands_apart rest ≡ true → words (between bytes from to ++ rest) ≡ between bytes n.start to ∷ words rest
  next_words rest h =
      ap (λ (t : List ℕ). words (t ++ rest)) next_is ∙ ap words (append_assoc (between bytes from n.start) (between bytes n.start to) rest)
      ∙ words-next (between bytes from n.start) (between bytes n.start to) rest n.blanks_are.all word_some n.word_is.all h

  next_alone : words (between bytes from to) ≡ between bytes n.start to ∷ []
  next_alone = ap words (sym (append-nil (between bytes from to))) ∙ next_words [] refl ∙ ap (λ (t : List (List ℕ)). between bytes n.start to ∷ t) words-none

  next_inner : list_all is_inner (between bytes from to) ≡ true
  next_inner =
      ap (list_all is_inner) next_is
      ∙ all_append is_inner (between bytes from n.start) (between bytes n.start to) (weaker is_blank is_inner blank_inner (between bytes from n.start) n.blanks_are.all)
      (weaker is_visible is_inner visible_inner (between bytes n.start to) n.word_is.all)

  next_apart : stands_apart (between bytes from to) ≡ true
  next_apart = ap stands_apart next_is ∙ blanks_apart (between bytes from n.start) (between bytes n.start to) blanks_some n.blanks_are.all

-- a sign or none, and digits
pub integer_found : (bytes : List ℕ) (start first to m : ℕ) (minus : Bool) → IsSign bytes start first minus → IsDigits bytes first to m → to ≢ first
    → IsIntegerHere bytes start to (record { minus = minus; magnitude = m })
integer_found bytes start first to m minus s d n =
    let ss : List ℕ = between bytes start first in
    let ds : List ℕ = between bytes first to in
    let e : between bytes start to ≡ ss ++ ds = between_join bytes start first to s.in_order d.in_order in
    let is = signed ss ds s.all d.all in
    let some : has_bytes ds ≡ true = some_bytes bytes first to d.in_order d.within n in
    record {
      some_bytes = omega (arith, s.in_order, d.in_order);
      word_is = record { in_order = omega (arith, s.in_order, d.in_order); within = d.within; all = rw e is.seen };
      reads = rw (e, is.digits) (both_of (has_bytes ds) (all_ascii_digits ds) some d.all, s.minus_is ∙ sym is.minus, small ds d.value_is d.small);
    }
  where
    small : (ds : List ℕ) → m ≡ value ds → m < 2 ^ 63 → m ≡ capped (value ds)
    small ds h k = omega arith

-- behind blanks
pub integer_behind : (bytes : List ℕ) (from start : ℕ) (r : Option (Integer × ℕ)) → IsRun is_blank bytes from start → start ≢ from → IfSome r (λ x. IsIntegerHere bytes start x.1 x.0) → IfSome r (λ x. IsNextInteger bytes from x.1 x.0)
integer_behind bytes from start None b n i = tt
integer_behind bytes from start (Some x) b n i = record {
  next = record {
    start = start;
    some_blanks = omega (arith, b.in_order);
    some_bytes = i.some_bytes;
    blanks_are = b;
    word_is = i.word_is;
  };
  reads = i.reads;
}

-- a whole line of one integer
pub value_found : (bytes : List ℕ) (from start end next : ℕ) (i : Integer) → IsRun is_blank bytes from start → IsIntegerHere bytes start end i → IsNextLine bytes end next
    → IsUsual (SaysValue (record { value = i; next = next })) bytes from next
value_found bytes from start end next i b h n =
    let r = n.blanks_are in
    let w = h.word_is in
    let bs : List ℕ = between bytes from start in
    let word : List ℕ = between bytes start end in
    let rest : List ℕ = between bytes end n.end in
    let line : List ℕ = bs ++ (word ++ rest) in
    let inner : list_all is_inner line ≡ true =
    all_append is_inner bs (word ++ rest) (weaker is_blank is_inner blank_inner bs b.all)
    (all_append is_inner word rest (weaker is_visible is_inner visible_inner word w.all) (weaker is_blank is_inner blank_inner rest r.all)) in
    let behind : start ≤ n.end = omega (arith, w.in_order, r.in_order) in
    let ordered : from ≤ n.end = omega (arith, b.in_order) in
    let whole : between bytes from n.end ≡ line =
    between_join bytes from start n.end b.in_order behind ∙ ap (λ (t : List ℕ). bs ++ t) (between_join bytes start end n.end w.in_order r.in_order) in
    let some : has_bytes word ≡ true = some_bytes bytes start end w.in_order w.within (omega (arith, h.some_bytes)) in
    record {
      line = line;
      whole = whole_found bytes from n.end next line ordered n.within n.to_is n.lf_is whole inner;
      says = record {
        word = word;
        words_are = words-next bs word rest b.all some w.all (apart_blanks [] rest refl r.all) ∙ ap (λ (t : List (List ℕ)). word ∷ t) (words-only_blanks rest r.all);
        reads = h.reads;
      };
    }

-- ---- what a value line of the usual form does

integer_first : (b : ℕ) (bs : List ℕ) (c : Bool) → (b == 37) ≡ c → is_integer (b ∷ bs) ≡ true → c ≡ false
integer_first b bs false e h = refl
integer_first b bs true e h =
    let k : b ≡ 37 = eqb-true b 37 e in
    let n : is_integer (37 ∷ bs) ≡ true = rw k at h in
    absurd cc

integer_kept : (w : List ℕ) (ws : List (List ℕ)) → is_integer w ≡ true → is_skipped (w ∷ ws) ≡ false
integer_kept [] ws h = absurd cc
integer_kept (b ∷ bs) ws h = integer_first b bs (b == 37) refl h

module _ (l : PlainValue) (line : List ℕ) (p : SaysValue l line) where
  pub value_kept : is_skipped (words line) ≡ false
  value_kept = ap is_skipped p.words_are ∙ integer_kept p.word [] p.reads.0

  pub line_judged : (h : Header) (r : Result ℤ Kind) → h.field ≡ fields.Integer → ((w : List ℕ) → ReadsInteger w (Some l.value) → Judged (value_rules fields.Integer w) (integer w) r)
      → Judged (array_rules h (words line)) (integer (word (words line) 0)) r
  line_judged h r field judged =
      let w0 : word (words line) 0 ≡ p.word = ap (λ (t : List (List ℕ)). word t 0) p.words_are in
      value_judged h (words line) (integer (word (words line) 0)) r field (ap (λ (t : List (List ℕ)). length t == 1) p.words_are)
      (judged (word (words line) 0) (rw w0 p.reads))

-- ---- the value words of each field

pub pattern_values : (bytes : List ℕ) (from : ℕ) (v : Integer) → from ≤ length bytes → HasValues fields.Pattern bytes from from v
pattern_values bytes from v h =
    let e = between-none bytes from in
    record {
      in_order = omega arith;
      within = h;
      inner = rw e refl;
      apart = rw e refl;
      count = ap (λ (t : List ℕ). length (words t)) e ∙ ap length words-none;
      reads = λ i. absurd cc;
    }

one_word : (f : Field) (bytes : List ℕ) (from to : ℕ) (v : Integer) (n : IsNextWord bytes from to) → value_words f ≡ 1
    → (is_integer_field f ≡ true → ReadsInteger (between bytes n.start to) (Some v)) → HasValues f bytes from to v
one_word f bytes from to v n one reads =
    let e = next_alone bytes from to n in
    record {
      in_order = omega (arith, n.some_blanks, n.some_bytes);
      within = n.word_is.within;
      inner = next_inner bytes from to n;
      apart = next_apart bytes from to n;
      count = ap length e ∙ sym one;
      reads = λ i. rw e (reads i);
    }

pub real_values : (bytes : List ℕ) (from to : ℕ) (v : Integer) → IsNextWord bytes from to → HasValues fields.Real bytes from to v
real_values bytes from to v n = one_word fields.Real bytes from to v n refl (λ i. absurd cc)

integer_values : (bytes : List ℕ) (from to : ℕ) (i : Integer) → IsNextInteger bytes from to i → HasValues fields.Integer bytes from to i
integer_values bytes from to i n = one_word fields.Integer bytes from to i n.next refl (λ _. n.reads)

pub integer_values_if : (bytes : List ℕ) (from : ℕ) (r : Option (Integer × ℕ)) → IfSome r (λ x. IsNextInteger bytes from x.1 x.0) → IfSome r (λ x. HasValues fields.Integer bytes from x.1 x.0)
integer_values_if bytes from None n = tt
integer_values_if bytes from (Some x) n = integer_values bytes from x.1 x.0 n

pub complex_values : (bytes : List ℕ) (from mid to : ℕ) (v : Integer) → IsNextWord bytes from mid → IsNextWord bytes mid to → HasValues fields.Complex bytes from to v
complex_values bytes from mid to v a b =
    let l : from ≤ mid = omega (arith, a.some_blanks, a.some_bytes) in
    let k : mid ≤ to = omega (arith, b.some_blanks, b.some_bytes) in
    let e : between bytes from to ≡ between bytes from mid ++ between bytes mid to = between_join bytes from mid to l k in
    let w : words (between bytes from to) ≡ between bytes a.start mid ∷ between bytes b.start to ∷ [] =
    ap words e ∙ next_words bytes from mid a (between bytes mid to) (next_apart bytes mid to b) ∙ ap (λ (t : List (List ℕ)). between bytes a.start mid ∷ t) (next_alone bytes mid to b) in
    record {
      in_order = omega arith;
      within = b.word_is.within;
      inner = ap (list_all is_inner) e ∙ all_append is_inner (between bytes from mid) (between bytes mid to) (next_inner bytes from mid a) (next_inner bytes mid to b);
      apart = ap stands_apart (e ∙ ap (λ (t : List ℕ). t ++ between bytes mid to) (next_is bytes from mid a) ∙ append_assoc (between bytes from a.start) (between bytes a.start mid) (between bytes mid to))
          ∙ blanks_apart (between bytes from a.start) (between bytes a.start mid ++ between bytes mid to) (blanks_some bytes from mid a) a.blanks_are.all;
      count = ap length w;
      reads = λ i. absurd cc;
    }
