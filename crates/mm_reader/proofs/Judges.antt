-- From what is kept of a line to the rules on it.
use Rattle.std.proofs.Common.{◌^◌, ◌<◌, ◌≡◌, ℕ, ℤ, ◌+◌, ◌-◌, true, false, not, ◌==◌, ◌&&◌, List, [], ◌∷◌, ◌++◌, length, refl, sym, ap, ◌∙◌, arith, eqb-true, Some, None, Result, Ok, Err}
use Rattle.std.specs.List.{list_all}
use Rattle.sp_ids.specs.Entries.{Triple}
use Rattle.sp_ids.specs.declared.triples.Field.{Field}
use Rattle.sp_ids.specs.declared.triples.Field.TheVariants as fields
use Rattle.mm_defs.specs.declared.header.Format.{Format}
use Rattle.mm_defs.specs.declared.header.Format.TheVariants.{Coordinate, Array}
use Rattle.mm_defs.specs.declared.header.Header.{Header}
use Rattle.mm_defs.specs.declared.header.Size.{Size}
use Rattle.mm_defs.specs.declared.kinds.Kind.{Kind}
use Rattle.mm_defs.specs.Words.{Word, word}
use Rattle.mm_defs.specs.Numbers.{is_number, number}
use Rattle.mm_defs.specs.Header.{is_array, is_integer_field, value_words, size_words, size}
use Rattle.mm_defs.specs.Faults.{first_kind, extent_rules, count_rules, size_limits, size_rules, value_rules, triangle_rules, place_rules, coordinate_rules, array_rules}
use Rattle.mm_defs.specs.File.{triple, triple_at}
use Rattle.mm_reader.specs.declared.judge.Entry.{Entry}
use Rattle.mm_lines.specs.Tokens.{capped}
use Rattle.mm_reader.specs.Judged.{Judged, JudgedEntry, range_rules, triple_of}
use Rattle.mm_defs.proofs.Rules.{first_none, first_some}

-- an array file has integers
pub integers : (format : Format) (field : Field) → (is_array format && not (is_integer_field field)) ≡ false → is_array format ≡ true → field ≡ fields.Integer
integers format fields.Integer e a = refl
integers format fields.Real e a = let k : (is_array format && true) ≡ true = rw a refl in absurd cc
integers format fields.Complex e a = let k : (is_array format && true) ≡ true = rw a refl in absurd cc
integers format fields.Pattern e a = let k : (is_array format && true) ≡ true = rw a refl in absurd cc

pub value_judged : (h : Header) (ws : List Word) (v : ℤ) (r : Result ℤ Kind) → h.field ≡ fields.Integer → (length ws == 1) ≡ true
    → Judged (value_rules fields.Integer (word ws 0)) v r → Judged (array_rules h ws) v r
value_judged h ws v (Ok y) f n j = (rw (n, f) j.0, j.1)
value_judged h ws v (Err kind) f n j = rw (n, f) j

-- the words of a size line are numbers
two_numbers : (ws : List Word) → (length ws == 2) ≡ true → is_number (word ws 0) ≡ true → is_number (word ws 1) ≡ true → list_all is_number ws ≡ true
two_numbers [] n a b = absurd cc
two_numbers (u ∷ []) n a b = absurd cc
two_numbers (u ∷ v ∷ []) n a b = rw (a, b) refl
two_numbers (u ∷ v ∷ w ∷ ws) n a b = let k = eqb-true _ _ n in absurd (omega arith)

three_numbers : (ws : List Word) → (length ws == 3) ≡ true → is_number (word ws 0) ≡ true → is_number (word ws 1) ≡ true → is_number (word ws 2) ≡ true → list_all is_number ws ≡ true
three_numbers [] n a b d = absurd cc
three_numbers (u ∷ []) n a b d = absurd cc
three_numbers (u ∷ v ∷ []) n a b d = absurd cc
three_numbers (u ∷ v ∷ w ∷ []) n a b d = rw (a, b, d) refl
three_numbers (u ∷ v ∷ w ∷ x ∷ ws) n a b d = let k = eqb-true _ _ n in absurd (omega arith)

pub size_judged : (h : Header) (ws : List Word) (r : Result Size Kind) → (length ws == size_words h.format) ≡ true → list_all is_number ws ≡ true
    → Judged (size_limits h (size h ws)) (size h ws) r → Judged (size_rules h ws) (size h ws) r
size_judged h ws (Ok y) n a j = (rw (n, a) j.0, j.1)
size_judged h ws (Err kind) n a j = rw (n, a) j

pub coordinate_size_judged : (h : Header) (ws : List Word) (r : Result Size Kind) → h.format ≡ Coordinate → (length ws == size_words h.format) ≡ true
    → is_number (word ws 0) ≡ true → is_number (word ws 1) ≡ true → is_number (word ws 2) ≡ true
    → Judged (size_limits h (size h ws)) (size h ws) r → Judged (size_rules h ws) (size h ws) r
coordinate_size_judged h ws r f n a b d j = size_judged h ws r n (three_numbers ws (ap (λ x. length ws == size_words x) (sym f) ∙ n) a b d) j

pub array_size_judged : (h : Header) (ws : List Word) (r : Result Size Kind) → h.format ≡ Array → (length ws == size_words h.format) ≡ true
    → is_number (word ws 0) ≡ true → is_number (word ws 1) ≡ true
    → Judged (size_limits h (size h ws)) (size h ws) r → Judged (size_rules h ws) (size h ws) r
array_size_judged h ws r f n a b j = size_judged h ws r n (two_numbers ws (ap (λ x. length ws == size_words x) (sym f) ∙ n) a b) j

pub entry_judged : (h : Header) (s : Size) (ws : List Word) (r : Result Entry Kind) → (length ws == 2 + value_words h.field) ≡ true
    → is_number (word ws 0) ≡ true → is_number (word ws 1) ≡ true
    → JudgedEntry (place_rules h s (number (word ws 0)) (number (word ws 1)) (word ws 2)) (triple h ws) r → JudgedEntry (coordinate_rules h s ws) (triple h ws) r
entry_judged h s ws (Ok e) n a b j = (rw (n, a, b) j.0, j.1)
entry_judged h s ws (Err kind) n a b j = rw (n, a, b) j

pub extent_good : (h : Header) (s : Size) (r : Result Size Kind) → first_kind (extent_rules s.rows s.cols) ≡ None → Judged (count_rules h s) s r → Judged (size_limits h s) s r
extent_good h s (Ok y) e j = (first_none (extent_rules s.rows s.cols) (count_rules h s) e ∙ j.0, j.1)
extent_good h s (Err kind) e j = first_none (extent_rules s.rows s.cols) (count_rules h s) e ∙ j

pub bad_range : (h : Header) (s : Size) (i j : ℕ) (w : Word) (kind : Kind) → first_kind (range_rules s.rows s.cols i j) ≡ Some kind → JudgedEntry (place_rules h s i j w) (triple_at h.field i j w) (Err kind)
bad_range h s i j w kind e = first_some (range_rules s.rows s.cols i j) (value_rules h.field w ++ triangle_rules h.symmetry i j) kind e

-- a number that fits is not capped
pub uncapped : (limit n row : ℕ) → row ≡ capped n → n - 1 < limit → limit < 2 ^ 63 → row ≡ n
uncapped limit n row e low small = omega arith

module _ (h : Header) (s : Size) (i j : ℕ) (w : Word) (inside : first_kind (range_rules s.rows s.cols i j) ≡ None) where
  others : first_kind (place_rules h s i j w) ≡ first_kind (value_rules h.field w ++ triangle_rules h.symmetry i j)
  others = first_none (range_rules s.rows s.cols i j) (value_rules h.field w ++ triangle_rules h.symmetry i j) inside

  pub bad_value : (kind : Kind) → first_kind (value_rules h.field w) ≡ Some kind → JudgedEntry (place_rules h s i j w) (triple_at h.field i j w) (Err kind)
  bad_value kind e = others ∙ first_some (value_rules h.field w) (triangle_rules h.symmetry i j) kind e

  pub bad_triangle : (kind : Kind) → first_kind (value_rules h.field w) ≡ None → first_kind (triangle_rules h.symmetry i j) ≡ Some kind → JudgedEntry (place_rules h s i j w) (triple_at h.field i j w) (Err kind)
  bad_triangle kind e f = others ∙ first_none (value_rules h.field w) (triangle_rules h.symmetry i j) e ∙ f

  pub good_place : (e : Entry) → first_kind (value_rules h.field w) ≡ None → first_kind (triangle_rules h.symmetry i j) ≡ None
      → triple_of e ≡ triple_at h.field i j w → JudgedEntry (place_rules h s i j w) (triple_at h.field i j w) (Ok e)
  good_place e a b is = (others ∙ first_none (value_rules h.field w) (triangle_rules h.symmetry i j) a ∙ b, is)

pub same_triple : (r c i j : ℕ) (v v2 : ℤ) → r ≡ i - 1 → c ≡ j - 1 → v ≡ v2 → ◌≡◌ {A = Triple} (record { row = r; col = c; value = v }) (record { row = i - 1; col = j - 1; value = v2 })
same_triple r c i j v v2 a b d = cc
