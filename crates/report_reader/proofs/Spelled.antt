-- What is read is spelled so, and what is spelled so is read: words and numbers.
use Rattle.std.proofs.Common.{codes, decimal, ◌≡◌, ◌<◌, ◌≤◌, ◌+◌, ◌-◌, ◌*◌, ◌/◌, ◌%◌, ◌^◌, ℕ, suc, Bool, true, false, cond, List, [], ◌∷◌, ◌++◌, length, take, drop, nat_lt, nat_eq, Option, Some, None, refl, sym, ap, ap₂, ◌∙◌, subst, arith, append_assoc, le-ltb, eqb-true, ltb-false, eqb, leb, inl, inr, ◌⊎◌, true≢false, ◌&&◌, zero}
use Rattle.std.specs.Char.{is_ascii_digit}
use Rattle.std.specs.List.{starts_with}
use Rattle.std.specs.Cmp.Lexicographic.{bytes_decides}
use Rattle.std.proofs.lemmas.Bool.Decides.{eqb_tells, leb_tells}
use Rattle.std.proofs.lemmas.Fmt.{decimal_by_steps, decimal_digit, decimal_step}
use Rattle.std.proofs.lemmas.List.{drop_at, take_at, take-append-drop}
use Rattle.report_reader.specs.ReportGrammar.{◌>>=◌, digits_on, field_at, id_of, number_at, word_at}

-- the value of a step that read something
pub bind_some : {A B : Type 0} (r : Option A) (f : A → Option B) (y : B) → (r >>= f) ≡ Some y → (x : A) × (r ≡ Some x) × (f x ≡ Some y)
bind_some (Some x) f y e = (x, refl, e)
bind_some None f y e = absurd cc

-- a test that held
pub where_some : {A : Type 0} (b : Bool) (r : Option A) (y : A) → cond b r None ≡ Some y → (b ≡ true) × (r ≡ Some y)
where_some true r y e = (refl, e)
where_some false r y e = absurd cc

-- a test that did not hold
pub unless_some : {A : Type 0} (b : Bool) (r : Option A) (y : A) → cond b None r ≡ Some y → (b ≡ false) × (r ≡ Some y)
unless_some true r y e = absurd cc
unless_some false r y e = (refl, e)

abbrev got : {A : Type 0} → A → Option A
got x = Some x

pub some_is : {A : Type 0} (x y : A) → got x ≡ got y → x ≡ y
some_is x y e = cc

-- ---- words

pub word_takes : (word bytes rest : List ℕ) → word_at word bytes ≡ Some rest → bytes ≡ word ++ rest
unfolding word_at
word_takes word bytes rest e =
    let g = where_some (starts_with nat_eq bytes word) (Some (drop (length word) bytes)) rest e in
    let same : word ≡ take (length word) bytes = (bytes_decides word (take (length word) bytes)).0 g.0 in
    sym (take-append-drop (length word) bytes) ∙ ap₂ (λ (a b : List ℕ). a ++ b) (sym same) (some_is _ _ g.1)

pub word_again : (word rest : List ℕ) → word_at word (word ++ rest) ≡ Some rest
unfolding word_at
word_again word rest =
    let same : starts_with nat_eq (word ++ rest) word ≡ true = (bytes_decides word (take (length word) (word ++ rest))).1 (sym (take_at word rest (length word) refl)) in
    rw same (ap (λ (r : List ℕ). Some r) (drop_at word rest (length word) refl))

-- ---- numbers

pub is_digit : (c : ℕ) → is_ascii_digit c ≡ true → (48 ≤ c) × (c ≤ 57)
is_digit c e = by (leb_tells 48 c) (leb_tells c 57)
  where
    by : ((leb 48 c ≡ true) × (48 ≤ c)) ⊎ ((leb 48 c ≡ false) × (c < 48)) → ((leb c 57 ≡ true) × (c ≤ 57)) ⊎ ((leb c 57 ≡ false) × (57 < c)) → (48 ≤ c) × (c ≤ 57)
    by (inl low) (inl high) = (low.1, high.1)
    by (inr low) high = absurd (true≢false (sym e ∙ ap (λ (b : Bool). b && leb c 57) low.0))
    by (inl low) (inr high) = absurd (true≢false (sym e ∙ ap₂ (λ (a b : Bool). a && b) low.0 high.0))

pub digit_is : (c : ℕ) → 48 ≤ c → c ≤ 57 → is_ascii_digit c ≡ true
digit_is c low high = by (leb_tells 48 c) (leb_tells c 57)
  where
    by : ((leb 48 c ≡ true) × (48 ≤ c)) ⊎ ((leb 48 c ≡ false) × (c < 48)) → ((leb c 57 ≡ true) × (c ≤ 57)) ⊎ ((leb c 57 ≡ false) × (57 < c)) → is_ascii_digit c ≡ true
    by (inl l) (inl h) = ap₂ (λ (a b : Bool). a && b) l.0 h.0
    by (inr l) h = absurd (omega (arith, l.1, low))
    by (inl l) (inr h) = absurd (omega (arith, h.1, high))

-- what digits say of the bytes that they were read from
abbrev SpellsOn : ℕ → List ℕ → ℕ × List ℕ → Type 0
SpellsOn n bytes x = (decimal n ++ bytes ≡ decimal x.0 ++ x.1) × (x.0 < 2 ^ 32)

-- a number that goes on with digits
pub digits_take : (n : ℕ) (bytes : List ℕ) (x : ℕ × List ℕ) → 0 < n → n < 2 ^ 32 → digits_on n bytes ≡ Some x → SpellsOn n bytes x
unfolding digits_on
digits_take n [] x some small e = subst (SpellsOn n []) (some_is (n, []) x e) (refl, small)
digits_take n (c ∷ cs) x some small e = by (digits_take (n * 10 + (c - 48)) cs x) (is_ascii_digit c) refl e
  where
    m : ℕ
    m = n * 10 + (c - 48)

    longer : 48 ≤ c → c ≤ 57 → m < 2 ^ 32 → decimal n ++ c ∷ cs ≡ decimal m ++ cs
    longer low high fits =
        sym (ap (λ (t : List ℕ). t ++ cs) (decimal_step m (omega (arith, some)) (omega (arith, fits)) ∙ ap₂ (λ (a b : ℕ). decimal a ++ b ∷ []) (omega (arith, low, high)) (omega (arith, low, high)))
        ∙ append_assoc (decimal n) (c ∷ []) cs)

    by : (0 < m → m < 2 ^ 32 → digits_on m cs ≡ Some x → SpellsOn m cs x) → (b : Bool) → is_ascii_digit c ≡ b
        → cond b (cond (nat_lt 4294967295 m) None (digits_on m cs)) (Some (n, c ∷ cs)) ≡ Some x → SpellsOn n (c ∷ cs) x
    by rest true test f =
        let g = unless_some (nat_lt 4294967295 m) (digits_on m cs) x f in
        let fits : m < 2 ^ 32 = omega (arith, ltb-false 4294967295 m g.0) in
        let d = is_digit c test in
        let r = rest (omega (arith, some)) fits g.1 in
        (longer d.0 d.1 fits ∙ r.0, r.1)
    by rest false test f = subst (SpellsOn n (c ∷ cs)) (some_is (n, c ∷ cs) x f) (refl, small)

abbrev Spells : List ℕ → ℕ × List ℕ → Type 0
Spells bytes x = (bytes ≡ decimal x.0 ++ x.1) × (x.0 < 2 ^ 32)

pub number_takes : (bytes : List ℕ) (x : ℕ × List ℕ) → number_at bytes ≡ Some x → Spells bytes x
unfolding number_at
number_takes [] x e = absurd cc
number_takes (c ∷ cs) x e = by (eqb c 48) refl e
  where
    by : (b : Bool) → eqb c 48 ≡ b → cond b (Some (0, cs)) (cond (is_ascii_digit c) (digits_on (c - 48) cs) None) ≡ Some x → Spells (c ∷ cs) x
    by true test f = subst (Spells (c ∷ cs)) (some_is (0, cs) x f) (ap (λ (t : List ℕ). t ++ cs) (ap (λ (n : ℕ). n ∷ []) (eqb-true c 48 test) ∙ sym (decimal_digit 0 (omega arith))), omega arith)
    by false test f =
        let g = where_some (is_ascii_digit c) (digits_on (c - 48) cs) x f in
        let d = is_digit c g.0 in
        let other : c ≡ 48 → ⊥ = λ same. elim (eqb_tells c 48) [ inl t ↦ true≢false (sym t.0 ∙ test) | inr t ↦ t.1 same ] in
        let r = digits_take (c - 48) cs x (omega (arith, d.0, other)) (omega (arith, d.1)) g.1 in
        (ap (λ (t : List ℕ). t ++ cs) (ap (λ (n : ℕ). n ∷ []) (omega (arith, d.0)) ∙ sym (decimal_digit (c - 48) (omega (arith, d.1)))) ∙ r.0, r.1)

-- no digit stands first
abbrev pub EndsNumber : List ℕ → Type 0
EndsNumber rest = (n : ℕ) → digits_on n rest ≡ Some (n, rest)

pub space_ends : (rest : List ℕ) → EndsNumber (32 ∷ rest)
unfolding digits_on
space_ends rest n = refl

pub line_ends_number : (rest : List ℕ) → EndsNumber (10 ∷ rest)
unfolding digits_on
line_ends_number rest n = refl

-- one digit more
digit_on : (n c : ℕ) (rest : List ℕ) → 48 ≤ c → c ≤ 57 → n * 10 + (c - 48) < 2 ^ 32 → digits_on n (c ∷ rest) ≡ digits_on (n * 10 + (c - 48)) rest
unfolding digits_on
digit_on n c rest low high small = rw (digit_is c low high, le-ltb 4294967295 (n * 10 + (c - 48)) (omega (arith, small))) refl

abbrev IsReadOn : ℕ → List ℕ → Type 0
IsReadOn n ds = 0 < n → n < 2 ^ 32 → (rest : List ℕ) → number_at (ds ++ rest) ≡ digits_on n rest

one_digit : (n : ℕ) → n < 10 → IsReadOn n ((48 + n) ∷ [])
unfolding number_at
one_digit n small some fits rest =
    let other : eqb (48 + n) 48 ≡ false = elim (eqb_tells (48 + n) 48) [ inl t ↦ absurd (omega (arith, t.1, some)) | inr t ↦ t.0 ] in
    rw (other, digit_is (48 + n) (omega arith) (omega (arith, small))) (ap (λ (k : ℕ). digits_on k rest) (omega arith))

more_digits : (n : ℕ) (ds : List ℕ) → 10 ≤ n → IsReadOn (n / 10) ds → IsReadOn n (ds ++ (48 + n % 10) ∷ [])
more_digits n ds large prefix some fits rest =
    ap number_at (append_assoc ds ((48 + n % 10) ∷ []) rest)
    ∙ prefix (omega (arith, large)) (omega (arith, fits)) ((48 + n % 10) ∷ rest)
    ∙ digit_on (n / 10) (48 + n % 10) rest (omega arith) (omega arith) (omega (arith, fits))
    ∙ ap (λ (k : ℕ). digits_on k rest) (omega arith)

pub number_again : (n : ℕ) (rest : List ℕ) → n < 2 ^ 32 → EndsNumber rest → number_at (decimal n ++ rest) ≡ Some (n, rest)
unfolding number_at
number_again zero rest small ends = rw (decimal_digit 0 (omega arith)) refl
number_again (suc n) rest small ends = decimal_by_steps IsReadOn one_digit more_digits (suc n) (omega (arith, small)) (omega arith) small rest ∙ ends (suc n)

-- ---- fields

pub field_takes : (bytes : List ℕ) (x : ℕ × List ℕ) → field_at bytes ≡ Some x → (bytes ≡ (32 ∷ decimal x.0) ++ x.1) × (x.0 < 2 ^ 32)
unfolding field_at
field_takes bytes x e =
    let b = bind_some (word_at (codes " ") bytes) number_at x e in
    let n = number_takes b.0 x b.2 in
    (word_takes (codes " ") bytes b.0 b.1 ∙ ap (λ (t : List ℕ). 32 ∷ t) n.0, n.1)

pub field_again : (n : ℕ) (rest : List ℕ) → n < 2 ^ 32 → EndsNumber rest → field_at ((32 ∷ decimal n) ++ rest) ≡ Some (n, rest)
unfolding field_at
field_again n rest small ends = rw (word_again (codes " ") (decimal n ++ rest)) (number_again n rest small ends)

pub id_takes : (n x : ℕ × List ℕ) → id_of n ≡ Some x → (n.0 ≡ suc x.0) × (n.1 ≡ x.1)
unfolding id_of
id_takes n x e =
    let g = unless_some (eqb n.0 0) (Some (n.0 - 1, n.1)) x e in
    let other : n.0 ≡ 0 → ⊥ = λ same. elim (eqb_tells n.0 0) [ inl t ↦ true≢false (sym t.0 ∙ g.0) | inr t ↦ t.1 same ] in
    let same = some_is (n.0 - 1, n.1) x g.1 in
    (omega (arith, other, ap (λ (y : ℕ × List ℕ). y.0) same), ap (λ (y : ℕ × List ℕ). y.1) same)

pub id_again : (n : ℕ) (rest : List ℕ) → id_of (suc n, rest) ≡ Some (n, rest)
unfolding id_of
id_again n rest =
    let other : eqb (suc n) 0 ≡ false = elim (eqb_tells (suc n) 0) [ inl t ↦ absurd (omega (arith, t.1)) | inr t ↦ t.0 ] in
    rw other (ap (λ (k : ℕ). Some (k, rest)) (omega arith))
