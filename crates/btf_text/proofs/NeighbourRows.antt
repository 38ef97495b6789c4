-- The rows with an entry in one of some columns, row by row.
use Rattle.std.proofs.Common.{◌≤◌, ◌&&◌, nat_lt, true≢false, ◌≡◌, ◌↔◌, ◌<◌, ◌+◌, ℕ, suc, Bool, true, false, cond, IsTrue, List, [], ◌∷◌, ◌++◌, filter, nat_eq, decimal, append_assoc, append-nil, refl, sym, ap, ◌∙◌, subst, arith, eqb-true, eq-eqb}
use Rattle.std.specs.List.{list_any}
use Rattle.std.proofs.lemmas.Bool.Decides.{nat_tests}
use Rattle.std.proofs.lemmas.List.{map-append}
use Rattle.std.proofs.lemmas.List.Elements.{filter-append}
use Rattle.std.proofs.lemmas.Grind.{flat_map-append}
use Rattle.bip_defs.specs.Bottleneck.{above}
use Rattle.bip_defs.specs.Lists.{Among, Lists}
use Rattle.bip_defs.specs.Matrix.{IsEntry, Matrix, column, touches, upto}
use Rattle.bip_defs.proofs.BottleneckLemmas.{restricted_back, restricted_over}
use Rattle.bip_defs.proofs.Sets.{among_test, any_complete, any_sound, same_test, upto_more}
use Rattle.bip_graph.specs.Texts.{counted, spaced}

-- a test of a row's columns holds of one of them exactly where the row has an entry in one of the columns w, if it tells those
touches_where : (b : Matrix) (w cols : List ℕ) (r : ℕ) (on : ℕ → Bool)
    → ((c : ℕ) → Among c cols → on c ≡ true → Among c w × Among r (column b c))
    → ((c : ℕ) → Among c w → Among r (column b c) → Among c cols × (on c ≡ true))
    → list_any on cols ≡ touches b w r
touches_where b w cols r on over back = same_test (list_any on cols) (touches b w r) to from
  where
    to : list_any on cols ≡ true → touches b w r ≡ true
    to e =
        let (c, h, f) = any_sound on cols e in
        let (at, entry) = over c h f in
        any_complete (λ c. list_any (nat_eq r) (column b c)) c w at ((among_test r (column b c)).1 entry)

    from : touches b w r ≡ true → list_any on cols ≡ true
    from e =
        let (c, at, f) = any_sound (λ c. list_any (nat_eq r) (column b c)) w e in
        let (h, f) = back c at ((among_test r (column b c)).0 f) in
        any_complete on c cols h f

-- a row has an entry in one of the columns exactly where one of its own columns is among them
pub touches_by_row : (a : Matrix) (w cols : List ℕ) (r : ℕ) → r < a.rows → Lists (λ c. IsEntry a r c) cols → list_any (λ c. list_any (nat_eq c) w) cols ≡ touches a w r
touches_by_row a w cols r inside listed =
    touches_where a w cols r (λ c. list_any (nat_eq c) w)
    (λ c h f. ((among_test c w).0 f, (listed.sound c h).1))
    (λ c at entry. (listed.complete c (inside, entry), (among_test c w).1 at))

and_first : (x y : Bool) → x && y ≡ true → x ≡ true
and_first true y e = refl
and_first false y e = e

and_second : (x y : Bool) → x && y ≡ true → y ≡ true
and_second true y e = e
and_second false y e = absurd (true≢false (sym e))

both_true : (x y : Bool) → x ≡ true → y ≡ true → x && y ≡ true
both_true x y e f = ap (λ b. b && y) e ∙ f

-- whether a column is among these, and has more weight in the row
abbrev pub is_heavy : (ℕ → ℕ → ℕ) → ℕ → List ℕ → ℕ → ℕ → Bool
is_heavy weight least w r c = list_any (nat_eq c) w && nat_lt least (weight r c)

-- a row has an entry of greater weight in one of the columns exactly where one of its own columns is among them and has it
pub touches_above_by_row : (a : Matrix) (weight : ℕ → ℕ → ℕ) (least : ℕ) (w cols : List ℕ) (r : ℕ) → r < a.rows → Lists (λ c. IsEntry a r c) cols
    → list_any (is_heavy weight least w r) cols ≡ touches (above a weight least) w r
touches_above_by_row a weight least w cols r inside listed =
    touches_where (above a weight least) w cols r (is_heavy weight least w r)
    (λ c h f. ((among_test c w).0 (and_first _ _ f), (restricted_back a (λ s d. nat_lt least (weight s d)) r c (listed.sound c h) (and_second _ _ f)).1))
    (λ c at entry. let both = restricted_over a (λ s d. nat_lt least (weight s d)) r c (inside, entry) in (listed.complete c both.0, both_true _ _ ((among_test c w).1 at) both.1))

-- a column that is one of these and has more weight
pub heavy_col : (weight : ℕ → ℕ → ℕ) (least : ℕ) (w : List ℕ) (r c : ℕ) → list_any (nat_eq c) w ≡ true → least < weight r c → is_heavy weight least w r c ≡ true
heavy_col weight least w r c at lt = both_true _ _ at (grind (arith, nat_tests))

-- a column that is not one of them, and one without more weight
pub other_col : (weight : ℕ → ℕ → ℕ) (least : ℕ) (w : List ℕ) (r c : ℕ) → list_any (nat_eq c) w ≡ false → is_heavy weight least w r c ≡ false
other_col weight least w r c e = ap (λ b. b && nat_lt least (weight r c)) e

pub light_col : (weight : ℕ → ℕ → ℕ) (least : ℕ) (w : List ℕ) (r c : ℕ) → weight r c ≤ least → is_heavy weight least w r c ≡ false
light_col weight least w r c le = by (list_any (nat_eq c) w) (grind (arith, nat_tests))
  where
    by : (x : Bool) → nat_lt least (weight r c) ≡ false → x && nat_lt least (weight r c) ≡ false
    by true e = e
    by false e = refl

-- what a test for membership tells
pub told_among : (c : ℕ) (w : List ℕ) (b : Bool) → IsTrue b ↔ Among c w → list_any (nat_eq c) w ≡ b
told_among c w b tells = same_test (list_any (nat_eq c) w) b (λ e. tells.1 ((among_test c w).0 e)) (λ e. (among_test c w).1 (tells.0 e))

-- the elements that are equal to a number
pub contained : (c : ℕ) (w : List ℕ) → (list_any (λ y. nat_eq y c) w ≡ true) ↔ Among c w
contained c w = (
  λ e. let (y, on, f) = any_sound (λ y. nat_eq y c) w e in subst (λ z. Among z w) (eqb-true y c f) on,
  λ on. any_complete (λ y. nat_eq y c) c w on (eq-eqb c c refl),
)

-- the list goes on with the next row, if it is one of them
pub rows_go_on : (test : ℕ → Bool) (word : List ℕ) (r : ℕ)
    → (word ++ spaced (counted (filter test (upto r)))) ++ spaced (counted (filter test (r ∷ []))) ≡ word ++ spaced (counted (filter test (upto (r + 1))))
rows_go_on test word r =
    append_assoc word (spaced (counted (filter test (upto r)))) (spaced (counted (filter test (r ∷ []))))
    ∙ ap (λ (t : List ℕ). word ++ t) (sym (ap (λ (rs : List ℕ). spaced (counted rs)) (ap (filter test) (upto_more r) ∙ filter-append test (upto r) (r ∷ []))
    ∙ ap spaced (map-append suc (filter test (upto r)) (filter test (r ∷ [])))
    ∙ flat_map-append (λ (n : ℕ). 32 ∷ decimal n) (counted (filter test (upto r))) (counted (filter test (r ∷ [])))))

-- a row that is one of them
pub row_on : (test : ℕ → Bool) (r n : ℕ) → test r ≡ true → n ≡ suc r → 32 ∷ decimal n ≡ spaced (counted (filter test (r ∷ [])))
row_on test r n on is =
    ap (λ (m : ℕ). 32 ∷ decimal m) is ∙ sym (append-nil (32 ∷ decimal (suc r))) ∙ sym (ap (λ (b : Bool). spaced (counted (cond b (r ∷ []) []))) on)

-- a row that is not
pub row_off : (test : ℕ → Bool) (r : ℕ) → test r ≡ false → [] ≡ spaced (counted (filter test (r ∷ [])))
row_off test r off = sym (ap (λ (b : Bool). spaced (counted (cond b (r ∷ []) []))) off)
