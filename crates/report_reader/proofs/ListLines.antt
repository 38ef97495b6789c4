-- Lines that are read: what is read is spelled so, and what is spelled so is read.
use Rattle.std.proofs.Common.{codes, decimal, ◌≡◌, ◌<◌, ◌≤◌, ◌^◌, ℕ, zero, suc, Bool, true, false, cond, List, [], ◌∷◌, ◌++◌, length, nat_eq, Option, Some, refl, sym, ap, ap₂, ◌∙◌, subst, arith, append_assoc, length-append}
use Rattle.std.specs.List.{AllByRecursion, starts_with}
use Rattle.bip_graph.specs.Texts.{Sizes, counted, line, matrix_line, spaced, spelled}
use Rattle.report_reader.specs.Readable.{IsId}
use Rattle.report_reader.specs.ReportGrammar.{◌>>=◌, field_at, id_of, ids_at, line_end, list_at, one_at, sizes_at, three_at, two_at, word_at}
use Rattle.report_reader.proofs.Spelled.{EndsNumber, bind_some, field_again, field_takes, id_again, id_takes, line_ends_number, some_is, space_ends, word_again, word_takes}

-- a line in front of more bytes: its word, its numbers and its end
pub line_before : (word numbers rest : List ℕ) → spelled (line word numbers) ++ rest ≡ word ++ (spaced numbers ++ 10 ∷ rest)
line_before word numbers rest =
    append_assoc (word ++ spaced numbers) (10 ∷ []) rest ∙ append_assoc word (spaced numbers) (10 ∷ rest)

pub spaced_before : (n : ℕ) (numbers rest : List ℕ) → spaced (n ∷ numbers) ++ rest ≡ (32 ∷ decimal n) ++ (spaced numbers ++ rest)
spaced_before n numbers rest = append_assoc (32 ∷ decimal n) (spaced numbers) rest

pub end_takes : (bytes rest : List ℕ) → line_end bytes ≡ Some rest → bytes ≡ 10 ∷ rest
unfolding line_end
end_takes bytes rest e = word_takes (10 ∷ []) bytes rest e

pub end_again : (rest : List ℕ) → line_end (10 ∷ rest) ≡ Some rest
unfolding line_end
end_again rest = word_again (10 ∷ []) rest

-- ---- one number, two numbers, three numbers

pub one_before : (word : List ℕ) (a : ℕ) (rest : List ℕ) → spelled (line word (a ∷ [])) ++ rest ≡ word ++ ((32 ∷ decimal a) ++ 10 ∷ rest)
one_before word a rest = line_before word (a ∷ []) rest ∙ ap (λ (t : List ℕ). word ++ t) (spaced_before a [] (10 ∷ rest))

two_before : (word : List ℕ) (a b : ℕ) (rest : List ℕ) → spelled (line word (a ∷ b ∷ [])) ++ rest ≡ word ++ ((32 ∷ decimal a) ++ ((32 ∷ decimal b) ++ 10 ∷ rest))
two_before word a b rest =
    line_before word (a ∷ b ∷ []) rest ∙ ap (λ (t : List ℕ). word ++ t) (spaced_before a (b ∷ []) (10 ∷ rest) ∙ ap (λ (t : List ℕ). (32 ∷ decimal a) ++ t) (spaced_before b [] (10 ∷ rest)))

three_before : (word : List ℕ) (a b c : ℕ) (rest : List ℕ) → spelled (line word (a ∷ b ∷ c ∷ [])) ++ rest ≡ word ++ ((32 ∷ decimal a) ++ ((32 ∷ decimal b) ++ ((32 ∷ decimal c) ++ 10 ∷ rest)))
three_before word a b c rest =
    line_before word (a ∷ b ∷ c ∷ []) rest
    ∙ ap (λ (t : List ℕ). word ++ t) (spaced_before a (b ∷ c ∷ []) (10 ∷ rest)
    ∙ ap (λ (t : List ℕ). (32 ∷ decimal a) ++ t) (spaced_before b (c ∷ []) (10 ∷ rest) ∙ ap (λ (t : List ℕ). (32 ∷ decimal b) ++ t) (spaced_before c [] (10 ∷ rest))))

abbrev pub IsOneLine : List ℕ → List ℕ → ℕ × List ℕ → Type 0
IsOneLine word bytes x = (bytes ≡ spelled (line word (x.0 ∷ [])) ++ x.1) × (x.0 < 2 ^ 32)

pub one_takes : (word bytes : List ℕ) (x : ℕ × List ℕ) → one_at word bytes ≡ Some x → IsOneLine word bytes x
unfolding one_at
one_takes word bytes x e =
    let r = bind_some (word_at word bytes) (λ rest. field_at rest >>= λ a. line_end a.1 >>= λ after. Some (a.0, after)) x e in
    let a = bind_some (field_at r.0) (λ a. line_end a.1 >>= λ after. Some (a.0, after)) x r.2 in
    let z = bind_some (line_end a.0.1) (λ after. Some (a.0.0, after)) x a.2 in
    let fa = field_takes r.0 a.0 a.1 in
    subst (IsOneLine word bytes) (some_is (a.0.0, z.0) x z.2)
    (word_takes word bytes r.0 r.1 ∙ ap (λ (t : List ℕ). word ++ t) (fa.0 ∙ ap (λ (t : List ℕ). (32 ∷ decimal a.0.0) ++ t) (end_takes a.0.1 z.0 z.1)) ∙ sym (one_before word a.0.0 z.0), fa.1)

pub one_again : (word : List ℕ) (a : ℕ) (rest : List ℕ) → a < 2 ^ 32 → one_at word (spelled (line word (a ∷ [])) ++ rest) ≡ Some (a, rest)
unfolding one_at
one_again word a rest small =
    ap (one_at word) (one_before word a rest) ∙ rw (word_again word ((32 ∷ decimal a) ++ 10 ∷ rest), field_again a (10 ∷ rest) small (line_ends_number rest), end_again rest) refl

abbrev pub IsTwoLine : List ℕ → List ℕ → (ℕ × ℕ) × List ℕ → Type 0
IsTwoLine word bytes x = (bytes ≡ spelled (line word (x.0.0 ∷ x.0.1 ∷ [])) ++ x.1) × (x.0.0 < 2 ^ 32) × (x.0.1 < 2 ^ 32)

pub two_takes : (word bytes : List ℕ) (x : (ℕ × ℕ) × List ℕ) → two_at word bytes ≡ Some x → IsTwoLine word bytes x
unfolding two_at
two_takes word bytes x e =
    let r = bind_some (word_at word bytes) (λ rest. field_at rest >>= λ a. field_at a.1 >>= λ b. line_end b.1 >>= λ after. Some ((a.0, b.0), after)) x e in
    let a = bind_some (field_at r.0) (λ a. field_at a.1 >>= λ b. line_end b.1 >>= λ after. Some ((a.0, b.0), after)) x r.2 in
    let b = bind_some (field_at a.0.1) (λ b. line_end b.1 >>= λ after. Some ((a.0.0, b.0), after)) x a.2 in
    let z = bind_some (line_end b.0.1) (λ after. Some ((a.0.0, b.0.0), after)) x b.2 in
    let fa = field_takes r.0 a.0 a.1 in
    let fb = field_takes a.0.1 b.0 b.1 in
    subst (IsTwoLine word bytes) (some_is ((a.0.0, b.0.0), z.0) x z.2) (
      word_takes word bytes r.0 r.1
          ∙ ap (λ (t : List ℕ). word ++ t) (fa.0 ∙ ap (λ (t : List ℕ). (32 ∷ decimal a.0.0) ++ t) (fb.0 ∙ ap (λ (t : List ℕ). (32 ∷ decimal b.0.0) ++ t) (end_takes b.0.1 z.0 z.1)))
          ∙ sym (two_before word a.0.0 b.0.0 z.0),
      fa.1,
      fb.1,
    )

pub two_again : (word : List ℕ) (a b : ℕ) (rest : List ℕ) → a < 2 ^ 32 → b < 2 ^ 32 → two_at word (spelled (line word (a ∷ b ∷ [])) ++ rest) ≡ Some ((a, b), rest)
unfolding two_at
two_again word a b rest small_a small_b =
    ap (two_at word) (two_before word a b rest)
    ∙ rw (
      word_again word ((32 ∷ decimal a) ++ ((32 ∷ decimal b) ++ 10 ∷ rest)),
      field_again a ((32 ∷ decimal b) ++ 10 ∷ rest) small_a (space_ends (decimal b ++ 10 ∷ rest)),
      field_again b (10 ∷ rest) small_b (line_ends_number rest),
      end_again rest,
    ) refl

abbrev pub IsThreeLine : List ℕ → List ℕ → (ℕ × ℕ × ℕ) × List ℕ → Type 0
IsThreeLine word bytes x = (bytes ≡ spelled (line word (x.0.0 ∷ x.0.1 ∷ x.0.2 ∷ [])) ++ x.1) × (x.0.0 < 2 ^ 32) × (x.0.1 < 2 ^ 32) × (x.0.2 < 2 ^ 32)

pub three_takes : (word bytes : List ℕ) (x : (ℕ × ℕ × ℕ) × List ℕ) → three_at word bytes ≡ Some x → IsThreeLine word bytes x
unfolding three_at
three_takes word bytes x e =
    let r = bind_some (word_at word bytes) (λ rest. field_at rest >>= λ a. field_at a.1 >>= λ b. field_at b.1 >>= λ d. line_end d.1 >>= λ after. Some ((a.0, b.0, d.0), after)) x e in
    let a = bind_some (field_at r.0) (λ a. field_at a.1 >>= λ b. field_at b.1 >>= λ d. line_end d.1 >>= λ after. Some ((a.0, b.0, d.0), after)) x r.2 in
    let b = bind_some (field_at a.0.1) (λ b. field_at b.1 >>= λ d. line_end d.1 >>= λ after. Some ((a.0.0, b.0, d.0), after)) x a.2 in
    let d = bind_some (field_at b.0.1) (λ d. line_end d.1 >>= λ after. Some ((a.0.0, b.0.0, d.0), after)) x b.2 in
    let z = bind_some (line_end d.0.1) (λ after. Some ((a.0.0, b.0.0, d.0.0), after)) x d.2 in
    let fa = field_takes r.0 a.0 a.1 in
    let fb = field_takes a.0.1 b.0 b.1 in
    let fd = field_takes b.0.1 d.0 d.1 in
    subst (IsThreeLine word bytes) (some_is ((a.0.0, b.0.0, d.0.0), z.0) x z.2) (
      word_takes word bytes r.0 r.1
          ∙ ap (λ (t : List ℕ). word ++ t) (fa.0
          ∙ ap (λ (t : List ℕ). (32 ∷ decimal a.0.0) ++ t) (fb.0 ∙ ap (λ (t : List ℕ). (32 ∷ decimal b.0.0) ++ t) (fd.0 ∙ ap (λ (t : List ℕ). (32 ∷ decimal d.0.0) ++ t) (end_takes d.0.1 z.0 z.1))))
          ∙ sym (three_before word a.0.0 b.0.0 d.0.0 z.0),
      fa.1,
      fb.1,
      fd.1,
    )

pub three_again : (word : List ℕ) (a b c : ℕ) (rest : List ℕ) → a < 2 ^ 32 → b < 2 ^ 32 → c < 2 ^ 32 → three_at word (spelled (line word (a ∷ b ∷ c ∷ [])) ++ rest) ≡ Some ((a, b, c), rest)
unfolding three_at
three_again word a b c rest small_a small_b small_c =
    ap (three_at word) (three_before word a b c rest)
    ∙ rw (
      word_again word ((32 ∷ decimal a) ++ ((32 ∷ decimal b) ++ ((32 ∷ decimal c) ++ 10 ∷ rest))),
      field_again a ((32 ∷ decimal b) ++ ((32 ∷ decimal c) ++ 10 ∷ rest)) small_a (space_ends (decimal b ++ ((32 ∷ decimal c) ++ 10 ∷ rest))),
      field_again b ((32 ∷ decimal c) ++ 10 ∷ rest) small_b (space_ends (decimal c ++ 10 ∷ rest)),
      field_again c (10 ∷ rest) small_c (line_ends_number rest),
      end_again rest,
    ) refl

abbrev pub AreSizesOf : List ℕ → Sizes × List ℕ → Type 0
AreSizesOf bytes x = (bytes ≡ spelled (matrix_line x.0) ++ x.1) × (x.0.rows < 2 ^ 32) × (x.0.cols < 2 ^ 32) × (x.0.entries < 2 ^ 32)

abbrev made : ℕ → ℕ → ℕ → List ℕ → Option (Sizes × List ℕ)
made m n k after = Some (record { rows = m; cols = n; entries = k }, after)

pub sizes_take : (bytes : List ℕ) (x : Sizes × List ℕ) → sizes_at bytes ≡ Some x → AreSizesOf bytes x
unfolding sizes_at
sizes_take bytes x e =
    let word : List ℕ = codes "matrix" in
    let r = bind_some (word_at word bytes) (λ rest. field_at rest >>= λ m. field_at m.1 >>= λ n. field_at n.1 >>= λ k. line_end k.1 >>= λ after. made m.0 n.0 k.0 after) x e in
    let a = bind_some (field_at r.0) (λ m. field_at m.1 >>= λ n. field_at n.1 >>= λ k. line_end k.1 >>= λ after. made m.0 n.0 k.0 after) x r.2 in
    let b = bind_some (field_at a.0.1) (λ n. field_at n.1 >>= λ k. line_end k.1 >>= λ after. made a.0.0 n.0 k.0 after) x a.2 in
    let d = bind_some (field_at b.0.1) (λ k. line_end k.1 >>= λ after. made a.0.0 b.0.0 k.0 after) x b.2 in
    let z = bind_some (line_end d.0.1) (λ after. made a.0.0 b.0.0 d.0.0 after) x d.2 in
    let fa = field_takes r.0 a.0 a.1 in
    let fb = field_takes a.0.1 b.0 b.1 in
    let fd = field_takes b.0.1 d.0 d.1 in
    subst (AreSizesOf bytes) (some_is (record { rows = a.0.0; cols = b.0.0; entries = d.0.0 }, z.0) x z.2) (
      word_takes word bytes r.0 r.1
          ∙ ap (λ (t : List ℕ). word ++ t) (fa.0
          ∙ ap (λ (t : List ℕ). (32 ∷ decimal a.0.0) ++ t) (fb.0 ∙ ap (λ (t : List ℕ). (32 ∷ decimal b.0.0) ++ t) (fd.0 ∙ ap (λ (t : List ℕ). (32 ∷ decimal d.0.0) ++ t) (end_takes d.0.1 z.0 z.1))))
          ∙ sym (three_before word a.0.0 b.0.0 d.0.0 z.0),
      fa.1,
      fb.1,
      fd.1,
    )

pub sizes_again : (s : Sizes) (rest : List ℕ) → s.rows < 2 ^ 32 → s.cols < 2 ^ 32 → s.entries < 2 ^ 32 → sizes_at (spelled (matrix_line s) ++ rest) ≡ Some (s, rest)
unfolding sizes_at
sizes_again s rest small_m small_n small_e =
    ap sizes_at (three_before (codes "matrix") s.rows s.cols s.entries rest)
    ∙ rw (
      word_again (codes "matrix") ((32 ∷ decimal s.rows) ++ ((32 ∷ decimal s.cols) ++ ((32 ∷ decimal s.entries) ++ 10 ∷ rest))),
      field_again s.rows ((32 ∷ decimal s.cols) ++ ((32 ∷ decimal s.entries) ++ 10 ∷ rest)) small_m (space_ends (decimal s.cols ++ ((32 ∷ decimal s.entries) ++ 10 ∷ rest))),
      field_again s.cols ((32 ∷ decimal s.entries) ++ 10 ∷ rest) small_n (space_ends (decimal s.entries ++ 10 ∷ rest)),
      field_again s.entries (10 ∷ rest) small_e (line_ends_number rest),
      end_again rest,
    ) refl

-- ---- lists

abbrev pub AreIds : List ℕ → Type 0
AreIds ids = AllByRecursion IsId ids

abbrev IsIdLine : List ℕ → List ℕ × List ℕ → Type 0
IsIdLine bytes x = (bytes ≡ spaced (counted x.0) ++ 10 ∷ x.1) × AreIds x.0

pub ids_take : (most : ℕ) (bytes : List ℕ) (x : List ℕ × List ℕ) → ids_at most bytes ≡ Some x → IsIdLine bytes x
unfolding ids_at
ids_take zero bytes x e = absurd cc
ids_take (suc most) bytes x e = by (ids_take most) (starts_with nat_eq bytes (codes " ")) e
  where
    by : ((bytes : List ℕ) (x : List ℕ × List ℕ) → ids_at most bytes ≡ Some x → IsIdLine bytes x) → (b : Bool)
        → cond b (field_at bytes >>= λ n. id_of n >>= λ first. ids_at most first.1 >>= λ others. Some (first.0 ∷ others.0, others.1)) (line_end bytes >>= λ after. Some ([], after)) ≡ Some x
        → IsIdLine bytes x
    by again true f =
        let n = bind_some (field_at bytes) (λ n. id_of n >>= λ first. ids_at most first.1 >>= λ others. Some (first.0 ∷ others.0, others.1)) x f in
        let first = bind_some (id_of n.0) (λ first. ids_at most first.1 >>= λ others. Some (first.0 ∷ others.0, others.1)) x n.2 in
        let others = bind_some (ids_at most first.0.1) (λ others. Some (first.0.0 ∷ others.0, others.1)) x first.2 in
        let field = field_takes bytes n.0 n.1 in
        let id = id_takes n.0 first.0 first.1 in
        let rest = again first.0.1 others.0 others.1 in
        subst (IsIdLine bytes) (some_is (first.0.0 ∷ others.0.0, others.0.1) x others.2)
        (field.0 ∙ ap₂ (λ (k : ℕ) (t : List ℕ). (32 ∷ decimal k) ++ t) id.0 (id.1 ∙ rest.0) ∙ sym (spaced_before (suc first.0.0) (counted others.0.0) (10 ∷ others.0.1)), (omega (arith, field.1, id.0), rest.1))
    by again false f =
        let after = bind_some (line_end bytes) (λ after. Some ([], after)) x f in
        subst (IsIdLine bytes) (some_is ([], after.0) x after.2) (end_takes bytes after.0 after.1, tt)

numbers_end : (ids rest : List ℕ) → EndsNumber (spaced (counted ids) ++ 10 ∷ rest)
numbers_end [] rest n = line_ends_number rest n
numbers_end (i ∷ ids) rest n = space_ends ((decimal (suc i) ++ spaced (counted ids)) ++ 10 ∷ rest) n

pub ids_again : (ids rest : List ℕ) (most : ℕ) → AreIds ids → length ids < most → ids_at most (spaced (counted ids) ++ 10 ∷ rest) ≡ Some (ids, rest)
unfolding ids_at
ids_again ids rest zero fit enough = absurd (omega (arith, enough))
ids_again [] rest (suc most) fit enough = rw (end_again rest) refl
ids_again (i ∷ ids) rest (suc most) fit enough =
    ap (ids_at (suc most)) (spaced_before (suc i) (counted ids) (10 ∷ rest))
    ∙ rw (
      field_again (suc i) (spaced (counted ids) ++ 10 ∷ rest) (omega (arith, fit.0)) (numbers_end ids rest),
      id_again i (spaced (counted ids) ++ 10 ∷ rest),
      ids_again ids rest most fit.1 (omega (arith, enough)),
    ) refl

as_long : (ids : List ℕ) → length ids ≤ length (spaced (counted ids))
as_long [] = omega arith
as_long (i ∷ ids) = omega (arith, as_long ids, length-append (32 ∷ decimal (suc i)) (spaced (counted ids)))

abbrev pub IsListLine : List ℕ → List ℕ → List ℕ × List ℕ → Type 0
IsListLine word bytes x = (bytes ≡ spelled (line word (counted x.0)) ++ x.1) × AreIds x.0

pub list_takes : (word bytes : List ℕ) (x : List ℕ × List ℕ) → list_at word bytes ≡ Some x → IsListLine word bytes x
unfolding list_at
list_takes word bytes x e =
    let r = bind_some (word_at word bytes) (λ rest. ids_at (suc (length rest)) rest) x e in
    let ids = ids_take (suc (length r.0)) r.0 x r.2 in
    (word_takes word bytes r.0 r.1 ∙ ap (λ (t : List ℕ). word ++ t) ids.0 ∙ sym (line_before word (counted x.0) x.1), ids.1)

pub list_again : (word ids rest : List ℕ) → AreIds ids → list_at word (spelled (line word (counted ids)) ++ rest) ≡ Some (ids, rest)
unfolding list_at
list_again word ids rest fit =
    ap (list_at word) (line_before word (counted ids) rest)
    ∙ rw (word_again word (spaced (counted ids) ++ 10 ∷ rest)) (ids_again ids rest (suc (length (spaced (counted ids) ++ 10 ∷ rest))) fit (omega (arith, as_long ids, length-append (spaced (counted ids)) (10 ∷ rest))))
