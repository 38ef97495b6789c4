-- Lists that grow at their end, and lists of the same members.
use Rattle.std.proofs.Common.{◌≡◌, ◌↔◌, ◌∙◌, ℕ, Bool, IsTrue, true, false, not, Option, None, Some, IfSome, IfNone, is_some, List, [], ◌∷◌, ◌++◌, length, map, refl, sym, ap, subst, inl, inr, arith, true≢false}
use Rattle.bip_defs.specs.Lists.{Among, AreDistinct}
use Rattle.bip_defs.specs.Matching.{IsMatching}
use Rattle.bip_defs.specs.Matrix.{Matrix, Place}
use Rattle.bip_defs.proofs.Sets.{among_map_back, few_distinct, one_col, one_row}

pub map_last : {X Y : Type 0} (f : X → Y) (xs : List X) (x : X) → map f (xs ++ x ∷ []) ≡ map f xs ++ f x ∷ []
map_last f [] x = refl
map_last {Y = Y} f (y ∷ xs) x = ap (λ (zs : List Y). f y ∷ zs) (map_last f xs x)

-- where no two elements share their image
pub distinct_map : {X : Type 0} (f : X → ℕ) (xs : List X) → AreDistinct xs → ((x y : X) → Among x xs → Among y xs → f x ≡ f y → x ≡ y) → AreDistinct (map f xs)
distinct_map f [] a one = tt
distinct_map f (x ∷ xs) a one = (λ h. let (y, k, e) = among_map_back f (f x) xs h in a.0 (subst (λ z. Among z xs) (sym (one x y (inl refl) (inr k) (sym e))) k), distinct_map f xs a.1 (λ y z h k. one y z (inr h) (inr k)))

-- pairs, each of them once, that are those of a matching
pub same_matching : (a : Matrix) (m n : List Place) → IsMatching a m → AreDistinct n → ((p : Place) → Among p n → Among p m) → IsMatching a n
same_matching a m n k once over = record {
  entries = λ r c h. k.entries r c (over (r, c) h);
  rows_differ = distinct_map (λ (p : Place). p.0) n once (λ p q h g e. λ i. (e i, one_col m k.rows_differ q.0 p.1 q.1 (subst (λ x. Among {X = Place} (x, p.1) m) e (over p h)) (over q g) i));
  cols_differ = distinct_map (λ (p : Place). p.1) n once (λ p q h g e. λ i. (one_row m k.cols_differ p.0 q.0 q.1 (subst (λ x. Among {X = Place} (p.0, x) m) e (over p h)) (over q g) i, e i));
}

pub same_length : (m n : List Place) → AreDistinct m → AreDistinct n → ((p : Place) → Among p m → Among p n) → ((p : Place) → Among p n → Among p m) → length m ≡ length n
same_length m n a b over back = let le = few_distinct m n a over in let ge = few_distinct n m b back in omega (arith, le, ge)

-- Answers of code.

pub if_some : {X : Type 0} (P Q : X → Type 0) (o : Option X) → ((x : X) → P x → Q x) → IfSome o P → IfSome o Q
if_some P Q None f h = tt
if_some P Q (Some x) f h = f x h

pub if_none : {X : Type 0} (P Q : Type 0) (o : Option X) → (P → Q) → IfNone o P → IfNone o Q
if_none P Q None f h = f h
if_none P Q (Some x) f h = tt

-- a fact that an answer's value shows, and that does not hold where there is none
pub some_decides : {Q : Type 0} (P : ℕ → Type 0) (o : Option ℕ) (b : Bool) → b ≡ is_some o → ((x : ℕ) → P x → Q) → IfSome o P → IfNone o (¬ Q) → IsTrue b ↔ Q
some_decides P None b e on f none = (λ t. absurd (true≢false (sym t ∙ e)), λ q. absurd (none q))
some_decides P (Some x) b e on f none = (λ t. on x f, λ q. e)

pub is_not : (b : Bool) → ¬ (b ≡ true) → not b ≡ true
is_not true n = absurd (n refl)
is_not false n = refl

-- where the answer is false, it is not true
pub known_false : {P : Type 0} → false ≡ true → P
known_false e = absurd (true≢false (sym e))
