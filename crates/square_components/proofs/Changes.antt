-- What single writes change.
use Rattle.std.proofs.Common.{◌≡◌, ◌≢◌, ◌∙◌, ℕ, ◌<◌, ◌≤◌, List, [], ◌∷◌, ◌++◌, length, get_or, refl, sym, ap, subst, inl, inr, ⊎_elim, arith}
use Rattle.std.proofs.lemmas.List.{get_or_default}
use Rattle.bip_defs.specs.Lists.{Among, IsRising, numbers_of}
use Rattle.bip_defs.specs.Matrix.{upto_from}
use Rattle.bip_defs.proofs.Sets.{among_last, among_left, among_map, among_map_back, among_right, below_each_from, below_each_sound, few_distinct, rising_distinct, rising_unique, upto_complete, upto_length}
use Rattle.bip_graph.specs.Matching.{none}
use Rattle.square_components.specs.Numbers.{look}
use Rattle.square_components.specs.Steps.{AreBelow, IsLast}

-- what indexing read, as the clauses say it
pub look_read : (xs : List ℕ) (i x : ℕ) → i < length xs → x ≡ get_or xs i x → look xs i ≡ x
look_read xs i x lt e = get_or_default xs i none x lt ∙ sym e

-- Rising lists without their last.

pub rising_front : (xs : List ℕ) (y : ℕ) → IsRising (xs ++ y ∷ []) → IsRising xs
rising_front [] y h = tt
rising_front (x ∷ xs) y h = (below_each_from x xs (λ z g. below_each_sound x z (xs ++ y ∷ []) h.0 (among_left z xs (y ∷ []) g)), rising_front xs y h.1)

pub rising_end : (xs : List ℕ) (y x : ℕ) → IsRising (xs ++ y ∷ []) → Among x xs → x < y
rising_end [] y x h g = elim g [ ]
rising_end (z ∷ xs) y x h (inl e) = subst (λ w. w < y) (sym e) (below_each_sound z y (xs ++ y ∷ []) h.0 (among_right y xs (y ∷ []) (inl refl)))
rising_end (z ∷ xs) y x h (inr g) = rising_end xs y x h.1 g

-- no element is above the last
pub rising_most : (xs prefix : List ℕ) (y x : ℕ) → IsRising xs → xs ≡ prefix ++ y ∷ [] → Among x xs → x ≤ y
rising_most xs prefix y x h e g = ⊎_elim (λ k. let lt = rising_end prefix y x (subst IsRising e h) k in omega arith) (λ (f : x ≡ y). omega arith) (among_last x y prefix (subst (Among x) e g))

-- what is left of starts of which some from t on are taken off
pub record IsCut (t : ℕ) (old new : List ℕ) : Type 0 where
  pub kept : (b : ℕ) → Among b old → b < t → Among b new
  pub only : (b : ℕ) → Among b new → Among b old
  pub rising : IsRising new

pub cut_more : (t : ℕ) (old new prefix : List ℕ) (y : ℕ) → IsCut t old new → new ≡ prefix ++ y ∷ [] → t ≤ y → IsCut t old prefix
cut_more t old new prefix y c e le = record {
  kept = λ b g lt. ⊎_elim (λ h. h) (λ (f : b ≡ y). absurd (omega arith)) (among_last b y prefix (subst (Among b) e (c.kept b g lt)));
  only = λ b g. c.only b (subst (Among b) (sym e) (among_left b prefix (y ∷ []) g));
  rising = rising_front prefix y (subst IsRising e c.rising);
}

pub cut_end : (t : ℕ) (old new prefix : List ℕ) (y : ℕ) → IsCut t old new → new ≡ prefix ++ y ∷ [] → y < t → AreBelow t old new
cut_end t old new prefix y c e lt = record { kept = c.kept; only = λ b g. (c.only b g, let m = rising_most new prefix y b c.rising e g in omega arith); rising = c.rising }

-- a list that has something is not empty
pub some_among : (xs : List ℕ) (x : ℕ) → Among x xs → xs ≢ []
some_among xs x h e = subst (Among x) e h

-- and neither is one that has a last
pub last_among : (xs : List ℕ) (x : ℕ) → IsLast xs x → Among x xs
last_among xs x e = subst (Among x) (sym e.1) (among_right x e.0 (x ∷ []) (inl refl))

pub last_most : (xs : List ℕ) (y x : ℕ) → IsRising xs → IsLast xs y → Among x xs → x ≤ y
last_most xs y x h e g = rising_most xs e.0 y x h e.1 g

-- where none is at t or above, nothing is taken off
pub none_above : (t : ℕ) (xs ys : List ℕ) → IsRising xs → AreBelow t xs ys → ((b : ℕ) → Among b xs → b < t) → ys ≡ xs
none_above t xs ys h k f = rising_unique ys xs k.rising h (λ b g. (k.only b g).0) (λ b g. k.kept b g (f b g))

pub below_all : (t : ℕ) (xs : List ℕ) → IsRising xs → ((b : ℕ) → Among b xs → b < t) → AreBelow t xs xs
below_all t xs h f = record { kept = λ b g lt. g; only = λ b g. (g, f b g); rising = h }

-- the first numbers of a list with one more pair
pub numbers_more : (fs : List (ℕ × ℕ)) (p k : ℕ) → numbers_of (fs ++ (p, k) ∷ []) ≡ numbers_of fs ++ p ∷ []
numbers_more [] p k = refl
numbers_more (f ∷ fs) p k = ap (λ xs. f.0 ∷ xs) (numbers_more fs p k)

pub number_of_pair : (fs : List (ℕ × ℕ)) (p k : ℕ) → Among (p, k) fs → Among p (numbers_of fs)
number_of_pair fs p k h = among_map (λ (f : ℕ × ℕ). f.0) (p, k) fs h

pub pair_of_number : (fs : List (ℕ × ℕ)) (p : ℕ) → Among p (numbers_of fs) → (k : ℕ) × Among (p, k) fs
pair_of_number fs p h = let (f, g, e) = among_map_back (λ (f : ℕ × ℕ). f.0) p fs h in (f.1, subst (λ x. Among (x, f.1) fs) e g)

-- a rising list of numbers below n is no longer than n
pub rising_few : (xs : List ℕ) (n : ℕ) → IsRising xs → ((x : ℕ) → Among x xs → x < n) → length xs ≤ n
rising_few xs n h f = subst (λ l. length xs ≤ l) (upto_length 0 n) (few_distinct xs (upto_from 0 n) (rising_distinct xs h) (λ x g. upto_complete 0 n x (omega arith) (let lt = f x g in omega arith)))
