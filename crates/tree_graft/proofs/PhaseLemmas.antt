-- What a phase leaves, and phases one after the other.
use Rattle.std.proofs.Common.{◌≡◌, ◌≢◌, ◌↔◌, ◌∙◌, ℕ, ◌+◌, ◌-◌, ◌<◌, Bool, true, false, if◌then◌else◌, IsTrue, nat_lt, true≢false, List, [], ◌∷◌, length, Result, Ok, Err, IfOk, refl, sym, ap, subst, arith}
use Rattle.std.proofs.Math.Decide.{dec_lt}
use Rattle.std.proofs.lemmas.Bool.{lt-ltb, ltb-true}
use Rattle.bip_defs.specs.Forest.{IsRested, State}
use Rattle.bip_defs.specs.Matching.{Covers, IsMatching, IsMaximum}
use Rattle.bip_defs.specs.Matrix.{Matrix, Place, cols}
use Rattle.bip_defs.proofs.Full.{matching_few}
use Rattle.bip_defs.proofs.Reaching.{same_size_maximum}
use Rattle.bip_defs.proofs.Covers.{covers_more, covers_none}
use Rattle.forest_core.specs.Events.{Grows}
use Rattle.forest_core.specs.Growing.{GrowsOn}
use Rattle.forest_core.specs.Trees.{HasTrees}
use Rattle.tree_graft.specs.Phases.{StaysMatched}

-- what goes on growing has grown
pub grown_from : (s t : State) → GrowsOn s t → Grows s t
grown_from s t on = on s (record {
  legal = ([], refl);
  matrix = refl;
  base = refl;
  flipped = refl;
  claims = λ p h. h;
  leaves = λ p h. h;
  inside = λ c i. i;
  root = λ x c w. w;
  row_won = λ r w. w;
  won = λ c w. w;
  used_up = λ c all. all;
})

-- What stays matched.

pub matched_here : {s : State} → HasTrees s → StaysMatched s s
matched_here trees = record { matrix = refl; matching = trees.sound.base; covered = covers_none _ }

pub grown_matched : {s t : State} → HasTrees s → Grows s t → StaysMatched s t
grown_matched {s = s} trees g = record {
  matrix = g.matrix;
  matching = subst (IsMatching s.matrix) (sym g.base) trees.sound.base;
  covered = subst (Covers s.base) (sym g.base) (covers_none s.base);
}

pub matched_on : {s t u : State} → StaysMatched s t → StaysMatched t u → StaysMatched s u
matched_on {u = u} a b = record {
  matrix = b.matrix ∙ a.matrix;
  matching = subst (λ (m : Matrix). IsMatching m u.base) a.matrix b.matching;
  covered = covers_more a.covered b.covered;
}

-- Without a leaf.

pub was_maximum : (s t : State) → Grows s t → IsMaximum t.matrix t.base → IsMaximum s.matrix s.base
was_maximum s t g max = subst (λ (a : Matrix). IsMaximum a s.base) g.matrix (subst (λ (m : List Place). IsMaximum t.matrix m) g.base max)

-- With leaves.

not_empty : {X : Type 0} (xs : List X) → xs ≢ [] → 0 < length xs
not_empty [] ne = absurd (ne refl)
not_empty (x ∷ xs) ne = omega arith

pub was_not_maximum : (s t u : State) (k : ℕ) → IsMatching s.matrix u.base → Grows s t → t.leaves ≢ [] → k ≡ length t.leaves → length u.base ≡ length t.base + k → (k ≡ 0) ↔ IsMaximum s.matrix s.base
was_not_maximum s t u k matching g ne paths growth = (λ none. absurd (omega (arith, some, paths, none)), λ max. absurd (let le = max.longest u.base matching in omega (arith, some, paths, growth, same, le)))
  where
    some : 0 < length t.leaves
    some = not_empty t.leaves ne

    same : length t.base ≡ length s.base
    same = ap (λ (m : List Place). length m) g.base

-- Phases one after the other.

-- a phase that has found no path is the last
pub last_phase : (a : Matrix) (s t : State) (k : ℕ) → IsMatching s.matrix t.base → s.matrix ≡ a → length t.base ≡ length s.base + k → (k ≡ 0) ↔ IsMaximum s.matrix s.base → k ≡ 0 → IsMaximum a t.base
last_phase a s t k matching e growth fact none = subst (λ (b : Matrix). IsMaximum b t.base) e (same_size_maximum s.matrix s.base t.base (fact.0 none) matching (omega (arith, growth, none)))

-- the columns without a base mate, and one while phases go on, fall
pub phases_fall : (a : Matrix) (s t : State) (k : ℕ) (more : Bool) → IsMatching s.matrix t.base → s.matrix ≡ a → length t.base ≡ length s.base + k → (IsTrue more ↔ (0 < k)) → (cols a - length t.base) + (if more then 1 else 0) < (cols a - length s.base) + 1
phases_fall a s t k true matching e growth fact =
    let le = matching_few s.matrix t.base matching in
    let same = ap (λ (b : Matrix). cols b) e in
    let some = fact.0 refl in
    omega (arith, le, same, growth, some)
phases_fall a s t k false matching e growth fact = omega (arith, growth)

-- the matching that is left is as long as the base, since no root is flipped
pub left_maximum : (a : Matrix) (s : State) (n : List Place) → IsRested s → IsMaximum a s.base → s.matrix ≡ a → IsMatching s.matrix n → length n ≡ length s.base + length s.flipped → IsMaximum a n
left_maximum a s n rested max e matching size = same_size_maximum a s.base n max (subst (λ (b : Matrix). IsMatching b n) e matching) (let none = ap (λ (xs : List ℕ). length xs) rested.none_flipped in omega (arith, size, none))

-- Answers of code.

pub known_some : (k : ℕ) → IsTrue (nat_lt 0 k) ↔ (0 < k)
known_some k = (λ h. ltb-true 0 k h, λ lt. lt-ltb 0 k lt)

pub known_none : (k : ℕ) → nat_lt 0 k ≡ false → k ≡ 0
known_none k e = by (dec_lt 0 k)
  where
    by : Dec (0 < k) → k ≡ 0
    by (yes lt) = absurd (true≢false (sym (lt-ltb 0 k lt) ∙ e))
    by (no nlt) = omega arith

-- what two clauses on an answer say together
pub if_ok_both : {X Y : Type 0} (r : Result X Y) (P Q S : X → Type 0) → ((x : X) → P x → Q x → S x) → IfOk r P → IfOk r Q → IfOk r S
if_ok_both (Ok x) P Q S f p q = f x p q
if_ok_both (Err e) P Q S f p q = tt
