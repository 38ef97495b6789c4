-- Searches that go down by layers.
use Rattle.std.proofs.Common.{◌≡◌, ◌⊎◌, ◌∙◌, ℕ, suc, ◌+◌, ◌-◌, ◌*◌, ◌<◌, ◌≤◌, true, false, List, [], ◌∷◌, length, refl, sym, ap, subst, inl, inr, arith, length-append}
use Rattle.std.proofs.Math.Nat.{suc-mul}
use Rattle.bip_defs.specs.Lists.{Among, IsMarked}
use Rattle.bip_defs.specs.Matching.{IsMatching, cols_of}
use Rattle.bip_defs.specs.Matrix.{IsEntry, Matrix, Place}
use Rattle.bip_graph.specs.Matching.{Pairing}
use Rattle.path_search.specs.Forests.{Extends, IsForest, Trees, Visits, reached_at}
use Rattle.path_search.specs.declared.reached.Reached.{Reached}
use Rattle.path_search.proofs.BatchLemmas.{FindsRow, visit_finds}
use Rattle.path_search.proofs.GrownTrees.{forest_reached}
use Rattle.path_search.proofs.MarkLemmas.{marked_grows}
use Rattle.path_search.proofs.Queues.{at_last}

-- a column was reached, in the tree of this root
pub record HasDescended (a : Matrix) (m : List Place) (root : ℕ) (old new : Trees) : Type 0 where
  pub forest : IsForest a m new
  pub extends : Extends old new
  pub longer : length new.queue ≡ length old.queue + 1
  pub last : (reached_at new.queue (length old.queue)).root ≡ root

pub descended : (a : Matrix) (m : List Place) (old new : Trees) (r place : ℕ) (x : Reached) → IsMatching a m → IsForest a m old → place < length old.queue → x ≡ reached_at old.queue place → IsEntry a r x.col → ¬ IsMarked old.marks r → Visits m r place x.root old new false → HasDescended a m x.root old new
descended a m old new r place x k f within at entry un (inl (marked, same)) = absurd (un marked)
descended a m old new r place x k f within at entry un (inr (free, d, pair, same)) = subst (λ (t : Trees). HasDescended a m x.root old t) (sym same) (record {
  forest = forest_reached a m old r d place x.root k f lt free pair within (sym (ap (λ (y : Reached). y.root) at)) (subst (λ (y : Reached). IsEntry a r y.col) at entry);
  extends = record { more = (last ∷ [], refl); marked = λ s h. marked_grows old.marks r lt s h };
  longer = length-append old.queue (last ∷ []);
  last = ap (λ (y : Reached). y.root) (at_last old.queue last);
})
  where
    last : Reached
    last = record { col = d; from = place; root = x.root }

    lt : r < length old.marks
    lt = subst (λ n. r < n) (sym f.rows_are) entry.0

-- an unmatched row is found
pub ends_at : (a : Matrix) (m : List Place) (old new : Trees) (r place : ℕ) (x : Reached) → IsForest a m old → place < length old.queue → x ≡ reached_at old.queue place → IsEntry a r x.col → ¬ Among (reached_at old.queue place).root (cols_of m) → Visits m r place x.root old new true → FindsRow a m old new r place
ends_at a m old new r place x f within at entry free v = visit_finds a m old new r place x.root f within (ap (λ (y : Reached). y.root) at) (subst (λ (y : Reached). IsEntry a r y.col) at entry) (subst (λ (y : Reached). ¬ Among y.root (cols_of m)) (sym at) free) v

pub root_unmatched : (m : List Place) (old new : List Reached) (x : Reached) (place i j : ℕ) → i ≡ j → (reached_at new j).root ≡ x.root → x ≡ reached_at old place → ¬ Among (reached_at old place).root (cols_of m) → ¬ Among (reached_at new i).root (cols_of m)
root_unmatched m old new x place i j e last at free = subst (λ y. ¬ Among y (cols_of m)) (sym (ap (λ k. (reached_at new k).root) e ∙ last ∙ ap (λ (y : Reached). y.root) at)) free

step : (x m next place : ℕ) → next < m → x + next < (x + m) + place
step x m next place lt = omega arith

-- what falls where a column is reached: the columns that are left, whatever the place
pub falls : (n old new place next : ℕ) → new ≡ old + 1 → new ≤ n → next ≡ old → (n - new) * (n + 1) + next < (n - old) * (n + 1) + place
falls n old new place next longer le at = subst (λ z. (n - new) * (n + 1) + next < z + place) (sym left) (step ((n - new) * (n + 1)) (n + 1) next place (omega arith))
  where
    one : n - old ≡ suc (n - new)
    one = omega arith

    left : (n - old) * (n + 1) ≡ (n - new) * (n + 1) + (n + 1)
    left = ap (λ x. x * (n + 1)) one ∙ suc-mul (n - new) (n + 1)

-- the matching stays, or it grows
pub grown_on : (m n o : Pairing) → (n ≡ m) ⊎ (length m.pairs < length n.pairs) → (o ≡ n) ⊎ (length n.pairs < length o.pairs) → (o ≡ m) ⊎ (length m.pairs < length o.pairs)
grown_on m n o (inl same) (inl stays) = inl (stays ∙ same)
grown_on m n o (inl same) (inr more) = inr (subst (λ (p : Pairing). length p.pairs < length o.pairs) same more)
grown_on m n o (inr grown) (inl stays) = inr (subst (λ (p : Pairing). length m.pairs < length p.pairs) (sym stays) grown)
grown_on m n o (inr grown) (inr more) = inr (omega arith)
