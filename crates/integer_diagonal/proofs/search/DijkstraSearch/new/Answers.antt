use Rattle.std.proofs.Common.{◌≡◌, ◌∙◌, ℕ, Bool, false, true≢false, List, [], length, get_or, replicate, sym, ap, rules}
use Rattle.std.proofs.lemmas.List.{length-replicate}
use Rattle.integer_diagonal.proofs.Repeated.{repeated}
use Rattle.integer_diagonal.specs.Amounts.{infinity}
use Rattle.integer_diagonal.specs.Labels.{IsClear, Labels}
use Rattle.integer_diagonal.specs.SearchTree.{Tree}
use Rattle.integer_diagonal.proofs.search.DijkstraSearch.new.Goals as goal

clear_start : (rows : ℕ) (t : Tree) (l : Labels) → l.distances ≡ replicate rows infinity → l.parents ≡ replicate rows 0 → l.settled ≡ replicate rows false → l.waiting ≡ [] → t.queue ≡ [] → t.depths ≡ [] → IsClear rows t l
clear_start rows t l distances parents settled waiting queue depths = record {
  distances_are = ap (λ (z : List ℕ). length z) distances ∙ length-replicate {A = ℕ} rows infinity;
  parents_are = ap (λ (z : List ℕ). length z) parents ∙ length-replicate {A = ℕ} rows 0;
  settled_are = ap (λ (z : List Bool). length z) settled ∙ length-replicate {A = Bool} rows false;
  distances = λ r. ap (λ (z : List ℕ). get_or z r infinity) distances ∙ repeated rows r infinity;
  settled = λ r mark. true≢false (sym mark ∙ ap (λ (z : List Bool). get_or z r false) settled ∙ repeated rows r false);
  waiting = waiting;
  queue = queue;
  depths = depths;
}

pub returns-clause-clear : goal.returns-clause-clear
returns-clause-clear g c = clear_start c.args.rows _ _ (c.in_ok-distances.ensures.items_if_clones_equal (λ y same. same) ∙ ap (λ d. replicate {A = ℕ} c.args.rows d) c.infinity.ensures) (c.in_ok-parents.ensures.items_if_clones_equal (λ y same. same)) (c.in_ok-settled.ensures.items_if_clones_equal (λ y same. same)) (search rules) (search rules) (search rules)
