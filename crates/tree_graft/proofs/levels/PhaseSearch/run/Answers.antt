use Rattle.std.proofs.Common.{◌==◌, ◌∙◌, ℕ, List, ap, length, sym}
use Rattle.tree_graft.proofs.FrontierLemmas.{levels_fall, scanned_at_end}
use Rattle.tree_graft.proofs.levels.PhaseSearch.run.Goals as goal

pub loop-self-smaller : goal.loop-self-smaller
loop-self-smaller g c =
    let none = sym (c.is_empty.ensures ∙ ap (λ (xs : List ℕ). length xs == 0) c.as_slice.ensures.value) ∙ c.loop-self-test.true in
    let next = c.in_ok-level.ensures.next in
    levels_fall c.loop-self.forest c.level.new.forest c.loop-self.self.frontier.items c.level.new.self.frontier.items none next.matrix next.few next.more

pub loop-self-preserved : goal.loop-self-preserved
loop-self-preserved g c = record {
  grown = λ r k. c.level.ensures.grown r (c.loop-self.invariant.grown r k);
  level = c.in_ok-level.ensures.next.level;
}

pub returns-in_err-level-clause-grown : goal.returns-in_err-level-clause-grown
returns-in_err-level-clause-grown g c = λ r k. c.level.ensures.grown r (c.loop-self.invariant.grown r k)

pub returns-clause-scanned : goal.returns-clause-scanned
returns-clause-scanned g c = scanned_at_end c.loop-self.forest c.loop-self.self.frontier.items (sym (c.is_empty.ensures ∙ ap (λ (xs : List ℕ). length xs == 0) c.as_slice.ensures.value) ∙ c.loop-self-test.false) c.loop-self.invariant.level.frontier
