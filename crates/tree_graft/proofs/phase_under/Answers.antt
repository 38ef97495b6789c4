use Rattle.std.proofs.Common.{◌≡◌, ◌↔◌, ◌∙◌, ◌==◌, ◌+◌, [], List, ap, arith, length, refl, subst, sym, true≢false}
use Rattle.std.proofs.lemmas.Result.{IfOk-weaker}
use Rattle.bip_defs.specs.Lists.{Among}
use Rattle.bip_defs.specs.Matching.{IsMaximum, cols_of}
use Rattle.bip_defs.specs.Matrix.{IsEntry, Matrix, Place}
use Rattle.bip_graph.specs.Matching.{Pairing}
use Rattle.tree_graft.proofs.PhaseLemmas.{grown_from, grown_matched, if_ok_both, matched_here, matched_on, was_maximum, was_not_maximum}
use Rattle.tree_graft.proofs.SearchLemmas.{closed, none_listed, nothing_to_claim}
use Rattle.tree_graft.proofs.phase_under.Goals as goal

pub returns-then-not-can_grow-clause-maximum : goal.returns-then-not-can_grow-clause-maximum
returns-then-not-can_grow-clause-maximum g c =
    let legal = nothing_to_claim c.args.forest.now c.requires.rested (sym c.claims.ensures.claims ∙ none_listed c.claims.result.now (sym c.is_empty.ensures ∙ c.if-is_empty.true)) (λ r x e. subst (λ (p : Pairing). Among x (cols_of p.pairs)) c.base.ensures.base (c.can_grow.ensures c.if-not-can_grow.true r x (subst (λ (a : Matrix). IsEntry a r x) (sym c.pattern.ensures) e))) in
    (λ k. c.claims.ensures.trees.maximum c.requires.rested.settled legal c.requires.rested.none_flipped, λ max. refl)

pub returns-then-not-can_grow-clause-done : goal.returns-then-not-can_grow-clause-done
returns-then-not-can_grow-clause-done g c = λ k. nothing_to_claim c.args.forest.now c.requires.rested (sym c.claims.ensures.claims ∙ none_listed c.claims.result.now (sym c.is_empty.ensures ∙ c.if-is_empty.true)) (λ r x e. subst (λ (p : Pairing). Among x (cols_of p.pairs)) c.base.ensures.base (c.can_grow.ensures c.if-not-can_grow.true r x (subst (λ (a : Matrix). IsEntry a r x) (sym c.pattern.ensures) e)))

pub returns-in_err-grow-clause-legal : goal.returns-in_err-grow-clause-legal
returns-in_err-grow-clause-legal g c = (grown_from c.args.forest.now c.grow.new.forest c.grow.ensures.grown).legal

pub returns-then-is_empty-2-clause-legal : goal.returns-then-is_empty-2-clause-legal
returns-then-is_empty-2-clause-legal g c = (grown_from c.args.forest.now c.grow.new.forest c.grow.ensures.grown).legal

pub returns-then-is_empty-2-clause-rested : goal.returns-then-is_empty-2-clause-rested
returns-then-is_empty-2-clause-rested g c = record {
  settled = c.in_ok-grow.ensures.settled;
  no_leaves = sym c.leaves.ensures.leaves ∙ none_listed c.leaves.result.now (sym c.is_empty-2.ensures ∙ c.if-is_empty-2.true);
  none_flipped = (grown_from c.args.forest.now c.grow.new.forest c.grow.ensures.grown).flipped ∙ c.requires.rested.none_flipped;
}

pub returns-then-is_empty-2-clause-growth : goal.returns-then-is_empty-2-clause-growth
returns-then-is_empty-2-clause-growth g c =
    let same = ap (λ (ps : List Place). length ps) (grown_from c.args.forest.now c.grow.new.forest c.grow.ensures.grown).base in
    omega (arith, same)

pub returns-then-is_empty-2-clause-maximum : goal.returns-then-is_empty-2-clause-maximum
returns-then-is_empty-2-clause-maximum g c =
    let e = c.in_ok-grow.ensures in
    let grown = grown_from c.args.forest.now c.grow.new.forest e.grown in
    let none = sym c.leaves.ensures.leaves ∙ none_listed c.leaves.result.now (sym c.is_empty-2.ensures ∙ c.if-is_empty-2.true) in
    (λ k. was_maximum c.args.forest.now c.grow.new.forest grown (c.leaves.ensures.trees.maximum e.settled (closed c.grow.new.forest e.scanned none) (grown.flipped ∙ c.requires.rested.none_flipped)), λ max. refl)

pub returns-then-is_empty-2-clause-done : goal.returns-then-is_empty-2-clause-done
returns-then-is_empty-2-clause-done g c = λ k.
    let none = sym c.leaves.ensures.leaves ∙ none_listed c.leaves.result.now (sym c.is_empty-2.ensures ∙ c.if-is_empty-2.true) in
    closed c.grow.new.forest c.in_ok-grow.ensures.scanned none

pub augment-requires-clause-flipped : goal.augment-requires-clause-flipped
augment-requires-clause-flipped g c κs within = (grown_from c.args.forest.now c.grow.new.forest c.grow.ensures.grown).flipped ∙ c.requires.rested.none_flipped

pub returns-clause-growth : goal.returns-clause-growth
returns-clause-growth g c =
    let same = (grown_from c.args.forest.now c.grow.new.forest c.grow.ensures.grown).base in
    IfOk-weaker c.augment.result _ _ (λ k e. e ∙ ap (λ (ps : List Place). length ps + k) same) c.augment.ensures.growth

pub returns-clause-legal : goal.returns-clause-legal
returns-clause-legal g c = c.augment.ensures.leads c.args.forest.now (grown_from c.args.forest.now c.grow.new.forest c.grow.ensures.grown).legal

pub returns-clause-maximum : goal.returns-clause-maximum
returns-clause-maximum g c =
    let grown = grown_from c.args.forest.now c.grow.new.forest c.grow.ensures.grown in
    let matching = (matched_on (grown_matched c.claims.ensures.trees grown) c.augment.ensures.matched).matching in
    let some = λ (e : c.grow.new.forest.leaves ≡ []). true≢false (sym (c.is_empty-2.ensures ∙ ap (λ (ls : List Place). length ls == 0) (c.leaves.ensures.leaves ∙ e)) ∙ c.if-is_empty-2.false) in
    if_ok_both c.augment.result (λ k. k ≡ length c.grow.new.forest.leaves) (λ k. length c.augment.new.forest.base ≡ length c.grow.new.forest.base + k) (λ k. (k ≡ 0) ↔ IsMaximum c.args.forest.now.matrix c.args.forest.now.base) (λ k paths growth. was_not_maximum c.args.forest.now c.grow.new.forest c.augment.new.forest k matching grown some paths growth) c.augment.ensures.paths c.augment.ensures.growth

pub returns-then-not-can_grow-clause-legal : goal.returns-then-not-can_grow-clause-legal
returns-then-not-can_grow-clause-legal g c = ([], refl)

pub returns-then-not-can_grow-clause-matched : goal.returns-then-not-can_grow-clause-matched
returns-then-not-can_grow-clause-matched g c = matched_here c.claims.ensures.trees

pub returns-in_err-grow-clause-matched : goal.returns-in_err-grow-clause-matched
returns-in_err-grow-clause-matched g c = grown_matched c.claims.ensures.trees (grown_from c.args.forest.now c.grow.new.forest c.grow.ensures.grown)

pub returns-then-is_empty-2-clause-matched : goal.returns-then-is_empty-2-clause-matched
returns-then-is_empty-2-clause-matched g c = grown_matched c.claims.ensures.trees (grown_from c.args.forest.now c.grow.new.forest c.grow.ensures.grown)

pub returns-clause-matched : goal.returns-clause-matched
returns-clause-matched g c = matched_on (grown_matched c.claims.ensures.trees (grown_from c.args.forest.now c.grow.new.forest c.grow.ensures.grown)) c.augment.ensures.matched
