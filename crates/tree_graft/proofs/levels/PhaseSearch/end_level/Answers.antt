use Rattle.std.proofs.Common.{◌≡◌, ◌∙◌, List, ap, length, rules, subst, sym}
use Rattle.std.proofs.lemmas.Result.{on_ok_weaker}
use Rattle.bip_defs.specs.Forest.{State}
use Rattle.bip_defs.specs.Lists.{Among, AreDistinct}
use Rattle.bip_defs.specs.Matching.{rows_of}
use Rattle.bip_defs.specs.Matrix.{Place}
use Rattle.bip_defs.proofs.Sets.{written_over}
use Rattle.claim_words.specs.WorkerState.{WorkerState, fresh_claims_of}
use Rattle.level_sharing.specs.Agreement.{Shows}
use Rattle.level_sharing.specs.Growth.{grown}
use Rattle.tree_graft.specs.PhaseSearch.{AreMatesOf, IsDone}
use Rattle.tree_graft.proofs.FrontierLemmas.{last_claimed}
use Rattle.tree_graft.proofs.LevelLemmas.{last_claims, next_level}
use Rattle.tree_graft.proofs.SearchLemmas.{last_differ}
use Rattle.tree_graft.proofs.levels.PhaseSearch.end_level.Goals as goal

pub mates_of-requires : goal.mates_of-requires
mates_of-requires c =
    let s = c.args.forest.now in
    let last = fresh_claims_of c.args.self.now.workers.items in
    let claims = ap (λ (u : State). u.claims) (c.absorb.ensures.forest ∙ ap (grown s) c.as_mut_slice.ensures.value) in
    let since = last_claims s.claims last c.claims-before.result.now c.claims.result.now c.claims-before.ensures.claims (c.claims.ensures.claims ∙ claims) in
    let all = c.claims.ensures.trees.rows_differ in
    record {
      trees = c.claims.ensures.trees;
      claimed = λ r h. last_claimed s c.absorb.new.forest last claims r (subst (λ (ps : List Place). Among r (rows_of ps)) since h);
      differ = subst (λ (ps : List Place). AreDistinct (rows_of ps)) (sym since) (last_differ s.claims last (subst (λ (ps : List Place). AreDistinct (rows_of ps)) claims all));
    }

pub returns-clause-next : goal.returns-clause-next
returns-clause-next c =
    let s = c.args.forest.now in
    let t = c.absorb.new.forest in
    let b = c.args.self.now.board in
    let ws = c.args.self.now.workers.items in
    let us = c.absorb.new.workers in
    let last = fresh_claims_of ws in
    let e : t ≡ grown s ws = c.absorb.ensures.forest ∙ ap (grown s) c.as_mut_slice.ensures.value in
    let claims = ap (λ (u : State). u.claims) e in
    let since = last_claims s.claims last c.claims-before.result.now c.claims.result.now c.claims-before.ensures.claims (c.claims.ensures.claims ∙ claims) in
    let done : IsDone b ws s = rw c.in_ok-done.was at c.requires.done in
    let shows : Shows b c.as_mut_slice.result.now t.claims t.leaves = subst (λ (vs : List WorkerState). Shows b vs t.claims t.leaves) (sym c.as_mut_slice.ensures.value) (subst (λ (u : State). Shows b ws u.claims u.leaves) (sym e) done.shows) in
    let long : c.args.self.now.workers.len ≡ length ws = search rules in
    let many : length us ≡ length ws = c.absorb.auto.workers ∙ ap length c.as_mut_slice.ensures.value in
    let over = written_over us ws c.args.self.now.workers.len many long in
    on_ok_weaker c.mates_of.result (λ mates. next_level ws us s t done e c.absorb.ensures.grown over many (c.absorb.ensures.agree b shows) c.claims.ensures.trees (subst (λ (ps : List Place). AreMatesOf t ps c.mates_of.new.columns.items) since mates)) c.mates_of.ensures
