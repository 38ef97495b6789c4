use Rattle.std.proofs.Common.{◌≡◌, ◌∙◌, ◌≤◌, List, ap, inl, inr, length, rules, subst, sym, ⊎_elim}
use Rattle.bip_defs.specs.Lists.{Among}
use Rattle.bip_defs.proofs.Sets.{written_over}
use Rattle.bip_defs.proofs.Results.{ok_both}
use Rattle.claim_words.specs.WorkerState.{WorkerState}
use Rattle.sp_ids.specs.Limits.{max_workers}
use Rattle.tree_graft.specs.PhaseSearch.{IsDone}
use Rattle.tree_graft.proofs.levels.PhaseSearch.level_down.Goals as goal

pub top_down_under-done-requires-clause-inside : goal.top_down_under-done-requires-clause-inside
top_down_under-done-requires-clause-inside g c = λ κs lives x h. c.requires.frontier.inside x (subst (Among x) c.as_slice-frontier.ensures.value h)

pub end_level-requires-clause-done : goal.end_level-requires-clause-done
end_level-requires-clause-done g c =
    let ws = c.top_down_under-done.new.workers in
    let long : c.args.self.now.workers.len ≡ length c.args.self.now.workers.items = search rules in
    let many : length ws ≡ length c.args.self.now.workers.items = c.top_down_under-done.auto.workers ∙ ap length c.as_mut_slice-workers.ensures.value in
    let over = written_over ws c.args.self.now.workers.items c.args.self.now.workers.len many long in
    let sized = c.requires.ready.sized in
    ok_both c.top_down_under-done.result (λ settled through. subst (λ (us : List WorkerState). IsDone c.args.self.now.board us c.args.forest.now) (sym over) (record {
      sized = record { few = let few = sized.few in subst (λ n. n ≤ max_workers) (sym many) few; small = sized.small; rows = sized.rows; roots = sized.roots };
      shows = c.top_down_under-done.ensures.words;
      settled = settled;
      through = λ x i. ⊎_elim (λ h. inr (inl (through x (subst (Among x) (sym c.as_slice-frontier.ensures.value) h)))) (λ s. inl s) (c.requires.frontier.others x i);
    })) c.top_down_under-done.ensures.settled c.top_down_under-done.ensures.frontier
