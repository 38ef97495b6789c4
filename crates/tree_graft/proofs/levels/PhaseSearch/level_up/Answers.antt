use Rattle.std.proofs.Common.{◌≡◌, ◌∙◌, ◌≤◌, List, ap, length, rules, subst, sym}
use Rattle.bip_defs.specs.Lists.{Among}
use Rattle.bip_defs.proofs.Sets.{written_over}
use Rattle.bip_defs.proofs.Results.{ok_both}
use Rattle.claim_words.specs.WorkerState.{WorkerState}
use Rattle.sp_ids.specs.Limits.{max_workers}
use Rattle.tree_graft.specs.PhaseSearch.{IsDone}
use Rattle.tree_graft.proofs.LevelLemmas.{through_rows}
use Rattle.tree_graft.proofs.levels.PhaseSearch.level_up.Goals as goal

pub attach_under-done-requires-clause-rows : goal.attach_under-done-requires-clause-rows
attach_under-done-requires-clause-rows g c = λ κs lives r h. (c.in_ok-unclaimed_rows.ensures.sound r (subst (Among r) c.as_slice-free.ensures.value h)).0

pub end_level-requires-clause-done : goal.end_level-requires-clause-done
end_level-requires-clause-done g c =
    let ws = c.attach_under-done.new.workers in
    let long : c.args.self.now.workers.len ≡ length c.args.self.now.workers.items = search rules in
    let many : length ws ≡ length c.args.self.now.workers.items = c.attach_under-done.auto.workers ∙ ap length c.as_mut_slice-workers.ensures.value in
    let over = written_over ws c.args.self.now.workers.items c.args.self.now.workers.len many long in
    let sized = c.requires.sized in
    ok_both c.attach_under-done.result (λ settled rows. subst (λ (us : List WorkerState). IsDone c.args.self.now.board us c.args.forest.now) (sym over) (record {
      sized = record { few = let few = sized.few in subst (λ n. n ≤ max_workers) (sym many) few; small = sized.small; rows = sized.rows; roots = sized.roots };
      shows = c.attach_under-done.ensures.words;
      settled = settled;
      through = through_rows c.args.forest.now ws c.as_slice-free.result.now (λ r lt n. subst (Among r) (sym c.as_slice-free.ensures.value) (c.in_ok-unclaimed_rows.ensures.complete r (lt, n))) rows;
    })) c.attach_under-done.ensures.settled c.attach_under-done.ensures.rows
