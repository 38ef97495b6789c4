use Rattle.std.proofs.Common.{rules, ◌∙◌, List, ap, length, map, sym, subst}
use Rattle.claim_words.specs.WorkerState.{WorkerState, seated}
use Rattle.forest_core.specs.Tables.{IsTableOf}
use Rattle.level_sharing.specs.Agreement.{Agree}
use Rattle.frontier_levels.proofs.boards.open.Goals as goal

pub returns-clause-agree : goal.returns-clause-agree
returns-clause-agree g c =
    let by_row : IsTableOf c.args.forest.now.claims c.in_ok-holders.holders.items = search rules in
    let by_root : IsTableOf c.args.forest.now.leaves c.in_ok-leaves.leaves.items = search rules in
    let holders = subst (IsTableOf c.args.forest.now.claims) (sym (c.in_ok-board.ensures.board.0 ∙ c.as_slice.ensures.value)) by_row in
    let leaves = subst (IsTableOf c.args.forest.now.leaves) (sym (c.in_ok-board.ensures.board.1 ∙ c.as_slice-2.ensures.value)) by_root in
    let new = c.new_workers_agree.ensures.agree c.in_ok-board.board c.args.workers c.args.forest.now.claims c.args.forest.now.leaves c.requires.0 holders leaves in
    subst (λ (ws : List WorkerState). Agree c.in_ok-board.board ws c.args.forest.now.claims c.args.forest.now.leaves) (sym (c.in_ok-workers.ensures ∙ ap (map seated) c.in_ok-board.ensures.seats)) new

pub returns-clause-workers : goal.returns-clause-workers
returns-clause-workers g c = ap length (c.in_ok-workers.ensures ∙ ap (map seated) c.in_ok-board.ensures.seats) ∙ c.new_workers_agree.ensures.many c.in_ok-board.board c.args.workers
