use Rattle.std.proofs.Common.{◌<◌, ◌*◌}
use Rattle.tree_graft.specs.Counts.{IsFreed, IsKept}
use Rattle.tree_graft.proofs.CountLemmas.{choose_one}
use Rattle.tree_graft.proofs.switches.trees_stay.Goals as goal

pub returns : goal.returns
returns c = (
  λ t. (c.kept_count.result, c.freed_count-freed.result, c.kept_count.ensures, c.freed_count-freed.ensures, c.keeps_trees.ensures.0 t),
  λ (kept, freed, is_kept, is_freed, few). c.keeps_trees.ensures.1
      (choose_one (IsFreed c.args.forest.now) (λ n. n < 5 * c.kept_count.result) freed is_freed
      (choose_one (IsKept c.args.forest.now) (λ n. freed < 5 * n) kept is_kept few c.kept_count.result c.kept_count.ensures)
      c.freed_count-freed.result c.freed_count-freed.ensures),
)
