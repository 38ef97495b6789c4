use Rattle.std.proofs.Common.{rules, ◌≡◌, length, sym, subst}
use Rattle.std.proofs.lemmas.Result.{IfOk-weaker}
use Rattle.bip_defs.specs.Blocks.{least_col}
use Rattle.bip_defs.specs.ConnectedComponents.{AreOrderedComponents, IsHorizontalVertex}
use Rattle.dm_coarse.proofs.GatheredLemmas.{are_components, no_horizontal}
use Rattle.dm_coarse.proofs.connected_components.horizontal_components.Goals as goal

pub returns : goal.returns
returns c =
    let a = c.args.pattern.now in
    let found = are_components a _ _ _ c.in_ok-found.ensures in
    IfOk-weaker c.listed.result _ _ (λ b e. subst (AreOrderedComponents a (IsHorizontalVertex a) least_col) (sym e) found) c.listed.ensures

pub returns-then-is_empty : goal.returns-then-is_empty
returns-then-is_empty c =
    let empty : length c.args.parts.now.hc.items ≡ 0 = search rules in
    rw c.new.ensures (no_horizontal _ _ c.requires.horizontal_cols empty)
