use Rattle.std.proofs.Common.{rules, ◌≡◌, ◌∙◌, ap, arith, length, map, sym, subst}
use Rattle.std.proofs.lemmas.List.{map-id}
use Rattle.std.proofs.lemmas.Result.{IfOk-weaker}
use Rattle.bip_defs.specs.ConnectedComponents.{AreOrderedComponents, IsVerticalVertex, least_row}
use Rattle.bip_defs.specs.Lists.{Lists}
use Rattle.bip_defs.specs.Matrix.{transpose, upto}
use Rattle.bip_defs.specs.Parts.{IsHorizontalCol, IsVerticalRow}
use Rattle.bip_defs.proofs.Connected.{vertical_components}
use Rattle.bip_defs.proofs.Sets.{lists_same}
use Rattle.bip_defs.proofs.Transposed.{transpose_cols, transpose_is, turned_vertical, vertical_turned}
use Rattle.id_groups.specs.Groups.{block_of}
use Rattle.dm_coarse.proofs.GatheredLemmas.{are_components, no_vertical, turned_listed}
use Rattle.dm_coarse.proofs.connected_components.vertical_components.Goals as goal

pub join_part-requires-clause-columns : goal.join_part-requires-clause-columns
join_part-requires-clause-columns c =
    let a = c.args.pattern.now in
    let t = transpose_is a in
    let rows = c.args.parts.now.vr.items in
    rw c.as_slice-rows.ensures.value (subst (Lists (IsHorizontalCol (transpose a))) (sym (map-id rows)) (lists_same (IsVerticalRow a) (IsHorizontalCol (transpose a)) rows (λ r v. vertical_turned a (transpose a) r t v) (λ r h. turned_vertical a (transpose a) r t h) c.requires.vertical_rows))

pub join_part-requires-clause-few_cols : goal.join_part-requires-clause-few_cols
join_part-requires-clause-few_cols c = let e = transpose_cols c.args.pattern.now in let lt = c.is_pattern.ensures.few_rows in omega (arith, e, lt)

pub returns : goal.returns
returns c =
    let a = c.args.pattern.now in
    let (cols, rows) = c.in_ok-found.found in
    let gathered = c.in_ok-found.ensures in
    let turned = vertical_components a (transpose a) _ (transpose_is a) (are_components (transpose a) _ _ _ gathered) in
    let same = turned_listed cols rows (upto (length rows)) ∙ ap (λ n. map (block_of rows cols) (upto n)) (sym gathered.by_row.long) in
    IfOk-weaker c.listed.result _ _ (λ b e. subst (AreOrderedComponents a (IsVerticalVertex a) least_row) (same ∙ sym e) turned) c.listed.ensures

pub returns-then-is_empty : goal.returns-then-is_empty
returns-then-is_empty c =
    let empty : length c.args.parts.now.vr.items ≡ 0 = search rules in
    rw c.new.ensures (no_vertical _ _ c.requires.vertical_rows empty)
