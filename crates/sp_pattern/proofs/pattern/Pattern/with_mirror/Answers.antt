use Rattle.std.proofs.Common.{◌≡◌, ◌∙◌, rules}
use Rattle.sp_pattern.proofs.Mirrored.{mirror_few, mirror_made, mirror_square}
use Rattle.sp_pattern.proofs.pattern.Pattern.with_mirror.Goals as goal

pub both_halves-requires-clause-square : goal.both_halves-requires-clause-square
both_halves-requires-clause-square c = mirror_square c.args.self _ _ _ _ _ _ c.self.invariant c.self.view_is c.requires.square c.as_slice.ensures.value c.as_slice-3.ensures.value

pub both_halves-requires-clause-few : goal.both_halves-requires-clause-few
both_halves-requires-clause-few c = mirror_few c.args.self _ _ _ _ _ _ c.self.invariant c.self.view_is c.requires.few c.as_slice-2.ensures.value c.as_slice-4.ensures.value

pub invariant_of-result : goal.invariant_of-result
invariant_of-result c =
    let again : c.in_ok-row_starts.row_starts.items ≡ c.in_ok-col_starts.col_starts.items = c.in_ok-row_starts.ensures.items_if_clones_equal (search rules) ∙ c.as_slice-5.ensures.value in
    (mirror_made c.args.self _ _ _ _ _ _ _ _ _ _ _ _ c.self.invariant c.self.view_is c.requires.square c.requires.lower c.as_slice.ensures.value c.as_slice-2.ensures.value c.as_slice-3.ensures.value c.as_slice-4.ensures.value
    c.in_ok-col_starts.ensures.pieces c.in_ok-col_starts.ensures.few again (c.in_ok-row_cols.ensures ∙ c.as_slice-6.ensures.value)).0

pub returns : goal.returns
returns c =
    let again : c.in_ok-row_starts.row_starts.items ≡ c.in_ok-col_starts.col_starts.items = c.in_ok-row_starts.ensures.items_if_clones_equal (search rules) ∙ c.as_slice-5.ensures.value in
    (mirror_made c.args.self _ _ _ _ _ _ _ _ _ _ _ _ c.self.invariant c.self.view_is c.requires.square c.requires.lower c.as_slice.ensures.value c.as_slice-2.ensures.value c.as_slice-3.ensures.value c.as_slice-4.ensures.value
    c.in_ok-col_starts.ensures.pieces c.in_ok-col_starts.ensures.few again (c.in_ok-row_cols.ensures ∙ c.as_slice-6.ensures.value)).1
