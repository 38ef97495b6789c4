use Rattle.std.proofs.Common.{arith}
use Rattle.column_lists.proofs.GivenLists.{ends_within, start_below}
use Rattle.column_lists.proofs.given.GivenColumnsColumnLists.rows_of.Goals as goal

pub at-requires : goal.at-requires
at-requires g c =
    let next = start_below _ _ _ c.args.self.right _ c.requires in
    rw (c.col.view_is) (omega (arith, next))

pub at-requires-2 : goal.at-requires-2
at-requires-2 g c = rw (c.col.view_is) (start_below _ _ _ c.args.self.right _ c.requires)

pub invariant_of-result : goal.invariant_of-result
invariant_of-result g c = record {
  in_order = rw (c.at.ensures, c.at-2.ensures, c.col.view_is) (c.args.self.right.starts_are.rise _ (start_below _ _ _ c.args.self.right _ c.requires));
  within = rw (c.at-2.ensures, c.col.view_is) (ends_within _ _ _ c.args.self.right _ c.requires);
}
