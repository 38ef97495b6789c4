use Rattle.std.proofs.Common.{refl}
use Rattle.edit_session.proofs.ColumnLemmas.{put_counted, put_same, put_sees}
use Rattle.edit_session.proofs.columns.Columns.insert.Goals as goal

pub invariant_of-self : goal.invariant_of-self
invariant_of-self c = put_counted c.self.inside.rows c.self.inside.entries c.self.inside.lists.lists c.insert.new.self.lists c.self.inside.lists.room c.args.row c.args.col c.in-Err.at c.args.self.now c.self.view_is c.self.invariant (rw c.col.view_is at c.insert.ensures.lists) c.requires.row c.requires.col c.requires.few c.in-Err.ensures.gap

pub returns-in-Err : goal.returns-in-Err
returns-in-Err c = record { matrix = put_sees c.self.inside.rows c.self.inside.lists.lists c.insert.new.self.lists c.self.inside.lists.room c.args.row c.args.col c.in-Err.at c.args.self.now c.self.view_is (rw c.col.view_is at c.insert.ensures.lists) c.in-Err.ensures.gap }

pub returns-in_default : goal.returns-in_default
returns-in_default c = record { matrix = put_same c.self.inside.rows c.self.inside.entries c.self.inside.lists.lists c.self.inside.lists.room c.args.row c.args.col c.args.self.now c.self.view_is c.self.invariant (c.in_default.ensures.entry.0 refl) }
