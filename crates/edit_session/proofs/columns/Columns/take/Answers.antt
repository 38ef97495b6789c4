use Rattle.std.proofs.Common.{true≢false, sym}
use Rattle.edit_session.proofs.ColumnLemmas.{taken_counted, taken_none, taken_has_room, taken_sees}
use Rattle.edit_session.proofs.columns.Columns.take.Goals as goal

pub invariant_of-self : goal.invariant_of-self
invariant_of-self c = taken_counted c.self.inside.rows c.self.inside.entries c.self.inside.lists.lists c.remove.new.self.lists c.self.inside.lists.room c.args.row c.args.col c.in-Ok.at c.args.self.now c.self.view_is c.self.invariant (rw c.col.view_is at c.remove.ensures.lists) c.in-Ok.ensures.found

pub returns-in-Ok-clause-matrix : goal.returns-in-Ok-clause-matrix
returns-in-Ok-clause-matrix c = taken_sees c.self.inside.rows c.self.inside.entries c.self.inside.lists.lists c.remove.new.self.lists c.self.inside.lists.room c.args.row c.args.col c.in-Ok.at c.args.self.now c.self.view_is c.self.invariant (rw c.col.view_is at c.remove.ensures.lists) c.in-Ok.ensures.found

pub returns-in-Ok-clause-room : goal.returns-in-Ok-clause-room
returns-in-Ok-clause-room c = λ e. taken_has_room c.self.inside.rows c.self.inside.lists.lists c.remove.new.self.lists c.self.inside.lists.room c.remove.new.self.room c.args.row c.args.col c.in-Ok.at c.args.self.now c.self.view_is (rw c.col.view_is at c.remove.ensures.lists) c.remove.ensures.room (rw c.col.view_is at c.remove.ensures.filled) c.requires.col c.in-Ok.ensures.found

pub returns-in_default-clause-matrix : goal.returns-in_default-clause-matrix
returns-in_default-clause-matrix c = taken_none c.self.inside.rows c.self.inside.entries c.self.inside.lists.lists c.self.inside.lists.room c.args.row c.args.col c.args.self.now c.self.view_is c.self.invariant (λ e. true≢false (sym (c.in_default.ensures.entry.1 e)))

pub returns-in_default-clause-room : goal.returns-in_default-clause-room
returns-in_default-clause-room c = λ e. absurd (true≢false (sym (c.in_default.ensures.entry.1 e)))
