use Rattle.std.proofs.Common.{◌≡◌, [], ◌∷◌, ◌++◌, length, rules}
use Rattle.report_reader.specs.ComponentArrays.{AreArraysOf}
use Rattle.report_reader.proofs.ComponentArrays.{grown, holds, seen, shows}
use Rattle.report_reader.proofs.listed_components.ComponentList.push.Goals as goal

-- what is appended to each array
more : (c : goal.After-push_reserved-2) → AreArraysOf c.push_reserved.new.self.items c.push_reserved-2.new.self.items c.extend_from_slice.new.self.items c.extend_from_slice-2.new.self.items (c.args.self.now ++ record { rows = c.args.rows.now; cols = c.args.cols.now } ∷ [])
more c =
    let heights : c.push_reserved.new.self.items ≡ c.self.inside.heights.items ++ length c.args.rows.now ∷ [] = search rules in
    let widths : c.push_reserved-2.new.self.items ≡ c.self.inside.widths.items ++ length c.args.cols.now ∷ [] = search rules in
    let rows : c.extend_from_slice.new.self.items ≡ c.self.inside.rows.items ++ c.args.rows.now = search rules in
    let cols : c.extend_from_slice-2.new.self.items ≡ c.self.inside.cols.items ++ c.args.cols.now = search rules in
    grown (record { rows = c.args.rows.now; cols = c.args.cols.now }) (seen c.self.invariant c.self.view_is) heights widths rows cols

pub invariant_of-self-2 : goal.invariant_of-self-2
invariant_of-self-2 c = holds (more c)

pub returns-clause-ok : goal.returns-clause-ok
returns-clause-ok c = shows (more c)
