use Rattle.blocktri.proofs.wanted_lists.write_outer.Goals as goal

pub returns-in-Some-clause-rows : goal.returns-in-Some-clause-rows
returns-in-Some-clause-rows c = λ a wanted are room. rw c.in-Some.is (let is = rw c.in-Some.is at are in c.write_wanted_row_components.ensures a is.1 room)
