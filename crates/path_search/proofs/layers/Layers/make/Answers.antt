use Rattle.path_search.proofs.layers.Layers.make.Goals as goal

pub returns-then-branch : goal.returns-then-branch
returns-then-branch g c = c.leave_last.ensures _ c.step.ensures
