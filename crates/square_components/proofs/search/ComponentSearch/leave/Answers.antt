use Rattle.std.proofs.Common.{◌∙◌, refl, ap, subst}
use Rattle.square_components.specs.Stacks.{PathState}
use Rattle.square_components.specs.Steps.{IsLast, finishes, goes_back}
use Rattle.square_components.proofs.search.ComponentSearch.leave.Goals as goal

pub returns-then-last_of-place : goal.returns-then-last_of-place
returns-then-last_of-place c = finishes c.finish.new.self.starts c.finish.new.self.state c.finish.ensures.starts c.finish.ensures.numbers c.finish.ensures.same

pub returns-else-last_of-place : goal.returns-else-last_of-place
returns-else-last_of-place c =
    let last : IsLast c.args.self.now.starts c.last_of.result = subst (λ xs. IsLast xs c.last_of.result) (c.as_slice.ensures.value ∙ ap (λ (x : PathState). x.starts) c.self.view_is) c.last_of.ensures in
    goes_back last.0 c.last_of.result last.1 c.if-last_of-place.false refl
