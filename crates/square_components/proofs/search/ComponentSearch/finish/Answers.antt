use Rattle.std.proofs.Common.{◌≡◌, ◌-◌, ap, length, subst, arith, rules}
use Rattle.bip_defs.proofs.Sets.{written_over}
use Rattle.bip_graph.specs.Matching.{none}
use Rattle.square_components.specs.Stacks.{PathState}
use Rattle.square_components.specs.Steps.{Assigns}
use Rattle.square_components.proofs.search.ComponentSearch.finish.Goals as goal

pub returns-clause-numbers : goal.returns-clause-numbers
returns-clause-numbers c = λ v e.
    let s = c.self.inside in
    let view = c.self.view_is in
    let counted : s.count ≡ c.args.self.now.count = ap (λ (x : PathState). x.count) view in
    let is : none - s.count ≡ v = omega (arith, counted, e) in
    let value = c.as_mut_slice.ensures.value in
    let long = rw value at c.number_from.auto.state in
    let given : Assigns s.stack.items c.args.start (length s.stack.items) v s.state.items c.number_from.new.state = subst (λ x. Assigns s.stack.items c.args.start (length s.stack.items) x s.state.items c.number_from.new.state) is (subst (λ xs. Assigns s.stack.items c.args.start (length s.stack.items) (none - s.count) xs c.number_from.new.state) value (subst (λ xs. Assigns xs c.args.start (length xs) (none - s.count) c.as_mut_slice.result.now c.number_from.new.state) c.as_slice.ensures.value c.number_from.ensures)) in
    rw (written_over c.number_from.new.state s.state.items s.state.len long (search rules))
    (subst (λ (x : PathState). Assigns x.stack c.args.start (length x.stack) v x.state c.number_from.new.state) view given)
