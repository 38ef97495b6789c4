use Rattle.std.proofs.Common.{◌≡◌, ◌++◌, ◌∷◌, [], rules}
use Rattle.outer_components.proofs.ClassLemmas.{spreads_one}
use Rattle.outer_components.proofs.classes.reach.Goals as goal

pub returns-in_ok-push-clause-spreads : goal.returns-in_ok-push-clause-spreads
returns-in_ok-push-clause-spreads c =
    let pushed : c.push.new.self.items ≡ c.args.stack.now.items ++ c.args.label ∷ [] = search rules in
    rw pushed (spreads_one c.args.number c.args.label c.args.numbers.now c.args.stack.now.items c.requires.number c.requires.label c.if-numbers-label.true)
