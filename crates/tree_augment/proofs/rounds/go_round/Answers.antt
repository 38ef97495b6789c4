use Rattle.std.proofs.Common.{◌∙◌, ap, drop, subst, take}
use Rattle.bip_defs.specs.Forest.{roots_of}
use Rattle.bip_defs.specs.Lists.{Among}
use Rattle.bip_defs.specs.Matrix.{Place}
use Rattle.bip_defs.proofs.Sets.{among_take}
use Rattle.tree_augment.specs.Rounds.{AsksFor}
use Rattle.tree_augment.proofs.RoundLemmas.{among_back, asks_round}
use Rattle.tree_augment.proofs.rounds.go_round.Goals as goal

pub visit_each-requires-clause-leaves : goal.visit_each-requires-clause-leaves
visit_each-requires-clause-leaves c = λ x r h. among_back c.args.from (x, r) c.args.forest.now.leaves (subst (Among {X = Place} (x, r)) (c.split_at.ensures.back ∙ ap (drop c.args.from) c.leaves.ensures.leaves) h)

pub visit_each-requires-2-clause-leaves : goal.visit_each-requires-2-clause-leaves
visit_each-requires-2-clause-leaves c = λ x r h. among_take c.args.from (x, r) c.args.forest.now.leaves (subst (Among {X = Place} (x, r)) (c.split_at.ensures.front ∙ ap (take c.args.from) c.leaves.ensures.leaves) h)

pub visit_each-requires-2-clause-seat : goal.visit_each-requires-2-clause-seat
visit_each-requires-2-clause-seat c = c.visit_each.ensures.asked.same.board ∙ c.requires.seat

pub returns-clause-asked : goal.returns-clause-asked
returns-clause-asked c =
    let s = c.args.forest.now in
    asks_round (take c.args.from s.leaves) (drop c.args.from s.leaves)
    (subst (λ ps. AsksFor (roots_of ps) c.args.seat.now c.visit_each.new.seat) (c.split_at.ensures.back ∙ ap (drop c.args.from) c.leaves.ensures.leaves) c.visit_each.ensures.asked)
    (subst (λ ps. AsksFor (roots_of ps) c.visit_each.new.seat c.visit_each-2.new.seat) (c.split_at.ensures.front ∙ ap (take c.args.from) c.leaves.ensures.leaves) c.visit_each-2.ensures.asked)
