use Rattle.std.proofs.Common.{◌≡◌, ◌∷◌, ◌++◌, [], ap, subst}
use Rattle.bip_defs.specs.Lists.{Among}
use Rattle.bip_defs.proofs.Sets.{among_last}
use Rattle.path_search.specs.Layers.{LayersState}
use Rattle.path_search.proofs.layers.Layers.add_col.Goals as goal

pub returns-clause-next : goal.returns-clause-next
returns-clause-next c =
    let next = ap (λ (x : LayersState). x.next) c.self.view_is in
    let e : c.push.new.self.items ≡ c.args.self.now.next ++ c.args.col ∷ [] = rw (← next) c.in_ok-push.ensures.items in
    λ d h. among_last d c.args.col c.args.self.now.next (subst (λ xs. Among d xs) e h)
