use Rattle.std.proofs.Common.{◌≡◌, ◌<◌, ◌≤◌, get_or, length, ⊎_elim, arith}
use Rattle.std.proofs.lemmas.List.{get_or_default, get_or_past}
use Rattle.bip_graph.specs.Matching.{none}
use Rattle.square_components.specs.Numbers.{look}
use Rattle.square_components.proofs.GraphLemmas.{less}
use Rattle.square_components.proofs.explore.are_small.Goals as goal

pub returns : goal.returns
returns c = λ r. ⊎_elim
    (λ (lt : r < length c.args.numbers.now).
    let e : get_or c.args.numbers.now r 0 ≡ look c.args.numbers.now r = get_or_default c.args.numbers.now r 0 none lt in
    let fits = c.type_inv.numbers r in
    omega (arith, e, fits))
    (λ (le : length c.args.numbers.now ≤ r).
    let e : look c.args.numbers.now r ≡ none = get_or_past c.args.numbers.now r none le in
    omega (arith, e))
    (less r (length c.args.numbers.now))
