use Rattle.std.proofs.Common.{arith, rules}
use Rattle.bip_graph.specs.Decompositions.{components_of}
use Rattle.blocktri.proofs.ComponentLemmas.{few_horizontal, few_vertical}
use Rattle.blocktri.proofs.found.outer_of.Goals as goal

pub returns : goal.returns
returns c =
    let a = c.args.pattern.now in
    let rows = c.requires.few_rows in
    let columns = c.requires.few_columns in
    let wide = few_horizontal a (components_of c.in_ok-found.found) 4294967295 c.in_ok-found.ensures (omega arith) (omega (arith, columns)) in
    let long = few_vertical a (components_of c.in_ok-found.found) 4294967295 c.in_ok-found.ensures (omega arith) (omega (arith, rows)) in
    (search rules, c.in_ok-found.ensures, omega (arith, wide), omega (arith, long))
