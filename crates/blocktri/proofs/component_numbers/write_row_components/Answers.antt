use Rattle.std.proofs.Common.{◌≡◌, ◌∙◌, length, replicate, rules, subst, sym}
use Rattle.bip_graph.specs.Decompositions.{components_of}
use Rattle.bip_graph.specs.Matching.{none}
use Rattle.blocktri.specs.OuterComponents.{AreApart, rows_of_block}
use Rattle.blocktri.proofs.ComponentLemmas.{row_components, filled_none, horizontal_rows_apart, vertical_rows_apart}
use Rattle.blocktri.proofs.component_numbers.write_row_components.Goals as goal

pub write_row_numbers-requires-clause-rows : goal.write_row_numbers-requires-clause-rows
write_row_numbers-requires-clause-rows c =
    let (a, are, long) = c.requires.some in
    subst (λ n. AreApart rows_of_block c.args.found.now.horizontal n) (sym (c.fill.ensures.len ∙ long)) (horizontal_rows_apart a (components_of c.args.found.now) are)

pub write_row_numbers-requires-2-clause-rows : goal.write_row_numbers-requires-2-clause-rows
write_row_numbers-requires-2-clause-rows c =
    let (a, are, long) = c.requires.some in
    subst (λ n. AreApart rows_of_block c.args.found.now.vertical n) (sym (c.write_row_numbers.ensures.long ∙ c.fill.ensures.len ∙ long)) (vertical_rows_apart a (components_of c.args.found.now) are)

pub returns : goal.returns
returns c = λ a are long.
    let filled : c.fill.new.self ≡ replicate (length c.args.row_component.now) none = search rules in
    row_components a (components_of c.args.found.now) c.fill.new.self c.write_row_numbers.new.rows c.write_row_numbers-2.new.rows are (c.fill.ensures.len ∙ long)
    (filled_none a.rows c.fill.new.self (subst (λ n. c.fill.new.self ≡ replicate n none) long filled)) c.write_row_numbers.ensures c.write_row_numbers-2.ensures
