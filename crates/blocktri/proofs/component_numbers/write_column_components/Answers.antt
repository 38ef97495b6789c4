use Rattle.std.proofs.Common.{◌≡◌, ◌∙◌, length, replicate, rules, subst, sym}
use Rattle.bip_defs.specs.Matrix.{cols}
use Rattle.bip_graph.specs.Decompositions.{components_of}
use Rattle.bip_graph.specs.Matching.{none}
use Rattle.blocktri.specs.OuterComponents.{AreApart, cols_of_block}
use Rattle.blocktri.proofs.ComponentLemmas.{column_components, filled_none, horizontal_cols_apart, vertical_cols_apart}
use Rattle.blocktri.proofs.component_numbers.write_column_components.Goals as goal

pub write_column_numbers-requires-clause-columns : goal.write_column_numbers-requires-clause-columns
write_column_numbers-requires-clause-columns c =
    let (a, are, long) = c.requires.some in
    subst (λ n. AreApart cols_of_block c.args.found.now.horizontal n) (sym (c.fill.ensures.len ∙ long)) (horizontal_cols_apart a (components_of c.args.found.now) are)

pub write_column_numbers-requires-2-clause-columns : goal.write_column_numbers-requires-2-clause-columns
write_column_numbers-requires-2-clause-columns c =
    let (a, are, long) = c.requires.some in
    subst (λ n. AreApart cols_of_block c.args.found.now.vertical n) (sym (c.write_column_numbers.ensures.long ∙ c.fill.ensures.len ∙ long)) (vertical_cols_apart a (components_of c.args.found.now) are)

pub returns : goal.returns
returns c = λ a are long.
    let filled : c.fill.new.self ≡ replicate (length c.args.column_component.now) none = search rules in
    column_components a (components_of c.args.found.now) c.fill.new.self c.write_column_numbers.new.columns c.write_column_numbers-2.new.columns are (c.fill.ensures.len ∙ long)
    (filled_none (cols a) c.fill.new.self (subst (λ n. c.fill.new.self ≡ replicate n none) long filled)) c.write_column_numbers.ensures c.write_column_numbers-2.ensures
