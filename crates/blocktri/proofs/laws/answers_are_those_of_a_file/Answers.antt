use Rattle.std.proofs.Common.{◌∙◌, ◌-◌, length, sym}
use Rattle.sp_pattern.specs.Columns.{matrix_of, places_of}
use Rattle.bip_defs.proofs.Connected.{same_components}
use Rattle.bip_defs.proofs.Uniqueness.{same_decomposition, same_rank}
use Rattle.blocktri.proofs.LawLemmas.{same_least, same_places, same_sizes}
use Rattle.blocktri.proofs.laws.answers_are_those_of_a_file.Goals as goal

pub returns-clause-matrix : goal.returns-clause-matrix
returns-clause-matrix c = λ rows starts ids places a are same has. same_places rows (length starts - 1) places (places_of starts ids) a (matrix_of rows starts ids) same has (c.columns_give_their_places.ensures.places rows starts ids are)

pub returns-clause-rank : goal.returns-clause-rank
returns-clause-rank c = same_rank

pub returns-clause-decomposition : goal.returns-clause-decomposition
returns-clause-decomposition c = λ a j k old new old2 new2 t u. same_decomposition a t.decomposition u.decomposition t.is_decomposition u.is_decomposition

pub returns-clause-components : goal.returns-clause-components
returns-clause-components c = λ a s t xs rows ys columns xs2 rows2 ys2 columns2 x y. same_components a x.components y.components x.are_components y.are_components

pub returns-clause-sizes : goal.returns-clause-sizes
returns-clause-sizes c = same_sizes

pub returns-clause-least_matching : goal.returns-clause-least_matching
returns-clause-least_matching c = λ a j k xs rows ys columns xs2 rows2 ys2 columns2 t u.
    let here = same_least a j xs rows ys columns u.pairs t u.are_pairs in (here.0 ∙ sym u.size_is, here.1)
