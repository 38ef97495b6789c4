use Rattle.path_search.proofs.HorizontalLemmas.{marked_horizontal}
use Rattle.path_search.proofs.laws.marked_rows_are_horizontal.Goals as goal

pub returns : goal.returns
returns c a m marks k long closed led explored = marked_horizontal a m marks k long closed led explored
