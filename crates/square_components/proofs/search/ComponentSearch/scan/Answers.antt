use Rattle.std.proofs.Common.{◌<◌, ◌∙◌, length, ap, sym, subst}
use Rattle.square_components.specs.Stacks.{PathState}
use Rattle.square_components.proofs.search.ComponentSearch.scan.Goals as goal

pub pass-requires-clause-rows : goal.pass-requires-clause-rows
pass-requires-clause-rows g c = λ r h. subst (λ xs. r < length xs) (ap (λ (x : PathState). x.state) (sym c.self.view_is) ∙ sym c.as_slice.ensures.value) (c.requires.rows r h)
