use Rattle.std.proofs.Common.{◌∙◌, sym}
use Rattle.claim_words.proofs.Boards.{numbered}
use Rattle.claim_words.proofs.ClosedBoards.{found_fits, root_held}
use Rattle.claim_words.proofs.closed.Closed.leaf.Goals as goal

pub value-requires : goal.value-requires
value-requires c = found_fits _ _ _ c.self.invariant.2.fits c.word-word.ensures

pub returns : goal.returns
returns c = sym (numbered c.identified.result) ∙ c.identified.ensures ∙ c.value.ensures ∙ root_held _ _ _ _ _ _ c.self.view_is c.requires c.number.ensures c.word-word.ensures
