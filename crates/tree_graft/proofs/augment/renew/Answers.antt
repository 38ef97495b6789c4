use Rattle.std.proofs.Common.{◌∙◌, sym, true≢false}
use Rattle.tree_graft.proofs.augment.renew.Goals as goal

pub returns-then-keeps-clause-claims : goal.returns-then-keeps-clause-claims
returns-then-keeps-clause-claims c = record { kept = λ keeps. c.graft.ensures.claims; cleared = λ out. absurd (out c.if-keeps.true) }

pub returns-else-keeps-clause-claims : goal.returns-else-keeps-clause-claims
returns-else-keeps-clause-claims c = record { kept = λ keeps. absurd (true≢false (sym keeps ∙ c.if-keeps.false)); cleared = λ out. c.rebuild.ensures.claims }
