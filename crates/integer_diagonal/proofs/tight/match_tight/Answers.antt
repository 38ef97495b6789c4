use Rattle.std.proofs.Common.{◌≡◌, ◌∙◌, nat_eq, sym, ap, subst}
use Rattle.bip_defs.specs.Bottleneck.{restricted}
use Rattle.bip_defs.specs.Matching.{IsMaximum}
use Rattle.bip_defs.specs.Matrix.{Matrix}
use Rattle.bip_graph.specs.Matching.{IsMatchingOf}
use Rattle.integer_diagonal.proofs.TightLemmas.{tight_assigned, tight_matching}
use Rattle.integer_diagonal.specs.Duals.{cheap, dual, paid, priced}
use Rattle.integer_diagonal.proofs.tight.match_tight.Goals as goal

pub complete-requires : goal.complete-requires
complete-requires g c =
    let x = priced c.args.weights.now c.args.assignment in
    let is : c.in_ok-tight.tight ≡ cheap x = c.in_ok-tight.ensures ∙ ap (λ (z : Matrix). restricted z (λ r d. nat_eq (paid x r d) (dual x d))) c.pattern.ensures in
    record { matching = subst (λ (z : Matrix). IsMatchingOf z c.args.assignment.matching) (sym is) (tight_matching x c.args.assignment.matching c.requires.assignment) }

pub returns-clause-assignment : goal.returns-clause-assignment
returns-clause-assignment g c =
    let x = priced c.args.weights.now c.args.assignment in
    let n = c.in_ok-complete.field-0 in
    let is : c.in_ok-tight.tight ≡ cheap x = c.in_ok-tight.ensures ∙ ap (λ (z : Matrix). restricted z (λ r d. nat_eq (paid x r d) (dual x d))) c.pattern.ensures in
    tight_assigned x c.args.assignment.matching n c.requires.assignment (subst (λ (z : Matrix). IsMatchingOf z n) is c.in_ok-complete.ensures.maximum.matching) c.in_ok-complete.ensures.covered

pub returns-clause-maximum : goal.returns-clause-maximum
returns-clause-maximum g c =
    let x = priced c.args.weights.now c.args.assignment in
    let is : c.in_ok-tight.tight ≡ cheap x = c.in_ok-tight.ensures ∙ ap (λ (z : Matrix). restricted z (λ r d. nat_eq (paid x r d) (dual x d))) c.pattern.ensures in
    subst (λ (z : Matrix). IsMaximum z c.in_ok-complete.field-0.pairs) is c.in_ok-complete.ensures.maximum.maximum
