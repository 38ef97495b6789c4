use Rattle.std.proofs.Common.{IsTrue, IfSome, subst, sym}
use Rattle.bip_defs.specs.ConnectedComponents.{AreConnectedComponents}
use Rattle.bip_graph.specs.Decompositions.{components_of}
use Rattle.report_reader.specs.ReportRead.{components_read, listed_in}
use Rattle.btf_check.proofs.Comparisons.{told_components}
use Rattle.btf_check.proofs.reasons.tells_components.Goals as goal

pub returns : goal.returns
returns c =
    let a = c.args.pattern.now in
    let law = told_components a (listed_in c.in-Some.told) (components_of c.in_ok-own.own) c.in_ok-own.ensures in
    subst (λ o. (IsTrue c.same_components.result → IfSome (components_read o) (AreConnectedComponents a)) × (IfSome (components_read o) (AreConnectedComponents a) → IsTrue c.same_components.result)) (sym c.in-Some.is)
    (λ t. law.0 (c.same_components.ensures.0 t), λ told. c.same_components.ensures.1 (law.1 told))
