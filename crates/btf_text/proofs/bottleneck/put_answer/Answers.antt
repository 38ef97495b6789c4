use Rattle.std.proofs.Common.{◌∙◌, List, ℕ, ap, ap₂, sym, subst}
use Rattle.bip_defs.specs.Lists.{Among}
use Rattle.bip_defs.specs.Matrix.{Place}
use Rattle.bip_graph.specs.declared.answers.Bottleneck.TheVariants.{Best}
use Rattle.btf_text.specs.Bottlenecks.{BestPairsAreEntries, best_lines, bottleneck_lines}
use Rattle.btf_text.proofs.Puts.{puts_as}
use Rattle.btf_text.proofs.bottleneck.put_answer.Goals as goal

pub put_best-requires : goal.put_best-requires
put_best-requires g c r col on =
    let d = c.in-Best in
    let entries : BestPairsAreEntries c.args.pattern.now (Best d.pairs d.least d.hall) = subst (BestPairsAreEntries c.args.pattern.now) d.is c.requires.entries in
    rw c.requires.weights (entries r col (subst (λ (ps : List Place). Among (r, col) ps) c.as_slice-in-Best.ensures.value on))

pub returns-in-Best : goal.returns-in-Best
returns-in-Best g c =
    let w = c.args.weights.now in
    puts_as (ap₂ (λ (ps : List Place) (hall : List ℕ). best_lines w ps c.in-Best.least hall) c.as_slice-in-Best.ensures.value c.as_slice-in-Best-2.ensures.value ∙ sym (ap (bottleneck_lines w) c.in-Best.is)) c.put_best.ensures
