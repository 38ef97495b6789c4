use Rattle.std.proofs.Common.{List, ap, sym, subst, ◌∙◌, rules, SFits, to_z-of_z}
use Rattle.std.specs.Int.{w128}
use Rattle.bip_defs.specs.Lists.{Among}
use Rattle.bip_defs.specs.Matrix.{Place}
use Rattle.bip_graph.specs.declared.answers.Heaviest.TheVariants.{Diagonal}
use Rattle.btf_text.specs.Diagonals.{PairsAreEntries, diagonal_lines}
use Rattle.btf_text.proofs.Weighed.{same_weighed}
use Rattle.btf_text.proofs.Puts.{puts_as}
use Rattle.btf_text.proofs.diagonal.put_answer.Goals as goal

pub put_weighed-requires : goal.put_weighed-requires
put_weighed-requires g c r col on =
    let d = c.in-Diagonal in
    let entries : PairsAreEntries c.args.pattern.now (Diagonal d.pairs d.u d.v d.sum) = subst (PairsAreEntries c.args.pattern.now) d.is c.requires.entries in
    rw c.requires.weights (entries r col (subst (λ (ps : List Place). Among (r, col) ps) c.as_slice-in-Diagonal.ensures.value on))

pub returns-in-Diagonal : goal.returns-in-Diagonal
returns-in-Diagonal g c =
    let fits : SFits w128 c.in-Diagonal.sum = search rules in
    puts_as (same_weighed c.args.weights.now c.as_slice-in-Diagonal.ensures.value c.as_slice-u.ensures.value c.as_slice-v.ensures.value (to_z-of_z fits) ∙ sym (ap (diagonal_lines c.args.weights.now) c.in-Diagonal.is)) c.put_weighed.ensures
