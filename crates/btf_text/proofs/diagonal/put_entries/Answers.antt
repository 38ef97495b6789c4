use Rattle.std.proofs.Common.{◌∙◌, ◌∷◌, ◌++◌, [], ap, map, subst, sym, take}
use Rattle.std.proofs.lemmas.List.{take_all}
use Rattle.bip_defs.specs.Lists.{Among}
use Rattle.bip_defs.specs.Matrix.{Place}
use Rattle.bip_defs.proofs.Sets.{among_at}
use Rattle.btf_text.specs.Diagonals.{entry_line}
use Rattle.btf_text.proofs.Weighed.{entries_go_on}
use Rattle.btf_text.proofs.Puts.{puts_as, puts_none, puts_then}
use Rattle.btf_text.proofs.diagonal.put_entries.Goals as goal

pub loop-pair-init : goal.loop-pair-init
loop-pair-init g c = puts_none _

pub put_entry-requires : goal.put_entry-requires
put_entry-requires g c =
    c.requires c.pair-item.result.0 c.pair-item.result.1
    (subst (λ (p : Place). Among p c.args.pairs.now) (sym c.pair-item.is) (among_at c.args.pairs.now c.loop-pair.pair-index c.pair-item.result c.loop-pair-test.true))

pub loop-pair-preserved : goal.loop-pair-preserved
loop-pair-preserved g c =
    let w = c.args.weights.now in
    let pairs = c.args.pairs.now in
    puts_as (ap (λ (p : Place). map (entry_line w) (take c.loop-pair.pair-index pairs) ++ entry_line w p ∷ []) c.pair-item.is ∙ entries_go_on w pairs c.loop-pair.pair-index c.pair-item.result c.loop-pair-test.true)
    (puts_then c.loop-pair.invariant c.put_entry.ensures)

pub returns : goal.returns
returns g c = puts_as (ap (map (entry_line c.args.weights.now)) (take_all _ _ c.loop-pair-test.false)) c.loop-pair.invariant
