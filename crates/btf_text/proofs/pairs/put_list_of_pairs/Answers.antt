use Rattle.std.proofs.Common.{◌∷◌, ◌∙◌, ap, arith, codes, length, map, List, []}
use Rattle.bip_defs.specs.Matrix.{Place}
use Rattle.bip_graph.specs.Texts.{line, pair_line}
use Rattle.btf_text.proofs.Mates.{before_all, columns_go_on, line_of_count}
use Rattle.btf_text.proofs.Puts.{puts_as, puts_then}
use Rattle.btf_text.proofs.pairs.put_list_of_pairs.Goals as goal

pub loop-col-init : goal.loop-col-init
loop-col-init g c = puts_as (line_of_count _ _ (c.from.ensures ∙ c.size.ensures.size)) c.put_line.ensures

pub loop-col-preserved : goal.loop-col-preserved
loop-col-preserved g c = puts_as (columns_go_on _ _ _ c.size.ensures.cols_rise) (puts_then c.loop-col.invariant c.put_mate.ensures)

pub returns : goal.returns
returns g c =
    let m = c.args.matching.now.pairs in
    puts_as (ap (λ (ps : List Place). line (codes "pairs") (length m ∷ []) ∷ map pair_line ps)
    (before_all c.loop-col.col m (λ row col on. omega (arith, c.loop-col-test.false, c.cols-col-end.ensures.count, c.cols-col-end.ensures.within row col on))))
    c.loop-col.invariant
