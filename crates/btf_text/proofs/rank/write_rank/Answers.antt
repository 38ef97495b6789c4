use Rattle.std.proofs.Common.{rules, ap}
use Rattle.bip_graph.specs.Texts.{Sizes, rank_lines}
use Rattle.btf_text.proofs.Puts.{puts_as, puts_then, written}
use Rattle.btf_text.proofs.rank.write_rank.Goals as goal

pub returns : goal.returns
returns g c =
    written _ c.start-text.ensures
    (puts_as (ap (λ (s : Sizes). rank_lines s c.args.rank c.args.hr.now c.args.hc.now) (λ i. record { rows = c.rows.ensures i; cols = c.cols.ensures i; entries = c.entries.ensures i }))
    (puts_then c.put_head.ensures (puts_then c.put_part.ensures c.put_line.ensures)))
    c.finish.ensures (search rules)
