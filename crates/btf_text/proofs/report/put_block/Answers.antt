use Rattle.std.proofs.Common.{ap₂, codes, length, ◌∷◌, [], List, ℕ}
use Rattle.bip_graph.specs.Texts.{line, lists}
use Rattle.btf_text.proofs.Parts.{same_ids}
use Rattle.btf_text.proofs.Puts.{puts_as, puts_then}
use Rattle.btf_text.proofs.report.put_block.Goals as goal

pub returns : goal.returns
returns g c =
    puts_as (ap₂ (λ (r k : List ℕ). line (codes "block") (c.args.number ∷ length c.args.rows.now ∷ []) ∷ lists r k) (same_ids _) (same_ids _))
    (puts_then c.put_line.ensures (puts_then c.put_list.ensures c.put_list-2.ensures))
