use Rattle.std.proofs.Common.{◌∷◌, [], List, ℕ, codes, ap}
use Rattle.bip_defs.specs.Matrix.{neighbours}
use Rattle.bip_graph.specs.Texts.{counted, line}
use Rattle.btf_text.specs.Bottlenecks.{entries_above}
use Rattle.btf_text.proofs.Parts.{same_ids}
use Rattle.btf_text.proofs.Puts.{puts_as, puts_then}
use Rattle.btf_text.proofs.bottleneck.put_best.Goals as goal

pub returns : goal.returns
returns g c =
    let b = entries_above c.args.above.now.weights.now c.args.above.now.least in
    puts_then c.put_line.ensures
    (puts_then c.put_entries.ensures
    (puts_then (puts_as (ap (λ (hall : List ℕ). line (codes "above_rows") (counted (neighbours b hall)) ∷ []) c.new.ensures) c.put_neighbours.ensures)
    (puts_then (puts_as (ap (λ (list : List ℕ). line (codes "above_columns") (counted list) ∷ []) (same_ids c.args.hall.now)) c.put_list.ensures) c.put_line-2.ensures)))
