use Rattle.std.proofs.Common.{◌∷◌, [], List, ℕ, codes, ap}
use Rattle.bip_defs.specs.Matrix.{neighbours}
use Rattle.bip_graph.specs.Texts.{counted, line}
use Rattle.btf_text.proofs.Parts.{same_ids, same_number}
use Rattle.btf_text.proofs.Puts.{puts_as, puts_then}
use Rattle.btf_text.proofs.diagonal.put_singular.Goals as goal

pub returns : goal.returns
returns g c =
    puts_then (puts_as (same_number (codes "singular") c.from.ensures) c.put_line.ensures)
    (puts_then (puts_as (ap (λ (hall : List ℕ). line (codes "rows") (counted (neighbours c.args.pattern.now hall)) ∷ []) c.new.ensures) c.put_neighbours.ensures)
    (puts_then (puts_as (ap (λ (list : List ℕ). line (codes "columns") (counted list) ∷ []) (same_ids c.args.hall.now)) c.put_list.ensures) c.put_line-2.ensures))
