use Rattle.std.proofs.Common.{◌≡◌, ◌∙◌, ap, map, rules, replicate}
use Rattle.bip_graph.specs.Mates.{mate_of}
use Rattle.bip_graph.specs.Matching.{none}
use Rattle.bip_graph.proofs.Mutual.{no_mates}
use Rattle.bip_graph.proofs.mates.Mates.empty.Goals as goal

pub returns : goal.returns
returns c =
    let cols : c.in_ok-row_of_col.row_of_col.items ≡ replicate c.args.cols none = search rules in
    let rows : c.in_ok-col_of_row.col_of_row.items ≡ replicate c.args.rows none = search rules in
    λ i. record { rows = (ap (map mate_of) rows ∙ no_mates c.args.rows) i; cols = (ap (map mate_of) cols ∙ no_mates c.args.cols) i }
