use Rattle.std.proofs.Common.{ap, ◌∷◌, [], ℕ}
use Rattle.bip_graph.specs.Texts.{component_lines, line}
use Rattle.btf_text.proofs.Puts.{puts_as, puts_then}
use Rattle.btf_text.proofs.report.put_counted.Goals as goal

pub returns : goal.returns
returns g c =
    puts_as (ap (λ (n : ℕ). line c.args.word.now (n ∷ []) ∷ component_lines 1 c.args.components.now) c.len.ensures)
    (puts_then c.put_line.ensures c.put_numbered.ensures)
