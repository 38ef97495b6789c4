use Rattle.std.proofs.Common.{◌∷◌, [], ℕ, codes, ap₂, ◌∙◌}
use Rattle.bip_graph.specs.Texts.{line}
use Rattle.btf_text.proofs.Puts.{puts_as}
use Rattle.btf_text.proofs.diagonal.put_rectangular.Goals as goal

pub returns : goal.returns
returns g c = puts_as (ap₂ (λ (m n : ℕ). line (codes "rectangular") (m ∷ n ∷ []) ∷ []) (c.from.ensures ∙ c.rows-m.ensures) (c.from-2.ensures ∙ c.cols-n.ensures)) c.put_line.ensures
