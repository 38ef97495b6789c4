use Rattle.std.proofs.Common.{ap, sym, ◌∙◌}
use Rattle.bip_defs.specs.Matrix.{Matrix}
use Rattle.btf_text.proofs.bottleneck.AboveRowLookup.rows.Goals as goal

pub returns : goal.returns
returns c = c.rows.ensures ∙ sym (ap (λ (a : Matrix). a.rows) c.args.self.now.of)
