use Rattle.std.proofs.Common.{ap, sym}
use Rattle.std.specs.Option.{option_copied}
use Rattle.bip_graph.specs.Texts.{vertical_components}
use Rattle.btf_text.specs.Reports.{components_in}
use Rattle.btf_text.proofs.Puts.{puts_as}
use Rattle.btf_text.proofs.report.put_vertical.Goals as goal

pub returns-in-Some : goal.returns-in-Some
returns-in-Some g c = puts_as (ap (λ o. vertical_components (components_in (option_copied o))) (sym c.in-Some.is)) c.put_counted.ensures
