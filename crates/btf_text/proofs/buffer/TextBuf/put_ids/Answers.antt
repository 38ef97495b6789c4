use Rattle.std.proofs.Common.{arith, ap, map, List}
use Rattle.std.proofs.lemmas.List.{take_all}
use Rattle.bip_graph.specs.Texts.{counted, spaced}
use Rattle.btf_text.proofs.BufferLaws.{appends_as, appends_none, appends_then}
use Rattle.btf_text.proofs.Lines.{ids_go_on}
use Rattle.btf_text.proofs.buffer.TextBuf.put_ids.Goals as goal

pub loop-id-init : goal.loop-id-init
loop-id-init g c = appends_none _ _ _

pub loop-id-preserved : goal.loop-id-preserved
loop-id-preserved g c = appends_as _ _ (ids_go_on _ _ _ c.id-item.result _ c.loop-id-test.true (omega (arith, c.from.ensures, c.number.ensures, ap g.N.Id.number c.id-item.is))) (appends_then _ _ c.loop-id.invariant c.put_number.ensures)

pub returns : goal.returns
returns g c = appends_as _ _ (ap (λ (t : List g.row.N.Denot). spaced (counted (map g.N.Id.number t))) (take_all _ _ c.loop-id-test.false)) c.loop-id.invariant
