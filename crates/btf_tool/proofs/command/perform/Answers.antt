use Rattle.std.proofs.Common.{refl}
use Rattle.sp_ports.specs.Device.{seen}
use Rattle.btf_tool.proofs.Completeness.{untouched_gave}
use Rattle.btf_tool.proofs.command.perform.Goals as goal

pub returns-in-Load-clause-says : goal.returns-in-Load-clause-says
returns-in-Load-clause-says g c = rw c.in-Load.is (c.load.ensures _ (refl, refl))

pub returns-in-Load-clause-gave : goal.returns-in-Load-clause-gave
returns-in-Load-clause-gave g c = untouched_gave (seen g.S.Source.left g.S.Source.faults c.args.input.now c.args.input.now) (refl, refl)
