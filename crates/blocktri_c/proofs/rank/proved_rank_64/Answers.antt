use Rattle.std.proofs.Common.{rules, FitsSigned}
use Rattle.std.specs.Int.{w32}
use Rattle.std.proofs.lemmas.Int.{to_z-of_z}
use Rattle.blocktri.specs.declared.refusals.Refusal.TheVariants.{Columns}
use Rattle.blocktri_c.specs.Statuses.{lists_of}
use Rattle.blocktri_c.proofs.StatusLemmas.{fault_told}
use Rattle.blocktri_c.proofs.rank.proved_rank_64.Goals as goal

pub returns-in-Err-clause-fault : goal.returns-in-Err-clause-fault
returns-in-Err-clause-fault c =
    let fits : FitsSigned w32 c.status.result = search rules in
    let status = c.status.ensures in
    rw (to_z-of_z w32 c.status.result fits) (fault_told (Unit {0}) (lists_of c.args.others c.args.starts.now c.args.ids.now c.args.by_rows) (Columns c.in-Err.error) c.status.result c.args.fault.now c.status.new.fault status.status status.refused status.fault (tt, rw c.wide.ensures at c.in-Err.ensures.refused))
