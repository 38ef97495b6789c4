use Rattle.std.proofs.Common.{subst, sym}
use Rattle.bip_defs.specs.Matrix.{Matrix}
use Rattle.sp_pattern.specs.Stored.{IsPattern}
use Rattle.edit_session.specs.Sessions.{IsKept}
use Rattle.edit_session.proofs.session.Session.new.Goals as goal

pub invariant_of-result : goal.invariant_of-result
invariant_of-result c = subst (λ (a : Matrix). IsKept a c.in_ok-rows.rows.matrix c.args.matching c.in_ok-cover.cover) (sym c.in_ok-columns.ensures.matrix)
    (record { maximum = c.requires; cover = c.in_ok-cover.ensures; rows = c.in_ok-rows.ensures })

pub of_rows-requires : goal.of_rows-requires
of_rows-requires c = subst IsPattern c.in_ok-columns.ensures.matrix c.in_ok-columns.ensures.pattern
