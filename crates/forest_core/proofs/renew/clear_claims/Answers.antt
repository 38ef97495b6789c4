use Rattle.std.proofs.Common.{◌≤◌, arith, drop_of_length-le, length, refl, subst}
use Rattle.bip_defs.proofs.Slices.{read_among}
use Rattle.forest_core.proofs.TableLemmas.{IsWithin, within_none}
use Rattle.forest_core.proofs.renew.clear_claims.Goals as goal

pub loop-row-init : goal.loop-row-init
loop-row-init c = record { within = record { held = λ k v h. (c.requires.holders k v).0 h }; long = refl; alike = c.requires.alike }

pub clear-requires : goal.clear-requires
clear-requires c =
    let lt = c.requires.rows _ _ (read_among _ c.args.claims.now _ c.loop-row-test.true c.loop-row-item.is) in
    omega (arith, lt, c.loop-row.invariant.long)

pub returns-clause-holders : goal.returns-clause-holders
returns-clause-holders c =
    let le : length c.args.claims.now ≤ c.loop-row.row-index = omega arith in
    within_none c.loop-row.claimed.holders (subst (λ qs. IsWithin qs c.loop-row.claimed.holders) (drop_of_length-le c.args.claims.now le) c.loop-row.invariant.within)
