use Rattle.std.proofs.Common.{ap, arith, subst, sym}
use Rattle.bip_defs.specs.Lists.{Among}
use Rattle.bip_defs.specs.Matching.{rows_of}
use Rattle.forest_core.specs.Inside.{state_of}
use Rattle.forest_core.specs.Sound.{IsSound}
use Rattle.bip_defs.specs.Forest.{State, IsRootOfRow, itself}
use Rattle.forest_core.proofs.StoredForests.{base_row_claimed, root_below, root_by_row, table_there}
use Rattle.forest_core.proofs.forest.Forest.root.Goals as goal

sound : (c : goal.In-Some) → IsSound c.args.self.now
sound c = subst IsSound c.self.view_is c.self.invariant.0.sound

pub root_at-requires-clause-within : goal.root_at-requires-clause-within
root_at-requires-clause-within c =
    let lt = ((sound c).base.entries c.in-Some.row c.args.col c.in-Some.ensures.found).0 in
    omega (arith, lt, ap (λ (s : State). s.matrix.rows) c.self.view_is, c.self.invariant.0.holders_long)

-- the base row of the column is claimed
claimed : (c : goal.In-Some) → Among c.in-Some.row (rows_of (state_of c.self.inside).claims)
claimed c = subst (λ (s : State). Among c.in-Some.row (rows_of s.claims)) (sym c.self.view_is) (base_row_claimed c.args.self.now (sound c) c.in-Some.row c.args.col c.in-Some.ensures.found c.requires)

pub root_at-requires-clause-some : goal.root_at-requires-clause-some
root_at-requires-clause-some c = table_there (state_of c.self.inside).claims c.self.inside.claimed.holders c.in-Some.row c.self.invariant.0.held (claimed c)

pub returns-in-Some-clause-root : goal.returns-in-Some-clause-root
returns-in-Some-clause-root c =
    let tree = (c.self.invariant.0.rooted c.in-Some.row c.root_at.result).0 c.root_at.ensures in
    root_by_row c.args.self.now c.in-Some.row c.args.col c.root_at.result c.in-Some.ensures.found (subst (λ (s : State). IsRootOfRow s.base s.claims c.root_at.result c.in-Some.row) c.self.view_is tree)

pub returns-in-Some-clause-in_range : goal.returns-in-Some-clause-in_range
returns-in-Some-clause-in_range c =
    let tree = (c.self.invariant.0.rooted c.in-Some.row c.root_at.result).0 c.root_at.ensures in
    root_below c.args.self.now (subst IsSound c.self.view_is c.self.invariant.0.sound) (root_by_row c.args.self.now c.in-Some.row c.args.col c.root_at.result c.in-Some.ensures.found (subst (λ (s : State). IsRootOfRow s.base s.claims c.root_at.result c.in-Some.row) c.self.view_is tree)) c.requires.0

pub returns-in-None-clause-root : goal.returns-in-None-clause-root
returns-in-None-clause-root c = itself c.in-None.ensures.none
