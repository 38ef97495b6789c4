use Rattle.std.proofs.Common.{◌<◌, inl, subst}
use Rattle.bip_defs.proofs.Sets.{row_among}
use Rattle.bip_defs.specs.Lists.{Among}
use Rattle.bip_defs.specs.Matching.{cols_of, rows_of}
use Rattle.bip_defs.specs.Matrix.{cols}
use Rattle.bip_defs.specs.Forest.{InForest, IsRootOfRow, RootOf, State, itself}
use Rattle.forest_core.specs.Sound.{IsSound}
use Rattle.forest_core.proofs.Members.{if_none, if_some}
use Rattle.forest_core.proofs.StoredForests.{in_by_row, out_by_row, root_by_row, root_in_range}
use Rattle.forest_core.proofs.forest.Forest.root_of.Goals as goal

free : (c : goal.In-None) → ¬ Among c.args.col (cols_of c.args.self.now.base)
free c = subst (λ (s : State). ¬ Among c.args.col (cols_of s.base)) c.self.view_is c.in-None.ensures.none

sound : (c : goal.After-root_of_row) → IsSound c.args.self.now
sound c = subst IsSound c.self.view_is c.self.invariant.0.sound

mate : (c : goal.After-root_of_row) → Among (c.in-Some.row, c.args.col) c.args.self.now.base
mate c = subst (λ (s : State). Among (c.in-Some.row, c.args.col) s.base) c.self.view_is c.in-Some.ensures.found

pub root_of_row-requires : goal.root_of_row-requires
root_of_row-requires c =
    let mate = subst (λ (s : State). Among (c.in-Some.row, c.args.col) s.base) c.self.view_is c.in-Some.ensures.found in
    ((subst IsSound c.self.view_is c.self.invariant.0.sound).base.entries c.in-Some.row c.args.col mate).0

pub returns-in-Some-clause-found : goal.returns-in-Some-clause-found
returns-in-Some-clause-found c =
    if_some (λ x. IsRootOfRow c.args.self.now.base c.args.self.now.claims x c.in-Some.row) (λ x. RootOf c.args.self.now.base c.args.self.now.claims x c.args.col) c.root_of_row.result (λ x t. root_by_row c.args.self.now c.in-Some.row c.args.col x (mate c) t) c.root_of_row.ensures.found

pub returns-in-Some-clause-in_range : goal.returns-in-Some-clause-in_range
returns-in-Some-clause-in_range c =
    if_some (λ x. IsRootOfRow c.args.self.now.base c.args.self.now.claims x c.in-Some.row) (λ x. x < cols c.args.self.now.matrix) c.root_of_row.result (λ x t. root_in_range c.args.self.now (sound c) x c.in-Some.row t) c.root_of_row.ensures.found

pub returns-in-Some-clause-in_forest : goal.returns-in-Some-clause-in_forest
returns-in-Some-clause-in_forest c =
    if_some (λ x. IsRootOfRow c.args.self.now.base c.args.self.now.claims x c.in-Some.row) (λ x. InForest c.args.self.now c.args.col) c.root_of_row.result (λ x t. in_by_row c.args.self.now c.in-Some.row c.args.col c.requires (mate c) (row_among c.in-Some.row t.0 c.args.self.now.claims t.1)) c.root_of_row.ensures.found

pub returns-in-Some-clause-none : goal.returns-in-Some-clause-none
returns-in-Some-clause-none c =
    if_none (¬ Among c.in-Some.row (rows_of c.args.self.now.claims)) (¬ InForest c.args.self.now c.args.col) c.root_of_row.result (λ n. out_by_row c.args.self.now (sound c) c.in-Some.row c.args.col (mate c) n) c.root_of_row.ensures.none

pub returns-in-None-clause-found : goal.returns-in-None-clause-found
returns-in-None-clause-found c = itself (free c)

pub returns-in-None-clause-in_forest : goal.returns-in-None-clause-in_forest
returns-in-None-clause-in_forest c = (c.requires, inl (free c))
