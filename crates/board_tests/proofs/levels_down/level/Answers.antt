use Rattle.std.proofs.Common.{subst, sym, ⊎_elim}
use Rattle.bip_defs.specs.Forest.{InForest}
use Rattle.board_tests.proofs.levels_down.level.Goals as goal

pub top_down-requires-clause-inside : goal.top_down-requires-clause-inside
top_down-requires-clause-inside g c κs within d h =
    let inside = InForest c.args.forest.now in
    ⊎_elim (λ e. subst inside (sym e) c.requires.inside.0) (λ more. ⊎_elim (λ e. subst inside (sym e) c.requires.inside.1) (λ none. absurd none) more) h
