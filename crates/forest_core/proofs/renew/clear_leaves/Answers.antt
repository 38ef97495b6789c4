use Rattle.std.proofs.Common.{◌≤◌, arith, drop_of_length-le, length, refl, subst}
use Rattle.bip_defs.proofs.Slices.{read_among}
use Rattle.forest_core.proofs.TableLemmas.{IsWithin, within_none}
use Rattle.forest_core.proofs.renew.clear_leaves.Goals as goal

pub loop-root-init : goal.loop-root-init
loop-root-init c = record { within = record { held = λ k v h. (c.requires.leaf_of k v).0 h }; long = refl; marks = c.requires.marks }

pub clear-requires : goal.clear-requires
clear-requires c =
    let lt = c.requires.cols _ _ (read_among _ c.args.leaves.now _ c.loop-root-test.true c.loop-root-item.is) in
    omega (arith, lt.0, c.number.ensures, c.loop-root.invariant.long)

pub bounds-marks-number : goal.bounds-marks-number
bounds-marks-number c =
    let lt = c.requires.cols _ _ (read_among _ c.args.leaves.now _ c.loop-root-test.true c.loop-root-item.is) in
    omega (arith, lt.1, c.number-in-loop-root.ensures, c.loop-root.auto.marks)

pub returns-clause-leaf_of : goal.returns-clause-leaf_of
returns-clause-leaf_of c =
    let le : length c.args.leaves.now ≤ c.loop-root.root-index = omega arith in
    within_none c.loop-root.leaf_of (subst (λ qs. IsWithin qs c.loop-root.leaf_of) (drop_of_length-le c.args.leaves.now le) c.loop-root.invariant.within)
