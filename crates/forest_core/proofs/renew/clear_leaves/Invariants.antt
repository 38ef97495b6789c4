use Rattle.std.proofs.Common.{◌≡◌, ℕ, drop, length, slice_index_or, true, false}
use Rattle.bip_defs.specs.Lists.{Among}
use Rattle.bip_defs.specs.Forest.{roots_of}
use Rattle.forest_core.proofs.TableLemmas.{IsWithin}
use Rattle.forest_core.proofs.renew.clear_leaves.Given as goal

abbrev pub invariant-loop-root : goal.invariant-loop-root
invariant-loop-root l = record {
  within : IsWithin (drop l.root-index l.leaves) l.leaf_of;
  long : length l.leaf_of ≡ length l.fn.leaf_of;
  marks : (x : ℕ) → slice_index_or l.marks x false ≡ true → Among x (roots_of (drop l.root-index l.leaves));
}
