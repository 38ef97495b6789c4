-- What contracts see of a forest, and what holds of its fields.
use Rattle.std.specs.Prelude.{◌≤◌, ◌<◌, ◌^◌, vec_capacity}
use Rattle.bip_defs.specs.Matrix.{cols}
use Rattle.bip_defs.specs.Forest.{State}
use Rattle.forest_core.specs.Adopted.{IsAdopted}
use Rattle.forest_core.specs.Stored.{IsStored, Tables}
use Rattle.forest_core.specs.declared.forest.Forest.TheInside.{Inside}

-- room for as many claims and leaves as there can be, and rows and columns that 32 bits number
pub record HasRoom (f : Inside) : Type 0 where
  pub claims : f.pattern.now.rows ≤ vec_capacity f.claims
  pub claim_roots : f.pattern.now.rows ≤ vec_capacity f.claim_roots
  pub path : f.pattern.now.rows ≤ vec_capacity f.path
  pub leaves : cols f.pattern.now ≤ vec_capacity f.leaves
  pub flipped : cols f.pattern.now ≤ vec_capacity f.flipped
  pub few : (f.pattern.now.rows < 2 ^ 32) × (cols f.pattern.now < 2 ^ 32)

abbrev pub state_of : Inside → State
state_of f = record {
  matrix = f.pattern.now;
  base = f.base.pairs;
  claims = f.claims.items;
  leaves = f.leaves.items;
  flipped = f.flipped.items;
}

abbrev pub tables_of : Inside → Tables
tables_of f = record {
  claimed = f.claimed;
  claim_roots = f.claim_roots.items;
  leaf_of = f.leaf_of;
  marks = f.marks.items;
}

abbrev pub IsForest : Inside → Type 0
IsForest f = IsStored (state_of f) f.base (tables_of f) × HasRoom f
    × IsAdopted (state_of f) f.adopted
