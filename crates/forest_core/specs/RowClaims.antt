-- The claims of rows as they are stored, and what they say.
use Rattle.std.specs.Prelude.{List, map}
use Rattle.forest_core.specs.Tables.{Claimed, holder_in, root_in}
use Rattle.forest_core.specs.declared.claim_table.RowClaim.{RowClaim}

-- of each row the column that claimed it, and its root
abbrev pub claimed_by : List RowClaim → Claimed
claimed_by rows = record {
  holders = map (λ (w : RowClaim). holder_in w.holder) rows;
  roots = map (λ (w : RowClaim). root_in w.holder w.root) rows;
}
