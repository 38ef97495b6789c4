-- The horizontal rows from their marks.
use Rattle.std.proofs.Common.{◌<◌, ℕ, Bool, List, arith, length}
use Rattle.bip_defs.specs.Lists.{IsMarked, Lists}
use Rattle.bip_defs.specs.Marks.{Marks}
use Rattle.bip_defs.specs.Matrix.{Matrix}
use Rattle.bip_defs.specs.Parts.{IsHorizontalRow}
use Rattle.bip_defs.proofs.Sets.{lists_same}

-- the marked rows, where the horizontal ones are marked
pub marked_rows : (a : Matrix) (marks : List Bool) (rows : List ℕ) → Marks a.rows (IsHorizontalRow a) marks → Lists (λ r. (r < length marks) × IsMarked marks r) rows → Lists (IsHorizontalRow a) rows
marked_rows a marks rows k l = lists_same (λ r. (r < length marks) × IsMarked marks r) (IsHorizontalRow a) rows (λ r h. (k.exact r (let lt = h.0 in omega (arith, lt, k.long))).0 h.1) (λ r h. let lt = h.2.0 in (omega (arith, lt, k.long), (k.exact r lt).1 h)) l
