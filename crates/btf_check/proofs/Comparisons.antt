-- What the comparisons show of a report.
use Rattle.std.proofs.Common.{◌≡◌, ◌↔◌, ℕ, List, Some, refl, sym, subst, arith}
use Rattle.std.specs.Prelude.{IfSome}
use Rattle.bip_defs.specs.Blocks.{AreBlocksOf, Block, all_cols, all_rows}
use Rattle.bip_defs.specs.ConnectedComponents.{AreConnectedComponents, Components}
use Rattle.bip_defs.specs.Lists.{Lists}
use Rattle.bip_defs.specs.Matching.{IsMaximum}
use Rattle.bip_defs.specs.Matrix.{Matrix, Place}
use Rattle.bip_defs.specs.Once.{ListsOnce}
use Rattle.bip_defs.specs.Parts.{ArePartsOf, IsHorizontalCol, IsHorizontalRow, IsSquareCol, IsSquareRow, IsVerticalCol, IsVerticalRow, Parts}
use Rattle.bip_defs.proofs.Connected.{same_components}
use Rattle.bip_defs.proofs.Sets.{lists_unique}
use Rattle.bip_defs.proofs.Square.{in_rows, square_pairs_perfect}
use Rattle.bip_defs.proofs.Uniqueness.{one_blocks}
use Rattle.bip_graph.specs.Texts.{Report}
use Rattle.btf_check.specs.ReportParts.{AreOnce, HasOuterParts, HasParts, HasSizes}
use Rattle.btf_check.specs.Reasons.{AreOrdersOf, ArePaired, IsMet, TellsBlocks, TellsParts}
use Rattle.btf_check.specs.Verdicts.{IsFirst}

-- Numbers in any order.

once_listed : (P : ℕ → Type 0) (once list : List ℕ) → Lists P once → AreOnce once list → ListsOnce P list
once_listed P once list listed all = record { distinct = all.distinct; sound = λ x h. listed.sound x (all.sound x h); complete = λ x p. all.complete x (listed.complete x p) }

listed_once : (P : ℕ → Type 0) (once list : List ℕ) → Lists P once → ListsOnce P list → AreOnce once list
listed_once P once list listed all = record { distinct = all.distinct; sound = λ x h. listed.complete x (all.sound x h); complete = λ x h. all.complete x (listed.sound x h) }

pub once_same : (once list o l : List ℕ) → o ≡ once → l ≡ list → AreOnce once list → AreOnce o l
once_same once list o l e f all = subst (λ z. AreOnce z l) (sym e) (subst (AreOnce once) (sym f) all)

pub once_back : (once list o l : List ℕ) → o ≡ once → l ≡ list → AreOnce o l → AreOnce once list
once_back once list o l e f all = subst (λ z. AreOnce z list) e (subst (AreOnce o) f all)

-- The parts.

pub tells_parts : (a : Matrix) (m : List Place) (p : Parts) (r : Report) → IsMaximum a m → ArePartsOf a p → HasSizes a m r → HasParts p r → TellsParts a r
tells_parts a m p r max parts sizes has = record {
  sizes = sizes.sizes;
  rank = (m, max, sym sizes.rank);
  horizontal_rows = subst (Lists (IsHorizontalRow a)) (sym has.outer.horizontal_rows) parts.horizontal_rows;
  horizontal_cols = subst (Lists (IsHorizontalCol a)) (sym has.outer.horizontal_cols) parts.horizontal_cols;
  square_rows = once_listed (IsSquareRow a) p.square_rows (all_rows r.blocks) parts.square_rows has.square_rows;
  square_cols = once_listed (IsSquareCol a) p.square_cols (all_cols r.blocks) parts.square_cols has.square_cols;
  vertical_rows = subst (Lists (IsVerticalRow a)) (sym has.outer.vertical_rows) parts.vertical_rows;
  vertical_cols = subst (Lists (IsVerticalCol a)) (sym has.outer.vertical_cols) parts.vertical_cols;
}

pub told_outer : (a : Matrix) (p : Parts) (r : Report) → ArePartsOf a p → TellsParts a r → HasOuterParts p r
told_outer a p r parts tells = record {
  horizontal_rows = lists_unique (IsHorizontalRow a) r.horizontal_rows p.horizontal_rows tells.horizontal_rows parts.horizontal_rows;
  horizontal_cols = lists_unique (IsHorizontalCol a) r.horizontal_cols p.horizontal_cols tells.horizontal_cols parts.horizontal_cols;
  vertical_rows = lists_unique (IsVerticalRow a) r.vertical_rows p.vertical_rows tells.vertical_rows parts.vertical_rows;
  vertical_cols = lists_unique (IsVerticalCol a) r.vertical_cols p.vertical_cols tells.vertical_cols parts.vertical_cols;
}

pub told_rows : (a : Matrix) (p : Parts) (r : Report) → ArePartsOf a p → TellsParts a r → AreOnce p.square_rows (all_rows r.blocks)
told_rows a p r parts tells = listed_once (IsSquareRow a) p.square_rows (all_rows r.blocks) parts.square_rows tells.square_rows

pub told_cols : (a : Matrix) (p : Parts) (r : Report) → ArePartsOf a p → TellsParts a r → AreOnce p.square_cols (all_cols r.blocks)
told_cols a p r parts tells = listed_once (IsSquareCol a) p.square_cols (all_cols r.blocks) parts.square_cols tells.square_cols

-- The blocks.

pub tells_blocks : (a : Matrix) (r : Report) (bs : List Block) → AreBlocksOf a bs → r.blocks ≡ bs → IfSome r.orders (AreOrdersOf r) → TellsBlocks a r
tells_blocks a r bs blocks same orders = record { blocks = subst (AreBlocksOf a) (sym same) blocks; orders = orders }

pub told_blocks : (a : Matrix) (m : List Place) (p : Parts) (r : Report) (bs : List Block) → IsMaximum a m → ArePartsOf a p → AreBlocksOf a bs → TellsBlocks a r → r.blocks ≡ bs
told_blocks a m p r bs max parts blocks tells = one_blocks a (in_rows p.square_rows m) r.blocks bs (square_pairs_perfect a m p.square_rows max parts.square_rows) tells.blocks blocks

-- The first reason.

pub first_blocks : (a : Matrix) (r : Report) (ps : List Place) → r.pairs ≡ Some ps → ArePaired a ps → IsMaximum a ps → TellsParts a r → ¬ TellsBlocks a r → IsFirst (IsMet a r) 5
first_blocks a r ps e paired max parts none = record {
  fails = λ met. none (met.blocks refl);
  before = λ j lt. record { pairs = λ (f : j ≡ 2). subst (λ o. IfSome o (ArePaired a)) (sym e) paired; maximum = λ (f : j ≡ 3). subst (λ o. IfSome o (IsMaximum a)) (sym e) max; parts = λ (f : j ≡ 4). parts; blocks = λ (f : j ≡ 5). absurd (omega arith); components = λ (f : j ≡ 6). absurd (omega arith) };
}

pub first_components : (a : Matrix) (r : Report) (ps : List Place) → r.pairs ≡ Some ps → ArePaired a ps → IsMaximum a ps → TellsParts a r → TellsBlocks a r → ¬ IfSome r.components (AreConnectedComponents a) → IsFirst (IsMet a r) 6
first_components a r ps e paired max parts blocks none = record {
  fails = λ met. none (met.components refl);
  before = λ j lt. record { pairs = λ (f : j ≡ 2). subst (λ o. IfSome o (ArePaired a)) (sym e) paired; maximum = λ (f : j ≡ 3). subst (λ o. IfSome o (IsMaximum a)) (sym e) max; parts = λ (f : j ≡ 4). parts; blocks = λ (f : j ≡ 5). blocks; components = λ (f : j ≡ 6). absurd (omega arith) };
}

pub all_met : (a : Matrix) (r : Report) (ps : List Place) → r.pairs ≡ Some ps → ArePaired a ps → IsMaximum a ps → TellsParts a r → TellsBlocks a r → IfSome r.components (AreConnectedComponents a) → (k : ℕ) → IsMet a r k
all_met a r ps e paired max parts blocks components k = record { pairs = λ f. subst (λ o. IfSome o (ArePaired a)) (sym e) paired; maximum = λ f. subst (λ o. IfSome o (IsMaximum a)) (sym e) max; parts = λ f. parts; blocks = λ f. blocks; components = λ f. components }

-- The components.

pub told_components : (a : Matrix) (c d : Components) → AreConnectedComponents a d → (c ≡ d) ↔ AreConnectedComponents a c
told_components a c d own = (λ e. subst (AreConnectedComponents a) (sym e) own, λ told. same_components a c d told own)
