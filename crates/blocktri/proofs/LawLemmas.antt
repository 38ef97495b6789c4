-- The answers are determined by the matrix.
use Rattle.std.proofs.Common.{◌≡◌, ◌↔◌, ◌∙◌, ℕ, Bool, true, false, List, length, Option, None, Some, sym, ap, subst, le_antisymm}
use Rattle.bip_defs.specs.ConnectedComponents.{Components}
use Rattle.bip_defs.specs.Decomposition.{Decomposition}
use Rattle.bip_defs.specs.LeastMatching.{IsLeastMaximum}
use Rattle.bip_defs.specs.Lists.{Among}
use Rattle.bip_defs.specs.Matrix.{HasPlaces, Matrix, Place}
use Rattle.bip_defs.specs.Parts.{Parts}
use Rattle.bip_defs.proofs.Connected.{same_components}
use Rattle.bip_defs.proofs.LeastMatching.{one_set}
use Rattle.bip_defs.proofs.Uniqueness.{same_decomposition, same_matrix, same_parts, same_rank}
use Rattle.sp_pattern.specs.Pairs.{HaveSame}
use Rattle.blocktri.specs.Answers.{ArePartSizes, TellsMatching}
use Rattle.blocktri.specs.Forms.{FormLists, LeavesBlocks, TellsBlocks, TellsForm, TellsIf}
use Rattle.blocktri.specs.OuterComponents.{AreCounts, TellsComponents}
use Rattle.blocktri.specs.declared.sizes.ComponentCounts.{ComponentCounts}
use Rattle.blocktri.specs.declared.sizes.Sizes.{Sizes}
use Rattle.blocktri.specs.declared.sizes.Wants.{Wants}

-- The matrix.

pub same_places : (m n : ℕ) (places others : List Place) (a b : Matrix) → ((p : Place) → Among p places ↔ Among p others) → HasPlaces m n places a → HasPlaces m n others b → a ≡ b
same_places m n places others a b same h k = same_matrix m n others a b (record {
  rows_are = h.rows_are;
  cols_are = h.cols_are;
  entries = λ r c. (λ e. (same (r, c)).0 ((h.entries r c).0 e), λ on. (h.entries r c).1 ((same (r, c)).1 on));
  columns = h.columns;
}) k

-- The sizes.

-- how many blocks there are, where they are wanted
same_count : (a : Matrix) (wanted : Bool) (j k : Option ℕ) (old new old2 new2 : FormLists) → TellsIf wanted (TellsBlocks a j old new) (LeavesBlocks j old new) → TellsIf wanted (TellsBlocks a k old2 new2) (LeavesBlocks k old2 new2) → j ≡ k
same_count a true j k old new old2 new2 x y = x.count_is ∙ ap (λ (d : Decomposition). Some (length d.blocks)) (same_decomposition a x.decomposition y.decomposition x.is_decomposition y.is_decomposition) ∙ sym y.count_is
same_count a false j k old new old2 new2 x y = x.count_is ∙ sym y.count_is

same_counts : (c : Components) (s t : ComponentCounts) → AreCounts c s → AreCounts c t → s ≡ t
same_counts c s t x y = λ i. record { horizontal = (x.horizontal ∙ sym y.horizontal) i; vertical = (x.vertical ∙ sym y.vertical) i }

-- how many components there are, where they are wanted
same_outer : (a : Matrix) (wanted : Bool) (s t : Option ComponentCounts) (xs rows ys columns xs2 rows2 ys2 columns2 : List ℕ) (Rows Columns Rows2 Columns2 : Type 0) → TellsIf wanted (TellsComponents a s xs rows ys columns) ((s ≡ None) × Rows × Columns) → TellsIf wanted (TellsComponents a t xs2 rows2 ys2 columns2) ((t ≡ None) × Rows2 × Columns2) → s ≡ t
same_outer a true s t xs rows ys columns xs2 rows2 ys2 columns2 Rows Columns Rows2 Columns2 x y =
    let same = same_components a x.components y.components x.are_components y.are_components in
    x.counts_are ∙ ap Some (same_counts y.components x.found y.found (subst (λ c. AreCounts c x.found) same x.counted) y.counted) ∙ sym y.counts_are
same_outer a false s t xs rows ys columns xs2 rows2 ys2 columns2 Rows Columns Rows2 Columns2 x y = x.0 ∙ sym y.0

pub same_sizes : (a : Matrix) (wants : Wants) (s t : Sizes) (old new old2 new2 : FormLists) → TellsForm a wants s old new → TellsForm a wants t old2 new2 → s ≡ t
same_sizes a wants s t old new old2 new2 f g = λ i. record {
  rank = same_rank a s.rank t.rank f.sizes.rank g.sizes.rank i;
  horizontal_rows = (here.horizontal_rows ∙ sym there.horizontal_rows) i;
  horizontal_columns = (here.horizontal_columns ∙ sym there.horizontal_columns) i;
  square = (here.square ∙ sym there.square) i;
  vertical_rows = (here.vertical_rows ∙ sym there.vertical_rows) i;
  vertical_columns = (here.vertical_columns ∙ sym there.vertical_columns) i;
  blocks = same_count a wants.blocks s.blocks t.blocks old new old2 new2 f.blocks g.blocks i;
  components = same_outer a wants.components s.components t.components old.row_component new.row_component old.column_component new.column_component old2.row_component new2.row_component old2.column_component new2.column_component
      (new.row_component ≡ old.row_component) (new.column_component ≡ old.column_component) (new2.row_component ≡ old2.row_component) (new2.column_component ≡ old2.column_component) f.components g.components i;
}
  where
    here : ArePartSizes g.sizes.parts s
    here = subst (λ (p : Parts). ArePartSizes p s) (same_parts a f.sizes.parts g.sizes.parts f.sizes.are_parts g.sizes.are_parts) f.sizes.sizes

    there : ArePartSizes g.sizes.parts t
    there = g.sizes.sizes

-- The least matching.

-- of a least matching that is told and any least one
pub same_least : (a : Matrix) (k : ℕ) (xs rows ys columns : List ℕ) (m : List Place) (t : TellsMatching a true k xs rows ys columns) → IsLeastMaximum a m → (k ≡ length m) × HaveSame t.pairs m
same_least a k xs rows ys columns m t least = (
  t.size_is ∙ le_antisymm (least.maximum.longest t.pairs t.are_pairs.maximum.matching) (t.are_pairs.maximum.longest m least.maximum.matching),
  λ p. one_set a t.pairs m p t.are_pairs least,
)
