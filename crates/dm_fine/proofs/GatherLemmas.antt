-- Components that are gathered by their numbers, and the order of those that stand in it.
use Rattle.std.proofs.Common.{◌≡◌, ◌≢◌, ◌∙◌, ℕ, zero, suc, ◌+◌, ◌^◌, ◌<◌, ◌≤◌, List, [], ◌∷◌, ◌++◌, length, get_or, map, refl, sym, ap, subst, ⊎_elim, arith}
use Rattle.bip_defs.specs.Blocks.{AreBlocksOf}
use Rattle.bip_defs.specs.Matrix.{IsEntry, upto, upto_from}
use Rattle.bip_defs.specs.Parts.{IsSquareCol}
use Rattle.bip_defs.proofs.Sets.{upto_lists, upto_more}
use Rattle.bip_graph.specs.Matching.{none}
use Rattle.column_lists.specs.Listed.{AreListed}
use Rattle.dm_fine.specs.BlockOrder.{AreOrdered, Follow, IsNext}
use Rattle.dm_fine.specs.Condensation.{IsCondensation, IsCondensationBy, IsNumbering}
use Rattle.dm_fine.specs.Groups.{AreApart}
use Rattle.square_components.specs.Renumbering.{AreNumberedByLeast}
use Rattle.dm_fine.specs.Layout.{Layout, LeadsTo}
use Rattle.dm_fine.proofs.BlockLemmas.{cols_component, ordered_blocks}
use Rattle.dm_fine.proofs.LookLemmas.{below_or}
use Rattle.id_groups.specs.Groups.{AreGroups, block_of}
use Rattle.square_components.specs.Numbers.{look}

groups_apart : (numbers : List ℕ) (count : ℕ) (groups : List (List ℕ)) → AreGroups numbers count groups → AreApart (length numbers) count groups
groups_apart numbers count groups g = record {
  long = g.long;
  rising = λ k lt. (g.lists k lt).rising;
  below = λ k i lt h. ((g.lists k lt).sound i h).0;
  apart = λ k l i kt lt h m. sym ((g.lists k kt).sound i h).1 ∙ ((g.lists l lt).sound i m).1;
}

pub condensed : (t : Layout) (of_rows of_cols : List ℕ) (count : ℕ) → AreListed t.matrix t.line → count < 2 ^ 32 → IsNumbering t.matrix of_rows of_cols count → AreGroups of_rows count t.rows → AreGroups of_cols count t.cols → IsCondensation t of_rows
condensed t of_rows of_cols count listed few n by_row by_col = record {
  laid_out = record {
    listed = listed;
    few = let long = by_col.long in omega (arith, long, few);
    by_row = subst (λ x. AreApart x (length t.cols) t.rows) n.mates.long (groups_apart of_rows (length t.cols) t.rows rows_by);
    by_col = subst (λ x. AreApart x (length t.cols) t.cols) n.numbered.columns.long (groups_apart of_cols (length t.cols) t.cols cols_by);
  };
  pairs = n.pairs;
  numbers = of_cols;
  matching = n.matching;
  numbered = subst (AreNumberedByLeast t.matrix n.pairs of_cols) (sym by_col.long) n.numbered;
  mates = n.mates;
  by_row = rows_by;
  by_col = cols_by;
}
  where
    rows_by : AreGroups of_rows (length t.cols) t.rows
    rows_by = subst (λ k. AreGroups of_rows k t.rows) (sym by_col.long) by_row

    cols_by : AreGroups of_cols (length t.cols) t.cols
    cols_by = subst (λ k. AreGroups of_cols k t.cols) (sym by_col.long) by_col

pub condensed_by : (t : Layout) (of_rows of_cols : List ℕ) (count : ℕ) → AreListed t.matrix t.line → count < 2 ^ 32 → IsNumbering t.matrix of_rows of_cols count → AreGroups of_rows count t.rows → AreGroups of_cols count t.cols → IsCondensationBy t of_rows of_cols
unfolding condensed
condensed_by t of_rows of_cols count listed few n by_row by_col = record { made = condensed t of_rows of_cols count listed few n by_row by_col; numbers_are = refl }

-- Components that stand in order.

-- no component leads to a greater one
abbrev pub AreFalling : Layout → Type 0
AreFalling t = (j p : ℕ) → j < length t.cols → p < length t.cols → LeadsTo t j p → p ≤ j

follow_upto : (t : Layout) → AreFalling t → (k m : ℕ) → k + m ≡ length t.cols → Follow t (upto k) (upto_from k m)
follow_upto t falling k zero e = tt
follow_upto t falling k (suc m) e = (next, subst (λ xs. Follow t xs (upto_from (suc k) m)) more (follow_upto t falling (suc k) m (omega (arith, e))))
  where
    more : upto (suc k) ≡ upto k ++ k ∷ []
    more = let one : suc k ≡ k + 1 = omega arith in ap upto one ∙ upto_more k

    next : IsNext t (upto k) k
    next = record {
      in_range = omega (arith, e);
      fresh = λ h. let lt = (upto_lists k).sound k h in absurd (omega (arith, lt));
      free = λ p lt w. let le = falling k p (omega (arith, e)) lt w in let other = w.other in (upto_lists k).complete p (omega (arith, le, other));
      first = λ j lt left all. ⊎_elim (λ (b : j < k). absurd (left ((upto_lists k).complete j b))) (λ ge. ge) (below_or j k);
    }

pub ordered_upto : (t : Layout) → AreFalling t → AreOrdered t (upto (length t.cols))
ordered_upto t falling = record {
  follow = follow_upto t falling 0 (length t.cols) (omega arith);
  all = λ k lt. (upto_lists (length t.cols)).complete k lt;
}

falling_along : (t : Layout) (of_rows of_cols : List ℕ) → (g : IsCondensation t of_rows) → g.numbers ≡ of_cols → ((r c : ℕ) → IsSquareCol t.matrix c → IsEntry t.matrix r c → get_or of_rows r 0 ≢ none → get_or of_rows r 0 ≤ look of_cols c) → AreFalling t
falling_along t of_rows of_cols g same falls j p jt pt w =
    let (square, is) = (cols_component t of_rows g j jt).sound w.col w.in_col in
    let here = ((g.by_row.lists p pt).sound w.row w.in_row).1 in
    let few = g.laid_out.few in
    let le = falls w.row w.col square w.entry (λ e. absurd (omega (arith, here, e, pt, few))) in
    let at : look g.numbers w.col ≡ look of_cols w.col = ap (λ xs. look xs w.col) same in
    omega (arith, le, here, is, at)

-- where numbers never rise along an entry, the blocks stand by their numbers
pub blocks_by_number : (t : Layout) (of_rows of_cols : List ℕ) → IsCondensationBy t of_rows of_cols → ((r c : ℕ) → IsSquareCol t.matrix c → IsEntry t.matrix r c → get_or of_rows r 0 ≢ none → get_or of_rows r 0 ≤ look of_cols c) → AreBlocksOf t.matrix (map (block_of t.rows t.cols) (upto (length t.cols)))
blocks_by_number t of_rows of_cols h falls = ordered_blocks t of_rows (upto (length t.cols)) h.made (ordered_upto t (falling_along t of_rows of_cols h.made h.numbers_are falls))
