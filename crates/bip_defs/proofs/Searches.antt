-- The six parts from two finished searches, one from the unmatched columns and one from the unmatched rows.
use Rattle.std.proofs.Common.{ℕ, ◌<◌, List, sym, subst}
use Rattle.bip_defs.specs.Lists.{Among, Lists}
use Rattle.bip_defs.specs.Matching.{IsMatching, transposed_places}
use Rattle.bip_defs.specs.Matrix.{IsEntry, Matrix, Place, cols, transpose}
use Rattle.bip_defs.specs.Parts.{ArePartsOf, IsHorizontalCol, IsHorizontalRow, IsSquareCol, IsSquareRow, IsVerticalCol, IsVerticalRow, Parts}
use Rattle.bip_defs.specs.Searches.{AreReadOff}
use Rattle.bip_defs.specs.Walks.{IsReached}
use Rattle.bip_defs.proofs.Reaching.{reached_horizontal}
use Rattle.bip_defs.proofs.Sets.{lists_same}
use Rattle.bip_defs.proofs.Transposed.{transpose_is, turned_lists, turned_matching}

pub parts_read_off : (a : Matrix) (w v : List ℕ) (p : Parts) → Lists (IsHorizontalCol a) w → Lists (IsVerticalRow a) v → AreReadOff a w v p → ArePartsOf a p
parts_read_off a w v p hc vr off = record {
  horizontal_rows = hr;
  horizontal_cols = subst (λ xs. Lists (IsHorizontalCol a) xs) (sym off.horizontal_cols) hc;
  square_rows = lists_same (λ r. (r < a.rows) × (¬ Among r p.horizontal_rows) × (¬ Among r v)) (IsSquareRow a) p.square_rows
      (λ r s. (s.0, λ h. s.1 (hr.complete r h), λ k. s.2 (vr.complete r k)))
      (λ r s. (s.0, λ h. s.1 (hr.sound r h), λ k. s.2 (vr.sound r k)))
      off.square_rows;
  square_cols = lists_same (λ c. (c < cols a) × (¬ Among c w) × (¬ Among c p.vertical_cols)) (IsSquareCol a) p.square_cols
      (λ c s. (s.0, λ h. s.1 (hc.complete c h), λ k. s.2 (vc.complete c k)))
      (λ c s. (s.0, λ h. s.1 (hc.sound c h), λ k. s.2 (vc.sound c k)))
      off.square_cols;
  vertical_rows = subst (λ xs. Lists (IsVerticalRow a) xs) (sym off.vertical_rows) vr;
  vertical_cols = vc;
}
  where
    hr : Lists (IsHorizontalRow a) p.horizontal_rows
    hr = lists_same (λ r. (c : ℕ) × Among c w × IsEntry a r c) (IsHorizontalRow a) p.horizontal_rows (λ r h. (h.0, hc.sound h.0 h.1, h.2)) (λ r h. (h.0, hc.complete h.0 h.1, h.2)) off.horizontal_rows

    vc : Lists (IsVerticalCol a) p.vertical_cols
    vc = lists_same (λ c. (r : ℕ) × Among r v × IsEntry a r c) (IsVerticalCol a) p.vertical_cols (λ c h. (h.0, vr.sound h.0 h.1, h.2)) (λ c h. (h.0, vr.complete h.0 h.1, h.2)) off.vertical_cols

pub reached_rows_vertical : (a : Matrix) (m : List Place) (v : List ℕ) → IsMatching a m → IsReached (transpose a) (transposed_places m) v → Lists (IsVerticalRow a) v
reached_rows_vertical a m v k reached = turned_lists a (transpose a) v (transpose_is a) (reached_horizontal (transpose a) (transposed_places m) v (turned_matching a (transpose a) m (transpose_is a) k) reached)

pub parts_from_searches : (a : Matrix) (m : List Place) (w v : List ℕ) (p : Parts) → IsMatching a m → IsReached a m w → IsReached (transpose a) (transposed_places m) v → AreReadOff a w v p → ArePartsOf a p
parts_from_searches a m w v p k cols_reached rows_reached off = parts_read_off a w v p (reached_horizontal a m w k cols_reached) (reached_rows_vertical a m v k rows_reached) off
