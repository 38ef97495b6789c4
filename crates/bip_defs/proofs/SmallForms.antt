-- Block upper triangular forms of small matrices.
use Rattle.std.proofs.Common.{◌≡◌, ℕ, zero, suc, ◌+◌, ◌<◌, ◌≤◌, List, [], ◌∷◌, refl, sym, subst, inl, inr, arith}
use Rattle.bip_defs.specs.Blocks.{Block, block_at}
use Rattle.bip_defs.specs.Lists.{Among, Lists}
use Rattle.bip_defs.specs.Matrix.{IsEntry}
use Rattle.bip_defs.specs.Once.{ListsOnce}
use Rattle.bip_defs.specs.Small.{lower_triangle, single, whole_triangle, wide_row, wide_row_parts}
use Rattle.bip_defs.specs.Triangular.{IsBlockUpperTriangular, IsProperPart, IsRowOver, diagonal_blocks}
use Rattle.bip_defs.proofs.Small.{below_diagonal, filled, one, wide_row_is}
use Rattle.bip_defs.proofs.Triangular.{upper_triangular}

abbrev from_end : List Block
from_end = single 2 ∷ single 1 ∷ single 0 ∷ []

-- the numbers below 3 from the greatest
numbers_down : ListsOnce (λ x. x < 3) (2 ∷ 1 ∷ 0 ∷ [])
numbers_down = record { distinct = (first, (second, (λ h. h, tt))); sound = below; complete = all }
  where
    first : ¬ Among {X = ℕ} 2 (1 ∷ 0 ∷ [])
    first (inl e) = absurd (omega arith)
    first (inr (inl e)) = absurd (omega arith)
    first (inr (inr h)) = h

    second : ¬ Among {X = ℕ} 1 (0 ∷ [])
    second h = let e = one 1 0 h in absurd (omega arith)

    below : (x : ℕ) → Among x (2 ∷ 1 ∷ 0 ∷ []) → x < 3
    below x (inl e) = omega arith
    below x (inr (inl e)) = omega arith
    below x (inr (inr (inl e))) = omega arith
    below x (inr (inr (inr h))) = absurd h

    all : (x : ℕ) → x < 3 → Among x (2 ∷ 1 ∷ 0 ∷ [])
    all zero lt = inr (inr (inl refl))
    all (suc zero) lt = inr (inl refl)
    all (suc (suc zero)) lt = inl refl
    all (suc (suc (suc x))) lt = absurd (omega arith)

row_at : (i r : ℕ) → Among r (block_at from_end i).rows → i + r ≡ 2
row_at zero r h = let e = one r 2 h in omega arith
row_at (suc zero) r h = let e = one r 1 h in omega arith
row_at (suc (suc zero)) r h = let e = one r 0 h in omega arith
row_at (suc (suc (suc i))) r h = absurd h

col_at : (j c : ℕ) → Among c (block_at from_end j).cols → j + c ≡ 2
col_at zero c h = let e = one c 2 h in omega arith
col_at (suc zero) c h = let e = one c 1 h in omega arith
col_at (suc (suc zero)) c h = let e = one c 0 h in omega arith
col_at (suc (suc (suc j))) c h = absurd h

pub from_the_end : IsBlockUpperTriangular lower_triangle (single 2 ∷ single 1 ∷ single 0 ∷ [])
from_the_end = record { rows = numbers_down; cols = numbers_down; entries = λ r c i j e x y. omega (arith, below_diagonal r c e, row_at i r x, col_at j c y) }

-- the entry in row 1 and column 0 would be below
pub from_the_start : ¬ IsBlockUpperTriangular lower_triangle (single 0 ∷ single 1 ∷ single 2 ∷ [])
from_the_start form = absurd (omega (arith, form.entries 1 0 1 0 (filled 1 0 (omega arith) (omega arith)) (inl refl) (inl refl)))

-- row 0 would be left out
pub not_all : ¬ IsBlockUpperTriangular lower_triangle (single 2 ∷ single 1 ∷ [])
not_all form = out (form.rows.complete 0 (omega arith))
  where
    out : ¬ Among {X = ℕ} 0 (2 ∷ 1 ∷ [])
    out (inl e) = absurd (omega arith)
    out (inr h) = let e = one 0 1 h in absurd (omega arith)

pub outer_parts : IsBlockUpperTriangular wide_row (diagonal_blocks wide_row_parts)
outer_parts = upper_triangular wide_row wide_row_parts wide_row_is

pub last_column : IsProperPart whole_triangle (2 ∷ [])
last_column = record { distinct = (λ h. h, tt); within = λ c h. inr (inr h); some = omega arith; fewer = omega arith }

pub rows_over_last : Lists (IsRowOver lower_triangle whole_triangle (2 ∷ [])) (2 ∷ [])
rows_over_last = record {
  rising = (tt, tt);
  sound = λ r h. (inr (inr h), 2, inl refl, subst (λ x. IsEntry lower_triangle x 2) (sym (one r 2 h)) (filled 2 2 (omega arith) (omega arith)));
  complete = λ r h. let (on, c, k, e) = h in let same : c ≡ 2 = one c 2 k in let le : c ≤ r = below_diagonal r c e in let lt : r < 3 = e.0 in inl (omega arith);
}
