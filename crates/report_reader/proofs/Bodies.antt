-- The lists of a report, where those before the last are read.
use Rattle.std.proofs.Common.{◌≡◌, ℕ, List, codes, Some, None, refl}
use Rattle.bip_defs.specs.Blocks.{Block}
use Rattle.report_reader.specs.ReportGrammar.{body_at, components_at, part_at, square_at}

module _ (n : ℕ) (bytes : List ℕ) (h : (List ℕ × List ℕ) × List ℕ) (hs b : List Block × List ℕ) (v : (List ℕ × List ℕ) × List ℕ) (one : part_at (codes "horizontal") bytes ≡ Some h) (two : components_at n (codes "horizontal_components") h.1 ≡ Some hs) (three : square_at hs.1 ≡ Some b)
    (four : part_at (codes "vertical") b.1 ≡ Some v) where
  pub body_none : components_at n (codes "vertical_components") v.1 ≡ None → body_at n bytes ≡ None
  unfolding body_at
  body_none five = rw (one, two, three, four, five) refl

  pub body_some : (vs : List Block × List ℕ) → components_at n (codes "vertical_components") v.1 ≡ Some vs
      → body_at n bytes ≡ Some (record { horizontal = h.0; first = hs.0; blocks = b.0; vertical = v.0; second = vs.0 }, vs.1)
  unfolding body_at
  body_some vs five = rw (one, two, three, four, five) refl
