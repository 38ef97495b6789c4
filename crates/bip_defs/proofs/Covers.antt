-- Matchings that cover one another.
use Rattle.std.proofs.Common.{List, sym, subst}
use Rattle.bip_defs.specs.Lists.{Among}
use Rattle.bip_defs.specs.Matching.{Covers, transposed_places}
use Rattle.bip_defs.specs.Matrix.{Place}
use Rattle.bip_defs.proofs.Transposed.{turned_cols, turned_rows, turned_twice}

pub covers_none : (m : List Place) → Covers m m
covers_none m = record { rows = λ r h. h; cols = λ c h. h }

pub covers_more : {m n o : List Place} → Covers m n → Covers n o → Covers m o
covers_more k l = record { rows = λ r h. l.rows r (k.rows r h); cols = λ c h. l.cols c (k.cols c h) }

-- The same for the transpose.

pub turned_covers : (m n : List Place) → Covers m n → Covers (transposed_places m) (transposed_places n)
turned_covers m n k = record {
  rows = λ r h. subst (Among r) (sym (turned_rows n)) (k.cols r (subst (Among r) (turned_rows m) h));
  cols = λ c h. subst (Among c) (sym (turned_cols n)) (k.rows c (subst (Among c) (turned_cols m) h));
}

pub straight_covers : (m n : List Place) → Covers (transposed_places m) (transposed_places n) → Covers m n
straight_covers m n k = subst (λ (z : List Place). Covers z n) (turned_twice m) (subst (λ (z : List Place). Covers (transposed_places (transposed_places m)) z) (turned_twice n) (turned_covers (transposed_places m) (transposed_places n) k))
