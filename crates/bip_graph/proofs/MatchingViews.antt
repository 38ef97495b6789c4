-- From what a contract says of a matching to what its arrays hold, and back.
use Rattle.std.proofs.Common.{◌≡◌, ◌≢◌, ◌∙◌, ℕ, ◌<◌, List, length, get_or, sym, subst}
use Rattle.std.proofs.lemmas.List.{get_or_read}
use Rattle.bip_defs.specs.Lists.{Among, AreDistinct, IsRising}
use Rattle.bip_defs.specs.Matching.{cols_of, rows_of}
use Rattle.bip_defs.specs.Paths.{Reassigns}
use Rattle.bip_defs.proofs.Sets.{col_pair, row_pair}
use Rattle.bip_graph.specs.Matching.{AreMates, IsPairing, Pairing, none, pairs_of}
use Rattle.bip_graph.proofs.Arrays.{cols_rising, missed, read, stored, unread}
use Rattle.bip_graph.proofs.MateArrays.{back, row_missed, row_stored, row_unread, rows_differ}
use Rattle.bip_graph.proofs.RowGiven.{AreFree, IsTaken, IsHanded, handed_gives}

-- what two arrays show
abbrev pub shown : List ℕ → List ℕ → Pairing
shown xs ys = record { rows = length ys; cols = length xs; pairs = pairs_of xs }

read_at : (xs : List ℕ) (i c x : ℕ) → i ≡ c → c < length xs → x ≡ get_or xs i x → get_or xs c 0 ≡ x
read_at xs i c x e lt r = sym (get_or_read xs c x lt (subst (λ j. x ≡ get_or xs j x) e r) 0)

-- The mate of a column.

pub col_without : (xs ys : List ℕ) (v : Pairing) (i c x : ℕ) → shown xs ys ≡ v → i ≡ c → c < v.cols → x ≡ get_or xs i x → x ≡ none → ¬ Among c (cols_of v.pairs)
col_without xs ys v i c x seen e lt r n = subst (λ (w : Pairing). c < w.cols → ¬ Among c (cols_of w.pairs)) seen (λ within. unread xs c (read_at xs i c x e within r ∙ n)) lt

pub col_with : (xs ys : List ℕ) (v : Pairing) (i c x : ℕ) → shown xs ys ≡ v → i ≡ c → c < v.cols → x ≡ get_or xs i x → x ≢ none → Among (x, c) v.pairs
col_with xs ys v i c x seen e lt r n = subst (λ (w : Pairing). c < w.cols → Among (x, c) w.pairs) seen (λ within. stored xs x c within (read_at xs i c x e within r) n) lt

pub matched_within : (xs ys : List ℕ) {v : Pairing} {i c : ℕ} → shown xs ys ≡ v → i ≡ c → Among c (cols_of v.pairs) → i < length xs
matched_within xs ys {i = i} {c = c} seen e = subst (λ (w : Pairing). Among c (cols_of w.pairs) → i < length xs) seen
    (λ h. let (r, p) = col_pair c (pairs_of xs) h in subst (λ j. j < length xs) (sym e) (read xs r c p).0)

pub matched_with : (xs ys : List ℕ) {v : Pairing} {i c x : ℕ} → shown xs ys ≡ v → i ≡ c → x ≡ get_or xs i x → Among c (cols_of v.pairs) → Among (x, c) v.pairs
matched_with xs ys {i = i} {c = c} {x = x} seen e g = subst (λ (w : Pairing). Among c (cols_of w.pairs) → Among (x, c) w.pairs) seen
    (λ h. let (r, p) = col_pair c (pairs_of xs) h in let is = read xs r c p in subst (λ y. Among (y, c) (pairs_of xs)) (sym is.1 ∙ read_at xs i c x e is.0 g) p)

-- The mate of a row.

pub row_without : (xs ys : List ℕ) (n : ℕ) (v : Pairing) (j r x : ℕ) → AreMates xs ys n → shown xs ys ≡ v → j ≡ r → r < v.rows → x ≡ get_or ys j x → x ≡ none → ¬ Among r (rows_of v.pairs)
row_without xs ys n v j r x m seen e lt g z = subst (λ (w : Pairing). r < w.rows → ¬ Among r (rows_of w.pairs)) seen (λ within. row_unread xs ys n r m (read_at ys j r x e within g ∙ z)) lt

pub row_with : (xs ys : List ℕ) (n : ℕ) (v : Pairing) (j r x : ℕ) → AreMates xs ys n → shown xs ys ≡ v → j ≡ r → r < v.rows → x ≡ get_or ys j x → x ≢ none → Among (r, x) v.pairs
row_with xs ys n v j r x m seen e lt g z = subst (λ (w : Pairing). r < w.rows → Among (r, x) w.pairs) seen (λ within. row_stored xs ys n r x m within (read_at ys j r x e within g) z) lt

-- The shape.

pub seen_rows_differ : (xs ys : List ℕ) (n : ℕ) (v : Pairing) → AreMates xs ys n → shown xs ys ≡ v → AreDistinct (rows_of v.pairs)
seen_rows_differ xs ys n v m seen = subst (λ (w : Pairing). AreDistinct (rows_of w.pairs)) seen (rows_differ xs ys n m)

pub seen_cols_rise : (xs ys : List ℕ) (v : Pairing) → shown xs ys ≡ v → IsRising (cols_of v.pairs)
seen_cols_rise xs ys v seen = subst (λ (w : Pairing). IsRising (cols_of w.pairs)) seen (cols_rising 0 xs)

-- each pair lies within the rows and columns
pub seen_rows_within : (xs ys : List ℕ) (n : ℕ) (v : Pairing) (r c : ℕ) → AreMates xs ys n → shown xs ys ≡ v → Among (r, c) v.pairs → r < v.rows
seen_rows_within xs ys n v r c m seen = subst (λ (w : Pairing). Among (r, c) w.pairs → r < w.rows) seen (λ h. (back xs ys n r c m h).0)

pub seen_cols_within : (xs ys : List ℕ) (v : Pairing) (r c : ℕ) → shown xs ys ≡ v → Among (r, c) v.pairs → c < v.cols
seen_cols_within xs ys v r c seen = subst (λ (w : Pairing). Among (r, c) w.pairs → c < w.cols) seen (λ h. (read xs r c h).0)

pub seen_pairing : {xs ys : List ℕ} {n : ℕ} {v : Pairing} → AreMates xs ys n → shown xs ys ≡ v → IsPairing v
seen_pairing {xs = xs} {ys = ys} {n = n} {v = v} m seen = record {
  rows_differ = seen_rows_differ xs ys n v m seen;
  cols_rise = seen_cols_rise xs ys v seen;
  rows_within = λ r c. seen_rows_within xs ys n v r c m seen;
  cols_within = λ r c. seen_cols_within xs ys v r c seen;
}

-- What is known where a row is given to a column.

pub free_from : {xs ys : List ℕ} {n : ℕ} {v : Pairing} {j i r c : ℕ} → AreMates xs ys n → shown xs ys ≡ v → j ≡ r → i ≡ c → r < v.rows → c < v.cols → ¬ Among r (rows_of v.pairs) → ¬ Among c (cols_of v.pairs) → AreFree xs ys n j i
free_from {xs = xs} {ys = ys} {n = n} {j = j} {i = i} {r = r} {c = c} m seen e f = subst (λ (w : Pairing). r < w.rows → c < w.cols → ¬ Among r (rows_of w.pairs) → ¬ Among c (cols_of w.pairs) → AreFree xs ys n j i) seen
    (λ row_in col_in nr nc. subst (λ r. AreFree xs ys n r i) (sym e) (subst (λ c. AreFree xs ys n r c) (sym f) (record { mates = m; row_in = row_in; col_in = col_in; row_free = row_missed xs ys n r m row_in nr; col_free = missed xs c col_in nc })))

-- the mate of a matched row is a column in range
pub mate_within : {xs ys : List ℕ} {n : ℕ} {v : Pairing} {j r x : ℕ} → AreMates xs ys n → shown xs ys ≡ v → j ≡ r → x ≡ get_or ys j x → r < v.rows → Among r (rows_of v.pairs) → x < length xs
mate_within {xs = xs} {ys = ys} {n = n} {j = j} {r = r} {x = x} m seen e g = subst (λ (w : Pairing). r < w.rows → Among r (rows_of w.pairs) → x < length xs) seen by
  where
    by : r < length ys → Among r (rows_of (pairs_of xs)) → x < length xs
    by row_in h = let (d, k) = row_pair r (pairs_of xs) h in subst (λ z. z < length xs) (sym (back xs ys n r d m k).1 ∙ read_at ys j r x e row_in g) (read xs r d k).0

pub taken_from : {xs ys : List ℕ} {n : ℕ} {v : Pairing} {j i r c x : ℕ} → AreMates xs ys n → shown xs ys ≡ v → j ≡ r → i ≡ c → x ≡ get_or ys j x → r < v.rows → c < v.cols → Among r (rows_of v.pairs) → ¬ Among c (cols_of v.pairs) → IsTaken xs ys n j i x
taken_from {xs = xs} {ys = ys} {n = n} {j = j} {i = i} {r = r} {c = c} {x = x} m seen e f g = subst (λ (w : Pairing). r < w.rows → c < w.cols → Among r (rows_of w.pairs) → ¬ Among c (cols_of w.pairs) → IsTaken xs ys n j i x) seen
    (λ row_in col_in h nc. subst (λ r. IsTaken xs ys n r i x) (sym e) (subst (λ c. IsTaken xs ys n r c x) (sym f) (by row_in col_in h nc)))
  where
    by : r < length ys → c < length xs → Among r (rows_of (pairs_of xs)) → ¬ Among c (cols_of (pairs_of xs)) → IsTaken xs ys n r c x
    by row_in col_in h nc =
        let (d, k) = row_pair r (pairs_of xs) h in
        let is = read xs r d k in
        let same : d ≡ x = sym (back xs ys n r d m k).1 ∙ read_at ys j r x e row_in g in
        record { mates = m; row_in = row_in; col_in = col_in; mate = read_at ys j r x e row_in g; mate_in = subst (λ z. z < length xs) same is.0; mate_has = subst (λ z. get_or xs z 0 ≡ r) same is.1; col_free = missed xs c col_in nc }

pub seen_gives : {xs ys new : List ℕ} {n : ℕ} {v : Pairing} {j i r c : ℕ} → AreMates xs ys n → shown xs ys ≡ v → j ≡ r → i ≡ c → IsHanded xs new j i → j < length ys → Reassigns (r, c) v.pairs (pairs_of new)
seen_gives {xs = xs} {ys = ys} {new = new} {n = n} {j = j} {i = i} {r = r} {c = c} m seen e f h lt = subst (λ (w : Pairing). Reassigns (r, c) w.pairs (pairs_of new)) seen (subst (λ r. Reassigns (r, c) (pairs_of xs) (pairs_of new)) e (subst (λ c. Reassigns (j, c) (pairs_of xs) (pairs_of new)) f (handed_gives xs new ys n j i m h lt)))
