-- Lines of weights and of prices.
use Rattle.std.proofs.Common.{◌≡◌, ◌<◌, ◌+◌, ℕ, ℤ, suc, List, [], ◌∷◌, ◌++◌, length, take, map, get_or, decimal, append_assoc, append-nil, sym, ap, ap₂, ◌∙◌, arith}
use Rattle.std.specs.Fmt.{signed_decimal}
use Rattle.std.proofs.lemmas.List.{take_more, map-append}
use Rattle.std.proofs.lemmas.Grind.{flat_map-append}
use Rattle.bip_defs.specs.Matrix.{Place}
use Rattle.bip_graph.specs.Texts.{line, spelled}
use Rattle.sp_pattern.specs.Weights.{Weighing, weight_at}
use Rattle.btf_text.specs.Diagonals.{entry_line, signed_line, signed_spaced, weighed_lines}

signed_more : (numbers : List ℤ) (z : ℤ) → signed_spaced (numbers ++ z ∷ []) ≡ signed_spaced numbers ++ 32 ∷ signed_decimal z
signed_more numbers z =
    flat_map-append (λ (y : ℤ). 32 ∷ signed_decimal y) numbers (z ∷ []) ∙ ap (λ (t : List ℕ). signed_spaced numbers ++ 32 ∷ t) (append-nil (signed_decimal z))

-- one more number of a list
pub signed_go_on : (word : List ℕ) (numbers : List ℤ) (i : ℕ) (d : ℤ) → i < length numbers
    → (word ++ signed_spaced (take i numbers)) ++ 32 ∷ signed_decimal (get_or numbers i d) ≡ word ++ signed_spaced (take (i + 1) numbers)
signed_go_on word numbers i d inside =
    append_assoc word (signed_spaced (take i numbers)) (32 ∷ signed_decimal (get_or numbers i d))
    ∙ ap (λ (t : List ℕ). word ++ t) (sym (ap signed_spaced (take_more numbers i d inside) ∙ signed_more (take i numbers) (get_or numbers i d)))

-- the line ends
pub signed_ends : (word : List ℕ) (numbers prefix : List ℤ) → prefix ≡ numbers → (word ++ signed_spaced prefix) ++ 10 ∷ [] ≡ spelled (signed_line word numbers)
signed_ends word numbers prefix e = ap (λ (t : List ℕ). t ++ 10 ∷ []) (ap (λ (ns : List ℤ). word ++ signed_spaced ns) e ∙ sym (append-nil (word ++ signed_spaced numbers)))

-- the line of an entry, from its digits
pub same_entry : (w : Weighing) {word : List ℕ} {r c row col weight : ℕ} → word ≡ decimal (r + 1) → r ≡ row → c ≡ col → weight ≡ weight_at w row col
    → line word ((c + 1) ∷ weight ∷ []) ∷ [] ≡ entry_line w (row, col) ∷ []
same_entry w {row = row} {col = col} {weight = weight} word_is row_is col_is weight_is =
    ap₂ (λ (t : List ℕ) (n : ℕ). line t (n ∷ weight ∷ []) ∷ []) (word_is ∙ ap (λ (n : ℕ). decimal n) (omega (arith, row_is))) (omega (arith, col_is))
    ∙ ap (λ (n : ℕ). line (decimal (suc row)) (suc col ∷ n ∷ []) ∷ []) weight_is

-- one more entry
pub entries_go_on : (w : Weighing) (pairs : List Place) (i : ℕ) (d : Place) → i < length pairs
    → map (entry_line w) (take i pairs) ++ entry_line w (get_or pairs i d) ∷ [] ≡ map (entry_line w) (take (i + 1) pairs)
entries_go_on w pairs i d inside = sym (ap (map (entry_line w)) (take_more pairs i d inside) ∙ map-append (entry_line w) (take i pairs) (get_or pairs i d ∷ []))

-- the lines of equal pairs, prices and sums
pub same_weighed : (w : Weighing) {ps qs : List Place} {u v x y : List ℤ} {s t : ℤ} → ps ≡ qs → u ≡ x → v ≡ y → s ≡ t → weighed_lines w ps u v s ≡ weighed_lines w qs x y t
same_weighed w {qs = qs} {u = u} {v = v} {x = x} {y = y} {s = s} pairs rows cols sum =
    ap (λ (l : List Place). weighed_lines w l u v s) pairs ∙ ap (λ (l : List ℤ). weighed_lines w qs l v s) rows ∙ ap (λ (l : List ℤ). weighed_lines w qs x l s) cols ∙ ap (λ (z : ℤ). weighed_lines w qs x y z) sum
