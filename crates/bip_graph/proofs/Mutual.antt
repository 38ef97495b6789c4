-- Mates as arrays keep them, and the matching that they are where they lead back to one another.
use Rattle.std.proofs.Common.{◌≡◌, ◌≢◌, ◌↔◌, ◌∙◌, ℕ, zero, suc, ◌+◌, ◌<◌, ◌≤◌, List, [], ◌∷◌, map, replicate, set, length, drop, get_or, Option, None, Some, refl, sym, ap, subst, ⊎_elim, arith, ne_eqb}
use Rattle.std.proofs.lemmas.List.{length-drop, map-set}
use Rattle.std.proofs.lemmas.Option.{none-some, same_Some}
use Rattle.std.proofs.Math.Seq.{drop-cons}
use Rattle.bip_defs.specs.Lists.{Among, option_at}
use Rattle.bip_defs.proofs.Sets.{number_same}
use Rattle.bip_graph.specs.Mates.{AreFew, AreMutual, Mated, mate_of}
use Rattle.bip_graph.specs.Matching.{AreMates, LeadsBack, none, pairs_from, pairs_of}
use Rattle.bip_graph.proofs.Arrays.{few_pairs, pairs_none, pairs_some, read, stored}

mate_none : (n : ℕ) → n ≡ none → mate_of n ≡ None
mate_none n e = rw e refl

mate_some : (n : ℕ) → n ≢ none → mate_of n ≡ Some n
mate_some n ne = rw (ne_eqb n none ne) refl

pub no_mates : (n : ℕ) → map mate_of (replicate n none) ≡ replicate n None
no_mates zero = refl
no_mates (suc n) = ap (λ ms. None ∷ ms) (no_mates n)

pub set_mate : (xs : List ℕ) (v : List (Option ℕ)) (i j x : ℕ) (mate : Option ℕ) → map mate_of xs ≡ v → i ≡ j → mate_of x ≡ mate → map mate_of (set xs i x) ≡ set v j mate
set_mate xs v i j x mate seen at is = map-set mate_of xs i x ∙ (λ k. set (seen k) (at k) (is k))

-- a mate that is seen stands in the array
pub record IsKept (xs : List ℕ) (i x : ℕ) : Type 0 where
  pub within : i < length xs
  pub at : get_or xs i 0 ≡ x
  pub some : x ≢ none

pub kept : (xs : List ℕ) (i x : ℕ) → option_at (map mate_of xs) i ≡ Some x → IsKept xs i x
kept [] i x e = absurd (none-some x e)
kept (y ∷ ys) zero x e = ⊎_elim (λ (n : y ≡ none). absurd (none-some x (sym (mate_none y n) ∙ e))) (λ ne. let is = same_Some y x (sym (mate_some y ne) ∙ e) in record { within = omega arith; at = is; some = subst (λ z. z ≢ none) is ne }) (number_same y none)
kept (y ∷ ys) (suc i) x e = let k = kept ys i x e in record { within = omega (arith, k.within); at = k.at; some = k.some }

pub seen : (xs : List ℕ) (i x : ℕ) → i < length xs → get_or xs i 0 ≡ x → x ≢ none → option_at (map mate_of xs) i ≡ Some x
seen [] i x lt e some = absurd (omega arith)
seen (y ∷ ys) zero x lt e some = mate_some y (λ n. some (sym e ∙ n)) ∙ ap Some e
seen (y ∷ ys) (suc i) x lt e some = seen ys i x (omega arith) e some

-- The pairs of the mates.

pub same_pairs : (xs : List ℕ) (r c : ℕ) → Among (r, c) (pairs_of xs) ↔ (option_at (map mate_of xs) c ≡ Some r)
same_pairs xs r c = (λ h. let is = read xs r c h in seen xs c r is.0 is.1 is.2, λ e. let k = kept xs c r e in stored xs r c k.within k.at k.some)

leads_back : (xs ys : List ℕ) → ((i x : ℕ) → option_at (map mate_of xs) i ≡ Some x → option_at (map mate_of ys) x ≡ Some i) → LeadsBack xs ys
leads_back xs ys over i lt some = let k = kept ys (get_or xs i 0) i (over i (get_or xs i 0) (seen xs i (get_or xs i 0) lt refl some)) in (k.within, k.at)

pub mutual_mates : (m : Mated) (xs ys : List ℕ) (size : ℕ) → AreFew xs ys → m ≡ record { rows = map mate_of ys; cols = map mate_of xs } → AreMutual m → size ≡ length (pairs_of xs) → AreMates xs ys size
mutual_mates m xs ys size few is both count = by (subst AreMutual is both)
  where
    by : AreMutual (record { rows = map mate_of ys; cols = map mate_of xs }) → AreMates xs ys size
    by back = record {
      few_cols = few.cols;
      few_rows = few.rows;
      by_col = leads_back xs ys (λ c r. (back r c).1);
      by_row = leads_back ys xs (λ r c. (back r c).0);
      count = count;
    }

-- Counting them.

pub counted_none : (xs : List ℕ) (i : ℕ) → i < length xs → get_or xs i 0 ≡ none → length (pairs_from (i + 1) (drop (i + 1) xs)) ≡ length (pairs_from i (drop i xs))
counted_none xs i lt e = sym (ap (λ ys. length (pairs_from i ys)) (drop-cons xs i 0 lt) ∙ ap length (pairs_none i (get_or xs i 0) (drop (suc i) xs) e) ∙ ap (λ k. length (pairs_from k (drop k xs))) (let s : suc i ≡ i + 1 = omega arith in s))

pub counted_some : (xs : List ℕ) (i : ℕ) → i < length xs → get_or xs i 0 ≢ none → 1 + length (pairs_from (i + 1) (drop (i + 1) xs)) ≡ length (pairs_from i (drop i xs))
counted_some xs i lt ne = sym (ap (λ ys. length (pairs_from i ys)) (drop-cons xs i 0 lt) ∙ ap length (pairs_some i (get_or xs i 0) (drop (suc i) xs) ne) ∙ ap (λ k. suc (length (pairs_from k (drop k xs)))) (let s : suc i ≡ i + 1 = omega arith in s) ∙ (let s : suc (length (pairs_from (i + 1) (drop (i + 1) xs))) ≡ 1 + length (pairs_from (i + 1) (drop (i + 1) xs)) = omega arith in s))

pub counted_all : (xs : List ℕ) (i count : ℕ) → length xs ≤ i → count + length (pairs_from i (drop i xs)) ≡ length (pairs_of xs) → count ≡ length (pairs_of xs)
counted_all xs i count le e = omega (arith, few_pairs i (drop i xs), length-drop i xs)

-- there is room for one mate more
pub counted_room : (xs : List ℕ) (i count : ℕ) → i < length xs → get_or xs i 0 ≢ none → count + length (pairs_from i (drop i xs)) ≡ length (pairs_of xs) → count < length xs
counted_room xs i count lt ne e = omega (arith, counted_some xs i lt ne, few_pairs 0 xs)
