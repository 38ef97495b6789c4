-- A board at the start, and its seats.
use Rattle.std.proofs.Common.{◌≡◌, ◌∙◌, ℕ, ◌+◌, ◌<◌, Option, None, Some, List, [], ◌∷◌, ◌++◌, map, take, drop, length, get_or, slice_index, refl, sym, ap, ap₂, subst, subst₂, arith, one-add, append_assoc}
use Rattle.std.proofs.lemmas.List.{length-map, map-append, take_more}
use Rattle.std.proofs.Math.Seq.{drop-append_seam, take-append_seam}
use Rattle.atomic_table.specs.Table.{opening}
use Rattle.bip_defs.specs.WordValues.{held, is_added, value_of}
use Rattle.claim_words.specs.Accounts.{Accounts}
use Rattle.claim_words.specs.Board.{Board}
use Rattle.claim_words.specs.WordCodes.{AllFit, code_by, decoded, roots_in, rows_in, words_for}
use Rattle.claim_words.specs.Listed.{nothing}
use Rattle.claim_words.specs.Rule.{Kept, opener}
use Rattle.claim_words.specs.Seat.{Seat, first_seat, more_seats, new_seat}
use Rattle.claim_words.proofs.WordCodes.{coded_read}
use Rattle.board_seats.proofs.Numbered.{more_last}
use Rattle.board_seats.proofs.SeatNumbers.{seated_alone}

-- Seats.

-- one seat more

pub first_more : (b : Board) (first now : Seat) (made : ℕ) → first ≡ first_seat b (1 + made) nothing → now ≡ first_seat b (1 + (1 + made)) first.listed → now ≡ first_seat b (1 + (made + 1)) nothing
first_more b first now made was e = e ∙ ap (λ (s : Seat). first_seat b (1 + (1 + made)) s.listed) was ∙ ap (λ n. first_seat b n nothing) (omega arith)

pub others_more : (b : Board) (other : Seat) (before : List Seat) (made : ℕ) → other ≡ new_seat b (1 + made) → before ≡ more_seats b 1 made → before ++ other ∷ [] ≡ more_seats b 1 (made + 1)
others_more b other before made new same = ap₂ (λ ss (s : Seat). ss ++ s ∷ []) same new ∙ sym (more_last nothing b 1 made)

-- Words.

-- one word more
pub laid_more : {X : Type 0} (f : X → ℕ) (start words : List ℕ) (xs : List X) (i w : ℕ) (x : X) → words ≡ start ++ map f (take i xs) → i < length xs → x ≡ get_or xs i x → w ≡ f x → words ++ w ∷ [] ≡ start ++ map f (take (i + 1) xs)
laid_more f start words xs i w x was lt is e = ap₂ (λ ws v. ws ++ v ∷ []) was (e ∙ ap f is) ∙ append_assoc start (map f (take i xs)) (f (get_or xs i x) ∷ [])
    ∙ ap (λ ys. start ++ ys) (sym (map-append f (take i xs) (get_or xs i x ∷ [])) ∙ ap (map f) (sym (take_more xs i x lt)))

-- what is laid for values is read again

rows_again : (rows roots : List (Option ℕ)) → rows_in (length rows) (words_for rows roots) ≡ rows
rows_again rows roots = ap (map value_of) (subst (λ n. take n (map (code_by (λ (x : ℕ). x)) rows ++ map (code_by (λ (x : ℕ). x)) roots) ≡ map (code_by (λ (x : ℕ). x)) rows) (length-map rows (code_by (λ (x : ℕ). x))) (take-append_seam (map (code_by (λ (x : ℕ). x)) rows) (map (code_by (λ (x : ℕ). x)) roots))) ∙ coded_read rows

roots_again : (rows roots : List (Option ℕ)) → roots_in (length rows) (words_for rows roots) ≡ roots
roots_again rows roots = ap (map value_of) (subst (λ n. drop n (words_for rows roots) ≡ map (code_by (λ (x : ℕ). x)) roots) (sym (one-add (length rows)))
    (subst (λ n. drop n (map (code_by (λ (x : ℕ). x)) rows ++ map (code_by (λ (x : ℕ). x)) roots) ≡ map (code_by (λ (x : ℕ). x)) roots) (length-map rows (code_by (λ (x : ℕ). x))) (drop-append_seam (map (code_by (λ (x : ℕ). x)) rows) (map (code_by (λ (x : ℕ). x)) roots)))) ∙ coded_read roots

-- The rule.

nothing_added : (o : Option ℕ) → 0 ≡ is_added o o
nothing_added None = refl
nothing_added (Some x) = refl

pub accounts_none : (opened : List (Option ℕ)) → Accounts opened opened []
accounts_none opened = record {
  as_many = refl;
  stays = λ i x e. e;
  stands = λ i x h. absurd h;
  once = λ i. nothing_added (held opened i);
}

opens : {S : Type 0} (n : ℕ) (words : List ℕ) → slice_index words 0 ≡ 0 → AllFit words → Kept n words (opening {S = S} words [] (opener n words))
opens n words spare fits = record {
  spare = spare;
  as_many = refl;
  fits = fits;
  seats = seated_alone nothing (decoded n words);
  settles = record { claims = accounts_none (rows_in n words); wins = accounts_none (roots_in n words); seen = λ sight h. absurd h };
}

-- the words of these values, as they are lent and as they are told
pub opens_laid : {S : Type 0} (n : ℕ) (rows roots : List (Option ℕ)) (words lent fact : List ℕ) → words ≡ words_for rows roots → AllFit words → lent ≡ words → fact ≡ words → Kept n fact (opening {S = S} lent [] (opener n fact))
opens_laid {S = S} n rows roots words lent fact laid fits as_lent as_known = subst₂ (λ a b. Kept n a (opening {S = S} b [] (opener n a))) (sym as_known) (sym as_lent) (opens n words (ap (λ ws. slice_index ws 0) laid) fits)

pub read_again : (n : ℕ) (words : List ℕ) (rows roots : List (Option ℕ)) → n ≡ length rows → words ≡ words_for rows roots → (rows_in n words ≡ rows) × (roots_in n words ≡ roots)
read_again n words rows roots e f = subst₂ (λ m ws. (rows_in m ws ≡ rows) × (roots_in m ws ≡ roots)) (sym e) (sym f) (rows_again rows roots, roots_again rows roots)
