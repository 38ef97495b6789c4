-- Each kind of step keeps the rule, and tells its seat what it tells.
use Rattle.std.proofs.Common.{◌≡◌, ◌∙◌, ℕ, zero, suc, ◌+◌, ◌<◌, ◌≤◌, Option, None, Some, List, [], ◌∷◌, map, set, length, slice_index, refl, sym, ap, subst, ⊎_elim, arith}
use Rattle.std.proofs.lemmas.List.{length-set, map-set, get_or-set_other}
use mathlib.Core.Option.{some}
use lib.ListN.{get_elem?}
use Rattle.atomic_table.specs.Table.{State}
use Rattle.atomic_table.proofs.Lists.{at_map}
use Rattle.bip_defs.specs.Lists.{Among}
use Rattle.bip_defs.specs.WordValues.{held, value_of}
use Rattle.bip_defs.proofs.WordValues.{value_there}
use Rattle.claim_words.specs.Board.{Words}
use Rattle.claim_words.specs.WordCodes.{decoded, roots_in, rows_in}
use Rattle.claim_words.specs.Listed.{Listed, Sight, all_listed, claimed, looked, root_word, row_word, won, nothing}
use Rattle.claim_words.specs.Rule.{Kept, Known}
use Rattle.claim_words.specs.Settles.{Settles, Stands}
use Rattle.claim_words.specs.Steps.{KnewRoot, KnewRow, knowing}
use Rattle.board_seats.proofs.WordCodes.{first_below, first_read, firsts_first, firsts_rest, rest_first, rest_read, rest_rest}
use Rattle.board_seats.proofs.Flat.{among_flat}
use Rattle.board_seats.proofs.SeatNumbers.{seated_step}
use Rattle.claim_words.proofs.SettledWords.{settles_claim, settles_look, settles_win}
use Rattle.board_seats.specs.View.{listed_or}
use Rattle.board_seats.proofs.States.{with_words}

-- a word that is written fits
pub fits_set : (ws : List ℕ) (i x : ℕ) → ((j : ℕ) → slice_index ws j ≤ 4294967296) → x ≤ 4294967296 → (j : ℕ) → slice_index (set ws i x) j ≤ 4294967296
fits_set [] i x fits le j = fits j
fits_set (w ∷ ws) zero x fits le zero = le
fits_set (w ∷ ws) zero x fits le (suc j) = fits (suc j)
fits_set (w ∷ ws) (suc i) x fits le zero = fits zero
fits_set (w ∷ ws) (suc i) x fits le (suc j) = fits_set ws i x (λ m. fits (suc m)) le j

module _ {S : Type 0} (n : ℕ) (opened : List ℕ) (s : State S (Option Known)) (kept : Kept n opened s) (id : ℕ) (k : Known) (at : get_elem? s.views id ≡ some (Some k)) where
  listed_at : get_elem? (map (listed_or nothing) s.views) id ≡ some k.listed
  listed_at = at_map (listed_or nothing) s.views id (Some k) at

  pub row_within : (row : ℕ) → row < length k.opened.rows → row < length (rows_in n s.words)
  row_within row lt = subst (λ m. row < m) (ap length (ap (λ (o : Words). o.rows) (kept.seats.opened id k at)) ∙ sym kept.settles.claims.as_many) lt

  pub root_within : (root : ℕ) → root < length k.opened.roots → root < length (roots_in n s.words)
  root_within root lt = subst (λ m. root < m) (ap length (ap (λ (o : Words). o.roots) (kept.seats.opened id k at)) ∙ sym kept.settles.wins.as_many) lt

  -- words and lists that settle, as the rule has them
  ruled : (words : List ℕ) (w : Words) (l : Listed) → w ≡ decoded n words → Settles (rows_in n opened) (roots_in n opened) w (all_listed (set (map (listed_or nothing) s.views) id l))
      → Settles (rows_in n opened) (roots_in n opened) (decoded n words) (all_listed (map (listed_or nothing) (set s.views id (knowing k l))))
  ruled words w l e a = subst (λ v. Settles (rows_in n opened) (roots_in n opened) v (all_listed (map (listed_or nothing) (set s.views id (knowing k l))))) e
      (subst (λ ls. Settles (rows_in n opened) (roots_in n opened) w (all_listed ls)) (sym (map-set (listed_or nothing) s.views id (knowing k l))) a)

  pub kept_claim : (row col : ℕ) → row < length k.opened.rows → 1 + col ≤ 4294967296 → slice_index s.words (1 + row) ≡ 0
      → Kept n opened (with_words s (set s.words (1 + row) (1 + col)) (set s.views id (knowing k (claimed k.listed row col None))))
  kept_claim row col lt le empty =
      let within = row_within row lt in
      let below = first_below n s.words row within in
      record {
        spare = get_or-set_other s.words (1 + row) 0 (1 + col) 0 (λ e. omega arith) ∙ kept.spare;
        as_many = length-set s.words (1 + row) (1 + col) ∙ kept.as_many;
        fits = fits_set s.words (1 + row) (1 + col) kept.fits le;
        seats = seated_step kept.seats id k at (claimed k.listed row col None);
        settles = ruled (set s.words (1 + row) (1 + col)) (record { rows = set (rows_in n s.words) row (Some col); roots = roots_in n s.words }) (claimed k.listed row col None)
            (λ i. record { rows = (ap (set (rows_in n s.words) row) (sym (value_there col)) ∙ sym (firsts_first n s.words row (1 + col) below.0)) i; roots = sym (rest_first value_of n s.words row (1 + col) below.0) i })
            (settles_claim (map (listed_or nothing) s.views) kept.settles id k.listed listed_at row col within (first_read n s.words row within ∙ ap value_of empty));
      }

  pub kept_win : (root leaf : ℕ) → root < length k.opened.roots → 1 + leaf ≤ 4294967296 → slice_index s.words (1 + n + root) ≡ 0
      → Kept n opened (with_words s (set s.words (1 + n + root) (1 + leaf)) (set s.views id (knowing k (won k.listed root leaf None))))
  kept_win root leaf lt le empty =
      let within = root_within root lt in
      record {
        spare = get_or-set_other s.words (1 + n + root) 0 (1 + leaf) 0 (λ e. omega arith) ∙ kept.spare;
        as_many = length-set s.words (1 + n + root) (1 + leaf) ∙ kept.as_many;
        fits = fits_set s.words (1 + n + root) (1 + leaf) kept.fits le;
        seats = seated_step kept.seats id k at (won k.listed root leaf None);
        settles = ruled (set s.words (1 + n + root) (1 + leaf)) (record { rows = rows_in n s.words; roots = set (roots_in n s.words) root (Some leaf) }) (won k.listed root leaf None)
            (λ i. record { rows = sym (firsts_rest n s.words root (1 + leaf)) i; roots = (ap (set (roots_in n s.words) root) (sym (value_there leaf)) ∙ sym (rest_rest value_of n s.words root (1 + leaf))) i })
            (settles_win (map (listed_or nothing) s.views) kept.settles id k.listed listed_at root leaf within (rest_read value_of n s.words root within ∙ ap value_of empty));
      }

  pub kept_look : (sight : Sight) → Stands (decoded n s.words) sight → Kept n opened (with_words s s.words (set s.views id (knowing k (looked k.listed sight))))
  kept_look sight stands = record {
    spare = kept.spare;
    as_many = kept.as_many;
    fits = kept.fits;
    seats = seated_step kept.seats id k at (looked k.listed sight);
    settles = ruled s.words (decoded n s.words) (looked k.listed sight) refl (settles_look (map (listed_or nothing) s.views) kept.settles id k.listed listed_at sight stands);
  }

  -- a value that the seat knew is what stands in the word

  pub row_stands : (row x : ℕ) → row < length k.opened.rows → KnewRow k row x → value_of (slice_index s.words (1 + row)) ≡ Some x
  row_stands row x lt knew = sym (first_read n s.words row (row_within row lt)) ∙ ⊎_elim
      (λ (e : held k.opened.rows row ≡ Some x). kept.settles.claims.stays row x (subst (λ rows. held rows row ≡ Some x) (ap (λ (o : Words). o.rows) (kept.seats.opened id k at)) e))
      (λ t. ⊎_elim
      (λ (h : Among (row, x) k.listed.claims). kept.settles.claims.stands row x (among_flat (λ (l : Listed). l.claims) (map (listed_or nothing) s.views) id k.listed (row, x) listed_at h))
      (λ (h : Among (row_word row (Some x)) k.listed.seen). kept.settles.seen (row_word row (Some x)) (among_flat (λ (l : Listed). l.seen) (map (listed_or nothing) s.views) id k.listed (row_word row (Some x)) listed_at h)) t) knew

  pub root_stands : (root x : ℕ) → root < length k.opened.roots → KnewRoot k root x → value_of (slice_index s.words (1 + n + root)) ≡ Some x
  root_stands root x lt knew = sym (rest_read value_of n s.words root (root_within root lt)) ∙ ⊎_elim
      (λ (e : held k.opened.roots root ≡ Some x). kept.settles.wins.stays root x (subst (λ roots. held roots root ≡ Some x) (ap (λ (o : Words). o.roots) (kept.seats.opened id k at)) e))
      (λ t. ⊎_elim
      (λ (h : Among (root, x) k.listed.wins). kept.settles.wins.stands root x (among_flat (λ (l : Listed). l.wins) (map (listed_or nothing) s.views) id k.listed (root, x) listed_at h))
      (λ (h : Among (root_word root (Some x)) k.listed.seen). kept.settles.seen (root_word root (Some x)) (among_flat (λ (l : Listed). l.seen) (map (listed_or nothing) s.views) id k.listed (root_word root (Some x)) listed_at h)) t) knew

-- what is read of a word stands

pub row_sight : (n : ℕ) (words : List ℕ) (row : ℕ) (x : ℕ) → row < length (rows_in n words) → slice_index words (1 + row) ≡ x → Stands (decoded n words) (row_word row (value_of x))
row_sight n words row zero lt e = tt
row_sight n words row (suc x) lt e = first_read n words row lt ∙ ap value_of e

pub root_sight : (n : ℕ) (words : List ℕ) (root : ℕ) (x : ℕ) → root < length (roots_in n words) → slice_index words (1 + n + root) ≡ x → Stands (decoded n words) (root_word root (value_of x))
root_sight n words root zero lt e = tt
root_sight n words root (suc x) lt e = rest_read value_of n words root lt ∙ ap value_of e
