-- The lists of all seats account for the words after each kind of step.
use Rattle.std.proofs.Common.{◌≡◌, ◌≢◌, ℕ, ◌<◌, Option, None, Some, List, [], ◌∷◌, ◌++◌, map, set, flat_map, length, refl, sym, subst, ⊎_elim}
use mathlib.Core.Option.{some}
use lib.ListN.{get_elem?}
use Rattle.bip_defs.specs.Lists.{Among}
use Rattle.bip_defs.specs.WordValues.{held}
use Rattle.bip_defs.proofs.WordValues.{held_grows}
use Rattle.claim_words.specs.Accounts.{Accounts}
use Rattle.claim_words.specs.Board.{Words}
use Rattle.claim_words.specs.Listed.{Listed, Sight, all_listed, claimed, followed_by, looked, nothing, root_word, row_word, won}
use Rattle.claim_words.specs.Settles.{Settles, Stands}
use Rattle.claim_words.proofs.AccountLemmas.{accounts_added, accounts_moved}
use Rattle.board_seats.proofs.Flat.{among_moved, flat_same, flat_snoc, from_last, times_more, times_moved}
use Rattle.board_seats.proofs.SeatNumbers.{only_flat, only_seat}
use Rattle.board_seats.specs.View.{AreSeated, listed_or}
use Rattle.claim_words.specs.Rule.{Known}

abbrev pub claims_of : Listed → List (ℕ × ℕ)
claims_of l = l.claims

abbrev pub wins_of : Listed → List (ℕ × ℕ)
wins_of l = l.wins

abbrev pub seen_of : Listed → List Sight
seen_of l = l.seen

-- where the seat 0 is the only one, its lists are all that there are
pub alone : {o : Words} {views : List (Option Known)} → AreSeated o views → (id : ℕ) (k : Known) → get_elem? views id ≡ some (Some k) → k.number ≡ 0 → k.seats ≡ 1 → all_listed (map (listed_or nothing) views) ≡ k.listed
alone {views = views} a id k at zeroth one = λ i. record {
  claims = only_flat nothing claims_of refl views id k at (only_seat a id k at zeroth one) i;
  wins = only_flat nothing wins_of refl views id k at (only_seat a id k at zeroth one) i;
  seen = only_flat nothing seen_of refl views id k at (only_seat a id k at zeroth one) i;
}

-- what was seen stands after a write to an empty word

row_grows : (w : Words) (row col : ℕ) → held w.rows row ≡ None → (sight : Sight) → Stands w sight → Stands (record { rows = set w.rows row (Some col); roots = w.roots }) sight
row_grows w row col empty (row_word r None) h = tt
row_grows w row col empty (row_word r (Some c)) h = held_grows w.rows row col r c empty h
row_grows w row col empty (root_word x None) h = tt
row_grows w row col empty (root_word x (Some leaf)) h = h

root_grows : (w : Words) (root leaf : ℕ) → held w.roots root ≡ None → (sight : Sight) → Stands w sight → Stands (record { rows = w.rows; roots = set w.roots root (Some leaf) }) sight
root_grows w root leaf empty (row_word r None) h = tt
root_grows w root leaf empty (row_word r (Some c)) h = h
root_grows w root leaf empty (root_word x None) h = tt
root_grows w root leaf empty (root_word x (Some y)) h = held_grows w.roots root leaf x y empty h

module _ {rows roots : List (Option ℕ)} {w : Words} (ls : List Listed) (a : Settles rows roots w (all_listed ls)) where
  module _ (id : ℕ) (l : Listed) (at : get_elem? ls id ≡ some l) where
    pub settles_claim : (row col : ℕ) → row < length w.rows → held w.rows row ≡ None → Settles rows roots (record { rows = set w.rows row (Some col); roots = w.roots }) (all_listed (set ls id (claimed l row col None)))
    settles_claim row col lt empty = record {
      claims = accounts_added rows w.rows (flat_map claims_of ls) (flat_map claims_of (set ls id (claimed l row col None))) row col a.claims lt empty
          (times_more claims_of ls id l (claimed l row col None) row col at refl) (from_last claims_of ls id l (claimed l row col None) (row, col) at refl);
      wins = subst (Accounts roots w.roots) (sym (flat_same wins_of ls id l (claimed l row col None) at refl)) a.wins;
      seen = λ sight h. row_grows w row col empty sight (a.seen sight (subst (Among sight) (flat_same seen_of ls id l (claimed l row col None) at refl) h));
    }

    pub settles_win : (root leaf : ℕ) → root < length w.roots → held w.roots root ≡ None → Settles rows roots (record { rows = w.rows; roots = set w.roots root (Some leaf) }) (all_listed (set ls id (won l root leaf None)))
    settles_win root leaf lt empty = record {
      claims = subst (Accounts rows w.rows) (sym (flat_same claims_of ls id l (won l root leaf None) at refl)) a.claims;
      wins = accounts_added roots w.roots (flat_map wins_of ls) (flat_map wins_of (set ls id (won l root leaf None))) root leaf a.wins lt empty
          (times_more wins_of ls id l (won l root leaf None) root leaf at refl) (from_last wins_of ls id l (won l root leaf None) (root, leaf) at refl);
      seen = λ sight h. root_grows w root leaf empty sight (a.seen sight (subst (Among sight) (flat_same seen_of ls id l (won l root leaf None) at refl) h));
    }

    pub settles_look : (sight : Sight) → Stands w sight → Settles rows roots w (all_listed (set ls id (looked l sight)))
    settles_look sight stands = record {
      claims = subst (Accounts rows w.rows) (sym (flat_same claims_of ls id l (looked l sight) at refl)) a.claims;
      wins = subst (Accounts roots w.roots) (sym (flat_same wins_of ls id l (looked l sight) at refl)) a.wins;
      seen = λ s h. ⊎_elim (λ (e : s ≡ sight). subst (Stands w) (sym e) stands) (a.seen s) (from_last seen_of ls id l (looked l sight) sight at refl s h);
    }

    -- one seat's lists are put before another's
    pub settles_join : (other : ℕ) (m : Listed) → other ≢ id → get_elem? (set ls id (followed_by m l)) other ≡ some m → Settles rows roots w (all_listed (set (set ls id (followed_by m l)) other nothing))
    settles_join other m ne there = record {
      claims = accounts_moved rows w.rows (flat_map claims_of ls) (flat_map claims_of (set (set ls id (followed_by m l)) other nothing)) a.claims
          (λ i. times_moved claims_of ls id other l m (followed_by m l) nothing i at there refl refl) (λ p. among_moved claims_of ls id other l m (followed_by m l) nothing p at ne there refl refl);
      wins = accounts_moved roots w.roots (flat_map wins_of ls) (flat_map wins_of (set (set ls id (followed_by m l)) other nothing)) a.wins
          (λ i. times_moved wins_of ls id other l m (followed_by m l) nothing i at there refl refl) (λ p. among_moved wins_of ls id other l m (followed_by m l) nothing p at ne there refl refl);
      seen = λ s h. a.seen s (among_moved seen_of ls id other l m (followed_by m l) nothing s at ne there refl refl h);
    }

  -- a seat that lists nothing
  pub settles_new : Settles rows roots w (all_listed (ls ++ nothing ∷ []))
  settles_new = record {
    claims = subst (Accounts rows w.rows) (sym (flat_snoc claims_of ls nothing refl)) a.claims;
    wins = subst (Accounts roots w.roots) (sym (flat_snoc wins_of ls nothing refl)) a.wins;
    seen = λ s h. a.seen s (subst (Among s) (flat_snoc seen_of ls nothing refl) h);
  }
