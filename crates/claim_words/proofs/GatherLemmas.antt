-- Seats that the seat 0 takes in, the highest number first.
use Rattle.std.proofs.Common.{◌≡◌, ◌∙◌, ℕ, ◌+◌, List, [], ◌∷◌, ◌++◌, flat_map, length, sym, ap, subst, arith, length-append}
use Rattle.claim_words.specs.Board.{Board, Words}
use Rattle.claim_words.specs.Listed.{Listed, all_listed, followed_by}
use Rattle.claim_words.specs.Seat.{AreNumbered, Seat, first_seat, gathered, lists_of}
use Rattle.claim_words.specs.Settles.{Settles}
use Rattle.board_seats.proofs.Flat.{among_turned, times_turned, flat_last}
use Rattle.board_seats.proofs.Numbered.{among_moved_seats, numbered_last, times_moved_seats, IsGathering, listed_last}
use Rattle.std.specs.List.Sorted.{IsPermutation}
use Rattle.claim_words.proofs.AccountLemmas.{accounts_moved}
use Rattle.claim_words.proofs.SettledWords.{claims_of, seen_of, wins_of}

pub gathering : IsGathering followed_by all_listed
gathering = record {
  last = λ ls l m. λ i. record {
    claims = flat_last (λ (k : Listed). k.claims) ls l m.claims i;
    wins = flat_last (λ (k : Listed). k.wins) ls l m.wins i;
    seen = flat_last (λ (k : Listed). k.seen) ls l m.seen i;
  };
}

-- All seats of a board.

-- one more is taken in

pub last_highest : (b : Board) (ss : List Seat) (first s : Seat) (all : List Seat) → first ≡ first_seat b (1 + length all) first.listed → AreNumbered b 1 all → all ≡ ss ++ s ∷ [] → first ≡ first_seat b (1 + s.number) first.listed
last_highest b ss first s all is numbered e = is ∙ ap (λ n. first_seat b n first.listed) (let last = (numbered_last b 1 ss s (subst (AreNumbered b 1) e numbered)).2 in let long = ap length e ∙ length-append ss (s ∷ []) in omega (arith, last, long))

pub last_taken : (b : Board) (ss : List Seat) (first now s : Seat) (all : List Seat) (total : Listed) → AreNumbered b 1 all → all ≡ ss ++ s ∷ [] → now ≡ first_seat b s.number (followed_by s.listed first.listed) → followed_by (all_listed (lists_of all)) first.listed ≡ total
    → (now ≡ first_seat b (1 + length ss) now.listed) × AreNumbered b 1 ss × (followed_by (all_listed (lists_of ss)) now.listed ≡ total)
last_taken b ss first now s all total numbered e is same =
    let (before, last_board, last_number) = numbered_last b 1 ss s (subst (AreNumbered b 1) e numbered) in (
      subst (λ (t : Seat). t ≡ first_seat b (1 + length ss) t.listed) (sym is) (ap (λ n. first_seat b n (followed_by s.listed first.listed)) last_number),
      before,
      ap (λ (t : Seat). followed_by (all_listed (lists_of ss)) t.listed) is ∙ sym (listed_last gathering ss s first.listed) ∙ ap (λ ts. followed_by (all_listed (lists_of ts)) first.listed) (sym e) ∙ same,
    )

-- The seat 0's list at the end or at the head is the same for the words.

settles_turned : (rows roots : List (Rattle.std.specs.Prelude.Option ℕ)) (words : Words) (l m : Listed) → Settles rows roots words (followed_by l m) → Settles rows roots words (followed_by m l)
settles_turned rows roots words l m a = record {
  claims = accounts_moved rows words.rows (l.claims ++ m.claims) (m.claims ++ l.claims) a.claims (λ i. times_turned i m.claims l.claims) (λ p. among_turned p m.claims l.claims);
  wins = accounts_moved roots words.roots (l.wins ++ m.wins) (m.wins ++ l.wins) a.wins (λ i. times_turned i m.wins l.wins) (λ p. among_turned p m.wins l.wins);
  seen = λ s h. a.seen s (among_turned s m.seen l.seen h);
}

pub settles_gathered : (rows roots : List (Rattle.std.specs.Prelude.Option ℕ)) (words : Words) (ss : List Seat) → Settles rows roots words (gathered ss) → Settles rows roots words (all_listed (lists_of ss))
settles_gathered rows roots words [] a = a
settles_gathered rows roots words (s ∷ ss) a = settles_turned rows roots words (all_listed (lists_of ss)) s.listed a

-- seats in another order account for the same words
pub settles_permuted : (rows roots : List (Rattle.std.specs.Prelude.Option ℕ)) (words : Words) (ss ts : List Seat) → IsPermutation ss ts → Settles rows roots words (all_listed (lists_of ts)) → Settles rows roots words (all_listed (lists_of ss))
settles_permuted rows roots words ss ts moved a = record {
  claims = accounts_moved rows words.rows (flat_map claims_of (lists_of ts)) (flat_map claims_of (lists_of ss)) a.claims (λ i. sym (times_moved_seats claims_of i ss ts moved)) (λ p. among_moved_seats claims_of ss ts p moved);
  wins = accounts_moved roots words.roots (flat_map wins_of (lists_of ts)) (flat_map wins_of (lists_of ss)) a.wins (λ i. sym (times_moved_seats wins_of i ss ts moved)) (λ p. among_moved_seats wins_of ss ts p moved);
  seen = λ s h. a.seen s (among_moved_seats seen_of ss ts s moved h);
}
