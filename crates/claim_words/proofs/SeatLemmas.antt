-- New seats, which list nothing.
use Rattle.std.proofs.Common.{◌≡◌, ℕ, refl, sym, subst}
use Rattle.claim_words.specs.Board.{Board, opened_words}
use Rattle.claim_words.specs.Listed.{Listed, all_listed, nothing}
use Rattle.claim_words.specs.Seat.{lists_of, new_seats}
use Rattle.claim_words.specs.Settles.{Settles, SettlesAll}
use Rattle.claim_words.proofs.Openings.{accounts_none}
use Rattle.board_seats.proofs.Numbered.{new_flat}

new_nothing : (b : Board) (seats : ℕ) → all_listed (lists_of (new_seats b seats)) ≡ nothing
new_nothing b seats = λ i. record {
  claims = new_flat (λ (l : Listed). l.claims) nothing refl b seats i;
  wins = new_flat (λ (l : Listed). l.wins) nothing refl b seats i;
  seen = new_flat (λ (l : Listed). l.seen) nothing refl b seats i;
}

pub new_settle : (b : Board) (seats : ℕ) → SettlesAll b (opened_words b) (new_seats b seats)
new_settle b seats = subst (Settles b.rows b.roots (opened_words b)) (sym (new_nothing b seats)) (record { claims = accounts_none b.rows; wins = accounts_none b.roots; seen = λ sight h. absurd h })
