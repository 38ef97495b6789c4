use Rattle.std.proofs.Common.{List, sym, subst}
use Rattle.claim_words.specs.Listed.{all_listed}
use Rattle.claim_words.specs.Seat.{AreAllSeats, Seat, lists_of}
use Rattle.level_sharing.specs.Agreement.{AreListedWords}
use Rattle.level_sharing.proofs.NewWords.{held_listed}
use Rattle.level_sharing.proofs.laws.settled_workers_agree.Goals as goal

pub returns-clause-listed : goal.returns-clause-listed
returns-clause-listed c = λ b ws claims leaves l.
    let same = sym (c.seats_stay.ensures.settled ws) in
    record {
      listed = record {
        all_workers = subst (λ (ss : List Seat). AreAllSeats b ss) same l.all_workers;
        rows = subst (λ (ss : List Seat). AreListedWords claims b.rows (all_listed (lists_of ss)).claims) same l.rows;
        roots = subst (λ (ss : List Seat). AreListedWords leaves b.roots (all_listed (lists_of ss)).wins) same l.roots;
      };
      no_claims = c.seats_stay.ensures.settled_claims ws;
      no_wins = c.seats_stay.ensures.settled_wins ws;
    }

pub returns-clause-shown : goal.returns-clause-shown
returns-clause-shown c = λ b ws claims leaves s. record {
  all_workers = s.all_workers;
  rows = held_listed (λ opened now listed i x a. (c.listed_words_stand.ensures opened now listed a).from i x) _ _ _ _ s.listed.claims s.rows;
  roots = held_listed (λ opened now listed i x a. (c.listed_words_stand.ensures opened now listed a).from i x) _ _ _ _ s.listed.wins s.roots;
}
