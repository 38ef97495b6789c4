use Rattle.std.proofs.Common.{◌≡◌, ◌∙◌, ◌⊎◌, ℕ, List, Option, Some, inl, inr, sym, subst}
use Rattle.std.proofs.lemmas.List.{length-map}
use Rattle.bip_defs.specs.Lists.{Among}
use Rattle.bip_defs.specs.WordValues.{held}
use Rattle.claim_words.specs.Accounts.{Accounts}
use Rattle.claim_words.specs.Board.{opened_words}
use Rattle.claim_words.specs.Seat.{AreAllSeats, new_seats}
use Rattle.claim_words.specs.Settles.{SettlesAll}
use Rattle.claim_words.specs.WorkerState.{seated}
use Rattle.level_sharing.specs.Agreement.{AreListedWords, HoldThese}
use Rattle.level_sharing.proofs.laws.new_workers_agree.Goals as goal

-- the words are as they were opened
opened_listed : (opened : List (Option ℕ)) (pairs listed : List (ℕ × ℕ)) → Accounts opened opened listed → HoldThese pairs opened → AreListedWords pairs opened listed
opened_listed opened pairs listed a holds i x = (to, λ h. inl ((holds i x).1 h))
  where
    to : (held opened i ≡ Some x) ⊎ Among (i, x) listed → Among (i, x) pairs
    to (inl e) = (holds i x).0 e
    to (inr m) = (holds i x).0 (a.stands i x m)

pub returns-clause-many : goal.returns-clause-many
returns-clause-many c = λ b seats. length-map (new_seats b seats) seated ∙ c.new_seats_are_all.ensures.many b seats

pub returns-clause-agree : goal.returns-clause-agree
returns-clause-agree c = λ b seats claims leaves some rows roots.
    let same = sym (c.seats_stay.ensures.seated (new_seats b seats)) in
    let words = subst (SettlesAll b (opened_words b)) same (c.new_seats_are_all.ensures.words b seats) in
    record {
      listed = record {
        all_workers = subst (AreAllSeats b) same (c.new_seats_are_all.ensures.all b seats some);
        rows = opened_listed b.rows claims _ words.claims rows;
        roots = opened_listed b.roots leaves _ words.wins roots;
      };
      no_claims = c.seats_stay.ensures.seated_claims (new_seats b seats);
      no_wins = c.seats_stay.ensures.seated_wins (new_seats b seats);
    }
