-- A worker: a seat, and what it listed since it was settled.
use Rattle.std.specs.Prelude.{ℕ, ◌+◌, List, [], ◌∷◌, Option, flat_map, map, ◌≡◌, ◌++◌}
use Rattle.claim_words.specs.Board.{Board}
use Rattle.claim_words.specs.Listed.{Sight, with_written, Listed, all_listed, followed_by}
use Rattle.claim_words.specs.Seat.{AreAllSeats, Seat, after_claim, after_look, after_win, first_seat, new_seat, gathered, lists_of, with_listed}

-- the claims and the wins that it listed since it was settled, in order
pub record WorkerState : Type 0 where
  pub seat : Seat
  pub fresh_claims : List (ℕ × ℕ)
  pub fresh_wins : List (ℕ × ℕ)

-- a worker that takes a seat
abbrev pub seated : Seat → WorkerState
seated s = record { seat = s; fresh_claims = []; fresh_wins = [] }

abbrev pub seats_of : List WorkerState → List Seat
seats_of ws = map (λ (w : WorkerState). w.seat) ws

-- a worker with another seat
abbrev pub with_seat : WorkerState → Seat → WorkerState
with_seat w s = record { seat = s; fresh_claims = w.fresh_claims; fresh_wins = w.fresh_wins }

-- after a claim of a row, whose word held `found`, for a column
abbrev pub work_after_claim : WorkerState → ℕ → ℕ → Option ℕ → WorkerState
work_after_claim w row col found = record {
  seat = after_claim w.seat row col found;
  fresh_claims = with_written w.fresh_claims row col found;
  fresh_wins = w.fresh_wins;
}

-- after a win of a root, whose word held `found`, for a leaf
abbrev pub work_after_win : WorkerState → ℕ → ℕ → Option ℕ → WorkerState
work_after_win w root leaf found = record {
  seat = after_win w.seat root leaf found;
  fresh_claims = w.fresh_claims;
  fresh_wins = with_written w.fresh_wins root leaf found;
}

-- after a look at a word
abbrev pub work_after_look : WorkerState → Sight → WorkerState
work_after_look w sight = with_seat w (after_look w.seat sight)

-- the fresh lists are emptied
abbrev pub settled : WorkerState → WorkerState
settled w = seated w.seat

-- the workers' seats are all seats of this board, in the order of their numbers
abbrev pub AreAllWorkers : Board → List WorkerState → Type 0
AreAllWorkers b ws = AreAllSeats b (seats_of ws)

-- the fresh claims of all workers, in their order, and the fresh wins
abbrev pub fresh_claims_of : List WorkerState → List (ℕ × ℕ)
fresh_claims_of ws = flat_map (λ (w : WorkerState). w.fresh_claims) ws

abbrev pub fresh_wins_of : List WorkerState → List (ℕ × ℕ)
fresh_wins_of ws = flat_map (λ (w : WorkerState). w.fresh_wins) ws

-- a worker whose seat has listed more; its fresh lists have what was claimed and won too
abbrev pub with_more : WorkerState → Listed → WorkerState
with_more w l = record {
  seat = with_listed w.seat (followed_by w.seat.listed l);
  fresh_claims = w.fresh_claims ++ l.claims;
  fresh_wins = w.fresh_wins ++ l.wins;
}

-- a worker has listed more since then, or as much
abbrev pub HasGrown : WorkerState → WorkerState → Type 0
HasGrown v w = (l : Listed) × (w ≡ with_more v l)

-- so has each of these, one by one
abbrev pub HaveGrown : List WorkerState → List WorkerState → Type 0
HaveGrown [] [] = Unit {0}
HaveGrown [] (w ∷ ws) = ⊥
HaveGrown (v ∷ vs) [] = ⊥
HaveGrown (v ∷ vs) (w ∷ ws) = HasGrown v w × HaveGrown vs ws

-- what the seats of all workers list together
abbrev pub listed_by_workers : List WorkerState → Listed
listed_by_workers ws = all_listed (lists_of (seats_of ws))

-- the fresh lists of each worker
abbrev pub fresh_lists : List WorkerState → List (List (ℕ × ℕ) × List (ℕ × ℕ))
fresh_lists ws = map (λ (w : WorkerState). (w.fresh_claims, w.fresh_wins)) ws

-- Workers whose seats were gathered: the seat 0 lists what all seats did, and the others list
-- nothing. The fresh lists stay.

-- workers with new seats, from this number on
abbrev pub re_seated : Board → ℕ → List WorkerState → List WorkerState
re_seated b number [] = []
re_seated b number (w ∷ ws) = with_seat w (new_seat b number) ∷ re_seated b (1 + number) ws

abbrev pub after_gather : Board → List WorkerState → List WorkerState
after_gather b [] = []
after_gather b (w ∷ others) =
    with_seat w (first_seat b w.seat.seats (gathered (seats_of (w ∷ others))))
    ∷ re_seated b 1 others
