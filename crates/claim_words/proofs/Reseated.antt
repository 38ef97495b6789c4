-- Workers whose seats are taken out, the highest number first, and are split off anew.
use Rattle.std.proofs.Common.{◌≡◌, ◌∙◌, ℕ, ◌+◌, List, [], ◌∷◌, ◌++◌, length, refl, sym, ap, ap₂, subst, arith, length-append, suc, flat_map, append-nil}
use Rattle.std.proofs.lemmas.List.{length-map, map-append}
use Rattle.claim_words.specs.Board.{Board, Words}
use Rattle.claim_words.specs.Listed.{Listed, all_listed, followed_by, nothing}
use Rattle.claim_words.specs.Seat.{AreNumbered, Seat, first_seat, lists_of, new_seat, gathered}
use Rattle.claim_words.specs.WorkerState.{WorkerState, re_seated, seats_of, with_seat, AreAllWorkers, after_gather, fresh_lists}
use Rattle.claim_words.proofs.GatherLemmas.{settles_gathered}
use Rattle.board_seats.proofs.Numbered.{numbered_last}
use Rattle.claim_words.specs.Settles.{Settles, SettlesAll}

seats_last : (ws : List WorkerState) (w : WorkerState) → seats_of (ws ++ w ∷ []) ≡ seats_of ws ++ w.seat ∷ []
seats_last ws w = map-append (λ (v : WorkerState). v.seat) ws (w ∷ [])

-- the seat of the last worker has the highest number
pub record LastOut (b : Board) (others rest : List WorkerState) (s : Seat) : Type 0 where
  pub board : s.board ≡ b
  pub number : s.number ≡ 1 + length rest
  pub before : AreNumbered b 1 (seats_of rest)
  pub long : length others ≡ 1 + length rest
  pub seats : seats_of others ≡ seats_of rest ++ s ∷ []

pub last_out : (b : Board) (others rest : List WorkerState) (last : WorkerState) (s : Seat) → AreNumbered b 1 (seats_of others) → others ≡ rest ++ last ∷ [] → last.seat ≡ s → LastOut b others rest s
last_out b others rest last s numbered e same =
    let seats : seats_of others ≡ seats_of rest ++ s ∷ [] = ap seats_of e ∙ seats_last rest last ∙ ap (λ t. seats_of rest ++ t ∷ []) same in
    let (before, board, number) = numbered_last b 1 (seats_of rest) s (subst (AreNumbered b 1) seats numbered) in
    record {
      board = board;
      number = number ∙ ap (λ n. 1 + n) (length-map rest (λ (v : WorkerState). v.seat));
      before = before;
      long = let long = ap length e ∙ length-append rest (last ∷ []) in omega (arith, long);
      seats = seats;
    }

pub last_first : (b : Board) (others rest : List WorkerState) (s first : Seat) (l : Listed) → LastOut b others rest s → first ≡ first_seat b (1 + length others) l → first ≡ first_seat b (1 + s.number) l
last_first b others rest s first l out is = is ∙ ap (λ n. first_seat b n l) (let long = out.long in let number = out.number in omega (arith, long, number))

pub renewed_first : (b : Board) (others rest : List WorkerState) (s now : Seat) (l : Listed) → LastOut b others rest s → now ≡ first_seat b s.number l → now ≡ first_seat b (1 + length rest) now.listed
renewed_first b others rest s now l out is = subst (λ (t : Seat). t ≡ first_seat b (1 + length rest) t.listed) (sym is) (ap (λ n. first_seat b n l) out.number)

-- the seat 0 counts so many seats again as the number of the one that was taken out
pub renewed_at : (b : Board) (first : Seat) (n number : ℕ) (l : Listed) → first ≡ first_seat b n l → number ≡ n → first ≡ first_seat b number first.listed
renewed_at b first n number l is e = subst (λ m. first ≡ first_seat b m first.listed) (sym e) (subst (λ (t : Seat). t ≡ first_seat b n t.listed) (sym is) refl)

-- the new seat goes to the last worker
re_seated_last : (b : Board) (n : ℕ) (ws : List WorkerState) (w : WorkerState) → re_seated b n (ws ++ w ∷ []) ≡ re_seated b n ws ++ with_seat w (new_seat b (n + length ws)) ∷ []
re_seated_last b n [] w = ap (λ m. with_seat w (new_seat b m) ∷ []) (omega arith)
re_seated_last b n (v ∷ ws) w = ap (λ vs. with_seat v (new_seat b n) ∷ vs) (re_seated_last b (1 + n) ws w ∙ ap (λ m. re_seated b (1 + n) ws ++ with_seat w (new_seat b m) ∷ []) (omega arith))

pub renewed_others : (b : Board) (others rest now : List WorkerState) (last : WorkerState) (s : Seat) → others ≡ rest ++ last ∷ [] → now ≡ re_seated b 1 rest → s ≡ new_seat b (1 + length rest) → now ++ with_seat last s ∷ [] ≡ re_seated b 1 others
renewed_others b others rest now last s e same new = ap₂ (λ ws t. ws ++ with_seat last t ∷ []) same new ∙ sym (re_seated_last b 1 rest last) ∙ ap (re_seated b 1) (sym e)

-- All workers.

-- the seats of all workers but the first are new
pub all_renewed : (b : Board) (ws others now : List WorkerState) (first : WorkerState) (s : Seat) → AreAllWorkers b ws → ws ≡ first ∷ others → s ≡ first_seat b (1 + length others) (followed_by (all_listed (lists_of (seats_of others))) first.seat.listed) → now ≡ re_seated b 1 others
    → with_seat first s ∷ now ≡ after_gather b ws
all_renewed b ws others now first s all e is same = ap₂ (λ t vs. with_seat first t ∷ vs) (is ∙ ap (λ n. first_seat b n (followed_by (all_listed (lists_of (seats_of others))) first.seat.listed)) seats) same ∙ ap (after_gather b) (sym e)
  where
    seats : 1 + length others ≡ first.seat.seats
    seats = sym ((subst (AreAllWorkers b) e all).2 ∙ ap (λ n. 1 + n) (length-map others (λ (v : WorkerState). v.seat)))

re_seated_numbered : (b : Board) (n : ℕ) (ws : List WorkerState) → AreNumbered b n (seats_of (re_seated b n ws))
re_seated_numbered b n [] = tt
re_seated_numbered b n (w ∷ ws) = (refl, refl, re_seated_numbered b (1 + n) ws)

re_seated_long : (b : Board) (n : ℕ) (ws : List WorkerState) → length (seats_of (re_seated b n ws)) ≡ length (seats_of ws)
re_seated_long b n [] = refl
re_seated_long b n (w ∷ ws) = ap suc (re_seated_long b (1 + n) ws)

pub gathered_all : (b : Board) (ws : List WorkerState) → AreAllWorkers b ws → AreAllWorkers b (after_gather b ws)
gathered_all b [] all = all
gathered_all b (w ∷ ws) (board, number, seats, numbered) = (refl, refl, seats ∙ ap (λ n. 1 + n) (sym (re_seated_long b 1 ws)), re_seated_numbered b 1 ws)

re_seated_fresh : (b : Board) (n : ℕ) (ws : List WorkerState) → fresh_lists (re_seated b n ws) ≡ fresh_lists ws
re_seated_fresh b n [] = refl
re_seated_fresh b n (w ∷ ws) = ap (λ ls. (w.fresh_claims, w.fresh_wins) ∷ ls) (re_seated_fresh b (1 + n) ws)

pub gathered_fresh : (b : Board) (ws : List WorkerState) → fresh_lists (after_gather b ws) ≡ fresh_lists ws
gathered_fresh b [] = refl
gathered_fresh b (w ∷ ws) = ap (λ ls. (w.fresh_claims, w.fresh_wins) ∷ ls) (re_seated_fresh b 1 ws)

re_seated_flat : {X : Type 0} (g : Listed → List X) → g nothing ≡ [] → (b : Board) (n : ℕ) (ws : List WorkerState) → flat_map g (lists_of (seats_of (re_seated b n ws))) ≡ []
re_seated_flat g empty b n [] = refl
re_seated_flat g empty b n (w ∷ ws) = ap (λ xs. xs ++ flat_map g (lists_of (seats_of (re_seated b (1 + n) ws)))) empty ∙ re_seated_flat g empty b (1 + n) ws

gathered_listed : (b : Board) (w : WorkerState) (ws : List WorkerState) → all_listed (lists_of (seats_of (after_gather b (w ∷ ws)))) ≡ gathered (seats_of (w ∷ ws))
gathered_listed b w ws = λ i. record {
  claims = (ap (λ xs. (gathered (seats_of (w ∷ ws))).claims ++ xs) (re_seated_flat (λ (l : Listed). l.claims) refl b 1 ws) ∙ append-nil (gathered (seats_of (w ∷ ws))).claims) i;
  wins = (ap (λ xs. (gathered (seats_of (w ∷ ws))).wins ++ xs) (re_seated_flat (λ (l : Listed). l.wins) refl b 1 ws) ∙ append-nil (gathered (seats_of (w ∷ ws))).wins) i;
  seen = (ap (λ xs. (gathered (seats_of (w ∷ ws))).seen ++ xs) (re_seated_flat (λ (l : Listed). l.seen) refl b 1 ws) ∙ append-nil (gathered (seats_of (w ∷ ws))).seen) i;
}

-- the words are accounted for by the old lists and by the new ones
pub gathered_words : (b : Board) (ws others : List WorkerState) (first : WorkerState) (s : Seat) → ws ≡ first ∷ others → s ≡ first_seat b (1 + length others) (followed_by (all_listed (lists_of (seats_of others))) first.seat.listed)
    → (words : Words) × Settles b.rows b.roots words s.listed → (words : Words) × SettlesAll b words (seats_of ws) × SettlesAll b words (seats_of (after_gather b ws))
gathered_words b ws others first s e is (words, a) =
    let fact : Settles b.rows b.roots words (gathered (seats_of (first ∷ others))) = subst (λ (t : Seat). Settles b.rows b.roots words t.listed) is a in
    subst (λ vs. (now : Words) × SettlesAll b now (seats_of vs) × SettlesAll b now (seats_of (after_gather b vs))) (sym e) (
      words,
      settles_gathered b.rows b.roots words (seats_of (first ∷ others)) fact,
      subst (Settles b.rows b.roots words) (sym (gathered_listed b first others)) fact,
    )
