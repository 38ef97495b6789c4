-- Two seats that are all seats of a board are so in the other order too.
use Rattle.std.proofs.Common.{◌≡◌, ℕ, ◌≤◌, List, [], ◌∷◌, length, sum_by, inl, inr, arith}
use Rattle.bip_defs.specs.Lists.{Among}
use Rattle.bip_defs.specs.Occurrences.{below}
use Rattle.board_seats.specs.Seat.{HoldsAllSeats, Seat, has_number}

swapped_back : {X : Type 0} (u s t : X) → Among u (t ∷ s ∷ []) → Among u (s ∷ t ∷ [])
swapped_back u s t h = elim h [
  | inl e ↦ inr (inl e)
  | inr r ↦ elim r [ inl e ↦ inl e | inr n ↦ absurd n ]
]

pub swapped : {B L : Type 0} (b : B) (s t : Seat B L) → HoldsAllSeats b (s ∷ t ∷ []) → HoldsAllSeats b (t ∷ s ∷ [])
swapped b s t h = record {
  some = omega arith;
  boards = λ u k. h.boards u (swapped_back u s t k);
  numbers = λ n. omega (arith, h.numbers n);
  counted = λ u k zero. h.counted u (swapped_back u s t k) zero;
}
