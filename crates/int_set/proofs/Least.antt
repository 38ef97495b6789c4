-- How going down by the least bit of each word comes to the least bit of the lowest level.
use Rattle.std.proofs.Common.{◌≡◌, ◌≢◌, ℕ, zero, suc, ◌+◌, ◌-◌, ◌*◌, ◌/◌, ◌%◌, ◌^◌, ◌<◌, ◌≤◌, List, length, slice_index, refl, inl, inr, arith, add-one}
use Rattle.std.proofs.lemmas.Bool.{cases_eq}
use Rattle.std.proofs.lemmas.Nat.Bits.{bit_at-trailing_zeros, bit_at-zero}
use Rattle.std.specs.Int.{bit_at, trailing_zeros, w64}
use Rattle.int_set.specs.Tree.{IsTree, NoneSet, start_of}
use Rattle.int_set.specs.Words.{bit, IsSet}

pub start_next : (d : ℕ) → start_of (d + 1) ≡ 64 * start_of d + 1
start_next d = rw add-one refl

-- each level begins after those above it
pub start_up : (d e : ℕ) → d ≤ e → start_of d ≤ start_of e
start_up d zero h = let same : d ≡ 0 = omega arith in rw same (omega arith)
start_up d (suc e) h = elim (cases_eq d (suc e)) [
  | inl same ↦ rw same (omega arith)
  | inr ne ↦ omega (arith, start_up d e (omega arith))
]

-- the first word of its level that is not 0
pub record IsLeastWord (words : List ℕ) (start at : ℕ) : Type 0 where
  pub from : start ≤ at
  pub to : at ≤ 64 * start
  pub inside : at < length words
  pub some : slice_index words at ≢ 0
  pub none : (k : ℕ) → start ≤ k → k < at → slice_index words k ≡ 0

-- the first bit of the level below it that is set
pub record IsLeastBit (words : List ℕ) (start p : ℕ) : Type 0 where
  pub from : 64 * start ≤ p
  pub to : p < 64 * (64 * start + 1)
  pub set : IsSet words p
  pub none : NoneSet words (64 * start) p

pub least_in_word : (words : List ℕ) (start at : ℕ) → IsLeastWord words start at → slice_index words at < 2 ^ 64 → IsLeastBit words start (64 * at + trailing_zeros w64 (slice_index words at))
unfolding bit
least_in_word words start at w fits =
    let t = bit_at-trailing_zeros w64 (slice_index words at) (omega (arith, w.some)) fits in
    let word : (64 * at + trailing_zeros w64 (slice_index words at)) / 64 ≡ at = omega (arith, t.0) in
    let place : (64 * at + trailing_zeros w64 (slice_index words at)) % 64 ≡ trailing_zeros w64 (slice_index words at) = omega (arith, t.0) in
    record {
      from = omega (arith, w.from);
      to = omega (arith, w.to, t.0);
      set = rw (word, place) t.1;
      none = λ i low high set. elim (cases_eq (i / 64) at) [
        | inl e ↦
            let zero : bit_at (slice_index words at) (i % 64) ≡ 0 = t.2 (i % 64) (omega arith) in
            let one : bit_at (slice_index words at) (i % 64) ≡ 1 = rw (← e) set in
            absurd (omega (arith, zero, one))
        | inr ne ↦
            let empty : slice_index words (i / 64) ≡ 0 = w.none (i / 64) (omega arith) (omega (arith, t.0)) in
            let one : bit_at 0 (i % 64) ≡ 1 = rw (← empty) set in
            absurd (omega (arith, bit_at-zero (i % 64), one))
      ];
    }

-- where the level below has words, the word below that bit is the first of its level
pub least_goes_down : (words : List ℕ) (first start p : ℕ) → IsTree words first → IsLeastBit words start p → p < first → IsLeastWord words (64 * start + 1) (p + 1)
least_goes_down words first start p tree b low =
    let inside : p + 1 < length words = elim (tree.within p b.set) [ inl lt ↦ lt | inr le ↦ absurd (omega arith) ] in
    record {
      from = omega (arith, b.from);
      to = omega (arith, b.to);
      inside = inside;
      some = tree.full p inside b.set;
      none = λ k from to.
          let next : k - 1 + 1 ≡ k = omega arith in
          let empty : slice_index words (k - 1 + 1) ≡ 0 = tree.empty (k - 1) (omega arith) (b.none (k - 1) (omega arith) (omega arith)) in
          rw (← next) empty;
    }
