-- What a write of one bit changes in a row of words.
use Rattle.std.proofs.Common.{◌≡◌, ◌≢◌, ℕ, ◌*◌, ◌/◌, ◌%◌, ◌^◌, ◌<◌, List, length, slice_index, slice_set, refl, inl, inr, arith}
use Rattle.std.proofs.Math.ListN.{length-set}
use Rattle.std.proofs.lemmas.Bool.{cases_eq}
use Rattle.std.proofs.lemmas.List.{get_or-set_other, get_or-set_same}
use Rattle.std.proofs.lemmas.Nat.Bits.{bit_at-zero, bit_at_clear_other, bit_at_clear_same, bit_at_set_other, bit_at_set_same}
use Rattle.std.specs.Int.{bit_at, bit_not, w64}
use Rattle.std.specs.Int.RustNames.{bit_or}
use Rattle.std.specs.Int.Bits.{and_zero_l, bit_and}
use Rattle.int_set.specs.Words.{bit, IsSet}

-- the words of new are those of old, but for the word of bit p
pub record IsWrite (old new : List ℕ) (p value : ℕ) : Type 0 where
  pub long : length new ≡ length old
  pub word : slice_index new (p / 64) ≡ value
  pub words : (k : ℕ) → k ≢ p / 64 → slice_index new k ≡ slice_index old k

pub written : (words : List ℕ) (p word : ℕ) → p < 64 * length words → IsWrite words (slice_set words (p / 64) word) p word
written words p word room = record {
  long = length-set words (p / 64) word;
  word = get_or-set_same words (p / 64) word 0 (omega arith);
  words = λ k ne. get_or-set_other words (p / 64) k word 0 ne;
}

-- two bits of one word have different places in it
apart : (i p : ℕ) → i ≢ p → i / 64 ≡ p / 64 → i % 64 ≢ p % 64
apart i p ne same = λ e. ne (omega arith)

-- bit p is set, and the others are as before
pub record IsMarked (old new : List ℕ) (p : ℕ) : Type 0 where
  pub long : length new ≡ length old
  pub here : IsSet new p
  pub others : (i : ℕ) → i ≢ p → bit new i ≡ bit old i
  pub words : (k : ℕ) → k ≢ p / 64 → slice_index new k ≡ slice_index old k
  pub some : slice_index new (p / 64) ≢ 0

pub marked : (words : List ℕ) (p : ℕ) → p < 64 * length words → IsMarked words (slice_set words (p / 64) (bit_or (slice_index words (p / 64)) (1 * 2 ^ (p % 64) % 2 ^ 64))) p
unfolding bit
marked words p room =
    let w = written words p (bit_or (slice_index words (p / 64)) (1 * 2 ^ (p % 64) % 2 ^ 64)) room in
    let within : p % 64 < 64 = omega arith in
    let same = bit_at_set_same w64 (slice_index words (p / 64)) (p % 64) within in
    record {
      long = w.long;
      here = rw w.word same;
      others = λ i ne. elim (cases_eq (i / 64) (p / 64)) [
        | inl e ↦ rw (e, w.word) (bit_at_set_other w64 (slice_index words (p / 64)) (p % 64) within (i % 64) (apart i p ne e))
        | inr other ↦ rw (w.words (i / 64) other) refl
      ];
      words = w.words;
      some = λ none. let zero : bit_at 0 (p % 64) ≡ 1 = rw (← none, w.word) same in absurd (omega (arith, zero, bit_at-zero (p % 64)));
    }

-- bit p is not set, and the others are as before
pub record IsCleared (old new : List ℕ) (p : ℕ) : Type 0 where
  pub long : length new ≡ length old
  pub here : bit new p ≡ 0
  pub others : (i : ℕ) → i ≢ p → bit new i ≡ bit old i
  pub words : (k : ℕ) → k ≢ p / 64 → slice_index new k ≡ slice_index old k
  pub none : slice_index old (p / 64) ≡ 0 → slice_index new (p / 64) ≡ 0

pub cleared : (words : List ℕ) (p : ℕ) → p < 64 * length words → IsCleared words (slice_set words (p / 64) (bit_and (slice_index words (p / 64)) (bit_not w64 (1 * 2 ^ (p % 64) % 2 ^ 64)))) p
unfolding bit
cleared words p room =
    let w = written words p (bit_and (slice_index words (p / 64)) (bit_not w64 (1 * 2 ^ (p % 64) % 2 ^ 64))) room in
    let within : p % 64 < 64 = omega arith in
    record {
      long = w.long;
      here = rw w.word (bit_at_clear_same w64 (slice_index words (p / 64)) (p % 64) within);
      others = λ i ne. elim (cases_eq (i / 64) (p / 64)) [
        | inl e ↦ rw (e, w.word) (bit_at_clear_other w64 (slice_index words (p / 64)) (p % 64) within (i % 64) (omega arith) (apart i p ne e))
        | inr other ↦ rw (w.words (i / 64) other) refl
      ];
      words = w.words;
      none = λ zero. rw (w.word, zero, and_zero_l) refl;
    }
