-- What the calls say, of what contracts see of the words.
use Rattle.std.proofs.Common.{◌≡◌, ◌≢◌, ◌⊎◌, ◌↔◌, ℕ, ◌+◌, ◌-◌, ◌*◌, ◌^◌, ◌<◌, ◌≤◌, List, ◌∷◌, ◌++◌, length, take, drop, arith}
use Rattle.bip_defs.specs.Lists.{Among, IsRising}
use Rattle.int_set.specs.Numbers.{Numbers}
use Rattle.int_set.specs.Tree.{IsSetOf, members_of, NoneSet, numbers_of, start_of}
use Rattle.int_set.specs.Words.{bit, IsSet}
use Rattle.int_set.proofs.Members.{inserted, least_first, member_set, members_rising, removed, set_member, written_back}

pub inserted_view : (items words new : List ℕ) (len first bound number : ℕ) (value : Numbers) → numbers_of items first bound ≡ value → words ≡ items → length new ≡ len → number < value.bound
    → IsSet new (first + number) → ((x : ℕ) → x ≢ number → bit new (first + x) ≡ bit words (first + x))
    → (x : ℕ) → Among x (members_of (take len (new ++ drop (length new) items)) first bound) ↔ ((x ≡ number) ⊎ Among x value.members)
inserted_view items words new len first bound number value seen same long lt set others =
    rw (written_back items new len long, ← seen) (inserted items new first bound number (rw (← seen) at lt) set (λ x ne. rw (← same) (others x ne)))

pub removed_view : (items words new : List ℕ) (len first bound number : ℕ) (value : Numbers) → numbers_of items first bound ≡ value → words ≡ items → length new ≡ len
    → ¬ IsSet new (first + number) → ((x : ℕ) → x ≢ number → bit new (first + x) ≡ bit words (first + x))
    → (x : ℕ) → Among x (members_of (take len (new ++ drop (length new) items)) first bound) ↔ ((x ≢ number) × Among x value.members)
removed_view items words new len first bound number value seen same long clear others =
    rw (written_back items new len long, ← seen) (removed items new first bound number clear (λ x ne. rw (← same) (others x ne)))

pub rising_view : (items : List ℕ) (first bound : ℕ) (value : Numbers) → numbers_of items first bound ≡ value → IsRising value.members
rising_view items first bound value seen = rw (← seen) (members_rising items first bound)

-- the number of the first bit that is set is the least member
pub record IsLeastMember (value : Numbers) (number : ℕ) : Type 0 where
  pub least : Among number value.members × ((y : ℕ) → Among y value.members → number ≤ y)
  pub in_range : number < value.bound
  pub small : number < 2 ^ 32

pub least_view : (items words : List ℕ) (depth first bound p : ℕ) (value : Numbers) → numbers_of items first bound ≡ value → words ≡ items → IsSetOf items depth first bound
    → IsSet words p → 64 * start_of depth ≤ p → NoneSet words (64 * start_of depth) p → IsLeastMember value (p - first)
least_view items words depth first bound p value seen same s set low none =
    let from : first ≤ p = omega (arith, s.shaped.lowest) in
    let at : first + (p - first) ≡ p = omega arith in
    let here : IsSet items (first + (p - first)) = rw (at, ← same) set in
    let inside = s.below (p - first) here in
    rw (← seen) (record {
      least = (
        set_member items first bound (p - first) inside here,
        λ y h.
            let m = member_set items first bound y h in
            let above : ¬ (first + y < p) = λ lt. none (first + y) (omega (arith, s.shaped.lowest)) lt (rw same m.1) in
            omega (arith, above),
      );
      in_range = inside;
      small = omega (arith, s.shaped.few);
    })

pub taken_view : (items words new : List ℕ) (len first bound number : ℕ) (value : Numbers) → numbers_of items first bound ≡ value → words ≡ items → length new ≡ len
    → ¬ IsSet new (first + number) → ((x : ℕ) → x ≢ number → bit new (first + x) ≡ bit words (first + x))
    → Among number value.members → ((y : ℕ) → Among y value.members → number ≤ y)
    → value.members ≡ number ∷ members_of (take len (new ++ drop (length new) items)) first bound
taken_view items words new len first bound number value seen same long clear others has least =
    least_first value.members _ number (rising_view items first bound value seen) (members_rising _ first bound) has least
    (removed_view items words new len first bound number value seen same long clear others)
