-- The devices in memory, as their callers see them.
use Rattle.std.specs.Prelude.{◌≡◌, ℕ, List, Bool, if◌then◌else◌, nat_lt, ◌+◌, ◌-◌, ◌^◌, ◌++◌, ◌||◌, length, min, take, drop, Option, None, Some}

-- Which calls fail, by their numbers from 0, and the number of the next call.
pub record Calls : Type 0 where
  pub failing : List ℕ
  pub next : ℕ

-- The number of the call after this one. A list holds numbers below 2^64, and all later calls have the number 2^64.
abbrev pub number_after : ℕ → ℕ
number_after number = if nat_lt number (2 ^ 64) then number + 1 else number

-- A source that may fail: the bytes that it has left, the most that it gives in a call, and how often it has failed.
pub record Feed : Type 0 where
  pub left : List ℕ
  pub piece : ℕ
  pub failing : List ℕ
  pub next : ℕ
  pub failed : ℕ

-- the source after a call that gave so many bytes
abbrev pub after_giving : Feed → ℕ → Feed
after_giving s count = record s { left = drop count s.left; next = number_after s.next }

-- the source after a call that failed
abbrev pub after_failed_read : Feed → Feed
after_failed_read s = record s { next = number_after s.next; failed = s.failed + 1 }

-- A sink that may fail: the bytes that it has taken, how many it has room for in all, the most that it takes in a call,
-- and how often it has failed.
pub record Store : Type 0 where
  pub taken : List ℕ
  pub room : ℕ
  pub piece : ℕ
  pub failing : List ℕ
  pub next : ℕ
  pub failed : ℕ

abbrev pub bytes_of : Store → Option (List ℕ)
bytes_of s = Some s.taken

abbrev pub failures_of : Store → ℕ
failures_of s = s.failed

-- how many bytes of a piece it takes: as many as it has room for, and no more than it takes in a call
abbrev pub count_taken : Store → List ℕ → ℕ
count_taken s piece = min (length piece) (min s.piece (s.room - length s.taken))

-- the sink after a call that took these bytes
abbrev pub after_taking : Store → List ℕ → Store
after_taking s bytes = record s { taken = s.taken ++ bytes; next = number_after s.next }

-- the sink after a call that failed: its count of failures stands at the last value of a u64
abbrev pub after_failed_write : Store → Store
after_failed_write s = record s {
  next = number_after s.next;
  failed = min (s.failed + 1) (2 ^ 64 - 1);
}

-- A source that never fails.
pub record SteadyFeed : Type 0 where
  pub left : List ℕ
  pub piece : ℕ

-- A sink that never fails: the bytes that it has kept, and whether it has dropped any.
pub record SteadyStore : Type 0 where
  pub kept : List ℕ
  pub room : ℕ
  pub piece : ℕ
  pub dropped : Bool

-- Once it has dropped a byte it tells none.
abbrev pub kept_bytes : SteadyStore → Option (List ℕ)
kept_bytes s = if s.dropped then None else Some s.kept

-- It has kept so many bytes of a piece: as many as it has room for, and no more than it takes in a call.
abbrev pub Keeps : SteadyStore → SteadyStore → List ℕ → ℕ → Type 0
Keeps old new piece count = (count ≡ min (length piece) (min old.piece (old.room - length old.kept)))
    × (new ≡ record old { kept = old.kept ++ take count piece })

-- It has dropped so many bytes of a piece, no more than it takes in a call.
abbrev pub Drops : SteadyStore → SteadyStore → List ℕ → ℕ → Type 0
Drops old new piece count = (count ≡ min (length piece) old.piece)
    × (new ≡ record old { dropped = old.dropped || nat_lt 0 count })
