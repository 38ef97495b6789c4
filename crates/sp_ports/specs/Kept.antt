-- What holds of the fields of the devices in memory.
use Rattle.std.specs.Prelude.{ℕ, List, ◌<◌, ◌≤◌, ◌+◌, ◌^◌, length, nat_le}
use Rattle.std.specs.List.{count_by}
use Rattle.std.specs.Vec.{vec_capacity}
use Rattle.sp_ports.specs.declared.sources.MemSource.TheInside.{Inside as FeedInside}
use Rattle.sp_ports.specs.declared.sinks.MemSink.TheInside.{Inside as StoreInside}
use Rattle.sp_ports.specs.declared.sinks.SteadySink.TheInside.{Inside as SteadyInside}

-- how many of the listed calls have this number or a later one
abbrev pub still_to_fail : List ℕ → ℕ → ℕ
still_to_fail failing next = count_by (λ n. nat_le next n) failing

-- The source's place is among its bytes, and it has failed no more often than the list says.
pub record IsFeed (s : FeedInside) : Type 0 where
  pub at : s.at ≤ length s.bytes.items
  pub piece : 0 < s.piece
  pub few : length s.calls.failing < 2 ^ 63
  pub failed : s.failed + still_to_fail s.calls.failing s.calls.next ≤ length s.calls.failing

-- The bytes that a sink has room for fit the memory that it has.
pub record IsStore (s : StoreInside) : Type 0 where
  pub taken : length s.kept.items ≤ s.room
  pub room : s.room ≤ vec_capacity s.kept
  pub piece : 0 < s.piece

pub record IsSteadyStore (s : SteadyInside) : Type 0 where
  pub taken : length s.kept.items ≤ s.room
  pub room : s.room ≤ vec_capacity s.kept
  pub piece : 0 < s.piece
