-- A failure that is counted.
use Rattle.std.proofs.Common.{◌≡◌, ◌≤◌, ◌+◌, ◌-◌, ◌^◌, min, ℕ, Err, arith}
use Rattle.sp_ports.specs.Device.{FailsByWrites}
use Rattle.process_ports.specs.Unknown.{unknown_device}

pub counted_failure : {T E : Type 0} (before now : ℕ) (e : E) → now ≡ min (before + 1) (2 ^ 64 - 1)
    → before ≤ now → FailsByWrites {T = T} {E = E} (unknown_device before now) (Err e)
counted_failure before now e counted grows = record {
  counts = grows;
  steady = tt;
  failed = omega (arith, counted);
}
