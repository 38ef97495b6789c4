-- Devices whose bytes are not known.
use Rattle.std.specs.Prelude.{ℕ, None}
use Rattle.sp_ports.specs.Device.{Device}

-- such a device before a call and after it, by how often it has failed
abbrev pub unknown_device : ℕ → ℕ → Device
unknown_device before now = record {
  before = None;
  after = None;
  failed_before = before;
  failed_after = now;
}
