-- A device, seen before a call and after it.
use Rattle.std.specs.Prelude.{◌≡◌, ◌≤◌, ◌<◌, ◌+◌, ◌-◌, ◌^◌, ◌⊎◌, ℕ, List, Option, None, Some, Result, Ok, Err, OnOk, OnErr, min}
use Rattle.sp_ports.specs.Bytes.{Takes, TakesPrefix}

-- the bytes that it tells, and its count of failures
pub record Device : Type 0 where
  pub before : Option (List ℕ)
  pub after : Option (List ℕ)
  pub failed_before : ℕ
  pub failed_after : ℕ

-- from the words of a source or a sink, and its states
abbrev pub seen : {D : Type 0} → (D → Option (List ℕ)) → (D → ℕ) → D → D → Device
seen bytes faults old new = record {
  before = bytes old;
  after = bytes new;
  failed_before = faults old;
  failed_after = faults new;
}

-- ---- its count of failures

-- its count of failures is as before
abbrev pub IsSteady : Device → Type 0
IsSteady d = d.failed_after ≡ d.failed_before

-- its count of failures has not fallen
abbrev pub CountHasNotFallen : Device → Type 0
CountHasNotFallen d = d.failed_before ≤ d.failed_after

-- the count has grown, or stands where it can grow no more: at the last value of a u64
abbrev pub Rose : ℕ → ℕ → Type 0
Rose before now = min (before + 1) (2 ^ 64 - 1) ≤ now

-- the same of a source: the count of one that tells its bytes has grown
abbrev pub SourceRose : Option (List ℕ) → ℕ → ℕ → Type 0
SourceRose None before now = Rose before now
SourceRose (Some left) before now = before < now

-- a read of it has failed: its count rose
abbrev pub HasReadFault : Device → Type 0
HasReadFault d = SourceRose d.before d.failed_before d.failed_after

-- a write or a flush of it has failed: its count rose
abbrev pub HasWriteFault : Device → Type 0
HasWriteFault d = Rose d.failed_before d.failed_after

-- At Ok its count of failures is as before, and an Err has its cause. The count never falls.
pub record FailsOnly {T E : Type 0} (d : Device) (cause : Type 0)
    (result : Result T E) : Type 0 where
  pub counts : CountHasNotFallen d
  pub steady : OnOk result (IsSteady d)
  pub failed : OnErr result cause

-- a read that failed is the one cause of an Err
abbrev pub FailsByReads : {T E : Type 0} → Device → Result T E → Type 0
FailsByReads d result = FailsOnly d (HasReadFault d) result

-- a write or a flush that failed is the one cause of an Err
abbrev pub FailsByWrites : {T E : Type 0} → Device → Result T E → Type 0
FailsByWrites d result = FailsOnly d (HasWriteFault d) result

-- ---- what came of its bytes

-- it was not used, as far as can be seen
abbrev pub IsUntouched : Device → Type 0
IsUntouched d = (d.after ≡ d.before) × IsSteady d

-- it took the text
pub record Took (d : Device) (text : List ℕ) : Type 0 where
  pub bytes : Takes d.before d.after text
  pub steady : IsSteady d

-- it failed, and took a prefix of the text
pub record TookPrefix (d : Device) (text : List ℕ) : Type 0 where
  pub bytes : TakesPrefix d.before d.after text
  pub counts : CountHasNotFallen d
  pub fault : HasWriteFault d

-- the text was written: all of it at Ok, and at Err as much of it as the device took before it failed
abbrev pub Writes : {T E : Type 0} → Device → List ℕ → Result T E → Type 0
Writes d text (Ok v) = Took d text
Writes d text (Err e) = TookPrefix d text

-- the same, where the outcome is not told
abbrev pub WroteAsFar : Device → List ℕ → Type 0
WroteAsFar d text = Took d text ⊎ TookPrefix d text

-- ---- one call after another

-- the second call begins where the first ends
abbrev pub IsNext : Device → Device → Type 0
IsNext first second = (second.before ≡ first.after) × (second.failed_before ≡ first.failed_after)

-- the device over both calls
abbrev pub both : Device → Device → Device
both first second = record {
  before = first.before;
  after = second.after;
  failed_before = first.failed_before;
  failed_after = second.failed_after;
}
