-- What a text buffer keeps, and what a sink has taken of a text so far.
use Rattle.std.specs.Prelude.{◌≡◌, ℕ, Bool, true, false, List, ◌++◌, Option, Result}
use Rattle.bip_graph.specs.Texts.{TextLine, text_of}
use Rattle.sp_ports.specs.Device.{Device, Took, TookPrefix, Writes}

-- bytes that are still to be handed on, and whether a write has failed since the text began
pub record Buffered : Type 0 where
  pub bytes : List ℕ
  pub failed : Bool

-- a device since it told these bytes and had failed so often
abbrev pub since : Option (List ℕ) → ℕ → Option (List ℕ) → ℕ → Device
since taken faults taken_now faults_now = record {
  before = taken;
  after = taken_now;
  failed_before = faults;
  failed_after = faults_now;
}

-- The sink has taken the text but for what is kept. After a failure it has taken a prefix of it.
abbrev pub HasTaken : Device → List ℕ → List ℕ → Bool → Type 0
HasTaken d text kept false = (piece : List ℕ) × (text ≡ piece ++ kept) × Took d piece
HasTaken d text kept true = TookPrefix d text

-- this is the text so far
pub record Stands (d : Device) (buf : Buffered) (text : List ℕ) : Type 0 where
  pub taken : HasTaken d text buf.bytes buf.failed

-- In a call the text goes on with these bytes, whatever it was and wherever it began.
abbrev pub Appends : Device → Buffered → Buffered → List ℕ → Type 0
Appends d buf after bytes = (taken : Option (List ℕ)) (faults : ℕ) (text : List ℕ)
    → Stands (since taken faults d.before d.failed_before) buf text
    → Stands (since taken faults d.after d.failed_after) after (text ++ bytes)

-- the same of whole lines
pub record AppendsLines (d : Device) (buf after : Buffered) (ls : List TextLine) : Type 0 where
  pub appends : Appends d buf after (text_of ls)

-- In a call the text ends: all of it was written, or a prefix of it where a write failed.
abbrev pub Ends : {T E : Type 0} → Device → Buffered → Result T E → Type 0
Ends d buf result = (taken : Option (List ℕ)) (faults : ℕ) (text : List ℕ)
    → Stands (since taken faults d.before d.failed_before) buf text
    → Writes (since taken faults d.after d.failed_after) text result
