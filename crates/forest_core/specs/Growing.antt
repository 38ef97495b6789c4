-- Forests that go on from others.
use Rattle.bip_defs.specs.Forest.{State}
use Rattle.forest_core.specs.Events.{Grows, LeadsTo}

-- whatever grew to s grows to t
abbrev pub GrowsOn : State → State → Type 0
GrowsOn s t = (r : State) → Grows r s → Grows r t

-- whatever leads to s leads to t
abbrev pub LeadsOn : State → State → Type 0
LeadsOn s t = (r : State) → LeadsTo r s → LeadsTo r t
