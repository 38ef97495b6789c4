-- How a matching comes out of a phase.
use Rattle.std.specs.Prelude.{◌≡◌, ◌⊎◌, ◌<◌, length}
use Rattle.bip_defs.specs.Matching.{IsMaximum}
use Rattle.bip_defs.specs.Matrix.{Matrix}
use Rattle.bip_graph.specs.Matching.{Pairing}

-- it has grown; else it is as it was before, and was maximum
abbrev pub GrowsUnlessMaximum : Matrix → Pairing → Pairing → Type 0
GrowsUnlessMaximum a before after = ((after ≡ before) × IsMaximum a before.pairs)
    ⊎ (length before.pairs < length after.pairs)
