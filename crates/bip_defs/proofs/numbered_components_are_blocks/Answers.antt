use Rattle.bip_defs.proofs.Fine.{block_is_component, component_is_block}
use Rattle.bip_defs.proofs.numbered_components_are_blocks.Goals as goal

pub returns : goal.returns
returns c = record { sound = component_is_block; complete = block_is_component }
