use Rattle.std.proofs.Common.{◌≡◌, ◌+◌, length, subst}
use Rattle.bip_graph.specs.Matching.{IsMatchingOf}
use Rattle.forest_core.specs.Current.{IsCurrent}
use Rattle.forest_core.specs.Paths.{IsExchanged}
use Rattle.forest_core.specs.Inside.{state_of, tables_of}
use Rattle.bip_defs.specs.Forest.{State}
use Rattle.forest_core.proofs.Currents.{current_grown}
use Rattle.forest_core.proofs.Renewals.{exchanged_by}
use Rattle.bip_defs.specs.Matching.{Covers}
use Rattle.forest_core.proofs.RunLemmas.{current_covers}
use Rattle.forest_core.proofs.forest.Forest.into_matching.Goals as goal

-- the base matching has become the current one
exchanged : (c : goal.After-drop-self-inside-4) → IsExchanged (state_of c.self.inside) (state_of c.self.inside).flipped c.exchange.new.base
exchanged c = exchanged_by (state_of c.self.inside) _ _ c.self.inside.adopted (tables_of c.self.inside) _ c.self.invariant.0 c.self.invariant.2 c.as_slice.ensures.value c.exchange.ensures.exchanged

pub returns-clause-current : goal.returns-clause-current
returns-clause-current c = subst (λ (s : State). IsCurrent s c.exchange.new.base.pairs) c.self.view_is (exchanged c).current

pub returns-clause-matching : goal.returns-clause-matching
returns-clause-matching c = subst (λ (s : State). IsMatchingOf s.matrix c.exchange.new.base) c.self.view_is (exchanged c).matching

pub returns-clause-size : goal.returns-clause-size
returns-clause-size c = subst (λ (s : State). length c.exchange.new.base.pairs ≡ length s.base + length s.flipped) c.self.view_is (current_grown (state_of c.self.inside) _ c.self.invariant.0.sound (exchanged c).current).size

pub returns-clause-covered : goal.returns-clause-covered
returns-clause-covered c = subst (λ (s : State). Covers s.base c.exchange.new.base.pairs) c.self.view_is (current_covers (state_of c.self.inside) _ c.self.invariant.0.sound (exchanged c).current)
