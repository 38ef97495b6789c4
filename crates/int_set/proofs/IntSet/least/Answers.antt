use Rattle.std.proofs.Common.{◌-◌, arith}
use Rattle.int_set.proofs.Views.{least_view, rising_view, IsLeastMember}
use Rattle.int_set.proofs.IntSet.least.Goals as goal
use Rattle.int_set.proofs.Members.{no_members}

-- the result, as a member
found : (c : goal.After-row_known-1) → IsLeastMember c.args.self.now (c.least_bit-bit.result - c.self.inside.first)
found c = least_view _ _ _ _ _ _ _ c.self.view_is c.as_slice-words.ensures.value c.self.invariant c.least_bit-bit.ensures.set c.least_bit-bit.ensures.lowest c.least_bit-bit.ensures.least

pub returns-then-words-eq0-clause-none : goal.returns-then-words-eq0-clause-none
returns-then-words-eq0-clause-none c = rw (← c.self.view_is) (no_members _ _ _ c.self.invariant.tree (rw c.as_slice-words.ensures.value at c.if-words-eq0.true))

pub returns-then-words-eq0-clause-rising : goal.returns-then-words-eq0-clause-rising
returns-then-words-eq0-clause-rising c = rising_view _ _ _ _ c.self.view_is

pub overflow_cast-result : goal.overflow_cast-result
overflow_cast-result c = omega (arith, (found c).small)

pub returns-clause-least : goal.returns-clause-least
returns-clause-least c = (found c).least

pub returns-clause-in_range : goal.returns-clause-in_range
returns-clause-in_range c = (found c).in_range

pub returns-clause-rising : goal.returns-clause-rising
returns-clause-rising c = rising_view _ _ _ _ c.self.view_is
