use Rattle.std.proofs.Common.{◌≡◌, ◌∙◌, ◌∷◌, ◌<◌, ℕ, List, [], ap, arith, length, length-append, rules, subst, sym, vec_len}
use Rattle.std.specs.BinaryHeap.{heap_items}
use Rattle.std.proofs.lemmas.List.Sorted.{length_permutation}
use Rattle.integer_diagonal.proofs.Levels.{back_more, level_nearest, near_more, none_more, none_nearest}
use Rattle.integer_diagonal.proofs.HeapLemmas.{length_of_both, nearest_first, popped}
use Rattle.integer_diagonal.specs.Nearness.{unwrapped}
use Rattle.integer_diagonal.proofs.frontier.Frontier.pop.Goals as goal

pub returns-then-begins_below-clause-taken : goal.returns-then-begins_below-clause-taken
returns-then-begins_below-clause-taken g c = rw (← c.self.view_is) (back_more _ _ _ _ (popped _ _ _ c.in_ok-nearest.ensures.permutation))

pub returns-then-begins_below-clause-nearest : goal.returns-then-begins_below-clause-nearest
returns-then-begins_below-clause-nearest g c =
    let below = c.begins_below.ensures.below c.if-begins_below.true c.in_ok-nearest.nearest in
    let top : c.in_ok-nearest.nearest.0.0 < c.self.inside.level = subst (λ x. (unwrapped x).0 < c.self.inside.level) (sym c.in_ok-nearest.ensures.top) below in
    rw (← c.self.view_is) (level_nearest _ _ c.self.inside.near.items _ (omega (arith, top)) (nearest_first _ _ (c.in_ok-nearest.ensures.heap_order c.self.invariant).1))

pub returns-in-Some-clause-taken : goal.returns-in-Some-clause-taken
returns-in-Some-clause-taken g c = rw (← c.self.view_is) (near_more _ _ _ _ _ c.in-Some.ensures.items)

pub returns-in-Some-clause-nearest : goal.returns-in-Some-clause-nearest
returns-in-Some-clause-nearest g c = rw (← c.self.view_is) (level_nearest _ _ c.self.inside.near.items _ (omega arith) (c.begins_below.ensures.beyond c.if-begins_below.false c.self.invariant))

pub returns-in_ok-nearest-in-None-clause-taken : goal.returns-in_ok-nearest-in-None-clause-taken
returns-in_ok-nearest-in-None-clause-taken g c =
    let old_long : vec_len c.self.inside.near ≡ length c.self.inside.near.items = search rules in
    let new_long : vec_len c.pop-2.new.self ≡ length c.pop-2.new.self.items = search rules in
    rw (← c.self.view_is) (none_more _ _ c.self.inside.near.items c.pop-2.new.self.items _ _ _ (sym old_long ∙ c.in-None.ensures.cases.0) (sym new_long ∙ c.in-None.ensures.cases.1) (popped _ _ _ c.in_ok-nearest-in-None.ensures.permutation))

pub returns-in_ok-nearest-in-None-clause-nearest : goal.returns-in_ok-nearest-in-None-clause-nearest
returns-in_ok-nearest-in-None-clause-nearest g c =
    let old_long : vec_len c.self.inside.near ≡ length c.self.inside.near.items = search rules in
    rw (← c.self.view_is) (none_nearest _ _ c.self.inside.near.items _ (sym old_long ∙ c.in-None.ensures.cases.0) (nearest_first _ _ (c.in_ok-nearest-in-None.ensures.heap_order c.self.invariant).1))

pub invariant_of-self-then-begins_below : goal.invariant_of-self-then-begins_below
invariant_of-self-then-begins_below g c = (c.in_ok-nearest.ensures.heap_order c.self.invariant).0

pub invariant_of-self-in-Some : goal.invariant_of-self-in-Some
invariant_of-self-in-Some g c = c.self.invariant

pub invariant_of-self-in-None : goal.invariant_of-self-in-None
invariant_of-self-in-None g c = (c.in_ok-nearest-in-None.ensures.heap_order c.self.invariant).0

pub returns-then-begins_below-clause-shorter : goal.returns-then-begins_below-clause-shorter
returns-then-begins_below-clause-shorter g c =
    let s = c.self.inside in
    let new = length_of_both s.level s.near.items (heap_items c.pop.new.self) in
    let old = length_of_both s.level s.near.items (heap_items s.heap) in
    let one = length_permutation _ _ c.in_ok-nearest.ensures.permutation in
    rw (← c.self.view_is) (omega (arith, new, old, one))

pub returns-in-Some-clause-shorter : goal.returns-in-Some-clause-shorter
returns-in-Some-clause-shorter g c =
    let s = c.self.inside in
    let rows = c.pop-2.new.self.items in
    let new = length_of_both s.level rows (heap_items s.heap) in
    let old = length_of_both s.level s.near.items (heap_items s.heap) in
    let one = ap (λ (z : List ℕ). length z) c.in-Some.ensures.items ∙ length-append rows (c.in-Some.row ∷ []) in
    rw (← c.self.view_is) (omega (arith, new, old, one))

pub returns-in_ok-nearest-in-None-clause-shorter : goal.returns-in_ok-nearest-in-None-clause-shorter
returns-in_ok-nearest-in-None-clause-shorter g c =
    let s = c.self.inside in
    let rows = c.pop-2.new.self in
    let new = length_of_both c.in_ok-nearest-in-None.nearest.0.0 rows.items (heap_items c.pop-in-None.new.self) in
    let old = length_of_both s.level s.near.items (heap_items s.heap) in
    let one = length_permutation _ _ c.in_ok-nearest-in-None.ensures.permutation in
    rw (← c.self.view_is) (omega (arith, new, old, one, rows.ok.0, c.in-None.ensures.cases.1))
