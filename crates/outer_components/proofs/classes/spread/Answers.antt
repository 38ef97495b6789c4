use Rattle.std.proofs.Common.{◌≡◌, ◌∙◌, length}
use Rattle.std.proofs.lemmas.List.{map-id}
use Rattle.id_groups.specs.Groups.{group}
use Rattle.outer_components.specs.Classes.{AreReached}
use Rattle.outer_components.proofs.ClassLemmas.{firsts_in, seconds_in, spreads_on, touched_both}
use Rattle.outer_components.proofs.classes.spread.Goals as goal

pub reach_all-requires-clause-ends : goal.reach_all-requires-clause-ends
reach_all-requires-clause-ends c =
    let e = c.requires.ends in
    let listed : c.of.result.now ≡ group c.args.ends.now.by_first c.args.label = rw map-id at c.of.ensures in
    seconds_in c.args.ends.now.contacts.now c.args.label (length c.args.numbers.now) c.args.ends.now.by_first c.of.result.now c.as_slice-seconds.result.now e.ends c.requires.label e.by_first listed c.as_slice-seconds.ensures.value c.requires.long

pub reach_all-requires-2-clause-ends : goal.reach_all-requires-2-clause-ends
reach_all-requires-2-clause-ends c =
    let e = c.requires.ends in
    let listed : c.of-2.result.now ≡ group c.args.ends.now.by_second c.args.label = rw map-id at c.of-2.ensures in
    firsts_in c.args.ends.now.contacts.now c.args.label (length c.reach_all.new.numbers) c.args.ends.now.by_second c.of-2.result.now c.as_slice-firsts.result.now e.ends c.requires.label e.by_second listed c.as_slice-firsts.ensures.value (c.in_ok-reach_all.ensures.spreads.long ∙ c.requires.long)

pub returns-clause-spreads : goal.returns-clause-spreads
returns-clause-spreads c = spreads_on c.args.number c.requires.number c.args.numbers.now c.reach_all.new.numbers c.reach_all-2.new.numbers c.args.stack.now.items c.reach_all.new.stack.items c.reach_all-2.new.stack.items c.in_ok-reach_all.ensures.spreads c.in_ok-reach_all-2.ensures.spreads

pub returns-clause-touched : goal.returns-clause-touched
returns-clause-touched c =
    let e = c.requires.ends in
    let by_first = c.args.ends.now.by_first in
    let by_second = c.args.ends.now.by_second in
    let firsts = c.args.ends.now.contacts.now.firsts.items in
    let seconds = c.args.ends.now.contacts.now.seconds.items in
    let listed : c.of.result.now ≡ group c.args.ends.now.by_first c.args.label = rw map-id at c.of.ensures in
    let listed2 : c.of-2.result.now ≡ group c.args.ends.now.by_second c.args.label = rw map-id at c.of-2.ensures in
    let a : AreReached (group c.args.ends.now.by_first c.args.label) c.args.ends.now.contacts.now.seconds.items (length (group c.args.ends.now.by_first c.args.label)) c.args.numbers.now c.reach_all.new.numbers = rw (listed, c.as_slice-seconds.ensures.value) at c.in_ok-reach_all.ensures.reached in
    let b : AreReached (group c.args.ends.now.by_second c.args.label) c.args.ends.now.contacts.now.firsts.items (length (group c.args.ends.now.by_second c.args.label)) c.reach_all.new.numbers c.reach_all-2.new.numbers = rw (listed2, c.as_slice-firsts.ensures.value) at c.in_ok-reach_all-2.ensures.reached in
    touched_both c.args.number c.requires.number c.args.numbers.now c.reach_all.new.numbers c.reach_all-2.new.numbers c.args.stack.now.items c.reach_all.new.stack.items c.reach_all-2.new.stack.items c.in_ok-reach_all.ensures.spreads c.in_ok-reach_all-2.ensures.spreads c.args.ends.now.contacts.now c.args.label by_first by_second e.ends c.requires.label e.by_first e.by_second a b
