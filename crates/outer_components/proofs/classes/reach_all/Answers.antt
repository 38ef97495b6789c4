use Rattle.std.proofs.Common.{◌∙◌, refl, subst, sym}
use Rattle.bip_defs.specs.Lists.{Among}
use Rattle.bip_defs.proofs.Slices.{read_among, read_at}
use Rattle.outer_components.proofs.ClassLemmas.{reached_more, reached_start, spreads_on, spreads_same}
use Rattle.outer_components.proofs.classes.reach_all.Goals as goal

pub loop-at-init : goal.loop-at-init
loop-at-init c = (spreads_same c.args.number c.args.numbers.now c.args.stack.now.items, reached_start c.args.contacts.now c.args.ends.now c.args.numbers.now)

pub bounds-ends-contact : goal.bounds-ends-contact
bounds-ends-contact c = (c.requires.ends c.number-contact.result (subst (λ z. Among z c.args.contacts.now) (sym c.number-contact.ensures) (read_among c.index-contacts-at.result c.args.contacts.now c.loop-at.at c.loop-at-test.true c.index-contacts-at.is))).0

pub reach-requires-clause-label : goal.reach-requires-clause-label
reach-requires-clause-label c =
    let low = (c.requires.ends c.number-contact.result (subst (λ z. Among z c.args.contacts.now) (sym c.number-contact.ensures) (read_among c.index-contacts-at.result c.args.contacts.now c.loop-at.at c.loop-at-test.true c.index-contacts-at.is))).1 in
    rw c.loop-at.invariant.0.long low

pub loop-at-preserved : goal.loop-at-preserved
loop-at-preserved c =
    let x = c.loop-at.invariant.0 in
    let y = c.in_ok-reach.ensures.spreads in
    let on = subst (λ z. Among z c.args.contacts.now) (sym c.number-contact.ensures) (read_among c.index-contacts-at.result c.args.contacts.now c.loop-at.at c.loop-at-test.true c.index-contacts-at.is) in
    let is = c.number-contact.ensures ∙ read_at c.index-contacts-at.result 0 c.args.contacts.now c.loop-at.at c.loop-at-test.true c.index-contacts-at.is in (
      spreads_on c.args.number c.requires.number c.args.numbers.now c.loop-at.numbers c.reach.new.numbers c.args.stack.now.items c.loop-at.stack.items c.reach.new.stack.items x y,
      reached_more c.args.number c.requires.number c.args.numbers.now c.loop-at.numbers c.reach.new.numbers c.args.stack.now.items c.loop-at.stack.items c.reach.new.stack.items x y c.args.contacts.now c.args.ends.now c.loop-at.at c.number-contact.result _ c.loop-at.invariant.1 c.in_ok-reach.ensures.touched on is refl,
    )
