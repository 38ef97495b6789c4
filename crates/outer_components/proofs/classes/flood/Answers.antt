use Rattle.std.proofs.Common.{◌≡◌, ◌∷◌, [], inl, refl, subst, sym}
use Rattle.bip_defs.specs.Lists.{Among}
use Rattle.bip_defs.proofs.Sets.{among_right}
use Rattle.outer_components.proofs.ClassLemmas.{flooding_more, flooding_start}
use Rattle.outer_components.proofs.classes.flood.Goals as goal

pub loop-next-init : goal.loop-next-init
loop-next-init c =
    let pushed : c.push.new.self.items ≡ c.args.label ∷ [] = rw c.requires.empty at c.in_ok-push.ensures.items in
    rw pushed (flooding_start c.args.ends.now.contacts.now c.args.label c.args.number c.args.numbers.now c.requires.ends.ends c.requires.label c.requires.long c.requires.number c.requires.fresh c.requires.closed)

pub spread-requires-clause-label : goal.spread-requires-clause-label
spread-requires-clause-label c = (c.loop-next.invariant.stacked c.in-Some.next (subst (Among c.in-Some.next) (sym c.in-Some.ensures.items) (among_right c.in-Some.next c.pop.new.self.items (c.in-Some.next ∷ []) (inl refl)))).0

pub loop-next-preserved : goal.loop-next-preserved
loop-next-preserved c = flooding_more c.args.ends.now.contacts.now c.args.label c.args.number c.in-Some.next c.args.numbers.now c.loop-next.numbers c.spread.new.numbers c.pop.new.self.items c.loop-next.stack.items c.spread.new.stack.items c.requires.ends.ends c.requires.closed c.loop-next.invariant c.in-Some.ensures.items c.in_ok-spread.ensures.spreads c.in_ok-spread.ensures.touched
