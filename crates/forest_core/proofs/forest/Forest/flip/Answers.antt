use Rattle.std.proofs.Common.{ℕ, ◌<◌, ap, arith, set, true, length, rules, subst, sym}
use Rattle.bip_defs.specs.Matrix.{cols}
use Rattle.sp_ids.specs.declared.events.Event.TheVariants.{Flip}
use Rattle.forest_core.specs.Events.{IsLegal}
use Rattle.forest_core.specs.Inside.{state_of, tables_of}
use Rattle.bip_defs.specs.Forest.{State}
use Rattle.forest_core.proofs.AdoptedMatchings.{adopted_flip}
use Rattle.forest_core.proofs.StoredForests.{flip_room, root_with_leaf, stored_flip_at}
use Rattle.forest_core.proofs.forest.Forest.flip.Goals as goal

pub index_mut-requires : goal.index_mut-requires
index_mut-requires c =
    let legal = subst (λ (s : State). IsLegal s (Flip c.args.root)) (sym c.self.view_is) c.requires in
    let lt : c.args.root < cols (state_of c.self.inside).matrix = root_with_leaf (state_of c.self.inside) c.args.root c.self.invariant.0.sound legal.0 in
    let long = c.self.invariant.0.marks_long in
    let e = c.number.ensures in
    search rules

pub push_reserved-requires : goal.push_reserved-requires
push_reserved-requires c =
    let legal = subst (λ (s : State). IsLegal s (Flip c.args.root)) (sym c.self.view_is) c.requires in
    let lt : length c.self.inside.flipped.items < cols (state_of c.self.inside).matrix = flip_room (state_of c.self.inside) c.args.root c.self.invariant.0.sound legal in
    let room = c.self.invariant.1.flipped in
    search rules

pub invariant_of-self : goal.invariant_of-self
invariant_of-self c =
    let legal = subst (λ (s : State). IsLegal s (Flip c.args.root)) (sym c.self.view_is) c.requires in
    let room = c.self.invariant.1 in (
      stored_flip_at (state_of c.self.inside) _ (tables_of c.self.inside) _ c.args.root _ c.self.invariant.0 legal c.push_reserved.ensures.items (ap (λ (i : ℕ). set c.self.inside.marks.items i true) c.number.ensures),
      record { claims = room.claims; claim_roots = room.claim_roots; path = room.path; leaves = room.leaves; flipped = (let le = room.flipped in let more = c.push_reserved.ensures.capacity in omega (arith, le, more)); few = room.few },
      adopted_flip (state_of c.self.inside) _ c.args.root c.self.inside.adopted c.push_reserved.ensures.items c.self.invariant.2,
    )
