use Rattle.std.proofs.Common.{◌<◌, ◌∙◌, Some, ap, arith, length, rules, set, subst, sym, ℕ}
use Rattle.bip_defs.specs.Matrix.{cols}
use Rattle.sp_ids.specs.declared.events.Event.TheVariants.{Win}
use Rattle.forest_core.specs.Events.{IsLegal}
use Rattle.forest_core.specs.Inside.{state_of, tables_of}
use Rattle.bip_defs.specs.Forest.{State}
use Rattle.forest_core.proofs.AdoptedMatchings.{adopted_win}
use Rattle.forest_core.proofs.RunLemmas.{win_grows_at}
use Rattle.forest_core.proofs.StoredForests.{claim_in_range, root_in_range, stored_win_at, win_room}
use Rattle.forest_core.proofs.forest.Forest.win.Goals as goal

pub write-requires-clause-within : goal.write-requires-clause-within
write-requires-clause-within c =
    let legal = subst (λ (s : State). IsLegal s (Win c.args.root c.args.leaf)) (sym c.self.view_is) c.requires in
    let lt : c.args.root < cols (state_of c.self.inside).matrix = root_in_range (state_of c.self.inside) c.self.invariant.0.sound c.args.root c.args.leaf legal.3 in
    omega (arith, lt, c.self.invariant.0.leaves_long, c.number.ensures)

pub write-requires-clause-value : goal.write-requires-clause-value
write-requires-clause-value c =
    let legal = subst (λ (s : State). IsLegal s (Win c.args.root c.args.leaf)) (sym c.self.view_is) c.requires in
    let lt : c.args.leaf < (state_of c.self.inside).matrix.rows = (claim_in_range (state_of c.self.inside) c.self.invariant.0.sound c.args.leaf legal.3.0 legal.3.1).0 in
    omega (arith, lt, c.self.invariant.1.few.0, c.number-2.ensures)

pub push_reserved-requires : goal.push_reserved-requires
push_reserved-requires c =
    let legal = subst (λ (s : State). IsLegal s (Win c.args.root c.args.leaf)) (sym c.self.view_is) c.requires in
    let lt : length c.self.inside.leaves.items < cols (state_of c.self.inside).matrix = win_room (state_of c.self.inside) c.args.root c.args.leaf c.self.invariant.0.sound legal in
    let room = c.self.invariant.1.leaves in
    search rules

pub invariant_of-self : goal.invariant_of-self
invariant_of-self c =
    let legal = subst (λ (s : State). IsLegal s (Win c.args.root c.args.leaf)) (sym c.self.view_is) c.requires in
    let room = c.self.invariant.1 in
    let stored = stored_win_at (state_of c.self.inside) _ (tables_of c.self.inside) _ c.args.root c.args.leaf _ c.self.invariant.0 legal c.push_reserved.ensures.items
    (c.write.ensures ∙ ap (λ (i : ℕ). set c.self.inside.leaf_of i (Some c.number-2.result)) c.number.ensures ∙ ap (λ (x : ℕ). set c.self.inside.leaf_of c.args.root (Some x)) c.number-2.ensures) in (
      stored,
      record { claims = room.claims; claim_roots = room.claim_roots; path = room.path; leaves = (let le = room.leaves in let more = c.push_reserved.ensures.capacity in omega (arith, le, more)); flipped = room.flipped; few = room.few },
      adopted_win (state_of c.self.inside) _ (c.args.root, c.args.leaf) c.self.inside.adopted c.self.invariant.0.sound stored.sound c.push_reserved.ensures.items c.self.invariant.2,
    )

pub returns-clause-grows : goal.returns-clause-grows
returns-clause-grows c = win_grows_at (state_of c.self.inside) c.args.self.now c.args.root c.args.leaf _ c.self.view_is c.push_reserved.ensures.items c.requires
