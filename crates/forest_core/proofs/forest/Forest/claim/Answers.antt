use Rattle.std.proofs.Common.{◌<◌, ap, arith, length, rules, subst, sym}
use Rattle.bip_defs.specs.Matrix.{cols}
use Rattle.sp_ids.specs.declared.events.Event.TheVariants.{Claim}
use Rattle.forest_core.specs.Events.{IsLegal}
use Rattle.forest_core.specs.Inside.{state_of, tables_of}
use Rattle.bip_defs.specs.Forest.{RootOf, State}
use Rattle.forest_core.proofs.AdoptedMatchings.{adopted_claim}
use Rattle.forest_core.proofs.RunLemmas.{claim_grows_at}
use Rattle.forest_core.proofs.StoredForests.{claim_room, stored_claim_at}
use Rattle.forest_core.proofs.forest.Forest.claim.Goals as goal

pub write-requires-clause-holder : goal.write-requires-clause-holder
write-requires-clause-holder c =
    let lt : c.args.col < cols c.args.self.now.matrix = c.requires.2.0 in
    omega (arith, lt, c.self.invariant.1.few.1, ap (λ (s : State). cols s.matrix) c.self.view_is)

pub push_reserved-requires : goal.push_reserved-requires
push_reserved-requires c =
    let legal = subst (λ (s : State). IsLegal s (Claim c.args.row c.args.col)) (sym c.self.view_is) c.requires in
    let lt : length c.self.inside.claims.items < (state_of c.self.inside).matrix.rows = claim_room (state_of c.self.inside) c.args.row c.args.col c.self.invariant.0.sound legal in
    let room = c.self.invariant.1.claims in
    search rules

pub push_reserved-requires-2 : goal.push_reserved-requires-2
push_reserved-requires-2 c =
    let legal = subst (λ (s : State). IsLegal s (Claim c.args.row c.args.col)) (sym c.self.view_is) c.requires in
    let few : length c.self.inside.claims.items < (state_of c.self.inside).matrix.rows = claim_room (state_of c.self.inside) c.args.row c.args.col c.self.invariant.0.sound legal in
    let lt : length c.self.inside.claim_roots.items < (state_of c.self.inside).matrix.rows = omega (arith, few, c.self.invariant.0.listed.long) in
    let room = c.self.invariant.1.claim_roots in
    search rules

pub invariant_of-self : goal.invariant_of-self
invariant_of-self c =
    let legal = subst (λ (s : State). IsLegal s (Claim c.args.row c.args.col)) (sym c.self.view_is) c.requires in
    let root = subst (λ (s : State). RootOf s.base s.claims c.root-root.result c.args.col) (sym c.self.view_is) c.root-root.ensures.root in
    let long : c.args.row < length c.self.inside.claimed.roots = (let lt = legal.1.0 in let rows = c.self.invariant.0.holders_long in let same = c.write.ensures.long in omega (arith, lt, rows, same)) in
    let room = c.self.invariant.1 in
    let stored = stored_claim_at (state_of c.self.inside) _ (tables_of c.self.inside) _ c.args.row c.args.col c.root-root.result _ _ c.self.invariant.0 long legal root c.push_reserved.ensures.items c.push_reserved-2.ensures.items c.write.ensures.holders c.write.ensures.roots in (
      stored,
      record {
        claims = (let le = room.claims in let more = c.push_reserved.ensures.capacity in omega (arith, le, more));
        claim_roots = (let le = room.claim_roots in let more = c.push_reserved-2.ensures.capacity in omega (arith, le, more));
        path = room.path;
        leaves = room.leaves;
        flipped = room.flipped;
        few = room.few;
      },
      adopted_claim (state_of c.self.inside) _ (c.args.row, c.args.col) c.self.inside.adopted c.self.invariant.0.sound stored.sound c.push_reserved.ensures.items c.self.invariant.2,
    )

pub returns-clause-grows : goal.returns-clause-grows
returns-clause-grows c = claim_grows_at (state_of c.self.inside) c.args.self.now c.args.row c.args.col _ c.self.view_is c.push_reserved.ensures.items c.requires
