use Rattle.std.proofs.Common.{◌≡◌, ◌∙◌, ◌+◌, ap, arith, length, rules, subst}
use Rattle.bip_defs.specs.Lists.{Among}
use Rattle.forest_core.specs.Current.{IsCurrent}
use Rattle.forest_core.specs.Paths.{IsExchanged}
use Rattle.forest_core.specs.Inside.{state_of, tables_of}
use Rattle.bip_defs.specs.Forest.{State}
use Rattle.forest_core.proofs.Currents.{current_grown}
use Rattle.forest_core.proofs.Renewals.{are_cleared, claims_within, exchanged_by, leaves_within, marks_within, stored_rebuild_at, tables_alike}
use Rattle.bip_defs.proofs.Sets.{written_over}
use Rattle.forest_core.proofs.RunLemmas.{current_covers, leads_event}
use Rattle.forest_core.proofs.SettledForests.{rebuilt_rested}
use Rattle.forest_core.specs.Sound.{IsSound}
use Rattle.sp_ids.specs.declared.events.Event.TheVariants.{Rebuild}
use Rattle.forest_core.proofs.forest.Forest.rebuild.Goals as goal

pub clear_claims-requires-clause-rows : goal.clear_claims-requires-clause-rows
clear_claims-requires-clause-rows c = λ r x h. claims_within (state_of c.self.inside) _ (tables_of c.self.inside) c.self.invariant.0 r x (subst (Among (r, x)) c.as_slice-2.ensures.value h)

pub clear_claims-requires-clause-holders : goal.clear_claims-requires-clause-holders
clear_claims-requires-clause-holders c = rw c.as_slice-2.ensures.value c.self.invariant.0.held

pub clear_claims-requires-clause-alike : goal.clear_claims-requires-clause-alike
clear_claims-requires-clause-alike c = tables_alike (state_of c.self.inside) _ (tables_of c.self.inside) c.self.invariant.0

pub clear_leaves-requires-clause-cols : goal.clear_leaves-requires-clause-cols
clear_leaves-requires-clause-cols c = λ x r h.
    let within = leaves_within (state_of c.self.inside) _ (tables_of c.self.inside) c.self.invariant.0 x r (subst (Among (x, r)) c.as_slice-3.ensures.value h) in
    (within.0, rw c.as_mut_slice.ensures.value within.1)

pub clear_leaves-requires-clause-leaf_of : goal.clear_leaves-requires-clause-leaf_of
clear_leaves-requires-clause-leaf_of c = rw c.as_slice-3.ensures.value c.self.invariant.0.won

pub clear_leaves-requires-clause-marks : goal.clear_leaves-requires-clause-marks
clear_leaves-requires-clause-marks c = rw (c.as_mut_slice.ensures.value, c.as_slice-3.ensures.value) (marks_within (state_of c.self.inside) _ (tables_of c.self.inside) c.self.invariant.0)

-- the base matching has become the current one
exchanged : (c : goal.After-clear-4) → IsExchanged (state_of c.self.inside) (state_of c.self.inside).flipped c.exchange.new.base
exchanged c = exchanged_by (state_of c.self.inside) _ _ c.self.inside.adopted (tables_of c.self.inside) _ c.self.invariant.0 c.self.invariant.2 c.as_slice.ensures.value c.exchange.ensures.exchanged

pub invariant_of-self : goal.invariant_of-self
invariant_of-self c =
    let k = c.self.invariant.0 in
    let room = c.self.invariant.1 in
    let long : c.self.inside.marks.len ≡ length c.self.inside.marks.items = search rules in
    let same : length c.clear_leaves.new.marks ≡ length c.self.inside.marks.items = c.clear_leaves.auto.marks ∙ ap length c.as_mut_slice.ensures.value in
    let marks = written_over c.clear_leaves.new.marks c.self.inside.marks.items c.self.inside.marks.len same long in (
      stored_rebuild_at (state_of c.self.inside) _ c.exchange.new.base (tables_of c.self.inside) _ _ _ _ k (exchanged c) (are_cleared (tables_of c.self.inside) _ _ c.clear.ensures.items c.clear-2.ensures.items c.clear_claims.ensures.holders c.clear_claims.ensures.alike c.clear_leaves.ensures.leaf_of (rw marks c.clear_leaves.ensures.marks) c.clear_claims.ensures.long c.clear_leaves.ensures.long (ap length marks ∙ same)) c.clear.ensures.items c.clear-3.ensures.items c.clear-4.ensures.items,
      record {
        claims = (let le = room.claims in let more = c.clear.ensures.capacity in omega (arith, le, more));
        claim_roots = (let le = room.claim_roots in let more = c.clear-2.ensures.capacity in omega (arith, le, more));
        path = (let le = c.exchange.ensures.room in let rows = k.holders_long in omega (arith, le, rows));
        leaves = (let le = room.leaves in let more = c.clear-3.ensures.capacity in omega (arith, le, more));
        flipped = (let le = room.flipped in let more = c.clear-4.ensures.capacity in omega (arith, le, more));
        few = room.few;
      },
      rw c.exchange.ensures.adopted tt,
    )

pub returns-clause-renewed : goal.returns-clause-renewed
returns-clause-renewed c = record {
  matrix = ap (λ (s : State). s.matrix) c.self.view_is;
  base = subst (λ (s : State). IsCurrent s c.exchange.new.base.pairs) c.self.view_is (exchanged c).current;
  leaves = c.clear-3.ensures.items;
  flipped = c.clear-4.ensures.items;
}

pub returns-clause-size : goal.returns-clause-size
returns-clause-size c = subst (λ (s : State). length c.exchange.new.base.pairs ≡ length s.base + length s.flipped) c.self.view_is (current_grown (state_of c.self.inside) _ c.self.invariant.0.sound (exchanged c).current).size

sound : (c : goal.After-clear-4) → IsSound c.args.self.now
sound c = subst IsSound c.self.view_is c.self.invariant.0.sound

pub returns-clause-covered : goal.returns-clause-covered
returns-clause-covered c = current_covers c.args.self.now _ (sound c) (returns-clause-renewed c).base

pub returns-clause-rested : goal.returns-clause-rested
returns-clause-rested c = rebuilt_rested c.args.self.now _ (returns-clause-renewed c, c.clear.ensures.items)

pub returns-clause-leads : goal.returns-clause-leads
returns-clause-leads c = λ r lead. leads_event r c.args.self.now _ Rebuild lead c.requires (returns-clause-renewed c, c.clear.ensures.items)
