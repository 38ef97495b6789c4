use Rattle.std.proofs.Common.{List, ◌≡◌, ◌∙◌, ◌+◌, ap, arith, length, rules, subst, sym, take}
use Rattle.bip_defs.specs.Lists.{Among}
use Rattle.bip_defs.specs.Matrix.{Place}
use Rattle.forest_core.specs.Current.{IsCurrent}
use Rattle.forest_core.specs.Paths.{IsExchanged}
use Rattle.forest_core.specs.Inside.{state_of, tables_of}
use Rattle.forest_core.specs.Kept.{kept}
use Rattle.bip_defs.specs.Forest.{State}
use Rattle.forest_core.specs.Events.{AreKept}
use Rattle.forest_core.proofs.Currents.{current_grown}
use Rattle.forest_core.proofs.Renewals.{claims_within, exchanged_by, kept_stored, leaves_within, marks_within, same_claim_roots, roots_within, stored_graft_at, tables_alike}
use Rattle.forest_core.proofs.Roots.{claims_differ}
use Rattle.bip_defs.proofs.Sets.{written_over}
use Rattle.forest_core.proofs.RunLemmas.{current_covers, leads_event}
use Rattle.forest_core.proofs.SettledForests.{grafted_rested}
use Rattle.forest_core.specs.Sound.{IsSound}
use Rattle.sp_ids.specs.declared.events.Event.TheVariants.{Graft}
use Rattle.forest_core.proofs.forest.Forest.graft.Goals as goal

pub keep-kept-requires : goal.keep-kept-requires
keep-kept-requires c = record {
  rows = λ r x h. claims_within (state_of c.self.inside) _ (tables_of c.self.inside) c.self.invariant.0 r x (subst (Among (r, x)) c.as_mut_slice-claims.ensures.value h);
  roots = rw (c.as_mut_slice-claims.ensures.value, c.as_mut_slice-roots.ensures.value) c.self.invariant.0.listed;
  in_range = λ x h. roots_within (state_of c.self.inside) _ (tables_of c.self.inside) c.self.invariant.0 x (subst (Among x) c.as_mut_slice-roots.ensures.value h);
  differ = rw c.as_mut_slice-claims.ensures.value (claims_differ _ _ _ _ c.self.invariant.0.sound.claims);
  holders = rw c.as_mut_slice-claims.ensures.value c.self.invariant.0.held;
  alike = tables_alike (state_of c.self.inside) _ (tables_of c.self.inside) c.self.invariant.0;
}

pub clear_leaves-requires-clause-cols : goal.clear_leaves-requires-clause-cols
clear_leaves-requires-clause-cols c = λ x r h.
    let within = leaves_within (state_of c.self.inside) _ (tables_of c.self.inside) c.self.invariant.0 x r (subst (Among (x, r)) c.as_slice-2.ensures.value h) in
    (within.0, rw c.as_mut_slice.ensures.value within.1)

pub clear_leaves-requires-clause-leaf_of : goal.clear_leaves-requires-clause-leaf_of
clear_leaves-requires-clause-leaf_of c = rw c.as_slice-2.ensures.value c.self.invariant.0.won

pub clear_leaves-requires-clause-marks : goal.clear_leaves-requires-clause-marks
clear_leaves-requires-clause-marks c = rw (c.as_mut_slice.ensures.value, c.as_slice-2.ensures.value) (marks_within (state_of c.self.inside) _ (tables_of c.self.inside) c.self.invariant.0)

-- the base matching has become the current one
exchanged : (c : goal.After-clear-2) → IsExchanged (state_of c.self.inside) (state_of c.self.inside).flipped c.exchange.new.base
exchanged c = exchanged_by (state_of c.self.inside) _ _ c.self.inside.adopted (tables_of c.self.inside) _ c.self.invariant.0 c.self.invariant.2 c.as_slice.ensures.value c.exchange.ensures.exchanged

-- the claims that are left, and their roots
left : (c : goal.After-clear-2) → c.truncate.new.self.items ≡ take c.keep-kept.result c.keep-kept.new.claims
left c =
    let long : c.self.inside.claims.len ≡ length c.self.inside.claims.items = search rules in
    let same : length c.keep-kept.new.claims ≡ length c.self.inside.claims.items = c.keep-kept.auto.claims ∙ ap length c.as_mut_slice-claims.ensures.value in
    c.truncate.ensures.items ∙ ap (take c.keep-kept.result) (written_over c.keep-kept.new.claims c.self.inside.claims.items c.self.inside.claims.len same long)

left_roots : (c : goal.After-clear-2) → c.truncate-2.new.self.items ≡ take c.keep-kept.result c.keep-kept.new.roots
left_roots c =
    let long : c.self.inside.claim_roots.len ≡ length c.self.inside.claim_roots.items = search rules in
    let same : length c.keep-kept.new.roots ≡ length c.self.inside.claim_roots.items = c.keep-kept.auto.roots ∙ ap length c.as_mut_slice-roots.ensures.value in
    c.truncate-2.ensures.items ∙ ap (take c.keep-kept.result) (written_over c.keep-kept.new.roots c.self.inside.claim_roots.items c.self.inside.claim_roots.len same long)

left_are : (c : goal.After-clear-2) → c.truncate.new.self.items ≡ kept c.self.inside.claimed.roots c.self.inside.leaf_of c.self.inside.claims.items
left_are c = left c ∙ c.keep-kept.ensures.claims ∙ ap (kept c.self.inside.claimed.roots c.self.inside.leaf_of) c.as_mut_slice-claims.ensures.value

pub invariant_of-self : goal.invariant_of-self
invariant_of-self c =
    let k = c.self.invariant.0 in
    let room = c.self.invariant.1 in
    let e = c.keep-kept.ensures in
    let long : c.self.inside.marks.len ≡ length c.self.inside.marks.items = search rules in
    let same : length c.clear_leaves.new.marks ≡ length c.self.inside.marks.items = c.clear_leaves.auto.marks ∙ ap length c.as_mut_slice.ensures.value in
    let marks = written_over c.clear_leaves.new.marks c.self.inside.marks.items c.self.inside.marks.len same long in (
      stored_graft_at (state_of c.self.inside) _ c.exchange.new.base (tables_of c.self.inside) _ _ _ _ k (exchanged c) (record {
        held = rw (left c) e.holders;
        alike = c.keep-kept.ensures.alike;
        same = rw (left c) e.same;
        listed = rw (left c, left_roots c) (same_claim_roots c.self.inside.claimed.roots c.keep-kept.new.claimed.roots _ _ e.roots e.same);
        won = c.clear_leaves.ensures.leaf_of;
        marked = rw marks c.clear_leaves.ensures.marks;
        holders_long = e.long;
        leaves_long = c.clear_leaves.ensures.long;
        marks_long = ap length marks ∙ same;
      }) (left_are c) c.clear.ensures.items c.clear-2.ensures.items,
      record {
        claims = (let le = room.claims in let more = c.truncate.ensures.capacity in omega (arith, le, more));
        claim_roots = (let le = room.claim_roots in let more = c.truncate-2.ensures.capacity in omega (arith, le, more));
        path = (let le = c.exchange.ensures.room in let rows = k.holders_long in omega (arith, le, rows));
        leaves = (let le = room.leaves in let more = c.clear.ensures.capacity in omega (arith, le, more));
        flipped = (let le = room.flipped in let more = c.clear-2.ensures.capacity in omega (arith, le, more));
        few = room.few;
      },
      rw c.exchange.ensures.adopted tt,
    )

pub returns-clause-renewed : goal.returns-clause-renewed
returns-clause-renewed c = record {
  matrix = ap (λ (s : State). s.matrix) c.self.view_is;
  base = subst (λ (s : State). IsCurrent s c.exchange.new.base.pairs) c.self.view_is (exchanged c).current;
  leaves = c.clear.ensures.items;
  flipped = c.clear-2.ensures.items;
}

pub returns-clause-claims : goal.returns-clause-claims
returns-clause-claims c = subst (λ (s : State). AreKept s s.claims c.truncate.new.self.items) c.self.view_is (subst (λ (qs : List Place). AreKept (state_of c.self.inside) c.self.inside.claims.items qs) (sym (left_are c)) (kept_stored (state_of c.self.inside) _ (tables_of c.self.inside) c.self.invariant.0))

pub returns-clause-size : goal.returns-clause-size
returns-clause-size c = subst (λ (s : State). length c.exchange.new.base.pairs ≡ length s.base + length s.flipped) c.self.view_is (current_grown (state_of c.self.inside) _ c.self.invariant.0.sound (exchanged c).current).size

sound : (c : goal.After-clear-2) → IsSound c.args.self.now
sound c = subst IsSound c.self.view_is c.self.invariant.0.sound

pub returns-clause-covered : goal.returns-clause-covered
returns-clause-covered c = current_covers c.args.self.now _ (sound c) (returns-clause-renewed c).base

pub returns-clause-rested : goal.returns-clause-rested
returns-clause-rested c = λ settled. grafted_rested c.args.self.now _ (sound c) settled (returns-clause-renewed c, returns-clause-claims c)

pub returns-clause-leads : goal.returns-clause-leads
returns-clause-leads c = λ r lead. leads_event r c.args.self.now _ Graft lead c.requires (returns-clause-renewed c, returns-clause-claims c)
