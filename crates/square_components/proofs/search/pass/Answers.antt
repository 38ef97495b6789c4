use Rattle.std.proofs.Common.{◌≡◌, ◌≢◌, ◌∙◌, ◌<◌, get_or, length, arith, ap, sym, subst, rules}
use Rattle.std.proofs.lemmas.List.{get_or_default}
use Rattle.bip_defs.specs.Lists.{Among}
use Rattle.bip_defs.proofs.Sets.{among_at}
use Rattle.bip_graph.specs.Matching.{none}
use Rattle.square_components.specs.Numbers.{look}
use Rattle.square_components.specs.Steps.{AreBelow, begin, more}
use Rattle.square_components.proofs.Changes.{below_all, last_most}
use Rattle.square_components.proofs.search.pass.Goals as goal
use Rattle.square_components.proofs.search.pass.Goals.{then-met-last, else-met-last}

pub loop-at-init : goal.loop-at-init
loop-at-init g c = record {
  passes = begin;
  rising = c.requires.starts;
  first = c.requires.first;
  last = search rules;
  capacity = omega arith;
}

pub bounds-state-at : goal.bounds-state-at
bounds-state-at g c =
    let numbers = g.N.NumberList.numbers c.args.list in
    let within : c.loop-at.at < length numbers = omega (arith, c.loop-at-test.true, c.len-at-end.ensures) in
    c.requires.rows c.at.result (subst (λ x. Among x numbers) (sym c.at.ensures) (among_at numbers c.loop-at.at 0 within))

pub offset_bounds-state-at : goal.offset_bounds-state-at
offset_bounds-state-at g c =
    let numbers = g.N.NumberList.numbers c.args.list in
    let within : c.loop-at.at < length numbers = omega (arith, c.loop-at-test.true, c.len-at-end.ensures) in
    let inside : c.at.result < length c.args.state.now = c.requires.rows c.at.result (subst (λ x. Among x numbers) (sym c.at.ensures) (among_at numbers c.loop-at.at 0 within)) in
    search rules

pub returns-then-met-eq0-clause-stops : goal.returns-then-met-eq0-clause-stops
returns-then-met-eq0-clause-stops g c =
    let numbers = g.N.NumberList.numbers c.args.list in
    let within : c.loop-at.at < length numbers = omega (arith, c.loop-at-test.true, c.len-at-end.ensures) in
    let inside : c.at.result < length c.args.state.now = c.requires.rows c.at.result (subst (λ x. Among x numbers) (sym c.at.ensures) (among_at numbers c.loop-at.at 0 within)) in
    record {
      within = omega (arith, within);
      fresh = λ lt. ap (look c.args.state.now) (sym c.at.ensures) ∙ (sym (get_or_default c.args.state.now c.at.result 0 none inside) ∙ c.if-met-eq0.true);
    }

pub loop-at-preserved : goal.loop-at-preserved
loop-at-preserved g c =
    let numbers = g.N.NumberList.numbers c.args.list in
    let k = c.loop-at.invariant in
    let within : c.loop-at.at < length numbers = omega (arith, c.loop-at-test.true, c.len-at-end.ensures) in
    let inside : c.at.result < length c.args.state.now = c.requires.rows c.at.result (subst (λ x. Among x numbers) (sym c.at.ensures) (among_at numbers c.loop-at.at 0 within)) in
    let read : look c.args.state.now (get_or numbers c.loop-at.at 0) ≡ get_or c.args.state.now c.at.result 0 = ap (look c.args.state.now) (sym c.at.ensures) ∙ sym (get_or_default c.args.state.now c.at.result 0 none inside) in
    let met : look c.args.state.now (get_or numbers c.loop-at.at 0) ≢ 0 = λ z. c.if-met-eq0.false (sym read ∙ z) in
    elim c.if-met-last.branch [
      | then-met-last w ↦
          let below = subst (λ x. AreBelow x c.loop-at.starts.items w.drop_from-last.new.starts.items) (sym read) w.drop_from-last.ensures.starts in
          rw (w.starts-is, w.last-is) (record {
            passes = more k.passes within met below;
            rising = w.drop_from-last.ensures.starts.rising;
            first = w.drop_from-last.ensures.starts.kept 0 k.first (omega (arith, c.if-met-eq0.false));
            last = w.drop_from-last.ensures.last;
            capacity = omega (arith, k.capacity, w.drop_from-last.ensures.capacity);
          })
      | else-met-last w ↦
          let below : AreBelow (look c.args.state.now (get_or numbers c.loop-at.at 0)) c.loop-at.starts.items c.loop-at.starts.items = below_all _ _ k.rising (λ b h. let le = last_most c.loop-at.starts.items c.loop-at.last b k.rising k.last h in let no = w.if-met-last.false in omega (arith, read, le, no)) in
          rw (w.starts-is, w.last-is) (record {
            passes = more k.passes within met below;
            rising = k.rising;
            first = k.first;
            last = k.last;
            capacity = k.capacity;
          })
    ]
