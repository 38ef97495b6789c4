use Rattle.std.proofs.Common.{arith, ap, rules, ◌≡◌, ◌<◌, ◌+ℤ◌, ◌∙◌, ℤ, length, get_or, FitsSigned, pos, Vec, Global}
use Rattle.std.specs.Int.{w64, w128}
use Rattle.std.proofs.lemmas.List.{get_or_default}
use Rattle.std.proofs.lemmas.Int.{to_z-of_z}
use Rattle.sp_pattern.proofs.SumLemmas.{so_far_next, so_far_same, so_far_start, sum_fits}
use Rattle.sp_pattern.proofs.Weighed.{position_fits}
use Rattle.sp_pattern.proofs.sums.sums_of.Goals as goal
use Rattle.sp_pattern.proofs.sums.sums_of.Goals.{in-Some, in-None}

pub loop-k-init : goal.loop-k-init
loop-k-init c = rw (c.in_ok-sums.ensures, c.entries.ensures) (so_far_start c.args.triples.now c.args.pattern.now)

pub index-requires : goal.index-requires
index-requires c =
    let there = c.in-Some.ensures.some in
    let within = position_fits c.args.pattern.now c.place-row.result.0 c.place-row.result.1 there.0 in
    let long = c.loop-k.invariant.sums_are.long in
    let ok = c.loop-k.sums.ok in
    omega (arith, there.1, within, long, ok)

pub index_mut-requires : goal.index_mut-requires
index_mut-requires c =
    let there = c.in-Some.ensures.some in
    let within = position_fits c.args.pattern.now c.place-row.result.0 c.place-row.result.1 there.0 in
    let long = c.loop-k.invariant.sums_are.long in
    let ok = c.loop-k.sums.ok in
    omega (arith, there.1, within, long, ok)

pub added-requires : goal.added-requires
added-requires c =
    let there = c.in-Some.ensures.some in
    let within = position_fits c.args.pattern.now c.place-row.result.0 c.place-row.result.1 there.0 in
    let few : c.loop-k.k < 4294967296 = let n = c.len-k-end.type_inv in let t = c.loop-k-test.true in omega (arith, n, t) in
    let read : c.index.result.now ≡ get_or c.loop-k.sums.items c.in-Some.at (pos 0) = c.index.ensures ∙ get_or_default c.loop-k.sums.items c.in-Some.at c.index.result.now (pos 0) (let long = c.loop-k.invariant.sums_are.long in omega (arith, there.1, within, long)) in
    let narrow : FitsSigned w64 c.value.result = search rules in
    let wide : FitsSigned w128 c.index.result.now = search rules in
    let sum = sum_fits c.args.triples.now c.args.pattern.now c.loop-k.k c.loop-k.sums.items c.in-Some.at c.value.result c.index.result.now c.loop-k.invariant few narrow read in
    rw (to_z-of_z w128 c.index.result.now wide, to_z-of_z w64 c.value.result narrow) sum

pub loop-k-preserved : goal.loop-k-preserved
loop-k-preserved c =
    let lt : c.loop-k.k < length c.args.triples.now.items = let n = c.len-k-end.ensures in let t = c.loop-k-test.true in omega (arith, n, t) in
    let few : c.loop-k.k < 4294967296 = let n = c.len-k-end.type_inv in let t = c.loop-k-test.true in omega (arith, n, t) in
    elim c.match-find_near.branch [
      | in-Some w ↦
          let there = w.in-Some.ensures.some in
          let within = position_fits c.args.pattern.now c.place-row.result.0 c.place-row.result.1 there.0 in
          let read : w.index.result.now ≡ get_or c.loop-k.sums.items w.in-Some.at (pos 0) = w.index.ensures ∙ get_or_default c.loop-k.sums.items w.in-Some.at w.index.result.now (pos 0) (let long = c.loop-k.invariant.sums_are.long in omega (arith, there.1, within, long)) in
          let narrow : FitsSigned w64 w.value.result = search rules in
          let wide : FitsSigned w128 w.index.result.now = search rules in
          let sum = sum_fits c.args.triples.now c.args.pattern.now c.loop-k.k c.loop-k.sums.items w.in-Some.at w.value.result w.index.result.now c.loop-k.invariant few narrow read in
          let added : w.added.result ≡ w.index.result.now +ℤ w.value.result = rw (to_z-of_z w128 w.index.result.now wide, to_z-of_z w64 w.value.result narrow) at w.added.ensures in
          let made : FitsSigned w128 w.added.result = rw added sum in
          rw (ap (λ (v : Vec ℤ Global). v.items) w.sums-is, to_z-of_z w128 w.added.result made)
          (so_far_next c.args.triples.now c.args.pattern.now c.loop-k.k c.loop-k.sums.items w.in-Some.at c.place-row.result w.value.result w.index.result.now w.added.result (λ d. (c.is_pattern.ensures.columns d).rising) there.0 c.loop-k.invariant lt
          c.place-row.ensures.place w.value.ensures narrow there.1 read added)
      | in-None w ↦
          rw (ap (λ (v : Vec ℤ Global). v.items) w.sums-is)
          (so_far_same c.args.triples.now c.args.pattern.now c.loop-k.k c.loop-k.sums.items c.place-row.result w.in-None.ensures.none c.loop-k.invariant lt c.place-row.ensures.place)
    ]

pub overflow_add-next : goal.overflow_add-next
overflow_add-next c =
    let there = c.in-Some.ensures.some in
    let within = position_fits c.args.pattern.now c.place-row.result.0 c.place-row.result.1 there.0 in
    let few = c.is_pattern.ensures.few_entries in
    omega (arith, there.1, within, few)
