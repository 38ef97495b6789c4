use Rattle.std.proofs.Common.{◌≡◌, ℕ, ◌+◌, ◌<◌, length, slice_index, refl, sym, subst, arith}
use Rattle.std.proofs.lemmas.List.{get_or_read}
use Rattle.bip_defs.specs.Lists.{Among}
use Rattle.bip_defs.specs.Matching.{cols_of}
use Rattle.bip_defs.specs.Matrix.{Place}
use Rattle.bip_graph.specs.Matching.{Pairing}
use Rattle.integer_diagonal.proofs.RaisedDuals.{PricesRise, all_raised, dual_next, duals_more, price_next, prices_keep, prices_more}
use Rattle.integer_diagonal.proofs.path.raise.Goals.{in-Some, in-None}
use Rattle.integer_diagonal.proofs.path.raise.Goals as goal
use Rattle.bip_defs.specs.Queues.{at}

pub sub-rise-requires : goal.sub-rise-requires
sub-rise-requires g c =
    let k = c.loop-place.place in
    let lt : k < length c.args.queue.now = c.loop-place-test.true in
    let read = get_or_read c.args.depths.now k c.index-depths-place.result (omega (arith, lt, c.requires.lengths)) c.index-depths-place.is 0 in
    let near = c.requires.near k lt in
    let fits = c.requires.duals_fit 0 in
    (omega (arith, read, near), omega (arith, fits))

pub add_assign-requires : goal.add_assign-requires
add_assign-requires g c =
    let i = c.loop-place.invariant in
    let k = c.loop-place.place in
    let col : ℕ = (at c.args.queue.now k).0 in
    let lt : k < length c.args.queue.now = c.loop-place-test.true in
    let inside : col < length c.loop-place.assignment.duals.items = (let range = c.requires.in_range k lt in let long = i.duals.long in omega (arith, range, long)) in
    let read = get_or_read c.loop-place.assignment.duals.items col c.index_mut.result.now inside c.index_mut.ensures.value 0 in
    let was = dual_next _ _ _ k _ _ col c.requires.distinct lt refl i.duals in
    let fits = c.requires.duals_fit col in
    omega (arith, read, was, fits, c.sub-rise.ensures)

pub raise_price-requires-clause-row : goal.raise_price-requires-clause-row
raise_price-requires-clause-row g c =
    let i = c.loop-place.invariant in
    let mate = subst (λ (z : Pairing). Among {X = Place} (c.in-Some.row, (at c.args.queue.now c.loop-place.place).0) z.pairs) i.matching c.in-Some.ensures.found in
    let inside = c.requires.rows_in_range _ _ mate in
    let long = i.prices.long in
    omega (arith, inside, long)

pub raise_price-requires-clause-fits : goal.raise_price-requires-clause-fits
raise_price-requires-clause-fits g c =
    let i = c.loop-place.invariant in
    let mate = subst (λ (z : Pairing). Among {X = Place} (c.in-Some.row, (at c.args.queue.now c.loop-place.place).0) z.pairs) i.matching c.in-Some.ensures.found in
    let was = price_next _ _ _ _ c.loop-place.place _ _ c.in-Some.row _ c.requires.rows_differ c.requires.distinct c.loop-place-test.true refl mate i.prices in
    let fits = c.requires.prices_fit c.in-Some.row in
    omega (arith, was, fits)

pub loop-place-preserved : goal.loop-place-preserved
loop-place-preserved g c =
    let i = c.loop-place.invariant in
    let k = c.loop-place.place in
    let col : ℕ = (at c.args.queue.now k).0 in
    let lt : k < length c.args.queue.now = c.loop-place-test.true in
    let near = c.requires.near k lt in
    let inside : col < length c.loop-place.assignment.duals.items = (let range = c.requires.in_range k lt in let long = i.duals.long in omega (arith, range, long)) in
    let read = get_or_read c.loop-place.assignment.duals.items col c.index_mut.result.now inside c.index_mut.ensures.value 0 in
    let rise : ℕ = c.sub-rise.result in
    let rise_is : rise + slice_index c.args.depths.now k ≡ c.args.distance = (let depth = get_or_read c.args.depths.now k c.index-depths-place.result (omega (arith, lt, c.requires.lengths)) c.index-depths-place.is 0 in omega (arith, near, depth, c.sub-rise.ensures)) in
    let duals = duals_more _ _ _ k _ _ col c.add_assign.new.self c.requires.distinct lt refl inside (omega (arith, rise_is, read, c.add_assign.ensures)) i.duals in
    elim c.match-row_of.branch [
      | in-Some w ↦
          let mate = subst (λ (z : Pairing). Among {X = Place} (w.in-Some.row, col) z.pairs) i.matching w.in-Some.ensures.found in
          let in_rows = c.requires.rows_in_range _ _ mate in
          let long = i.prices.long in
          let prices = prices_more _ _ _ _ k _ _ w.in-Some.row col (slice_index c.loop-place.assignment.prices.items w.in-Some.row + rise) c.requires.rows_differ c.requires.cols_differ c.requires.distinct lt refl mate (omega (arith, in_rows, long)) (omega (arith, rise_is)) near i.prices in
          rw w.assignment-is (record {
            duals = duals;
            prices = subst (λ z. PricesRise c.args.assignment.now.matching.pairs c.args.queue.now c.args.depths.now c.args.distance (k + 1) c.args.assignment.now.prices.items z) (sym w.raise_price.ensures) prices;
            top = i.top;
            matching = i.matching;
          })
      | in-None w ↦
          let free = subst (λ (z : Pairing). ¬ Among col (cols_of z.pairs)) i.matching w.in-None.ensures.none in
          rw w.assignment-is (record { duals = duals; prices = prices_keep _ _ _ _ _ _ _ col refl free i.prices; top = i.top; matching = i.matching })
    ]

pub returns-clause-raised : goal.returns-clause-raised
returns-clause-raised g c = λ w top.
    let i = c.loop-place.invariant in
    let past = c.loop-place-test.false in
    let end = c.loop-place.auto.place-end in
    all_raised w top _ _ _ _ _ _ _ _ c.loop-place.place (omega (arith, past, end)) i.duals i.prices
