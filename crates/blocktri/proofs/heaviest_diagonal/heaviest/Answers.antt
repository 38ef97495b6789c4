use Rattle.std.proofs.Common.{◌∙◌, ap, inl, inr, length, refl, rules, subst, sym, FitsSigned}
use Rattle.std.specs.Int.{w128}
use Rattle.std.proofs.lemmas.Int.{to_z-of_z}
use Rattle.bip_defs.specs.Matrix.{Matrix, cols}
use Rattle.blocktri.specs.Compressed.{IsRoom}
use Rattle.blocktri.specs.Diagonals.{HasNoWantedPrices, HaveHeaviestLengths}
use Rattle.blocktri.proofs.CompressedLemmas.{given_cols, given_rows}
use Rattle.blocktri.proofs.DiagonalLemmas.{full_fits, refusal_fit, refused_on, sum_written}
use Rattle.blocktri.proofs.heaviest_diagonal.heaviest.Goals as goal

pub write_rows-requires : goal.write_rows-requires
write_rows-requires g c =
    let found = c.in_ok-found.ensures.found in
    let fit = c.if-not-have_lengths.ensures.0 refl in
    rw c.as_slice.ensures.value (full_fits c.args.matrix.now.lists found.weighing.matrix c.in_ok-found.found.pairs.items c.args.row_of_column.now found.compressed found.weights.matrix_is found.holds.heaviest.full fit.rows_are)

pub write_prices-requires-clause-room : goal.write_prices-requires-clause-room
write_prices-requires-clause-room g c =
    let found = c.in_ok-found.ensures.found in
    let fit = c.if-not-have_lengths.ensures.0 refl in
    subst (λ n. IsRoom n c.args.row_prices.now) (sym (ap length c.as_slice-2.ensures.value ∙ found.holds.heaviest.fair.by_row ∙ ap (λ (a : Matrix). a.rows) found.weights.matrix_is ∙ given_rows c.args.matrix.now.lists)) fit.row_prices_are

pub write_prices-requires-clause-narrow : goal.write_prices-requires-clause-narrow
write_prices-requires-clause-narrow g c = λ wanted.
    let found = c.in_ok-found.ensures.found in
    rw c.as_slice-2.ensures.value (found.holds.narrow (c.wants_prices.ensures.1 (inl wanted))).0

pub write_prices-requires-2-clause-room : goal.write_prices-requires-2-clause-room
write_prices-requires-2-clause-room g c =
    let found = c.in_ok-found.ensures.found in
    let fit = c.if-not-have_lengths.ensures.0 refl in
    subst (λ n. IsRoom n c.args.column_prices.now) (sym (ap length c.as_slice-3.ensures.value ∙ found.holds.heaviest.fair.by_col ∙ ap cols found.weights.matrix_is ∙ given_cols c.args.matrix.now.lists)) fit.column_prices_are

pub write_prices-requires-2-clause-narrow : goal.write_prices-requires-2-clause-narrow
write_prices-requires-2-clause-narrow g c = λ wanted.
    let found = c.in_ok-found.ensures.found in
    rw c.as_slice-3.ensures.value (found.holds.narrow (c.wants_prices.ensures.1 (inr wanted))).1

pub returns-clause-found : goal.returns-clause-found
returns-clause-found g c =
    let found = c.in_ok-found.ensures.found in
    let fits : FitsSigned w128 c.in_ok-found.found.sum = search rules in
    record {
      compressed = found.compressed;
      weighing = found.weighing;
      weights = found.weights;
      holds = record {
        pairs = c.in_ok-found.found.pairs.items;
        u = c.in_ok-found.found.row_prices.items;
        v = c.in_ok-found.found.column_prices.items;
        heaviest = sum_written found.weighing c.in_ok-found.found.pairs.items _ _ _ _ (c.words.ensures ∙ to_z-of_z w128 c.in_ok-found.found.sum fits) found.holds.heaviest;
        narrow = λ wants. found.holds.narrow (c.wants_prices.ensures.1 wants);
        rows_are = rw c.as_slice.ensures.value at c.write_rows.ensures;
        row_prices_are = rw c.as_slice-2.ensures.value at c.write_prices.ensures;
        column_prices_are = rw c.as_slice-3.ensures.value at c.write_prices-2.ensures;
      };
    }

pub returns-in_err-found-clause-refused : goal.returns-in_err-found-clause-refused
returns-in_err-found-clause-refused g c =
    let m = c.args.matrix.now in
    refused_on (HaveHeaviestLengths m c.args.row_of_column.now c.args.row_prices.now c.args.column_prices.now) (HasNoWantedPrices c.args.row_prices.now c.args.column_prices.now) m c.from_residual.result c.in_err-found.field-0.0 c.from_residual.ensures.1
    (refusal_fit m c.in_err-found.field-0.0 (c.if-not-have_lengths.ensures.0 refl) (λ w h. (c.wants_prices.ensures.0 h.0, h.1)) c.in_err-found.ensures.refused)
