use Rattle.std.proofs.Common.{◌∙◌, ℕ, ◌<◌, sym, arith}
use Rattle.bip_defs.proofs.Sets.{entry_col}
use Rattle.bip_defs.proofs.Transposed.{transpose_cols}
use Rattle.bip_defs.specs.Matrix.{Matrix}
use Rattle.bip_defs.specs.Start.{by_col, IsFree}
use Rattle.karp_sipser.proofs.Choices.{chooses_any, chooses_none, chooses_row, none_before}
use Rattle.karp_sipser.proofs.Prefixes.{known_none}
use Rattle.karp_sipser.proofs.rest.Rest.choose.Goals as goal

pub returns-in-Some-clause-choice : goal.returns-in-Some-clause-choice
returns-in-Some-clause-choice c = by_col c.in-Some.row c.in-Some.col c.in-Some.ensures.taken.least c.in-Some.ensures.taken.only.0

pub returns-in-Some-clause-ones : goal.returns-in-Some-clause-ones
returns-in-Some-clause-ones c = record { of_cols = c.in-Some.ensures.taken.ones; of_rows = λ x ne o. c.requires.ones.of_rows x o }

pub take_of_one-requires-2-clause-sums : goal.take_of_one-requires-2-clause-sums
take_of_one-requires-2-clause-sums c = record {
  rows = c.requires.rest.same_cols;
  cols = c.requires.rest.same_rows ∙ sym (transpose_cols c.args.sides.now.pattern.now);
  sums = c.requires.rest.rows_sums;
}

pub returns-in-Some-take_of_one-clause-choice : goal.returns-in-Some-take_of_one-clause-choice
returns-in-Some-take_of_one-clause-choice c =
    let w = c.in-Some-take_of_one in
    chooses_row c.args.sides.now.pattern.now c.args.self.now.matching.pairs w.row w.col c.in_default.ensures.none w.ensures.taken.least w.ensures.taken.only

pub returns-in-Some-take_of_one-clause-ones : goal.returns-in-Some-take_of_one-clause-ones
returns-in-Some-take_of_one-clause-ones c = record { of_cols = λ x ne o. absurd (c.in_default.ensures.none x o); of_rows = c.in-Some-take_of_one.ensures.taken.ones }

pub returns-in_err-row-clause-none : goal.returns-in_err-row-clause-none
returns-in_err-row-clause-none c =
    let s = c.args.self.now in
    known_none c.from_residual.result _ (chooses_none c.args.sides.now.pattern.now s.matching.pairs s.next_col c.requires.rest.below c.in_err-row.ensures.none)

pub returns-clause-choice : goal.returns-clause-choice
returns-clause-choice c =
    let s = c.args.self.now in
    let w = c.in_ok-row in
    let before = none_before c.args.sides.now.pattern.now s.matching.pairs s.next_col w.col c.requires.rest.below w.ensures.none_before in
    chooses_any c.args.sides.now.pattern.now s.matching.pairs w.row w.col c.in_default.ensures.none c.in_default-take_of_one.ensures.none before w.ensures.row

pub returns-clause-rest : goal.returns-clause-rest
returns-clause-rest c =
    let a : Matrix = c.args.sides.now.pattern.now in
    let s = c.args.self.now in
    let w = c.in_ok-row in
    let before : (r x : ℕ) → x < w.col → ¬ IsFree a s.matching.pairs r x = none_before a s.matching.pairs s.next_col w.col c.requires.rest.below w.ensures.none_before in
    let inside = entry_col a w.row w.col w.ensures.row.0.0 in
    record {
      same_rows = c.requires.rest.same_rows;
      same_cols = c.requires.rest.same_cols;
      cols_sums = c.take_of_one.ensures.sums;
      rows_sums = c.take_of_one-2.ensures.sums;
      passed = omega (arith, c.col.view_is, inside);
      below = λ r x lt. before r x (omega (arith, c.col.view_is, lt));
    }

pub returns-clause-ones : goal.returns-clause-ones
returns-clause-ones c = record { of_cols = λ x ne o. absurd (c.in_default.ensures.none x o); of_rows = λ x ne o. absurd (c.in_default-take_of_one.ensures.none x o) }
