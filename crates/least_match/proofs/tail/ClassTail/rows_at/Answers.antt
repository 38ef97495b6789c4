use Rattle.std.proofs.Common.{◌≡◌, ◌<◌, ◌%◌, ℕ, arith, get_or, length, rules, subst}
use Rattle.std.proofs.lemmas.Grind.{common_steps}
use Rattle.bip_defs.specs.Lists.{Lists}
use Rattle.bip_defs.specs.Matrix.{IsEntry}
use Rattle.least_match.proofs.AheadLemmas.{first_row_at}
use Rattle.least_match.proofs.tail.ClassTail.rows_at.Goals as goal

pub invariant_of-result : goal.invariant_of-result
invariant_of-result c =
    let lt : c.args.place % 8 < length c.args.ahead.now = first_of (omega arith, search rules) in
    let is : (get_or c.args.ahead.now (c.args.place % 8) c.index-ahead-place-2.result).1 ≡ c.at-col.result.0 = first_of (search rules, grind (arith, common_steps)) in
    record { first_is = first_row_at c.args.self.now.pattern.now c.args.ahead.now (c.args.place % 8) c.at-col.result.0 c.index-ahead-place.result c.index-ahead-place-2.result c.rows_of-rows.result.now c.requires.ahead lt is c.rows_of-rows.ensures.column }

pub returns-then-eq-clause-rows : goal.returns-then-eq-clause-rows
returns-then-eq-clause-rows c = subst (λ (x : ℕ × ℕ). Lists (λ r. IsEntry c.args.self.now.pattern.now r x.0) c.rows_of-rows.result.now) c.at-col.ensures c.rows_of-rows.ensures.rows

pub returns-clause-rows : goal.returns-clause-rows
returns-clause-rows c = subst (λ (x : ℕ × ℕ). Lists (λ r. IsEntry c.args.self.now.pattern.now r x.0) c.rows_of-rows.result.now) c.at-col.ensures c.rows_of-rows.ensures.rows
