use Rattle.std.proofs.Common.{rules, ◌≡◌, ◌∙◌, ◌<◌, ◌^◌, ⊎_elim, ap, arith, subst, sym}
use Rattle.bip_defs.specs.Lists.{Lists}
use Rattle.bip_defs.specs.Matrix.{IsEntry, cols, column}
use Rattle.bip_defs.proofs.Sets.{number_same}
use Rattle.edit_session.specs.Arena.{RoomyLists}
use Rattle.edit_session.proofs.ColumnLemmas.{copied_counted, copied_more}
use Rattle.edit_session.proofs.columns.Columns.of.Goals as goal

pub loop-col-preserved : goal.loop-col-preserved
loop-col-preserved g c =
    let a = g.N.Neighbours.matrix c.args.neighbours.now in
    let lt : c.loop-col.col < cols a = search rules in
    record {
      lists = ap (λ (z : RoomyLists). z.lists) c.in_ok-push.ensures.ok ∙ copied_more a c.loop-col.col c.loop-col.lists.lists c.rows_of.result.now lt c.loop-col.invariant.lists c.rows_of.ensures.column;
      columns = λ d below. ⊎_elim
          (λ (e : d ≡ c.loop-col.col). subst (λ x. Lists (λ r. IsEntry a r x) (column a x)) (sym e) (subst (Lists (λ r. IsEntry a r c.loop-col.col)) c.rows_of.ensures.column c.rows_of.ensures.rows))
          (λ ne. c.loop-col.invariant.columns d (omega (arith, below, ne)))
          (number_same d c.loop-col.col);
    }

pub invariant_of-result : goal.invariant_of-result
invariant_of-result g c =
    let a = g.N.Neighbours.matrix c.args.neighbours.now in
    let all : c.loop-col.col ≡ cols a = search rules in
    let few_rows : c.rows.result < 2 ^ 32 = search rules in
    let few_cols : c.cols.result < 2 ^ 32 = search rules in
    let few_entries : c.args.entries < 2 ^ 32 = search rules in
    copied_counted a c.loop-col.col c.rows.result c.args.entries c.loop-col.lists.lists c.rows.ensures all few_rows (let e = c.cols.ensures in omega (arith, e, few_cols)) few_entries c.requires c.loop-col.invariant.lists c.loop-col.invariant.columns

pub returns-clause-pattern : goal.returns-clause-pattern
returns-clause-pattern g c = (invariant_of-result g c).pattern
