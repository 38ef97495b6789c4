use Rattle.std.proofs.Common.{◌≡◌, refl, replicate, rules}
use Rattle.forest_core.specs.Tables.{holder_in, root_in}
use Rattle.forest_core.specs.declared.claim_table.RowClaim.{RowClaim}
use Rattle.forest_core.proofs.TableLemmas.{read_none, root_none, seen_new}
use Rattle.forest_core.proofs.claim_table.ClaimTable.new.Goals as goal

pub returns-clause-holders : goal.returns-clause-holders
returns-clause-holders c = λ r.
    let none : RowClaim = record { holder = 4294967295; root = 4294967295 } in
    let rows : c.in_ok-rows.rows.items ≡ replicate c.args.rows none = search rules in
    seen_new (λ (w : RowClaim). holder_in w.holder) c.args.rows none c.in_ok-rows.rows.items r (read_none 4294967295 refl) rows

pub returns-clause-roots : goal.returns-clause-roots
returns-clause-roots c = λ r.
    let none : RowClaim = record { holder = 4294967295; root = 4294967295 } in
    let rows : c.in_ok-rows.rows.items ≡ replicate c.args.rows none = search rules in
    seen_new (λ (w : RowClaim). root_in w.holder w.root) c.args.rows none c.in_ok-rows.rows.items r (root_none 4294967295 4294967295 refl) rows
