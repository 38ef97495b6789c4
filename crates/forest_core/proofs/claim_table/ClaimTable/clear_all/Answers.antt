use Rattle.std.proofs.Common.{◌≡◌, ◌∙◌, ap, length, refl, replicate, rules}
use Rattle.forest_core.specs.Tables.{holder_in}
use Rattle.forest_core.specs.declared.claim_table.RowClaim.{RowClaim}
use Rattle.forest_core.proofs.TableLemmas.{read_none, seen_alike, seen_new}
use Rattle.bip_defs.proofs.Sets.{written_over}
use Rattle.forest_core.proofs.claim_table.ClaimTable.clear_all.Goals as goal

pub returns-clause-none : goal.returns-clause-none
returns-clause-none c = λ r.
    let none : RowClaim = record { holder = 4294967295; root = 4294967295 } in
    let filled : c.fill.new.self ≡ replicate (length c.as_mut_slice.result.now) none = search rules in
    let long : c.self.inside.rows.len ≡ length c.self.inside.rows.items = search rules in
    let same : length c.fill.new.self ≡ length c.self.inside.rows.items = c.fill.ensures.len ∙ ap length c.as_mut_slice.ensures.value in
    seen_new (λ (w : RowClaim). holder_in w.holder) _ none _ r (read_none 4294967295 refl) (written_over c.fill.new.self c.self.inside.rows.items c.self.inside.rows.len same long ∙ filled)

pub returns-clause-alike : goal.returns-clause-alike
returns-clause-alike c = seen_alike (λ (w : RowClaim). w.holder) (λ (w : RowClaim). w.root) _
