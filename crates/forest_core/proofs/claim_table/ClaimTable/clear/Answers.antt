use Rattle.std.proofs.Common.{◌∙◌, None, ℕ, ap, refl, set}
use Rattle.forest_core.specs.Tables.{Claimed, holder_in, root_in}
use Rattle.forest_core.specs.declared.claim_table.RowClaim.{RowClaim}
use Rattle.forest_core.proofs.TableLemmas.{read_none, root_none, seen_alike, seen_put}
use Rattle.forest_core.proofs.claim_table.ClaimTable.clear.Goals as goal

pub returns-clause-holders : goal.returns-clause-holders
returns-clause-holders c = seen_put (λ (w : RowClaim). holder_in w.holder) _ _ _ _ None (ap (λ (t : Claimed). t.holders) c.self.view_is) (read_none 4294967295 refl) ∙ ap (λ (i : ℕ). set c.args.self.now.holders i None) c.number.ensures

pub returns-clause-roots : goal.returns-clause-roots
returns-clause-roots c = seen_put (λ (w : RowClaim). root_in w.holder w.root) _ _ _ _ None (ap (λ (t : Claimed). t.roots) c.self.view_is) (root_none 4294967295 4294967295 refl) ∙ ap (λ (i : ℕ). set c.args.self.now.roots i None) c.number.ensures

pub returns-clause-alike : goal.returns-clause-alike
returns-clause-alike c = seen_alike (λ (w : RowClaim). w.holder) (λ (w : RowClaim). w.root) _
