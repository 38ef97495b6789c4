use Rattle.std.proofs.Common.{◌≡◌, ◌∙◌, Some, ℕ, ap, arith, length, set, subst, sym}
use Rattle.std.proofs.lemmas.List.{length-map}
use Rattle.forest_core.specs.Tables.{Claimed, holder_in, root_in}
use Rattle.forest_core.specs.declared.claim_table.RowClaim.{RowClaim}
use Rattle.forest_core.proofs.TableLemmas.{read_some, root_some, seen_put}
use Rattle.forest_core.proofs.claim_table.ClaimTable.write.Goals as goal

pub returns-clause-holders : goal.returns-clause-holders
returns-clause-holders c =
    seen_put (λ (w : RowClaim). holder_in w.holder) _ _ _ _ (Some c.number.result) (ap (λ (t : Claimed). t.holders) c.self.view_is) (read_some c.number.result (λ e. (let lt = c.requires.holder in let same = c.number.ensures in omega arith))) ∙ ap (λ (i : ℕ). set c.args.self.now.holders i (Some c.number.result)) c.number-3.ensures ∙ ap (λ (x : ℕ). set c.args.self.now.holders c.args.row (Some x)) c.number.ensures

pub returns-clause-roots : goal.returns-clause-roots
returns-clause-roots c =
    seen_put (λ (w : RowClaim). root_in w.holder w.root) _ _ _ _ (Some c.number-2.result) (ap (λ (t : Claimed). t.roots) c.self.view_is) (root_some c.number.result c.number-2.result (λ e. (let lt = c.requires.holder in let same = c.number.ensures in omega arith))) ∙ ap (λ (i : ℕ). set c.args.self.now.roots i (Some c.number-2.result)) c.number-3.ensures ∙ ap (λ (x : ℕ). set c.args.self.now.roots c.args.row (Some x)) c.number-2.ensures

pub returns-clause-long : goal.returns-clause-long
returns-clause-long c = subst (λ (t : Claimed). length t.roots ≡ length t.holders) c.self.view_is (length-map c.self.inside.rows.items (λ (w : RowClaim). root_in w.holder w.root) ∙ sym (length-map c.self.inside.rows.items (λ (w : RowClaim). holder_in w.holder)))
