use Rattle.std.proofs.Common.{◌≡◌, ◌∙◌, ⊎_elim, arith, length, sym}
use Rattle.blocktri.proofs.wanted_lists.write_wanted_row_components.Goals as goal

pub returns-then-row_component-ne0 : goal.returns-then-row_component-ne0
returns-then-row_component-ne0 c = λ a are room.
    let some = c.if-row_component-ne0.true in
    let long : length c.args.row_component.now ≡ a.rows = ⊎_elim (λ (e : length c.args.row_component.now ≡ 0). absurd (omega (arith, some, e))) (λ (e : length c.args.row_component.now ≡ a.rows). e) room in
    let told = c.write_row_components.ensures a are long in
    record { long = told.long ∙ sym long; holds = λ wanted. told }
