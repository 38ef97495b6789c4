use Rattle.std.proofs.Common.{◌≡◌, ◌≤◌, ◌∷◌, [], length, min, sym, ap, ◌∙◌, arith, length-take, take_all}
use Rattle.std.proofs.lemmas.List.{take-append-le}
use Rattle.mm_lines.proofs.text.Text.push.Goals as goal

pub returns-else-self-lt-KEPT : goal.returns-else-self-lt-KEPT
returns-else-self-lt-KEPT c =
    let m : min c.self.inside.len (length c.self.inside.bytes) ≡ 15 = omega (arith, c.self.told) in
    let n : length c.args.self.now ≡ 15 = ap length (sym c.self.view_is) ∙ length-take c.self.inside.len c.self.inside.bytes ∙ m in
    let low : 15 ≤ length c.args.self.now = omega arith in
    let high : length c.args.self.now ≤ 15 = omega arith in
    sym (take-append-le 15 c.args.self.now (c.args.byte ∷ []) low ∙ take_all 15 c.args.self.now high)
