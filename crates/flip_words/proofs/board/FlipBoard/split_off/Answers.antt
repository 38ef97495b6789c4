use Rattle.std.proofs.Common.{rules, ◌≡◌, ◌∙◌, [], ◌∷◌, ◌++◌, set, arith}
use Rattle.flip_words.proofs.Opened.{seats_more}
use Rattle.flip_words.proofs.board.FlipBoard.split_off.Goals as goal

pub loop-number-preserved : goal.loop-number-preserved
loop-number-preserved c =
    let pushed : c.push-in-loop-number.new.self.items ≡ set c.loop-number.all.items 0 c.split-next.new.first ++ c.split-next.result ∷ [] = search rules in
    record { some = omega arith; seats = pushed ∙ (λ i. set (c.loop-number.invariant.seats i) 0 (c.split-next.ensures.first i) ++ c.split-next.ensures.next i ∷ []) ∙ seats_more c.args.self.now c.loop-number.number c.loop-number.invariant.some }
