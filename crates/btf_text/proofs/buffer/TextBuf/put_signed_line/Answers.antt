use Rattle.std.proofs.Common.{◌++◌, ◌∷◌, ℤ, pos, get_or, take, append-nil, ap, sym, ◌∙◌, rules, to_z-of_z, SFits}
use Rattle.std.specs.Int.{w128}
use Rattle.std.specs.Fmt.{signed_decimal}
use Rattle.std.proofs.lemmas.List.{take_all}
use Rattle.btf_text.specs.Diagonals.{signed_line, signed_spaced}
use Rattle.btf_text.proofs.BufferLaws.{appends_as, appends_then}
use Rattle.btf_text.proofs.Lines.{line_alone}
use Rattle.btf_text.proofs.Weighed.{signed_ends, signed_go_on}
use Rattle.btf_text.proofs.buffer.TextBuf.put_signed_line.Goals as goal

pub loop-number-init : goal.loop-number-init
loop-number-init g c = appends_as _ _ (sym (append-nil _)) c.put_piece.ensures

pub loop-number-preserved : goal.loop-number-preserved
loop-number-preserved g c =
    let fits : SFits w128 (get_or c.args.numbers.now c.loop-number.number-index (pos 0)) = search rules in
    appends_as _ _
    (ap (λ (z : ℤ). (c.args.word.now ++ signed_spaced (take c.loop-number.number-index c.args.numbers.now)) ++ 32 ∷ signed_decimal z) (to_z-of_z fits)
    ∙ signed_go_on c.args.word.now c.args.numbers.now c.loop-number.number-index (pos 0) c.loop-number-test.true)
    (appends_then _ _ c.loop-number.invariant c.put_signed.ensures)

pub returns : goal.returns
returns g c = record {
  appends = line_alone (signed_line c.args.word.now c.args.numbers.now) (appends_as _ _ (signed_ends _ c.args.numbers.now _ (take_all _ _ c.loop-number-test.false)) (appends_then _ _ c.loop-number.invariant c.put_piece-2.ensures));
}
