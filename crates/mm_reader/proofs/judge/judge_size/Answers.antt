use Rattle.std.proofs.Common.{◌≡◌, ◌==◌, length, true, refl, sym, ap, ◌∙◌}
use Rattle.mm_defs.specs.Words.{words}
use Rattle.mm_defs.specs.Header.{size, size_words}
use Rattle.mm_lines.specs.Tokens.{capped}
use Rattle.mm_reader.proofs.Judges.{coordinate_size_judged, array_size_judged}
use Rattle.mm_reader.proofs.judge.judge_size.Goals as goal

pub returns-in-Some-number-2-clause-judged : goal.returns-in-Some-number-2-clause-judged
returns-in-Some-number-2-clause-judged c bytes l =
    let a = c.in-Some.ensures bytes l in
    let b = c.in-Some-number.ensures bytes l in
    let d = c.in-Some-number-2.ensures bytes l in
    let f = c.in-Coordinate.is in
    let n : (length (words bytes) == size_words c.args.header.format) ≡ true = ap (λ k. length (words bytes) == k) (sym c.size_words.ensures.words) ∙ sym (c.has_words.ensures bytes l) ∙ c.if-not-has_words.false in
    let k : c.in-Some-number-2.count ≡ capped (size c.args.header (words bytes)).count = rw f d.1 in
    coordinate_size_judged c.args.header (words bytes) c.judge_entries.result f n a.0 b.0 d.0 (c.judge_entries.ensures.judged (size c.args.header (words bytes)) a.1 b.1 k)

pub returns-in-Array-clause-judged : goal.returns-in-Array-clause-judged
returns-in-Array-clause-judged c bytes l =
    let a = c.in-Some.ensures bytes l in
    let b = c.in-Some-number.ensures bytes l in
    let f = c.in-Array.is in
    let n : (length (words bytes) == size_words c.args.header.format) ≡ true = ap (λ k. length (words bytes) == k) (sym c.size_words.ensures.words) ∙ sym (c.has_words.ensures bytes l) ∙ c.if-not-has_words.false in
    array_size_judged c.args.header (words bytes) c.judge_values.result f n a.0 b.0 (c.judge_values.ensures.judged (size c.args.header (words bytes)) a.1 b.1 (rw f refl))
