use Rattle.std.proofs.Common.{◌≡◌, ◌==◌, ◌+◌, length, true, sym, ap, ◌∙◌}
use Rattle.mm_defs.specs.Words.{word, words}
use Rattle.mm_defs.specs.Numbers.{number}
use Rattle.mm_defs.specs.Header.{value_words}
use Rattle.mm_reader.proofs.Judges.{entry_judged}
use Rattle.mm_reader.proofs.judge.judge_entry.Goals as goal

pub returns-clause-judged : goal.returns-clause-judged
returns-clause-judged c bytes l =
    let a = c.in-Some.ensures bytes l in
    let b = c.in-Some-number.ensures bytes l in
    let ws = words bytes in
    let n : (length (words bytes) == 2 + value_words c.args.header.field) ≡ true =
    ap (λ k. length (words bytes) == 2 + k) (sym c.value_words.ensures.words) ∙ sym (c.has_words.ensures bytes l) ∙ c.if-not-has_words.false in
    entry_judged c.args.header c.args.size (words bytes) c.judge_place.result n a.0 b.0
    (c.judge_place.ensures.judged (number (word (words bytes) 0)) (number (word (words bytes) 1)) (word (words bytes) 2) a.1 b.1 (λ _. c.integer.ensures bytes l))
