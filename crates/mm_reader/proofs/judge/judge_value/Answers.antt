use Rattle.std.proofs.Common.{sym, ◌∙◌}
use Rattle.mm_defs.specs.Words.{word, words}
use Rattle.mm_defs.specs.Numbers.{integer}
use Rattle.mm_reader.proofs.Judges.{value_judged}
use Rattle.mm_reader.proofs.judge.judge_value.Goals as goal

pub returns-clause-judged : goal.returns-clause-judged
returns-clause-judged c bytes l =
    value_judged c.args.header (words bytes) (integer (word (words bytes) 0)) c.judge_integer.result c.requires (sym (c.has_words.ensures bytes l) ∙ c.if-not-has_words.false)
    (c.judge_integer.ensures.judged (word (words bytes) 0) (c.integer.ensures bytes l))
