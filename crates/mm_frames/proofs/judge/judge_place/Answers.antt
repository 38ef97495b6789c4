use Rattle.std.proofs.Common.{◌<◌, ◌^◌, sym, rules, arith}
use Rattle.std.proofs.Math.Nat.{min-eq_left}
use Rattle.mm_defs.specs.Words.{word, words}
use Rattle.mm_defs.specs.Numbers.{number}
use Rattle.mm_frames.proofs.EditLaws.{place_judged, range_kind}
use Rattle.mm_frames.proofs.judge.judge_place.Goals as goal

pub returns-clause-judged : goal.returns-clause-judged
returns-clause-judged c bytes l =
    let a = c.in-Some.ensures bytes l in
    let b = c.in-Some-number.ensures bytes l in
    place_judged c.args.rows c.args.cols (words bytes) c.place_within.result a.0 b.0
    (c.place_within.ensures.judged (number (word (words bytes) 1)) (number (word (words bytes) 2)) a.1 b.1)

pub returns-clause-kind : goal.returns-clause-kind
returns-clause-kind c =
    let r : c.in-Some.row < 2 ^ 64 = search rules in
    let k : c.in-Some-number.col < 2 ^ 64 = search rules in
    range_kind c.args.rows c.args.cols c.in-Some.row c.in-Some-number.col c.place_within.result
    (c.place_within.ensures.judged c.in-Some.row c.in-Some-number.col (sym (min-eq_left (omega arith))) (sym (min-eq_left (omega arith))))
