use Rattle.std.proofs.Common.{◌≡◌, ℕ, ap, sym, ◌∙◌, arith}
use Rattle.mm_defs.specs.Arrays.{value_count}
use Rattle.mm_lines.specs.Tokens.{capped}
use Rattle.mm_reader.proofs.Judges.{extent_good}
use Rattle.mm_reader.proofs.judge.judge_values.Goals as goal

pub returns-in-Ok-clause-judged : goal.returns-in-Ok-clause-judged
returns-in-Ok-clause-judged c s ri ci vi =
    let e = c.in-Ok.ensures.judged s.rows s.cols ri ci in
    let a : c.in-Ok.rows ≡ s.rows = ap (λ (x : ℕ × ℕ). x.0) e.1 in
    let b : c.in-Ok.cols ≡ s.cols = ap (λ (x : ℕ × ℕ). x.1) e.1 in
    let v : c.value_count.result ≡ s.count =
    c.value_count.ensures ∙ ap (λ n. value_count c.args.header.symmetry n c.in-Ok.cols) a ∙ ap (λ n. value_count c.args.header.symmetry s.rows n) b ∙ sym vi in
    let k : c.value_count.result ≡ capped s.count = omega (arith, v, c.value_count.type_inv) in
    extent_good c.args.header s c.judge_count.result e.0 (c.judge_count.ensures.judged s a b k)
