use Rattle.std.proofs.Common.{List, Vec, Global, ℕ, [], sym, ap, subst}
use Rattle.atomic_table.specs.Table.{opening}
use Rattle.flip_words.specs.Rule.{Kept, opener}
use Rattle.flip_words.proofs.Opened.{kept_opening}
use Rattle.flip_words.proofs.board.FlipBoard.open.Goals as goal

pub of_words-requires : goal.of_words-requires
of_words-requires c = subst (λ (p : List ℕ × List ℕ). Kept {S = Unit {0}} c.args.rows c.args.cols p.0 (opening p.1 [] (opener c.args.rows c.args.cols p.0))) (λ i. (sym (ap (λ (v : Vec ℕ Global). v.items) c.of.ensures) i, sym c.as_slice.ensures.value i)) (kept_opening c.args.rows c.args.cols c.args.words.now.items c.requires)
