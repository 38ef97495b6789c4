use Rattle.std.proofs.Common.{◌∙◌, ap, arith, subst, sym, refl}
use Rattle.bip_graph.specs.Matching.{Pairing}
use Rattle.integer_diagonal.proofs.AnswerLemmas.{all_assigned}
use Rattle.bip_defs.specs.Matrix.{cols}
use Rattle.integer_diagonal.specs.Amounts.{HasRoom}
use Rattle.integer_diagonal.specs.Duals.{priced}
use Rattle.integer_diagonal.proofs.answer.heaviest_by_width.Goals as goal

pub first_pairs-requires-clause-empty : goal.first_pairs-requires-clause-empty
first_pairs-requires-clause-empty g c = ap (λ (z : Pairing). z.pairs) c.in_ok-assignment-2.ensures.matching ∙ c.in_ok-assignment.ensures.empty

pub diagonal-requires-clause-all_cols : goal.diagonal-requires-clause-all_cols
diagonal-requires-clause-all_cols g c =
    let b = c.in_ok-assignment-3.assignment in
    all_assigned (priced c.args.weights.now b) b.matching c.args.weights.now.matrix c.in_ok-assignment-3.ensures.assignment refl (omega (arith, c.size.ensures.size, c.cols.ensures, c.if-size-cols.true))

pub match_early-requires-clause-full : goal.match_early-requires-clause-full
match_early-requires-clause-full g c = (c.args.full.pairs, c.requires.full)

pub set_apart-requires-clause-room : goal.set_apart-requires-clause-room
set_apart-requires-clause-room g c = subst (λ n. HasRoom (cols c.args.weights.now.matrix) n g.W.Width.limit) (sym c.in_ok-assignment.ensures.top) c.requires.room

pub first_pairs-requires-clause-room : goal.first_pairs-requires-clause-room
first_pairs-requires-clause-room g c = c.in_ok-assignment-2.ensures.room

pub diagonal-requires-clause-room : goal.diagonal-requires-clause-room
diagonal-requires-clause-room g c = c.in_ok-assignment-3.ensures.room

pub match_early-requires-clause-room : goal.match_early-requires-clause-room
match_early-requires-clause-room g c = c.in_ok-assignment-3.ensures.room

pub match_by_phases-requires-clause-assignment : goal.match_by_phases-requires-clause-assignment
match_by_phases-requires-clause-assignment g c = c.in_ok-match_early.ensures.assignment

pub match_by_phases-requires-clause-room : goal.match_by_phases-requires-clause-room
match_by_phases-requires-clause-room g c = subst (λ n. HasRoom (cols c.args.weights.now.matrix) n g.W.Width.limit) (sym c.in_ok-match_early.ensures.top) c.in_ok-assignment-3.ensures.room

pub match_all-requires-clause-assignment : goal.match_all-requires-clause-assignment
match_all-requires-clause-assignment g c = c.in_ok-assignment-4.ensures.assignment

pub match_all-requires-clause-room : goal.match_all-requires-clause-room
match_all-requires-clause-room g c = c.in_ok-assignment-4.ensures.room

pub match_all-requires-clause-full : goal.match_all-requires-clause-full
match_all-requires-clause-full g c = (c.args.full.pairs, c.requires.full)

pub diagonal-requires-2-clause-assignment : goal.diagonal-requires-2-clause-assignment
diagonal-requires-2-clause-assignment g c = c.in_ok-match_all.ensures.assignment

pub diagonal-requires-2-clause-room : goal.diagonal-requires-2-clause-room
diagonal-requires-2-clause-room g c = subst (λ n. HasRoom (cols c.args.weights.now.matrix) n g.W.Width.limit) (sym c.in_ok-match_all.ensures.top) c.in_ok-assignment-4.ensures.room

pub diagonal-requires-2-clause-all_cols : goal.diagonal-requires-2-clause-all_cols
diagonal-requires-2-clause-all_cols g c = c.in_ok-match_all.ensures.all
