use Rattle.std.proofs.Common.{◌≡◌, ◌∙◌, ◌<◌, Bool, List, ap, arith, length, refl, subst, sym, true≢false}
use Rattle.bip_defs.specs.EditedMatrix.{without_place}
use Rattle.bip_defs.specs.Lists.{Among, IsMarked}
use Rattle.bip_defs.specs.Matrix.{IsEntry, IsTransposeOf, Matrix, Place, cols, transpose}
use Rattle.bip_defs.specs.Paths.{IsParted}
use Rattle.bip_defs.proofs.Exchange.{parted_col_free, parted_row_free}
use Rattle.bip_defs.proofs.Transposed.{transpose_is}
use Rattle.bip_graph.specs.Matching.{IsMatchingOf}
use Rattle.vertex_cover.specs.Back.{IsCoverButRow, IsSearchedTo}
use Rattle.vertex_cover.specs.Covers.{IsCover, IsCoverBut, IsSearchedFrom}
use Rattle.edit_session.specs.Sessions.{MatchedMatrix}
use Rattle.edit_session.proofs.SessionLemmas.{cleared_but, cleared_but_row, cleared_count, cleared_rows, cleared_steps, left_kept, parted_kept, parted_matching, parted_unmatched}
use Rattle.edit_session.proofs.TransposeLemmas.{turned_within}
use Rattle.edit_session.proofs.session.Session.clear_entry.Goals as goal

pub take-requires-2 : goal.take-requires-2
take-requires-2 g c = record {
  col = rw c.row.view_is (turned_within c.self.inside.kept.columns.matrix c.self.inside.kept.rows.matrix c.args.row c.self.invariant.rows
      (subst (λ (w : MatchedMatrix). IsEntry w.matrix c.args.row c.args.col) (sym c.self.view_is) c.requires.entry).0);
}

pub invariant_of-self : goal.invariant_of-self
invariant_of-self g c =
    let turned : c.take-2.new.self.matrix ≡ without_place c.self.inside.kept.rows.matrix (c.args.col, c.args.row) = rw c.row.view_is at (rw c.col.view_is at c.take-2.ensures.matrix) in
    left_kept c.self.inside.kept.columns.matrix c.self.inside.kept.rows.matrix c.take.new.self.matrix c.take-2.new.self.matrix (c.args.row, c.args.col) c.self.inside.kept.matching c.self.inside.kept.cover c.self.invariant c.take.ensures.matrix turned (λ h. true≢false (sym (c.are_mates-were_mates.ensures.1 h) ∙ c.if-not-were_mates.true))

pub augment_from-requires-clause-free : goal.augment_from-requires-clause-free
augment_from-requires-clause-free g c = parted_col_free (c.args.row, c.args.col) c.self.inside.kept.matching.pairs c.unpair.new.self.pairs c.self.invariant.maximum.matching.matching.cols_differ (c.are_mates-were_mates.ensures.0 c.if-not-were_mates.false) c.unpair.ensures.pairs

pub augment_from-requires-clause-matching : goal.augment_from-requires-clause-matching
augment_from-requires-clause-matching g c = subst (λ (a : Matrix). IsMatchingOf a c.unpair.new.self) (sym c.take.ensures.matrix)
    (parted_matching c.self.inside.kept.columns.matrix (c.args.row, c.args.col) c.self.inside.kept.matching c.unpair.new.self c.self.invariant.maximum.matching c.unpair.ensures.pairs c.unpair.ensures.sizes c.unpair.ensures.pairing)

pub augment_from-requires-clause-cover : goal.augment_from-requires-clause-cover
augment_from-requires-clause-cover g c = subst (λ (a : Matrix). IsCoverBut c.args.col a c.unpair.new.self.pairs c.add_root.new.self) (sym c.take.ensures.matrix)
    (cleared_but c.self.inside.kept.columns.matrix (c.args.row, c.args.col) c.self.inside.kept.matching.pairs c.unpair.new.self.pairs c.add_root.new.self c.self.invariant.maximum.matching.matching (c.are_mates-were_mates.ensures.0 c.if-not-were_mates.false) (λ on. true≢false (sym (c.is_marked.ensures.1 on) ∙ c.if-not-is_marked.true)) c.unpair.ensures.pairs (subst (IsCover c.self.inside.kept.columns.matrix c.self.inside.kept.matching.pairs) (sym c.add_root.ensures) c.self.invariant.cover))

pub invariant_of-self-then-not-is_marked : goal.invariant_of-self-then-not-is_marked
invariant_of-self-then-not-is_marked g c =
    let turned : c.take-2.new.self.matrix ≡ without_place c.self.inside.kept.rows.matrix (c.args.col, c.args.row) = rw c.row.view_is at (rw c.col.view_is at c.take-2.ensures.matrix) in
    parted_kept c.self.inside.kept.columns.matrix c.self.inside.kept.rows.matrix c.take.new.self.matrix c.take-2.new.self.matrix (c.args.row, c.args.col) c.self.inside.kept.matching c.unpair.new.self c.augment_from.new.matching c.self.inside.kept.cover c.add_root.new.self c.augment_from.new.self _ _ c.self.invariant c.add_root.ensures c.take.ensures.matrix turned c.unpair.ensures.size c.augment_from.ensures.decided

pub augment_to-requires-clause-free : goal.augment_to-requires-clause-free
augment_to-requires-clause-free g c = parted_row_free (c.args.row, c.args.col) c.self.inside.kept.matching.pairs c.unpair.new.self.pairs c.unpair.ensures.pairs

pub augment_to-requires-clause-turned : goal.augment_to-requires-clause-turned
augment_to-requires-clause-turned g c =
    let turned : c.take-2.new.self.matrix ≡ without_place c.self.inside.kept.rows.matrix (c.args.col, c.args.row) = rw c.row.view_is at (rw c.col.view_is at c.take-2.ensures.matrix) in
    let rows = cleared_rows c.self.inside.kept.columns.matrix c.take.new.self.matrix c.self.inside.kept.rows.matrix c.take-2.new.self.matrix (c.args.row, c.args.col) c.take.ensures.matrix c.self.invariant.rows turned in
    record {
      transpose = subst (λ (b : Matrix). IsTransposeOf c.take.new.self.matrix b) (sym rows) (transpose_is c.take.new.self.matrix);
      count = cleared_count c.self.inside.kept.columns.matrix c.take.new.self.matrix c.take-2.new.self.matrix (c.args.row, c.args.col) c.take.ensures.matrix c.take.ensures.pattern rows;
    }

pub augment_to-requires-clause-unmatched : goal.augment_to-requires-clause-unmatched
augment_to-requires-clause-unmatched g c = subst (λ (a : Matrix). length c.unpair.new.self.pairs < cols a) (sym c.take.ensures.matrix) (parted_unmatched c.self.inside.kept.columns.matrix (c.args.row, c.args.col) c.self.inside.kept.matching.pairs c.unpair.new.self.pairs c.self.invariant.maximum.matching.matching c.unpair.ensures.size)

pub augment_to-requires-clause-matching : goal.augment_to-requires-clause-matching
augment_to-requires-clause-matching g c = subst (λ (a : Matrix). IsMatchingOf a c.unpair.new.self) (sym c.take.ensures.matrix)
    (parted_matching c.self.inside.kept.columns.matrix (c.args.row, c.args.col) c.self.inside.kept.matching c.unpair.new.self c.self.invariant.maximum.matching c.unpair.ensures.pairs c.unpair.ensures.sizes c.unpair.ensures.pairing)

pub augment_to-requires-clause-cover : goal.augment_to-requires-clause-cover
augment_to-requires-clause-cover g c = subst (λ (a : Matrix). IsCoverButRow c.args.row a c.unpair.new.self.pairs c.add_root.new.self) (sym c.take.ensures.matrix)
    (cleared_but_row c.self.inside.kept.columns.matrix (c.args.row, c.args.col) c.self.inside.kept.matching.pairs c.unpair.new.self.pairs c.add_root.new.self c.self.invariant.maximum.matching.matching (c.are_mates-were_mates.ensures.0 c.if-not-were_mates.false) (c.is_marked.ensures.0 c.if-not-is_marked.false) c.unpair.ensures.pairs (subst (IsCover c.self.inside.kept.columns.matrix c.self.inside.kept.matching.pairs) (sym c.add_root.ensures) c.self.invariant.cover))

pub invariant_of-self-2 : goal.invariant_of-self-2
invariant_of-self-2 g c =
    let turned : c.take-2.new.self.matrix ≡ without_place c.self.inside.kept.rows.matrix (c.args.col, c.args.row) = rw c.row.view_is at (rw c.col.view_is at c.take-2.ensures.matrix) in
    parted_kept c.self.inside.kept.columns.matrix c.self.inside.kept.rows.matrix c.take.new.self.matrix c.take-2.new.self.matrix (c.args.row, c.args.col) c.self.inside.kept.matching c.unpair.new.self c.augment_to.new.matching c.self.inside.kept.cover c.add_root.new.self c.augment_to.new.self _ _ c.self.invariant c.add_root.ensures c.take.ensures.matrix turned c.unpair.ensures.size c.augment_to.ensures.decided

pub are_mates-were_mates-requires-clause-cols_differ : goal.are_mates-were_mates-requires-clause-cols_differ
are_mates-were_mates-requires-clause-cols_differ g c = c.self.invariant.maximum.matching.matching.cols_differ

pub returns-then-not-is_marked-clause-clears : goal.returns-then-not-is_marked-clause-clears
returns-then-not-is_marked-clause-clears g c = record {
  matrix = c.take.ensures.matrix ∙ ap (λ (w : MatchedMatrix). without_place w.matrix (c.args.row, c.args.col)) c.self.view_is;
  steps = let entry : IsEntry c.self.inside.kept.columns.matrix c.args.row c.args.col = subst (λ (w : MatchedMatrix). IsEntry w.matrix c.args.row c.args.col) (sym c.self.view_is) c.requires.entry in
      cleared_steps c.self.inside.kept.columns.matrix c.take.new.self.matrix c.self.inside.kept.matching c.self.inside.kept.cover (c.args.row, c.args.col) c.args.self.now c.args.steps.now c.augment_from.new.steps c.self.view_is c.take.ensures.matrix c.take.ensures.pattern entry c.augment_from.ensures.decided.steps;
  no_step = λ not. absurd (not (subst (λ (w : MatchedMatrix). Among {X = Place} (c.args.row, c.args.col) w.matching.pairs) c.self.view_is (c.are_mates-were_mates.ensures.0 c.if-not-were_mates.false)));
  searched = record {
    to = subst (λ (w : MatchedMatrix). Among {X = Place} (c.args.row, c.args.col) w.matching.pairs → IsMarked w.marks c.args.col
        → (rest : List Place) × IsParted (c.args.row, c.args.col) w.matching.pairs rest × IsSearchedTo c.args.row c.take.new.self.matrix (transpose c.take.new.self.matrix) rest w.marks c.augment_from.new.matching.pairs c.augment_from.new.self c.args.steps.now c.augment_from.new.steps) c.self.view_is
        (λ h on. absurd (true≢false (sym (c.is_marked.ensures.1 (subst (λ (z : List Bool). IsMarked z c.args.col) (sym c.add_root.ensures) on)) ∙ c.if-not-is_marked.true)));
    from = subst (λ (w : MatchedMatrix). Among {X = Place} (c.args.row, c.args.col) w.matching.pairs → ¬ IsMarked w.marks c.args.col
        → (rest : List Place) × IsParted (c.args.row, c.args.col) w.matching.pairs rest × IsSearchedFrom c.args.col c.take.new.self.matrix rest w.marks c.augment_from.new.matching.pairs c.augment_from.new.self c.args.steps.now c.augment_from.new.steps) c.self.view_is
        (λ h off. (c.unpair.new.self.pairs, c.unpair.ensures.pairs, rw c.add_root.ensures at c.augment_from.ensures.searched));
  };
}

pub returns-clause-clears : goal.returns-clause-clears
returns-clause-clears g c = record {
  matrix = c.take.ensures.matrix ∙ ap (λ (w : MatchedMatrix). without_place w.matrix (c.args.row, c.args.col)) c.self.view_is;
  steps = let entry : IsEntry c.self.inside.kept.columns.matrix c.args.row c.args.col = subst (λ (w : MatchedMatrix). IsEntry w.matrix c.args.row c.args.col) (sym c.self.view_is) c.requires.entry in
      cleared_steps c.self.inside.kept.columns.matrix c.take.new.self.matrix c.self.inside.kept.matching c.self.inside.kept.cover (c.args.row, c.args.col) c.args.self.now c.args.steps.now c.augment_to.new.steps c.self.view_is c.take.ensures.matrix c.take.ensures.pattern entry c.augment_to.ensures.decided.steps;
  no_step = λ not. absurd (not (subst (λ (w : MatchedMatrix). Among {X = Place} (c.args.row, c.args.col) w.matching.pairs) c.self.view_is (c.are_mates-were_mates.ensures.0 c.if-not-were_mates.false)));
  searched = record {
    to = let turned : c.take-2.new.self.matrix ≡ without_place c.self.inside.kept.rows.matrix (c.args.col, c.args.row) = rw c.row.view_is at (rw c.col.view_is at c.take-2.ensures.matrix) in
        subst (λ (w : MatchedMatrix). Among {X = Place} (c.args.row, c.args.col) w.matching.pairs → IsMarked w.marks c.args.col
        → (rest : List Place) × IsParted (c.args.row, c.args.col) w.matching.pairs rest × IsSearchedTo c.args.row c.take.new.self.matrix (transpose c.take.new.self.matrix) rest w.marks c.augment_to.new.matching.pairs c.augment_to.new.self c.args.steps.now c.augment_to.new.steps) c.self.view_is
        (λ h on. (c.unpair.new.self.pairs, c.unpair.ensures.pairs, subst (λ (b : Matrix). IsSearchedTo c.args.row c.take.new.self.matrix b c.unpair.new.self.pairs c.self.inside.kept.cover c.augment_to.new.matching.pairs c.augment_to.new.self c.args.steps.now c.augment_to.new.steps) (cleared_rows c.self.inside.kept.columns.matrix c.take.new.self.matrix c.self.inside.kept.rows.matrix c.take-2.new.self.matrix (c.args.row, c.args.col) c.take.ensures.matrix c.self.invariant.rows turned) (rw c.add_root.ensures at c.augment_to.ensures.searched)));
    from = subst (λ (w : MatchedMatrix). Among {X = Place} (c.args.row, c.args.col) w.matching.pairs → ¬ IsMarked w.marks c.args.col
        → (rest : List Place) × IsParted (c.args.row, c.args.col) w.matching.pairs rest × IsSearchedFrom c.args.col c.take.new.self.matrix rest w.marks c.augment_to.new.matching.pairs c.augment_to.new.self c.args.steps.now c.augment_to.new.steps) c.self.view_is
        (λ h off. absurd (off (subst (λ (z : List Bool). IsMarked z c.args.col) c.add_root.ensures (c.is_marked.ensures.0 c.if-not-is_marked.false))));
  };
}

pub returns-then-not-were_mates-clause-clears : goal.returns-then-not-were_mates-clause-clears
returns-then-not-were_mates-clause-clears g c = record {
  matrix = c.take.ensures.matrix ∙ ap (λ (w : MatchedMatrix). without_place w.matrix (c.args.row, c.args.col)) c.self.view_is;
  steps = omega arith;
  no_step = λ h. refl;
  searched = record {
    to = λ h on. absurd (true≢false (sym (c.are_mates-were_mates.ensures.1 (subst (λ (w : MatchedMatrix). Among {X = Place} (c.args.row, c.args.col) w.matching.pairs) (sym c.self.view_is) h)) ∙ c.if-not-were_mates.true));
    from = λ h off. absurd (true≢false (sym (c.are_mates-were_mates.ensures.1 (subst (λ (w : MatchedMatrix). Among {X = Place} (c.args.row, c.args.col) w.matching.pairs) (sym c.self.view_is) h)) ∙ c.if-not-were_mates.true));
  };
}
