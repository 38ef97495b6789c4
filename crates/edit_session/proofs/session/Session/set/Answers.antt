use Rattle.std.proofs.Common.{◌≡◌, ◌<◌, ◌∙◌, ap, inl, inr, subst, sym, true≢false, ⊎_elim}
use Rattle.bip_defs.specs.EditedMatrix.{with_place}
use Rattle.bip_defs.specs.Matching.{IsMaximum}
use Rattle.bip_defs.specs.Matrix.{IsEntry, Matrix, cols, entry_count}
use Rattle.bip_defs.proofs.EditLemmas.{with_place_new}
use Rattle.bip_graph.specs.Matching.{IsMatchingOf}
use Rattle.sp_ids.specs.Limits.{max_entries}
use Rattle.vertex_cover.specs.Covers.{IsCover}
use Rattle.edit_session.specs.Columns.{RoomyMatrix}
use Rattle.edit_session.specs.Sessions.{MatchedMatrix, NeedsNoSearch, Searches, SearchesFor, matched}
use Rattle.edit_session.proofs.SessionLemmas.{room_left, set_again, set_back, set_matching, set_rows, set_saturating, turned_room_left}
use Rattle.edit_session.proofs.TransposeLemmas.{turned_few, turned_within}
use Rattle.edit_session.proofs.session.Session.set.Goals as goal

pub returns-then-has-clause-matrix : goal.returns-then-has-clause-matrix
returns-then-has-clause-matrix g c = set_again c.self.inside.kept.columns.matrix c.self.inside.kept.matching c.self.inside.kept.cover (c.args.row, c.args.col) c.args.self.now c.self.view_is c.has.ensures.pattern (c.has.ensures.entry.0 c.if-has.true)

pub make_room-requires-clause-few : goal.make_room-requires-clause-few
make_room-requires-clause-few g c = room_left c.self.inside.kept.columns.matrix c.args.row c.args.col c.has.ensures.pattern
    (subst (λ (w : MatchedMatrix). c.args.row < w.matrix.rows) (sym c.self.view_is) c.requires.row)
    (λ e. true≢false (sym (c.has.ensures.entry.1 e) ∙ c.if-has.false))

pub make_room-requires-2-clause-col : goal.make_room-requires-2-clause-col
make_room-requires-2-clause-col g c = rw c.row.view_is (turned_within c.self.inside.kept.columns.matrix c.self.inside.kept.rows.matrix c.args.row c.self.invariant.rows
    (subst (λ (w : MatchedMatrix). c.args.row < w.matrix.rows) (sym c.self.view_is) c.requires.row))

pub make_room-requires-2-clause-few : goal.make_room-requires-2-clause-few
make_room-requires-2-clause-few g c = rw c.row.view_is (turned_room_left c.self.inside.kept.columns.matrix c.self.inside.kept.rows.matrix c.args.row c.args.col c.self.invariant.rows c.has.ensures.pattern
    (subst (λ (w : MatchedMatrix). c.args.col < cols w.matrix) (sym c.self.view_is) c.requires.col)
    (λ e. true≢false (sym (c.has.ensures.entry.1 e) ∙ c.if-has.false)))

pub insert-requires-2-clause-col : goal.insert-requires-2-clause-col
insert-requires-2-clause-col g c = rw c.row-2.view_is (turned_within c.self.inside.kept.columns.matrix c.make_room-2.new.self.matrix c.args.row (c.in_ok-make_room-2.ensures.matrix ∙ c.self.invariant.rows)
    (subst (λ (w : MatchedMatrix). c.args.row < w.matrix.rows) (sym c.self.view_is) c.requires.row))

pub insert-requires-2-clause-few : goal.insert-requires-2-clause-few
insert-requires-2-clause-few g c = turned_few c.self.inside.kept.columns.matrix c.make_room-2.new.self.matrix (c.in_ok-make_room-2.ensures.matrix ∙ c.self.invariant.rows) c.has.ensures.pattern
    (subst (λ (w : MatchedMatrix). entry_count w.matrix < max_entries) (sym c.self.view_is) c.requires.few)

pub match_entry-requires : goal.match_entry-requires
match_entry-requires g c = record {
  entry = let put : c.insert.new.self.matrix ≡ with_place c.self.inside.kept.columns.matrix (c.args.row, c.args.col) = c.insert.ensures.matrix ∙ ap (λ (a : Matrix). with_place a (c.args.row, c.args.col)) c.in_ok-make_room.ensures.matrix in
      subst (λ (a : Matrix). IsEntry a c.args.row c.args.col) (sym put) (with_place_new c.self.inside.kept.columns.matrix (c.args.row, c.args.col)
      (subst (λ (w : MatchedMatrix). c.args.row < w.matrix.rows) (sym c.self.view_is) c.requires.row)
      (subst (λ (w : MatchedMatrix). c.args.col < cols w.matrix) (sym c.self.view_is) c.requires.col));
  matching = let put : c.insert.new.self.matrix ≡ with_place c.self.inside.kept.columns.matrix (c.args.row, c.args.col) = c.insert.ensures.matrix ∙ ap (λ (a : Matrix). with_place a (c.args.row, c.args.col)) c.in_ok-make_room.ensures.matrix in
      subst (λ (a : Matrix). IsMatchingOf a c.self.inside.kept.matching) (sym put) (set_matching c.self.inside.kept.columns.matrix (c.args.row, c.args.col) c.self.inside.kept.matching c.self.invariant.maximum.matching);
  rows = let a = c.self.inside.kept.columns.matrix in
      let put : c.insert.new.self.matrix ≡ with_place a (c.args.row, c.args.col) = c.insert.ensures.matrix ∙ ap (λ (z : Matrix). with_place z (c.args.row, c.args.col)) c.in_ok-make_room.ensures.matrix in
      let turned : c.insert-2.new.self.matrix ≡ with_place c.make_room-2.new.self.matrix (c.args.col, c.args.row) = rw c.row-2.view_is at (rw c.col.view_is at c.insert-2.ensures.matrix) in
      set_rows a c.insert.new.self.matrix c.self.inside.kept.rows.matrix c.insert-2.new.self.matrix (c.args.row, c.args.col) put c.self.invariant.rows
      (turned ∙ ap (λ (z : Matrix). with_place z (c.args.col, c.args.row)) c.in_ok-make_room-2.ensures.matrix)
      (subst (λ (w : MatchedMatrix). c.args.row < w.matrix.rows) (sym c.self.view_is) c.requires.row)
      (subst (λ (w : MatchedMatrix). c.args.col < cols w.matrix) (sym c.self.view_is) c.requires.col);
  maximum = let a = c.self.inside.kept.columns.matrix in
      let put : c.insert.new.self.matrix ≡ with_place a (c.args.row, c.args.col) = c.insert.ensures.matrix ∙ ap (λ (b : Matrix). with_place b (c.args.row, c.args.col)) c.in_ok-make_room.ensures.matrix in
      let back = set_back a c.insert.new.self.matrix (c.args.row, c.args.col) c.has.ensures.pattern (λ e. true≢false (sym (c.has.ensures.entry.1 e) ∙ c.if-has.false)) (subst (λ (w : MatchedMatrix). c.args.col < cols w.matrix) (sym c.self.view_is) c.requires.col) put in
      subst (λ (z : Matrix). IsMaximum z c.self.inside.kept.matching.pairs) back c.self.invariant.maximum.maximum;
  cover = let a = c.self.inside.kept.columns.matrix in
      let put : c.insert.new.self.matrix ≡ with_place a (c.args.row, c.args.col) = c.insert.ensures.matrix ∙ ap (λ (b : Matrix). with_place b (c.args.row, c.args.col)) c.in_ok-make_room.ensures.matrix in
      let back = set_back a c.insert.new.self.matrix (c.args.row, c.args.col) c.has.ensures.pattern (λ e. true≢false (sym (c.has.ensures.entry.1 e) ∙ c.if-has.false)) (subst (λ (w : MatchedMatrix). c.args.col < cols w.matrix) (sym c.self.view_is) c.requires.col) put in
      subst (λ (z : Matrix). IsCover z c.self.inside.kept.matching.pairs c.self.inside.kept.cover) back c.self.invariant.cover;
}

pub returns-then-has-clause-searched : goal.returns-then-has-clause-searched
returns-then-has-clause-searched g c unsettled = absurd (unsettled (inl (subst (λ (w : MatchedMatrix). IsEntry w.matrix c.args.row c.args.col) c.self.view_is (c.has.ensures.entry.0 c.if-has.true))))

pub returns-clause-searched : goal.returns-clause-searched
returns-clause-searched g c =
    let a = c.self.inside.kept.columns.matrix in
    let put : c.insert.new.self.matrix ≡ with_place a (c.args.row, c.args.col) = c.insert.ensures.matrix ∙ ap (λ (b : Matrix). with_place b (c.args.row, c.args.col)) c.in_ok-make_room.ensures.matrix in
    let saturates = set_saturating a c.insert.new.self.matrix c.self.inside.kept.matching.pairs (c.args.row, c.args.col) put in
    subst (λ (w : MatchedMatrix). Searches (c.args.row, c.args.col) w (matched c.match_entry.new.self.columns.matrix c.match_entry.new.self.matching c.match_entry.new.self.cover) c.args.steps.now c.match_entry.new.steps) c.self.view_is
    (λ unsettled. subst (λ (z : RoomyMatrix). SearchesFor (c.args.row, c.args.col) z.matrix c.self.inside.kept.matching.pairs c.self.inside.kept.cover c.match_entry.new.self.matching.pairs c.match_entry.new.self.cover c.args.steps.now c.match_entry.new.steps) (sym c.match_entry.ensures.columns)
    (c.match_entry.ensures.searched (λ settled. unsettled (inr (⊎_elim (λ full. inl (saturates.1 full)) (λ had. inr had) settled)))))

pub returns-clause-no_search : goal.returns-clause-no_search
returns-clause-no_search g c =
    let a = c.self.inside.kept.columns.matrix in
    let put : c.insert.new.self.matrix ≡ with_place a (c.args.row, c.args.col) = c.insert.ensures.matrix ∙ ap (λ (b : Matrix). with_place b (c.args.row, c.args.col)) c.in_ok-make_room.ensures.matrix in
    let saturates = set_saturating a c.insert.new.self.matrix c.self.inside.kept.matching.pairs (c.args.row, c.args.col) put in
    subst (λ (w : MatchedMatrix). NeedsNoSearch (c.args.row, c.args.col) w → c.match_entry.new.steps ≡ c.args.steps.now) c.self.view_is
    (λ h. ⊎_elim (λ entry. absurd (true≢false (sym (c.has.ensures.entry.1 entry) ∙ c.if-has.false))) (λ settled. c.match_entry.ensures.no_search (⊎_elim (λ full. inl (saturates.0 full)) (λ had. inr had) settled)) h)
