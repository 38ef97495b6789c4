use Rattle.std.proofs.Common.{map, subst, sym, refl, arith, true}
use Rattle.std.proofs.Math.ListN.{length-set}
use Rattle.std.proofs.lemmas.List.{length-map}
use Rattle.bip_defs.specs.Matrix.{IsEntry}
use Rattle.bip_defs.specs.Lists.{IsMarked}
use Rattle.path_search.proofs.Steps.{column_short, goes_down_by, onward_entered, passed_all_by, reaches_entered, visited_room, unmarked_unvisited}
use Rattle.path_search.proofs.TrailLemmas.{trail_length}
use Rattle.path_search.proofs.search.Search.descend.Goals as goal

pub next_place-place-requires-clause-in_range : goal.next_place-place-requires-clause-in_range
next_place-place-requires-clause-in_range g c = λ r h. rw c.requires.search.rows_are (c.rows_of-rows.ensures.rows.sound r h).0

pub returns-then-place-rows : goal.returns-then-place-rows
returns-then-place-rows g c = (refl, passed_all_by (g.S.Side.matrix c.args.side.now) _ _ c.args.at.col _ _ c.rows_of-rows.ensures.column (omega (arith, length-map c.rows_of-rows.result.now g.F.Id.number, c.if-place-rows.true)) c.next_place-place.ensures.passed)

pub enter-requires-clause-row : goal.enter-requires-clause-row
enter-requires-clause-row g c = rw c.requires.search.rows_are (c.rows_of-rows.ensures.rows.sound _ c.row_at-row.ensures.among).0

pub enter-requires-clause-room : goal.enter-requires-clause-room
enter-requires-clause-room g c =
    let f = c.requires.search in
    let e : IsEntry (g.S.Side.matrix c.args.side.now) c.row_at-row.result c.args.at.col = c.rows_of-rows.ensures.rows.sound _ c.row_at-row.ensures.among in
    let un : ¬ IsMarked c.args.self.now.marks c.row_at-row.result = subst (λ x. ¬ IsMarked c.args.self.now.marks x) (sym c.row_at-row.ensures.at) (c.next_place-place.ensures.unmarked c.if-place-rows.false) in
    let room = visited_room _ _ _ _ _ _ _ f e.0 (unmarked_unvisited _ _ _ _ _ _ _ f un) in
    rw f.rows_are (omega arith)

pub col_of-requires : goal.col_of-requires
col_of-requires g c = rw c.requires.matching.rows (c.rows_of-rows.ensures.rows.sound _ c.row_at-row.ensures.among).0

pub overflow_cast-place : goal.overflow_cast-place
overflow_cast-place g c =
    let short = column_short (g.S.Side.matrix c.args.side.now) (map g.F.Id.number c.rows_of-rows.result.now) c.args.at.col c.rows_of-rows.ensures.rows in
    let few = c.requires.search.few_rows in
    omega (arith, length-map c.rows_of-rows.result.now g.F.Id.number)

pub overflow_add-place : goal.overflow_add-place
overflow_add-place g c =
    let short = column_short (g.S.Side.matrix c.args.side.now) (map g.F.Id.number c.rows_of-rows.result.now) c.args.at.col c.rows_of-rows.ensures.rows in
    let few = c.requires.search.few_rows in
    omega (arith, length-map c.rows_of-rows.result.now g.F.Id.number)

pub note-requires : goal.note-requires
note-requires g c = record {
  room =
      let f = c.requires.search in
      let e : IsEntry (g.S.Side.matrix c.args.side.now) c.row_at-row.result c.args.at.col = c.rows_of-rows.ensures.rows.sound _ c.row_at-row.ensures.among in
      let un : ¬ IsMarked c.args.self.now.marks c.row_at-row.result = subst (λ x. ¬ IsMarked c.args.self.now.marks x) (sym c.row_at-row.ensures.at) (c.next_place-place.ensures.unmarked c.if-place-rows.false) in
      let room = visited_room _ _ _ _ _ _ _ f e.0 (unmarked_unvisited _ _ _ _ _ _ _ f un) in
      let same = trail_length _ _ _ _ _ _ _ _ f.trail in
      let le = f.path_shorter in
      let marks = f.rows_are in
      rw c.enter.ensures (omega (arith, length-set c.args.self.now.marks c.row_at-row.result true));
}

pub returns-in-None : goal.returns-in-None
returns-in-None g c =
    let f = c.requires.search in
    let e : IsEntry (g.S.Side.matrix c.args.side.now) c.row_at-row.result c.args.at.col = c.rows_of-rows.ensures.rows.sound _ c.row_at-row.ensures.among in
    let un : ¬ IsMarked c.args.self.now.marks c.row_at-row.result = subst (λ x. ¬ IsMarked c.args.self.now.marks x) (sym c.row_at-row.ensures.at) (c.next_place-place.ensures.unmarked c.if-place-rows.false) in
    rw c.enter.ensures (onward_entered _ _ _ (rw f.rows_are e.0) un, reaches_entered _ _ _ _ _ _ _ f e c.in-None.ensures.none)

pub returns-in-Some : goal.returns-in-Some
returns-in-Some g c =
    let f = c.requires.search in
    let e : IsEntry (g.S.Side.matrix c.args.side.now) c.row_at-row.result c.args.at.col = c.rows_of-rows.ensures.rows.sound _ c.row_at-row.ensures.among in
    let un : ¬ IsMarked c.args.self.now.marks c.row_at-row.result = subst (λ x. ¬ IsMarked c.args.self.now.marks x) (sym c.row_at-row.ensures.at) (c.next_place-place.ensures.unmarked c.if-place-rows.false) in
    rw (c.note.ensures, c.enter.ensures) (goes_down_by _ _ _ _ _ _ _ _ _ _ (map g.F.Id.number c.rows_of-rows.result.now) c.requires.matching.matching f e un c.in-Some.ensures.found c.rows_of-rows.ensures.column c.next_place-place.ensures.passed c.row_at-row.ensures.at (omega arith))
