use Rattle.std.proofs.Common.{◌∙◌, List, [], ◌∷◌, ◌++◌, rules, sym, subst}
use Rattle.bip_defs.specs.Lists.{Among}
use Rattle.bottom_up.specs.Candidates.{FitsRows, IsCoveredRow, RowsStayCovered}
use Rattle.bottom_up.specs.Candidates.{HasGatheredRows}
use Rattle.bottom_up.specs.BottomUpSearch.{IsRowSearch}
use Rattle.level_sharing.specs.Shares.{of_rows}
use Rattle.level_sharing.specs.declared.candidate.Candidate.{Candidate}
use Rattle.bottom_up.proofs.CandidateLemmas.{covered_last, gathered_more, gathered_on, stays_more, stays_through}
use Rattle.bottom_up.proofs.search.BottomUpSearch.gather.Goals as goal

pub find-requires-clause-row : goal.find-requires-clause-row
find-requires-clause-row c =
    let over : IsRowSearch c.args.self.now.forest.now c.args.self.now.board.now c.args.self.now.free.now = search rules in
    over.each c.args.row c.requires.row

pub make_room-requires : goal.make_room-requires
make_room-requires c = record {
  gathered = gathered_on c.args.self.now.forest.now c.args.self.now.board.now (FitsRows c.args.self.now.forest.now c.args.self.now.free.now) c.args.worker.now c.find.new.worker c.args.candidates.now.items (c.find.ensures.stays.seat ∙ c.requires.gathered.seat) c.find.ensures.settled c.requires.gathered;
}

pub returns-in_err-make_room-in-Some-clause-progress :
    goal.returns-in_err-make_room-in-Some-clause-progress
returns-in_err-make_room-in-Some-clause-progress c = λ u p. c.make_room.ensures.progress u (c.find.ensures.progress (of_rows c.args.self.now.free.now) u p)

pub returns-in-None-clause-gathered : goal.returns-in-None-clause-gathered
returns-in-None-clause-gathered c = gathered_on c.args.self.now.forest.now c.args.self.now.board.now (FitsRows c.args.self.now.forest.now c.args.self.now.free.now) c.args.worker.now c.find.new.worker c.args.candidates.now.items (c.find.ensures.stays.seat ∙ c.requires.gathered.seat) c.find.ensures.settled c.requires.gathered

pub returns-in-None-clause-stays : goal.returns-in-None-clause-stays
returns-in-None-clause-stays c = stays_through c.args.self.now.forest.now c.args.worker.now c.find.new.worker c.args.candidates.now.items c.find.ensures.stays.rows

pub returns-in_ok-make_room-in-Some-clause-progress :
    goal.returns-in_ok-make_room-in-Some-clause-progress
returns-in_ok-make_room-in-Some-clause-progress c = λ u p. c.make_room.ensures.progress u (c.find.ensures.progress (of_rows c.args.self.now.free.now) u p)

pub returns-in_ok-make_room-in-Some-clause-gathered :
    goal.returns-in_ok-make_room-in-Some-clause-gathered
returns-in_ok-make_room-in-Some-clause-gathered c =
    let s = c.args.self.now.forest.now in
    let own = subst (λ r. Among r c.args.self.now.free.now) (sym c.in-Some.ensures.of_row) c.requires.row in
    subst (λ (l : List Candidate). HasGatheredRows c.args.self.now.forest.now c.args.self.now.board.now c.args.self.now.free.now c.make_room.new.worker l) (sym c.push.ensures.items)
    (gathered_more s c.args.self.now.board.now c.args.self.now.free.now c.make_room.new.worker c.make_room.new.candidates.items c.in-Some.candidate own c.in-Some.ensures.candidate c.in_ok-make_room-in-Some.ensures.gathered)

pub returns-in_ok-make_room-in-Some-clause-stays :
    goal.returns-in_ok-make_room-in-Some-clause-stays
returns-in_ok-make_room-in-Some-clause-stays c =
    let s = c.args.self.now.forest.now in
    let w = c.make_room.new.worker in
    let xs = c.make_room.new.candidates.items in
    let looked = stays_through s c.args.worker.now c.find.new.worker c.args.candidates.now.items c.find.ensures.stays.rows in
    let more : RowsStayCovered s w xs w c.push.new.self.items = subst (λ (l : List Candidate). RowsStayCovered s w xs w l) (sym c.push.ensures.items) (stays_more s w xs c.in-Some.candidate) in
    λ row covered. more row (c.in_ok-make_room-in-Some.ensures.stays row (looked row covered))

pub returns-in_ok-make_room-in-Some-clause-row : goal.returns-in_ok-make_room-in-Some-clause-row
returns-in_ok-make_room-in-Some-clause-row c =
    let s = c.args.self.now.forest.now in
    let w = c.make_room.new.worker in
    let xs = c.make_room.new.candidates.items in
    subst (λ (l : List Candidate). IsCoveredRow s w l c.args.row) (sym c.push.ensures.items)
    (subst (λ r. IsCoveredRow s w (xs ++ c.in-Some.candidate ∷ []) r) c.in-Some.ensures.of_row (covered_last s w xs c.in-Some.candidate))
