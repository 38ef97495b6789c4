use Rattle.std.proofs.Common.{List, sym, subst, inl}
use Rattle.bottom_up.specs.Candidates.{RowsStayCovered}
use Rattle.bottom_up.specs.Candidates.{HasGatheredRows}
use Rattle.level_sharing.specs.declared.candidate.Candidate.{Candidate}
use Rattle.bottom_up.proofs.search.BottomUpSearch.make_room.Goals as goal

pub claim_each-requires : goal.claim_each-requires
claim_each-requires c = record {
  gathered = subst (λ (l : List Candidate). HasGatheredRows c.args.self.now.forest.now c.args.self.now.board.now c.args.self.now.free.now c.args.worker.now l) (sym c.as_slice.ensures.value) c.requires.gathered;
}

pub returns-in_ok-claim_each-clause-gathered : goal.returns-in_ok-claim_each-clause-gathered
returns-in_ok-claim_each-clause-gathered c =
    subst (λ (l : List Candidate). HasGatheredRows c.args.self.now.forest.now c.args.self.now.board.now c.args.self.now.free.now c.claim_each.new.worker l) (sym c.clear.ensures)
    (record { seat = c.claim_each.ensures.seat; settled = c.in_ok-claim_each.ensures.settled; each = λ x m. absurd m })

pub returns-in_ok-claim_each-clause-stays : goal.returns-in_ok-claim_each-clause-stays
returns-in_ok-claim_each-clause-stays c =
    subst (λ (l : List Candidate). RowsStayCovered c.args.self.now.forest.now c.args.worker.now l c.claim_each.new.worker c.clear.new.self.items) c.as_slice.ensures.value
    (λ row covered. inl (c.in_ok-claim_each.ensures.through row covered))
