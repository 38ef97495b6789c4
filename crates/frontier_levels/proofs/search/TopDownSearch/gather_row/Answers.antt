use Rattle.std.proofs.Common.{◌∙◌, ◌<◌, List, inl, length, not, subst, sym, true≢false}
use Rattle.std.proofs.lemmas.Bool.{not-false, not-true}
use Rattle.frontier_levels.specs.TopDownSearch.{FitsColumns, StaysCovered}
use Rattle.level_sharing.specs.Candidates.{HasGathered, IsCovered}
use Rattle.level_sharing.specs.Progress.{CanClaim}
use Rattle.level_sharing.specs.Shares.{by_columns}
use Rattle.level_sharing.specs.declared.candidate.Candidate.{Candidate}
use Rattle.frontier_levels.proofs.SearchLemmas.{covered_last, gathered_more, gathered_on, stays_known, stays_more, stays_on}
use Rattle.frontier_levels.proofs.search.TopDownSearch.gather_row.Goals as goal

pub make_room-requires : goal.make_room-requires
make_room-requires c = record {
  gathered = gathered_on _ _ _ _ _ _ c.finds_holder.ensures.seat (c.finds_holder.ensures.settled c.args.self.now.forest.now) c.requires.gathered;
}

pub returns-then-finds_holder-clause-gathered : goal.returns-then-finds_holder-clause-gathered
returns-then-finds_holder-clause-gathered c = gathered_on _ _ _ _ _ _ c.finds_holder.ensures.seat (c.finds_holder.ensures.settled c.args.self.now.forest.now) c.requires.gathered

pub returns-then-finds_holder-clause-progress : goal.returns-then-finds_holder-clause-progress
returns-then-finds_holder-clause-progress c = (c.finds_holder.ensures.progress c.args.self.now.forest.now (by_columns c.args.self.now.share.now)).goes_on

pub returns-then-finds_holder-clause-stays : goal.returns-then-finds_holder-clause-stays
returns-then-finds_holder-clause-stays c = stays_known c.args.self.now.forest.now _ _ c.args.candidates.now.items (c.finds_holder.ensures.progress c.args.self.now.forest.now (by_columns c.args.self.now.share.now)).remembers

pub returns-then-finds_holder-clause-row : goal.returns-then-finds_holder-clause-row
returns-then-finds_holder-clause-row c = inl (inl (c.finds_holder.ensures.holder c.if-finds_holder.true))

pub returns-in_err-make_room-clause-progress : goal.returns-in_err-make_room-clause-progress
returns-in_err-make_room-clause-progress c u p = c.make_room.ensures.progress u ((c.finds_holder.ensures.progress c.args.self.now.forest.now (by_columns c.args.self.now.share.now)).goes_on u p)

pub returns-clause-progress : goal.returns-clause-progress
returns-clause-progress c u p = c.make_room.ensures.progress u ((c.finds_holder.ensures.progress c.args.self.now.forest.now (by_columns c.args.self.now.share.now)).goes_on u p)

pub returns-clause-gathered : goal.returns-clause-gathered
returns-clause-gathered c =
    let s = c.args.self.now.forest.now in
    let b = c.args.self.now.board.now in
    let can : CanClaim s (by_columns c.args.self.now.share.now) c.args.row c.args.col c.args.root (not c.is_matched-free.result) = record {
      is_own = c.requires.col;
      entry = c.requires.entry;
      inside = c.requires.root.inside;
      rooted = c.requires.root.rooted;
      mated = λ f. c.is_matched-free.ensures.0 (not-false c.is_matched-free.result f);
      is_free = λ t m. true≢false (sym (c.is_matched-free.ensures.1 m) ∙ not-true c.is_matched-free.result t);
    } in
    let row : c.args.row < length b.rows = subst (λ n. c.args.row < n) (sym c.requires.search.sized.rows) c.requires.entry.0 in
    let root : c.args.root < length b.roots = subst (λ n. c.args.root < n) (sym c.requires.search.sized.roots) c.requires.root.in_range in
    subst (λ (l : List Candidate). HasGathered s b (FitsColumns s b c.args.self.now.share.now) c.make_room.new.worker l) (sym c.push.ensures.items)
    (gathered_more s b c.args.self.now.share.now c.make_room.new.worker c.make_room.new.candidates.items (record { row = c.args.row; col = c.args.col; root = c.args.root; free = not c.is_matched-free.result }) can (row, root) c.in_ok-make_room.ensures.gathered)

pub returns-clause-stays : goal.returns-clause-stays
returns-clause-stays c =
    let w = c.make_room.new.worker in
    let xs = c.make_room.new.candidates.items in
    let looked = stays_known c.args.self.now.forest.now _ _ c.args.candidates.now.items (c.finds_holder.ensures.progress c.args.self.now.forest.now (by_columns c.args.self.now.share.now)).remembers in
    let more : StaysCovered w xs w c.push.new.self.items = subst (λ (l : List Candidate). StaysCovered w xs w l) (sym c.push.ensures.items) (stays_more w xs (record { row = c.args.row; col = c.args.col; root = c.args.root; free = not c.is_matched-free.result })) in
    stays_on _ _ _ _ _ _ (stays_on _ _ _ _ _ _ looked c.in_ok-make_room.ensures.stays) more

pub returns-clause-row : goal.returns-clause-row
returns-clause-row c =
    subst (λ (l : List Candidate). IsCovered c.make_room.new.worker l c.args.row c.args.root) (sym c.push.ensures.items)
    (covered_last c.make_room.new.worker c.make_room.new.candidates.items (record { row = c.args.row; col = c.args.col; root = c.args.root; free = not c.is_matched-free.result }))
