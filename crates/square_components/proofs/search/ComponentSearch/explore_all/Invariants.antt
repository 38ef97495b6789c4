use Rattle.std.proofs.Common.{◌≡◌, ◌≢◌, ℕ, ◌<◌, [], slice_index}
use Rattle.bip_defs.specs.Lists.{Among}
use Rattle.square_components.specs.Numbers.{look}
use Rattle.square_components.specs.Stacks.{IsDepthFirst}
use Rattle.square_components.proofs.search.ComponentSearch.explore_all.Given as goal

abbrev pub invariant-loop-place : goal.invariant-loop-place
invariant-loop-place g l =
    let c = g.C.ColumnLists in
    let part = g.S.SquarePart in
    record {
      search : IsDepthFirst (c.matrix l.columns) (c.listed l.columns) (part.pairs l.part) l.self;
      empty : l.self.frames ≡ [];
      met : (k r : ℕ) → k < l.place → Among (r, slice_index (part.cols l.part) k) (part.pairs l.part) → look l.self.state r ≢ 0;
    }
