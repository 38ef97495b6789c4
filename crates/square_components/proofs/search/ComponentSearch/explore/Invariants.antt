use Rattle.std.proofs.Common.{◌≡◌, ◌≢◌, ◌≤◌, get_or, length}
use Rattle.square_components.specs.Found.{col_in}
use Rattle.square_components.specs.Numbers.{look}
use Rattle.square_components.specs.Stacks.{IsDepthFirst, work}
use Rattle.square_components.specs.Steps.{StaysMet, with_top}
use Rattle.square_components.proofs.Exploring.{Waits}
use Rattle.square_components.proofs.search.ComponentSearch.explore.Given as goal

abbrev pub invariant-search : goal.invariant-search
invariant-search g l =
    let c = g.C.ColumnLists in
    record {
      search : IsDepthFirst (c.matrix l.columns) (c.listed l.columns) (g.S.SquarePart.pairs l.part) (with_top l.self l.place l.at);
      list : g.C.Rows.NumberList.numbers l.list ≡ c.listed l.columns (col_in (g.S.SquarePart.pairs l.part) (get_or l.self.stack l.place 0));
      within : l.at ≤ length (g.C.Rows.NumberList.numbers l.list);
      root : look l.self.state l.fn.root ≢ 0;
      met : StaysMet l.fn.self.state l.self.state;
      waits : Waits (c.listed l.columns) (g.S.SquarePart.pairs l.part) l.self;
    }

abbrev pub decreases-search : goal.decreases-search
decreases-search g l = work l.self
