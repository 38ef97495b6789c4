use Rattle.std.proofs.Common.{rules}
use Rattle.bottom_up.specs.BottomUpSearch.{IsRowSearch}
use Rattle.bottom_up.proofs.search.BottomUpSearchWorkWorkerOutOfMemory.run.Goals as goal

pub invariant_of-own : goal.invariant_of-own
invariant_of-own c =
    let over : IsRowSearch c.args.self.now.forest.now c.args.self.now.board.now c.args.self.now.free.now = search rules in
    record {
      over = record {
        sized = over.sized;
        each = λ r h. over.each r (c.share.ensures.within r h);
      };
    }
