use Rattle.std.proofs.Common.{◌≡◌, ◌<◌, ◌+◌, ◌∙◌, false, drop, length, get_or, set, sym, subst, arith, length-set}
use Rattle.integer_diagonal.proofs.SearchInvariant.{clear_step}
use Rattle.integer_diagonal.specs.Labels.{AreListed, labels_of}
use Rattle.integer_diagonal.proofs.search.DijkstraSearch.clear.Goals as goal

pub index_mut-requires : goal.index_mut-requires
index_mut-requires g c =
    let i = c.loop-k.invariant in
    let long : c.loop-k.k < length c.args.self.now.reached.items = omega (arith, c.loop-k-test.true, c.len-k-end.ensures, c.args.self.now.reached.ok.0) in
    let read : c.index.result.now ≡ get_or c.args.self.now.reached.items c.loop-k.k c.index.result.now = subst (λ z. c.index.result.now ≡ get_or z c.loop-k.k c.index.result.now) i.reached c.index.ensures in
    let step = clear_step (labels_of c.loop-k.self) c.args.self.now.reached.items c.loop-k.k c.index.result.now long read (i.settled ∙ sym i.distances) i.listed in
    omega (arith, step.0, c.loop-k.self.distances.ok.0)

pub index_mut-requires-in-loop-k : goal.index_mut-requires-in-loop-k
index_mut-requires-in-loop-k g c =
    let i = c.loop-k.invariant in
    let long : c.loop-k.k < length c.args.self.now.reached.items = omega (arith, c.loop-k-test.true, c.len-k-end.ensures, c.args.self.now.reached.ok.0) in
    let read : c.index.result.now ≡ get_or c.args.self.now.reached.items c.loop-k.k c.index.result.now = subst (λ z. c.index.result.now ≡ get_or z c.loop-k.k c.index.result.now) i.reached c.index.ensures in
    let step = clear_step (labels_of c.loop-k.self) c.args.self.now.reached.items c.loop-k.k c.index.result.now long read (i.settled ∙ sym i.distances) i.listed in
    omega (arith, step.0, i.settled, i.distances, c.loop-k.self.settled.ok.0)

pub loop-k-preserved : goal.loop-k-preserved
loop-k-preserved g c =
    let i = c.loop-k.invariant in
    let long : c.loop-k.k < length c.args.self.now.reached.items = omega (arith, c.loop-k-test.true, c.len-k-end.ensures, c.args.self.now.reached.ok.0) in
    let read : c.index.result.now ≡ get_or c.args.self.now.reached.items c.loop-k.k c.index.result.now = subst (λ z. c.index.result.now ≡ get_or z c.loop-k.k c.index.result.now) i.reached c.index.ensures in
    let step = clear_step (labels_of c.loop-k.self) c.args.self.now.reached.items c.loop-k.k c.index.result.now long read (i.settled ∙ sym i.distances) i.listed in
    record {
      listed = subst (λ d. AreListed (record (labels_of c.loop-k.self) { distances = set c.loop-k.self.distances.items c.index.result.now d; settled = set c.loop-k.self.settled.items c.index.result.now false }) (drop (c.loop-k.k + 1) c.args.self.now.reached.items)) (sym c.infinity.ensures) step.1;
      reached = i.reached;
      distances = length-set c.loop-k.self.distances.items c.index.result.now c.infinity.result ∙ i.distances;
      settled = length-set c.loop-k.self.settled.items c.index.result.now _ ∙ i.settled;
      parents = i.parents;
    }
