use Rattle.std.proofs.Common.{length, ap, inl, inr, refl, arith}
use Rattle.integer_diagonal.proofs.AmountTests.{at_least, less}
use Rattle.integer_diagonal.proofs.SearchInvariant.{is_marked, nearest_beyond, not_marked, skip_keeps, takes_nearest}
use Rattle.integer_diagonal.specs.Labels.{Labels, labels_of}
use Rattle.integer_diagonal.proofs.search.DijkstraSearch.next.Goals as goal

pub index-requires : goal.index-requires
index-requires g c =
    let i = c.loop-nearest.invariant in
    let lt = c.requires (c.in-Some.nearest.0, c.in-Some.nearest.1) (i.holds _ ((c.in-Some.ensures.taken _).1 (inl refl))) in
    let same = ap (λ (z : Labels). length z.settled) i.labels in
    omega (arith, lt, same, c.loop-nearest.self.settled.ok.0)

pub returns-then-ge-clause-none : goal.returns-then-ge-clause-none
returns-then-ge-clause-none g c =
    let i = c.loop-nearest.invariant in
    (nearest_beyond (labels_of c.args.self.now) (labels_of c.loop-nearest.self) c.in-Some.nearest.0 c.args.limit i.keeps c.in-Some.ensures.nearest (at_least c.in-Some.nearest.0 c.args.limit c.ge.result c.ge.ensures c.if-ge.true), ap (λ (z : Labels). record z { waiting = c.pop.new.self }) i.labels)

pub returns-then-not-index-clause-taken : goal.returns-then-not-index-clause-taken
returns-then-not-index-clause-taken g c =
    let i = c.loop-nearest.invariant in
    let p = c.in-Some.ensures in
    let lt = c.requires (c.in-Some.nearest.0, c.in-Some.nearest.1) (i.holds _ ((p.taken _).1 (inl refl))) in
    let same = ap (λ (z : Labels). length z.settled) i.labels in
    takes_nearest (labels_of c.args.self.now) (labels_of c.loop-nearest.self) c.pop.new.self c.in-Some.nearest.0 c.in-Some.nearest.1 c.args.limit i.labels i.holds i.keeps p.taken p.nearest (not_marked c.loop-nearest.self.settled.items c.args.self.now.settled.items c.in-Some.nearest.1 _ (ap (λ (z : Labels). z.settled) i.labels) (omega (arith, lt, same)) c.index.ensures c.if-not-index.true) (less c.in-Some.nearest.0 c.args.limit c.ge.result c.ge.ensures c.if-ge.false)

pub loop-nearest-preserved : goal.loop-nearest-preserved
loop-nearest-preserved g c =
    let i = c.loop-nearest.invariant in
    let p = c.in-Some.ensures in
    let lt = c.requires (c.in-Some.nearest.0, c.in-Some.nearest.1) (i.holds _ ((p.taken _).1 (inl refl))) in
    let same = ap (λ (z : Labels). length z.settled) i.labels in
    record {
      labels = ap (λ (z : Labels). record z { waiting = c.pop.new.self }) i.labels;
      tree = i.tree;
      listed = i.listed;
      holds = λ e h. i.holds e ((p.taken e).1 (inr h));
      keeps = skip_keeps (labels_of c.args.self.now) (labels_of c.loop-nearest.self) c.pop.new.self c.in-Some.nearest.0 c.in-Some.nearest.1 i.keeps p.taken (is_marked c.loop-nearest.self.settled.items c.args.self.now.settled.items c.in-Some.nearest.1 _ (ap (λ (z : Labels). z.settled) i.labels) (omega (arith, lt, same)) c.index.ensures c.if-not-index.false);
    }
