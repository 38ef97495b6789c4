use Rattle.std.proofs.Common.{◌≡◌, ◌+◌, ◌∙◌, ◌∷◌, ℕ, List, [], length, length-append, sym, subst, ap, arith, rules}
use Rattle.integer_diagonal.proofs.Bounds.{queue_short}
use Rattle.integer_diagonal.proofs.GrownTrees.{near_in, search_stuck, searched, stepped, taken_labelled}
use Rattle.integer_diagonal.proofs.SearchInvariant.{listed_same}
use Rattle.integer_diagonal.specs.Labels.{AreListed, IsSearch, Labels, labels_of, tree_of}
use Rattle.integer_diagonal.specs.Duals.{priced}
use Rattle.integer_diagonal.specs.SearchTree.{Tree, depth}
use Rattle.integer_diagonal.specs.Searches.{Finds}
use Rattle.integer_diagonal.proofs.search.DijkstraSearch.find.Goals as goal

pub loop-closest-init : goal.loop-closest-init
loop-closest-init g c =
    let w = c.in_ok-scan.ensures in
    let one : length c.scan.new.self.queue.items ≡ 1 = (let now = ap (λ (z : Tree). length z.queue) w.tree in let then = ap (λ (z : Tree). length z.queue) c.in_ok-enter.ensures.tree in let longer = length-append c.args.self.now.queue.items ((c.args.root, 0) ∷ []) in let none = ap (λ (q : List (ℕ × ℕ)). length q) c.requires.clear.queue in omega (arith, now, then, longer, none)) in
    record { search = (depth (tree_of c.scan.new.self) 0, subst (IsSearch (priced c.args.weights.now c.args.assignment.now) c.args.assignment.now.matching.pairs c.args.root (tree_of c.scan.new.self) (labels_of c.scan.new.self) c.scan.new.nearest c.scan.new.self.reached.items (depth (tree_of c.scan.new.self) 0)) (sym one) (w.search c.args.root (search rules))) }

pub next-requires : goal.next-requires
next-requires g c e h =
    let k = c.loop-closest.invariant.search.1.kept in
    let inside = near_in (labels_of c.loop-closest.self) e.1 (k.waits e.0 e.1 h).2 in
    omega (arith, inside, k.distances_are, k.settled_are)

pub settle-requires-clause-row : goal.settle-requires-clause-row
settle-requires-clause-row g c =
    let at = taken_labelled _ _ _ _ _ _ _ _ _ c.loop-closest.invariant.search.1.kept c.in-Some.ensures.taken in
    omega (arith, at.0, c.requires.can.assignment.rows_are)

pub settle-requires-clause-labelled : goal.settle-requires-clause-labelled
settle-requires-clause-labelled g c = (taken_labelled _ _ _ _ _ _ _ _ _ c.loop-closest.invariant.search.1.kept c.in-Some.ensures.taken).1

pub settle-requires-clause-few : goal.settle-requires-clause-few
settle-requires-clause-few g c =
    let short = queue_short _ _ _ _ c.loop-closest.invariant.search.1.grown in
    let same = ap (λ (z : Tree). length z.queue) c.in-Some.ensures.tree in
    omega (arith, short, same, c.requires.can.few)

pub scan-requires-in-Some-clause-search : goal.scan-requires-in-Some-clause-search
scan-requires-in-Some-clause-search g c =
    let e = c.in_ok-place.ensures in
    (c.args.root, (stepped _ _ _ _ _ _ _ _ _ _ _ _ _ _ _ _ _ c.requires.can.assignment.matching c.loop-closest.invariant.search.1 c.in-Some.ensures.taken c.in-Some.ensures.tree e.settles.matched e.settles.tree e.settles.labels (e.settles.listed ∙ c.in-Some.ensures.listed) e.place).search)

pub loop-closest-smaller : goal.loop-closest-smaller
loop-closest-smaller g c =
    let e = c.in_ok-place.ensures in
    let s = stepped _ _ _ _ _ _ _ _ _ _ _ _ _ _ _ _ _ c.requires.can.assignment.matching c.loop-closest.invariant.search.1 c.in-Some.ensures.taken c.in-Some.ensures.tree e.settles.matched e.settles.tree e.settles.labels (e.settles.listed ∙ c.in-Some.ensures.listed) e.place in
    let short = queue_short _ _ _ _ s.search.grown in
    let same = ap (λ (z : Tree). length z.queue) c.in_ok-scan-2.ensures.tree in
    let before = ap (λ (z : Tree). length z.queue) c.in-Some.ensures.tree in
    omega (arith, short, same, before, s.longer, e.place)

pub loop-closest-preserved : goal.loop-closest-preserved
loop-closest-preserved g c =
    let e = c.in_ok-place.ensures in
    let s = stepped _ _ _ _ _ _ _ _ _ _ _ _ _ _ _ _ _ c.requires.can.assignment.matching c.loop-closest.invariant.search.1 c.in-Some.ensures.taken c.in-Some.ensures.tree e.settles.matched e.settles.tree e.settles.labels (e.settles.listed ∙ c.in-Some.ensures.listed) e.place in
    let w = c.in_ok-scan-2.ensures in
    let same : length c.scan-in-Some.new.self.queue.items ≡ c.in_ok-place.place + 1 = ap (λ (z : Tree). length z.queue) w.tree ∙ s.longer in
    record { search = (depth (tree_of c.scan-in-Some.new.self) c.in_ok-place.place, subst (IsSearch (priced c.args.weights.now c.args.assignment.now) c.args.assignment.now.matching.pairs c.args.root (tree_of c.scan-in-Some.new.self) (labels_of c.scan-in-Some.new.self) c.scan-in-Some.new.nearest c.scan-in-Some.new.self.reached.items (depth (tree_of c.scan-in-Some.new.self) c.in_ok-place.place)) (sym same) (w.search c.args.root s.search)) }

pub returns-clause-finds : goal.returns-clause-finds
returns-clause-finds g c =
    let x = priced c.args.weights.now c.args.assignment.now in
    let m = c.args.assignment.now.matching.pairs in
    let n = c.loop-closest.nearest in
    let k = c.loop-closest.invariant.search.1 in
    let none = c.in_default.ensures.none.0 in
    subst (λ (z : Tree). Finds x m c.args.root z n) (sym c.in_default.ensures.tree) (record {
      tree = k.grown;
      within = k.best.within;
      found = λ near. (k.best.nearest near, searched _ _ _ _ _ _ _ _ k none);
      stuck = λ far. search_stuck _ _ _ _ _ _ _ _ _ c.requires.can.room g.met.W.Width.in_range.1 c.requires.can.assignment.matching c.requires.can.assignment.bounded k none far;
    })

pub returns-clause-clearable : goal.returns-clause-clearable
returns-clause-clearable g c =
    let k = c.loop-closest.invariant.search.1 in
    let same = c.in_default.ensures.none.1 in
    record {
      listed = listed_same (labels_of c.loop-closest.self) (labels_of c.next.new.self) _ (ap (λ (z : Labels). z.distances) same) (ap (λ (z : Labels). z.settled) same) (subst (AreListed (labels_of c.loop-closest.self)) (sym c.in_default.ensures.listed) k.listed);
      distances = ap (λ (z : Labels). length z.distances) same ∙ k.kept.distances_are;
      settled = ap (λ (z : Labels). length z.settled) same ∙ k.kept.settled_are;
      parents = ap (λ (z : Labels). length z.parents) same ∙ k.kept.parents_are;
    }
