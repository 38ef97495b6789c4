use Rattle.std.proofs.Common.{◌∙◌, sym, subst, arith, rules}
use Rattle.bip_defs.specs.Matrix.{AreEntries, Matrix}
use Rattle.integer_diagonal.proofs.HallSets.{stuck_not_full}
use Rattle.integer_diagonal.proofs.PathLemmas.{HasRoot, IsFlipped, extended, found_near, dual_fits, pairs_fewer, price_fits, way, way_entries, way_range, way_root}
use Rattle.integer_diagonal.specs.Labels.{IsClear, labels_of, tree_of}
use Rattle.integer_diagonal.specs.Duals.{IsAssigned, cheap, priced_from}
use Rattle.integer_diagonal.proofs.path.PathSearch.extend.Goals as goal
use Rattle.bip_defs.specs.Queues.{heads}
use Rattle.bip_defs.proofs.Queues.{head_at}

pub returns-then-not-exists-clause-stuck : goal.returns-then-not-exists-clause-stuck
returns-then-not-exists-clause-stuck g c = λ e other full.
    let k = c.requires.can.assignment.matching in
    let f = c.in_ok-nearest.ensures.finds in
    stuck_not_full _ _ other _ _ k.rows_differ k.cols_differ f.tree (f.stuck c.if-not-exists.ensures.no) full

pub raise-requires : goal.raise-requires
raise-requires g c =
    let f = found_near _ _ _ _ _ _ _ _ _ c.as_slice-queue.ensures.value c.as_slice.ensures.value c.in_ok-nearest.ensures.finds.tree c.in_ok-nearest.ensures.finds.found c.if-not-exists.ensures.yes in
    let a = c.requires.can.assignment in
    record {
      lengths = f.grown.long;
      in_range = λ i lt. (let within = f.grown.in_range _ (head_at c.as_slice-queue.result.now i lt) in let long = a.feasible.duals_are in omega (arith, within, long));
      cols = a.cols_are ∙ sym a.feasible.duals_are;
      rows_in_range = λ r d pair. (let within = (a.matching.entries r d pair).0 in let long = a.feasible.prices_are in omega (arith, within, long));
      distinct = f.grown.distinct;
      rows_differ = a.matching.rows_differ;
      cols_differ = a.matching.cols_differ;
      near = f.searched.depths;
      duals_fit = λ d. dual_fits _ _ _ _ _ _ _ _ d c.requires.can.room a.matching a.bounded f;
      prices_fit = λ r. price_fits _ _ _ _ _ _ _ _ r c.requires.can.room a.matching a.bounded f;
    }

pub path_to-requires-clause-queue : goal.path_to-requires-clause-queue
path_to-requires-clause-queue g c =
    let f = found_near _ _ _ _ _ _ _ _ _ c.as_slice-queue.ensures.value c.as_slice.ensures.value c.in_ok-nearest.ensures.finds.tree c.in_ok-nearest.ensures.finds.found c.if-not-exists.ensures.yes in
    let on = way _ _ _ _ _ _ _ _ _ _ _ _ _ c.raise.ensures.matching c.requires.can.assignment f (c.raise.ensures.raised c.args.weights.now c.args.assignment.now.top) in
    on.queue

pub path_to-requires-clause-place : goal.path_to-requires-clause-place
path_to-requires-clause-place g c =
    let f = found_near _ _ _ _ _ _ _ _ _ c.as_slice-queue.ensures.value c.as_slice.ensures.value c.in_ok-nearest.ensures.finds.tree c.in_ok-nearest.ensures.finds.found c.if-not-exists.ensures.yes in
    let on = way _ _ _ _ _ _ _ _ _ _ _ _ _ c.raise.ensures.matching c.requires.can.assignment f (c.raise.ensures.raised c.args.weights.now c.args.assignment.now.top) in
    on.within

pub path_to-requires-clause-leaf : goal.path_to-requires-clause-leaf
path_to-requires-clause-leaf g c =
    let f = found_near _ _ _ _ _ _ _ _ _ c.as_slice-queue.ensures.value c.as_slice.ensures.value c.in_ok-nearest.ensures.finds.tree c.in_ok-nearest.ensures.finds.found c.if-not-exists.ensures.yes in
    let on = way _ _ _ _ _ _ _ _ _ _ _ _ _ c.raise.ensures.matching c.requires.can.assignment f (c.raise.ensures.raised c.args.weights.now c.args.assignment.now.top) in
    on.free

pub path_to-requires-clause-room : goal.path_to-requires-clause-room
path_to-requires-clause-room g c =
    let few = pairs_fewer _ _ _ _ c.raise.ensures.matching c.requires.can.assignment c.requires.can.within c.requires.can.free in
    omega (arith, few, c.requires.ready.room)

pub flip-requires-clause-in_range : goal.flip-requires-clause-in_range
flip-requires-clause-in_range g c =
    let f = found_near _ _ _ _ _ _ _ _ _ c.as_slice-queue.ensures.value c.as_slice.ensures.value c.in_ok-nearest.ensures.finds.tree c.in_ok-nearest.ensures.finds.found c.if-not-exists.ensures.yes in
    let on = way _ _ _ _ _ _ _ _ _ _ _ _ _ c.raise.ensures.matching c.requires.can.assignment f (c.raise.ensures.raised c.args.weights.now c.args.assignment.now.top) in
    let is = c.as_slice-2.ensures.value in
    let entries = way_entries _ _ _ _ _ _ on c.path_to.ensures.pairs in
    λ r d pair. way_range _ _ _ _ _ _ r d on (subst (AreEntries _) (sym is) entries) pair

pub returns : goal.returns
returns g c =
    let f = found_near _ _ _ _ _ _ _ _ _ c.as_slice-queue.ensures.value c.as_slice.ensures.value c.in_ok-nearest.ensures.finds.tree c.in_ok-nearest.ensures.finds.found c.if-not-exists.ensures.yes in
    let on = way _ _ _ _ _ _ _ _ _ _ _ _ _ c.raise.ensures.matching c.requires.can.assignment f (c.raise.ensures.raised c.args.weights.now c.args.assignment.now.top) in
    let a : Matrix = cheap (priced_from c.args.weights.now c.args.assignment.now.top c.raise.new.assignment) in
    let is = c.as_slice-2.ensures.value in
    let entries = subst (AreEntries a) (sym is) (way_entries _ _ _ _ _ _ on c.path_to.ensures.pairs) in
    let flipped : IsFlipped a c.raise.new.assignment.matching c.flip.new.self c.as_slice-queue.result.now c.as_slice-2.result.now = record {
      sizes = c.flip.ensures.sizes;
      matching = c.flip.ensures.entries a on.matching entries;
      covered = c.flip.ensures.covered;
      swaps = c.flip.ensures.pairs;
      root = subst (HasRoot c.raise.new.assignment.matching.pairs (heads c.as_slice-queue.result.now)) (sym is) (way_root _ _ _ _ _ _ on c.path_to.ensures.pairs c.path_to.ensures.path);
    } in
    let e = extended _ _ _ _ _ _ _ _ _ _ _ _ _ _ _ c.raise.ensures.matching c.requires.can.assignment f (c.raise.ensures.raised c.args.weights.now c.args.assignment.now.top) flipped in
    record {
      extends = record {
        assignment = subst (λ z. IsAssigned (priced_from c.args.weights.now z c.raise.new.assignment) c.flip.new.self) (sym c.raise.ensures.top) e.assigned;
        top = c.raise.ensures.top;
        covered = e.covered;
      };
      found = λ yes. (
        e.mated,
        record {
          clear = subst (λ n. IsClear n (tree_of c.clear.new.self) (labels_of c.clear.new.self)) c.in_ok-nearest.ensures.clearable.distances c.clear.ensures.clear;
          listed = c.clear.ensures.listed;
          room = (let start = c.requires.ready.room in let kept = c.path_to.ensures.room in omega (arith, start, kept));
        },
      );
      stuck = search rules;
    }
