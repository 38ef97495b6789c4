use Rattle.path_search.proofs.search.Search.find.Goals as goal

pub returns-in-Found-clause-found : goal.returns-in-Found-clause-found
returns-in-Found-clause-found g c =
    let found = c.in-Found.ensures in
    record { augmenting = found.1.augmenting; entries = found.1.entries; from_root = rw (← c.loop-next.invariant.root, ← found.0.root_stays) found.1.from_root; fresh = λ r on matched. (found.0.marks _ c.loop-next.invariant.marks).fresh r (found.1.visited r on) }
