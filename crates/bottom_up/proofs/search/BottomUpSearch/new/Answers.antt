use Rattle.bottom_up.proofs.search.BottomUpSearch.new.Goals as goal

pub returns-clause-runs : goal.returns-clause-runs
returns-clause-runs c = λ claims wins legal. c.new_pairs_run.ensures c.args.forest.now claims wins legal.claims legal.places legal.wins legal.leaves
