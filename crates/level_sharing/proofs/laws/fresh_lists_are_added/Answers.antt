use Rattle.level_sharing.proofs.NewWords.{listed_more}
use Rattle.level_sharing.proofs.laws.fresh_lists_are_added.Goals as goal

pub returns : goal.returns
returns c = λ b before after claims leaves a g. record {
  all_workers = c.workers_grow.ensures.all b before after g a.listed.all_workers;
  rows = listed_more _ _ _ _ _ (λ p. c.fresh_lists_are_listed.ensures.claims before after p g a.no_claims) a.listed.rows;
  roots = listed_more _ _ _ _ _ (λ p. c.fresh_lists_are_listed.ensures.wins before after p g a.no_wins) a.listed.roots;
}
