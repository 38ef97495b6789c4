use Rattle.std.proofs.Common.{◌≡◌, ℕ, ◌+◌, List, [], subst, arith}
use Rattle.bip_defs.specs.Occurrences.{times}
use Rattle.claim_words.specs.Board.{Board, Words}
use Rattle.claim_words.specs.Settles.{SettlesAll}
use Rattle.claim_words.specs.WorkerState.{HaveGrown, WorkerState, fresh_claims_of, fresh_wins_of, listed_by_workers, seats_of}
use Rattle.level_sharing.specs.Agreement.{Agree}
use Rattle.level_sharing.proofs.NewWords.{IsExtended, WordLaws, fresh_new, listed_held, listed_more}
use Rattle.level_sharing.proofs.laws.fresh_lists_are_new.Goals as goal

laws : goal.After-fresh_lists_are_listed → WordLaws
laws c = record {
  stands = λ opened now listed i x a. (c.listed_words_stand.ensures opened now listed a).stands i x;
  from = λ opened now listed i x a. (c.listed_words_stand.ensures opened now listed a).from i x;
  listed = c.times_add_up.ensures.listed;
  distinct = c.times_add_up.ensures.distinct;
}

-- the fresh lists were empty
no_more : (i : ℕ) (after before fresh had : List (ℕ × ℕ)) → had ≡ [] → times i after + times i had ≡ times i before + times i fresh → times i after ≡ times i before + times i fresh
no_more i after before fresh had none e = let f : times i after + 0 ≡ times i before + times i fresh = subst (λ xs. times i after + times i xs ≡ times i before + times i fresh) none e in omega (arith, f)

rows_grow : (c : goal.After-fresh_lists_are_listed) (b : Board) (words : Words) (before after : List WorkerState) (claims leaves : List (ℕ × ℕ)) → Agree b before claims leaves → HaveGrown before after → SettlesAll b words (seats_of after)
    → IsExtended b.rows words.rows (listed_by_workers before).claims (listed_by_workers after).claims (fresh_claims_of after)
rows_grow c b words before after claims leaves a g s = record {
  at_last = s.claims;
  adds = λ i. no_more i _ _ _ _ a.no_claims (c.fresh_lists_add_up.ensures.claims before after i g);
  longer = λ p. c.fresh_lists_are_listed.ensures.claims before after p g a.no_claims;
}

roots_grow : (c : goal.After-fresh_lists_are_listed) (b : Board) (words : Words) (before after : List WorkerState) (claims leaves : List (ℕ × ℕ)) → Agree b before claims leaves → HaveGrown before after → SettlesAll b words (seats_of after)
    → IsExtended b.roots words.roots (listed_by_workers before).wins (listed_by_workers after).wins (fresh_wins_of after)
roots_grow c b words before after claims leaves a g s = record {
  at_last = s.wins;
  adds = λ i. no_more i _ _ _ _ a.no_wins (c.fresh_lists_add_up.ensures.wins before after i g);
  longer = λ p. c.fresh_lists_are_listed.ensures.wins before after p g a.no_wins;
}

pub returns : goal.returns
returns c = λ b words before after claims leaves a g s. record {
  new_claims = fresh_new (laws c) _ _ _ _ _ _ (rows_grow c b words before after claims leaves a g s) a.listed.rows;
  new_wins = fresh_new (laws c) _ _ _ _ _ _ (roots_grow c b words before after claims leaves a g s) a.listed.roots;
  rows = listed_held (laws c) _ _ _ _ s.claims (listed_more _ _ _ _ _ (rows_grow c b words before after claims leaves a g s).longer a.listed.rows);
  roots = listed_held (laws c) _ _ _ _ s.wins (listed_more _ _ _ _ _ (roots_grow c b words before after claims leaves a g s).longer a.listed.roots);
}
