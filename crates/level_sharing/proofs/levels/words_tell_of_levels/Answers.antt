use Rattle.claim_words.specs.WorkerState.{seats_of}
use Rattle.level_sharing.proofs.LevelLemmas.{lists_grow}
use Rattle.level_sharing.proofs.levels.words_tell_of_levels.Goals as goal

pub returns-clause-words : goal.returns-clause-words
returns-clause-words c = λ l.
    let grow = lists_grow l.forest l.own 0 l.before l.after l.progress in
    record {
      all = c.workers_grow.ensures.all l.board l.before l.after grow l.agree.listed.all_workers;
      same_claims = c.fresh_lists_join.ensures.same_claims l.gathered l.after l.fresh;
      same_wins = c.fresh_lists_join.ensures.same_wins l.gathered l.after l.fresh;
      fresh = c.fresh_lists_are_new.ensures l.board l.words l.before l.after l.forest.claims l.forest.leaves l.agree grow l.settles;
      known = c.known_values_stand.ensures.known l.board l.words (seats_of l.after) l.settles;
    }

pub returns-clause-seats : goal.returns-clause-seats
returns-clause-seats c = λ s own b before after p. c.workers_grow.ensures.all b before after (lists_grow s own 0 before after p)
