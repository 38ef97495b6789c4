use Rattle.bip_defs.proofs.Occurrences.{times_append}
use Rattle.claim_words.proofs.ListedWords as listing
use Rattle.claim_words.proofs.laws.times_add_up.Goals as goal

pub returns : goal.returns
returns c = record {
  append = times_append;
  listed = listing.times_listed;
  some = listing.times_some;
  distinct = listing.times_distinct;
  once = listing.times_once;
}
