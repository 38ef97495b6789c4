use Rattle.claim_words.proofs.ListedWords as listing
use Rattle.claim_words.proofs.laws.words_are_listed.Goals as goal

pub returns : goal.returns
returns c = record { word = listing.word_is_listed; same_lists = listing.same_lists; same_words = listing.same_words }
