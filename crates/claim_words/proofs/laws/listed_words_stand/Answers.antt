use Rattle.claim_words.proofs.ListedWords as listing
use Rattle.claim_words.proofs.laws.listed_words_stand.Goals as goal

pub returns : goal.returns
returns c = λ opened now listed a. record {
  stands = λ i x h. (listing.listed_opened opened now listed i x a h, a.stands i x h);
  from = λ i x. listing.held_from opened now listed i x a;
  once = listing.listed_apart opened now listed a;
  few = listing.listed_few opened now listed a;
}
