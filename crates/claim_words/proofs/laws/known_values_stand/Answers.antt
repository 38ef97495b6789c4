use Rattle.claim_words.proofs.ListedWords as listing
use Rattle.claim_words.proofs.laws.known_values_stand.Goals as goal

pub returns : goal.returns
returns c = record {
  known = λ b words ss all. record {
    rows = λ s row col. listing.row_known b words ss s row col all;
    roots = λ s root leaf. listing.root_known b words ss s root leaf all;
  };
  seen = λ rows roots words l all. record {
    seen_col = λ row col. listing.seen_col rows roots words l row col all;
    seen_leaf = λ root leaf. listing.seen_leaf rows roots words l root leaf all;
  };
}
