use Rattle.std.proofs.Common.{length}
use Rattle.claim_words.proofs.board.ClaimBoard.+renew.Given as goal

-- proposed from what the function passes where it calls itself
abbrev pub decreases-renew : goal.decreases-renew
decreases-renew l = length l.others.now
