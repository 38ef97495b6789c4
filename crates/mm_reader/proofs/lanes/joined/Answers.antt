use Rattle.mm_reader.proofs.EightDigits.{eight_joined}
use Rattle.mm_reader.proofs.lanes.joined.Goals as goal

pub returns : goal.returns
returns c ds long each word = eight_joined c.args.word ds long each word
