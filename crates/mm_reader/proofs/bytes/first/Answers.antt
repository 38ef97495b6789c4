use Rattle.mm_reader.proofs.FrontLaws.{first_counts}
use Rattle.mm_reader.proofs.bytes.first.Goals as goal

pub advance-requires-clause-lfs : goal.advance-requires-clause-lfs
advance-requires-clause-lfs c = first_counts c.args.window.now c.index-byte.result.now c.lfs_of.result c.requires.window c.requires.some c.index-byte.ensures c.lfs_of.ensures
