use Rattle.std.proofs.Common.{refl}
use Rattle.blocktri.proofs.DiagonalLemmas.{put_same}
use Rattle.blocktri.proofs.write_diagonal.put_columns.Goals as goal

pub returns : goal.returns
returns c = put_same c.args.columns.now c.args.columns.now c.args.out.now c.write_at.new.out refl c.write_at.ensures
