use Rattle.sp_ids.specs.Entries.{places}
use Rattle.edit_session.proofs.PatternLemmas.{same_pattern}
use Rattle.edit_session.proofs.patterns.pattern_of.Goals as goal

pub returns : goal.returns
returns g c = same_pattern c.build.result c.in_ok-triples.triples.rows c.in_ok-triples.triples.cols (places c.in_ok-triples.triples) c.args.columns.now.matrix c.in_ok-triples.ensures c.build.ensures
