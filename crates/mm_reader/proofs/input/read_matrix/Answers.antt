use Rattle.mm_reader.proofs.Calls.{tells_known, last_line_known}
use Rattle.mm_reader.proofs.input.read_matrix.Goals as goal

pub returns-in-Err-clause-tells : goal.returns-in-Err-clause-tells
returns-in-Err-clause-tells g c = tells_known c.args.end c.input.inside c.input.invariant c.args.input.now c.input.view_is c.matrix.new.window _ _ _ _ _ c.in-Err.ensures.known

pub returns-in-Ok-clause-tells : goal.returns-in-Ok-clause-tells
returns-in-Ok-clause-tells g c = tells_known c.args.end c.input.inside c.input.invariant c.args.input.now c.input.view_is c.matrix.new.window _ _ _ _ _ c.in-Ok.ensures.known

pub returns-in-Ok-clause-ends : goal.returns-in-Ok-clause-ends
returns-in-Ok-clause-ends g c = record {
  ended = c.in-Ok.ensures.ends.ended;
  last_line = last_line_known c.args.end c.input.inside c.input.invariant c.args.input.now c.input.view_is c.matrix.new.window (g.S.Source.faults c.args.source.now) (g.S.Source.faults c.matrix.new.source) _ _ c.in-Ok.ensures.ends.last_line;
}
