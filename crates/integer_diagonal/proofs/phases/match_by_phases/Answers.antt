use Rattle.std.proofs.Common.{◌≡◌, sym, subst}
use Rattle.bip_defs.specs.Matrix.{cols}
use Rattle.sp_pattern.specs.Weights.{Weighing}
use Rattle.integer_diagonal.specs.Amounts.{HasRoom}
use Rattle.integer_diagonal.specs.Duals.{IsAssignment}
use Rattle.integer_diagonal.proofs.phases.match_by_phases.Goals as goal

pub loop-turn-init : goal.loop-turn-init
loop-turn-init g c = record {
  assignment = subst (λ (w : Weighing). IsAssignment w c.args.assignment) (sym c.in_ok-graph.ensures) c.requires.assignment;
  room = subst (λ (w : Weighing). HasRoom (cols w.matrix) c.args.assignment.top g.W.Width.limit) (sym c.in_ok-graph.ensures) c.requires.room;
}

pub phase-requires-clause-square : goal.phase-requires-clause-square
phase-requires-clause-square g c = subst (λ (w : Weighing). w.matrix.rows ≡ cols w.matrix) (sym c.in_ok-graph.ensures) c.requires.square
