use Rattle.std.proofs.Common.{◌∙◌, subst, sym, true≢false}
use Rattle.bip_defs.specs.Lists.{Among}
use Rattle.bip_defs.specs.Matrix.{Place}
use Rattle.edit_session.specs.Sessions.{MatchedMatrix}
use Rattle.edit_session.proofs.SessionLemmas.{clear_none, no_err, on_ok}
use Rattle.edit_session.proofs.session.Session.clear.Goals as goal

pub returns-clause-matrix : goal.returns-clause-matrix
returns-clause-matrix g c = clear_none c.self.inside.kept.columns.matrix c.self.inside.kept.matching c.self.inside.kept.cover (c.args.row, c.args.col) c.args.self.now c.self.view_is c.has.ensures.pattern (λ e. true≢false (sym (c.has.ensures.entry.1 e) ∙ c.if-has.false))

pub returns-clause-searched : goal.returns-clause-searched
returns-clause-searched g c = record {
  to = λ h. absurd (true≢false (sym (c.has.ensures.entry.1 (c.self.invariant.maximum.matching.matching.entries c.args.row c.args.col (subst (λ (w : MatchedMatrix). Among {X = Place} (c.args.row, c.args.col) w.matching.pairs) (sym c.self.view_is) h))) ∙ c.if-has.false));
  from = λ h. absurd (true≢false (sym (c.has.ensures.entry.1 (c.self.invariant.maximum.matching.matching.entries c.args.row c.args.col (subst (λ (w : MatchedMatrix). Among {X = Place} (c.args.row, c.args.col) w.matching.pairs) (sym c.self.view_is) h))) ∙ c.if-has.false));
}

pub returns-then-has-clause-matrix : goal.returns-then-has-clause-matrix
returns-then-has-clause-matrix g c = on_ok _ _ c.clear_entry.ensures.clears.matrix

pub returns-then-has-clause-unchanged : goal.returns-then-has-clause-unchanged
returns-then-has-clause-unchanged g c = no_err _ _ c.clear_entry.ensures.ok

pub returns-then-has-clause-searched : goal.returns-then-has-clause-searched
returns-then-has-clause-searched g c = on_ok _ _ c.clear_entry.ensures.clears.searched
