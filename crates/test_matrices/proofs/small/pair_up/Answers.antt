use Rattle.std.proofs.Common.{⊎_elim, rules, sym, subst}
use Rattle.bip_defs.specs.Matrix.{IsEntry, Place}
use Rattle.bip_defs.proofs.Sets.{rising_distinct}
use Rattle.test_matrices.proofs.small.pair_up.Goals as goal

pub returns : goal.returns
returns c =
    let entry : IsEntry c.args.pattern.now c.args.row c.args.col = search rules in
    record {
      rows = search rules;
      cols = search rules;
      matching = record {
        entries = λ r x h. ⊎_elim (λ e. subst (λ (q : Place). IsEntry c.args.pattern.now q.0 q.1) (sym e) entry) (λ k. c.requires.matching.entries r x k) ((c.pair.ensures.added (r, x)).0 h);
        rows_differ = c.is_matching.ensures.rows_differ;
        cols_differ = rising_distinct _ c.is_matching.ensures.cols_rise;
      };
    }
