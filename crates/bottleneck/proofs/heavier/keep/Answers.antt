use Rattle.std.proofs.Common.{⊎_elim, rules, sym, subst}
use Rattle.bip_defs.specs.Matrix.{IsEntry, Place}
use Rattle.bip_defs.proofs.Sets.{rising_distinct}
use Rattle.bottleneck.proofs.heavier.keep.Goals as goal

pub returns-then-has-clause-matching : goal.returns-then-has-clause-matching
returns-then-has-clause-matching c =
    let entry : IsEntry c.args.pattern.now c.args.row c.args.col = search rules in
    record {
      rows = search rules;
      cols = search rules;
      matching = record {
        entries = λ r x h. ⊎_elim (λ e. subst (λ (q : Place). IsEntry c.args.pattern.now q.0 q.1) (sym e) entry) (λ k. c.requires.matching.matching.entries r x k) ((c.pair.ensures.added (r, x)).0 h);
        rows_differ = c.is_matching.ensures.rows_differ;
        cols_differ = rising_distinct _ c.is_matching.ensures.cols_rise;
      };
    }

pub returns-then-has-clause-added : goal.returns-then-has-clause-added
returns-then-has-clause-added c p h = (c.pair.ensures.added p).0 h
