use Rattle.std.proofs.Common.{ℕ, subst, sym}
use Rattle.bip_defs.specs.Lists.{Among}
use Rattle.bip_defs.specs.Matching.{cols_of}
use Rattle.bip_defs.proofs.Queues.{head_at}
use Rattle.bip_defs.proofs.Sets.{rising_distinct}
use Rattle.least_match.specs.Exchanges.{Meets}
use Rattle.least_match.proofs.ExchangeLemmas.{parted_free}
use Rattle.least_match.proofs.WayLemmas.{col_fresh, forward_matched_tree, forward_led, matched_tree, j_on, parted_vacates, shifted_frees, still_matched, taken_frees, vacate_vacates}
use Rattle.least_match.proofs.tail.ClassTail.exchange_path.Goals as goal

pub vacate-row-requires-clause-tree : goal.vacate-row-requires-clause-tree
vacate-row-requires-clause-tree c = matched_tree _ _ _ _ _ _ c.requires.trees.1.backward_tree

pub vacate-row-requires-in-FreeCol-clause-tree : goal.vacate-row-requires-in-FreeCol-clause-tree
vacate-row-requires-in-FreeCol-clause-tree c = matched_tree _ _ _ _ _ _ c.requires.trees.1.backward_tree

pub shift-requires-clause-tree : goal.shift-requires-clause-tree
shift-requires-clause-tree c =
    let k = c.requires.matching.matching in
    let t = c.requires.trees.1 in
    let e = c.vacate-row.ensures in
    forward_matched_tree _ _ _ _ _ _ _ k t _ (vacate_vacates _ _ _ _ _ _ _ k t _ (e.matching _ k t.backward_leads) e.size e.col_free e.beside)

pub unpair_col-requires : goal.unpair_col-requires
unpair_col-requires c =
    let t = c.requires.trees.1 in
    t.backward_tree.matched _ (j_on _ _ _ _ _ _ _ c.requires.matching.matching t)

pub shift-requires-in-FreeRow-clause-tree : goal.shift-requires-in-FreeRow-clause-tree
shift-requires-in-FreeRow-clause-tree c =
    let k = c.requires.matching.matching in
    let t = c.requires.trees.1 in
    forward_matched_tree _ _ _ _ _ _ _ k t _ (parted_vacates _ _ _ _ _ _ _ k t _ _ c.unpair_col.ensures.pairings.1.rows_differ (rising_distinct _ c.unpair_col.ensures.pairings.1.cols_rise) c.unpair_col.ensures.row c.unpair_col.ensures.pairs c.unpair_col.ensures.size)

pub shift-requires-in-FreeRow-clause-free : goal.shift-requires-in-FreeRow-clause-free
shift-requires-in-FreeRow-clause-free c =
    let meets = subst (Meets c.args.self.now.pattern.now c.args.matching.now.pairs c.args.self.now.col c.args.trees.now.forward.queue c.args.trees.now.backward.queue) c.in-FreeRow.is c.requires.meets in
    parted_free _ _ _ _ c.unpair_col.ensures.pairs meets.2

pub pair-requires-clause-col_free : goal.pair-requires-clause-col_free
pair-requires-clause-col_free c =
    let k = c.requires.matching.matching in
    let t = c.requires.trees.1 in
    let e = c.vacate-row-in-FreeCol.ensures in
    let meets = subst (Meets c.args.self.now.pattern.now c.args.matching.now.pairs c.args.self.now.col c.args.trees.now.forward.queue c.args.trees.now.backward.queue) c.in-FreeCol.is c.requires.meets in
    col_fresh _ _ _ _ _ _ _ k t _ (vacate_vacates _ _ _ _ _ _ _ k t _ (e.matching _ k t.backward_leads) e.size e.col_free e.beside) _ meets.3

pub unpair_col-requires-in-FreeCol : goal.unpair_col-requires-in-FreeCol
unpair_col-requires-in-FreeCol c =
    let k = c.requires.matching.matching in
    let t = c.requires.trees.1 in
    let e = c.vacate-row-in-FreeCol.ensures in
    let h = forward_matched_tree _ _ _ _ _ _ _ k t _ (vacate_vacates _ _ _ _ _ _ _ k t _ (e.matching _ k t.backward_leads) e.size e.col_free e.beside) in
    subst (λ (x : ℕ × ℕ). Among x.0 (cols_of c.pair.new.self.pairs)) (sym c.at-first.ensures) (still_matched _ _ _ _ c.pair.ensures.added (h.matched _ (head_at c.args.trees.now.forward.queue 0 t.forward_tree.some)))

pub returns-in-Trees-clause-frees : goal.returns-in-Trees-clause-frees
returns-in-Trees-clause-frees c = λ r p.
    let k = c.requires.matching.matching in
    let t = c.requires.trees.1 in
    let e = c.vacate-row.ensures in
    let v = vacate_vacates _ _ _ _ _ _ _ k t _ (e.matching _ k t.backward_leads) e.size e.col_free e.beside in
    let meets = subst (Meets c.args.self.now.pattern.now c.args.matching.now.pairs c.args.self.now.col c.args.trees.now.forward.queue c.args.trees.now.backward.queue) c.in-Trees.is c.requires.meets in
    let o = c.shift.ensures in
    shifted_frees _ _ _ _ _ _ _ k t _ v _ _ r (o.matching _ v.matching (forward_led _ _ _ _ _ _ _ k t _ v) (meets.2 _ e.row)) o.size o.beside o.row_free.1 o.row_free.2 p

pub returns-in-FreeRow-clause-frees : goal.returns-in-FreeRow-clause-frees
returns-in-FreeRow-clause-frees c = λ r p.
    let k = c.requires.matching.matching in
    let t = c.requires.trees.1 in
    let v = parted_vacates _ _ _ _ _ _ _ k t _ _ c.unpair_col.ensures.pairings.1.rows_differ (rising_distinct _ c.unpair_col.ensures.pairings.1.cols_rise) c.unpair_col.ensures.row c.unpair_col.ensures.pairs c.unpair_col.ensures.size in
    let meets = subst (Meets c.args.self.now.pattern.now c.args.matching.now.pairs c.args.self.now.col c.args.trees.now.forward.queue c.args.trees.now.backward.queue) c.in-FreeRow.is c.requires.meets in
    let o = c.shift-in-FreeRow.ensures in
    shifted_frees _ _ _ _ _ _ _ k t _ v _ _ r (o.matching _ v.matching (forward_led _ _ _ _ _ _ _ k t _ v) meets.1) o.size o.beside o.row_free.1 o.row_free.2 p

pub returns-in-FreeCol-clause-frees : goal.returns-in-FreeCol-clause-frees
returns-in-FreeCol-clause-frees c = λ r p.
    let k = c.requires.matching.matching in
    let t = c.requires.trees.1 in
    let e = c.vacate-row-in-FreeCol.ensures in
    let v = vacate_vacates _ _ _ _ _ _ _ k t _ (e.matching _ k t.backward_leads) e.size e.col_free e.beside in
    let meets = subst (Meets c.args.self.now.pattern.now c.args.matching.now.pairs c.args.self.now.col c.args.trees.now.forward.queue c.args.trees.now.backward.queue) c.in-FreeCol.is c.requires.meets in
    let own = subst (λ (x : ℕ × ℕ). Among (c.unpair_col-in-FreeCol.result, x.0) c.pair.new.self.pairs) c.at-first.ensures c.unpair_col-in-FreeCol.ensures.row in
    taken_frees _ _ _ _ _ _ _ k t _ v _ _ _ _ _ r c.unpair_col-in-FreeCol.ensures.pairings.1.rows_differ (rising_distinct _ c.unpair_col-in-FreeCol.ensures.pairings.1.cols_rise) meets.1 meets.3 e.row_free (meets.4 _ e.row) c.pair.ensures.pairs c.pair.ensures.size own c.unpair_col-in-FreeCol.ensures.pairs c.unpair_col-in-FreeCol.ensures.size p
