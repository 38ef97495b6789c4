use Rattle.std.proofs.Common.{◌∙◌, ◌∷◌, ◌++◌, [], List, ap, subst, sym, take, true≢false}
use Rattle.std.proofs.lemmas.List.{take_more}
use Rattle.bip_defs.specs.Lists.{Among}
use Rattle.bip_defs.specs.Matching.{rows_of}
use Rattle.bip_defs.specs.Matrix.{Place}
use Rattle.bip_defs.proofs.Sets.{row_among, row_pair}
use Rattle.tree_graft.specs.PhaseSearch.{AreMatesOf}
use Rattle.tree_graft.proofs.FrontierLemmas.{mates_more, mates_same}
use Rattle.tree_graft.proofs.SearchLemmas.{row_apart, row_read}
use Rattle.tree_graft.proofs.frontiers.mates_of.Goals.{in-Some+then-not-is_won+in_ok-push-in-Some, in-Some+else-not-is_won, in-None}
use Rattle.tree_graft.proofs.frontiers.mates_of.Goals as goal

pub base_col-requires : goal.base_col-requires
base_col-requires c =
    let claimed = c.requires.claimed c.loop-row-item.result.0 (row_read c.loop-row-item.result c.args.claims.now c.loop-row.row-index c.loop-row-test.true c.loop-row-item.is) in
    let (d, i) = row_pair c.loop-row-item.result.0 c.args.forest.now.claims claimed in
    (c.requires.trees.claim_in_range c.loop-row-item.result.0 d i).0

pub is_won-requires : goal.is_won-requires
is_won-requires c =
    let claimed = c.requires.claimed c.loop-row-item.result.0 (row_read c.loop-row-item.result c.args.claims.now c.loop-row.row-index c.loop-row-test.true c.loop-row-item.is) in
    let (d, i) = row_pair c.loop-row-item.result.0 c.args.forest.now.claims claimed in
    (c.requires.trees.claim_in_range c.loop-row-item.result.0 d i).0

pub loop-row-preserved : goal.loop-row-preserved
loop-row-preserved c =
    let s = c.args.forest.now in
    let last = take c.loop-row.row-index c.args.claims.now in
    let p = c.loop-row-item.result in
    let more = take_more c.args.claims.now c.loop-row.row-index p c.loop-row-test.true ∙ ap (λ (q : Place). last ++ q ∷ []) (sym c.loop-row-item.is) in
    let inv = c.loop-row.invariant in
    let apart : ¬ Among p.0 (rows_of last) = subst (λ (q : Place). ¬ Among q.0 (rows_of last)) (sym c.loop-row-item.is) (row_apart c.args.claims.now c.loop-row.row-index p c.loop-row-test.true c.requires.differ) in
    elim c.match-base_col.branch [
      | in-Some+then-not-is_won+in_ok-push-in-Some w ↦ rw (w.columns-is, w.in_ok-push-in-Some.ensures.items) (subst (λ (ps : List Place). AreMatesOf s ps (c.loop-row.columns.items ++ w.in-Some.mate ∷ [])) (sym more) (mates_more s last c.loop-row.columns.items p w.in-Some.mate c.requires.trees.sound.base apart inv (λ won. true≢false (sym (w.is_won.ensures.1 won) ∙ w.if-not-is_won.true)) w.in-Some.ensures.found))
      | in-Some+else-not-is_won w ↦ rw w.columns-is (subst (λ (ps : List Place). AreMatesOf s ps c.loop-row.columns.items) (sym more) (mates_same s last c.loop-row.columns.items p inv (λ d m. w.is_won.ensures.0 w.if-not-is_won.false)))
      | in-None w ↦ rw w.columns-is (subst (λ (ps : List Place). AreMatesOf s ps c.loop-row.columns.items) (sym more) (mates_same s last c.loop-row.columns.items p inv (λ d m. absurd (w.in-None.ensures.none (row_among p.0 d s.base m)))))
    ]
