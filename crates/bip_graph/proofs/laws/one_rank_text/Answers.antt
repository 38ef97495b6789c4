use Rattle.std.proofs.Common.{ap, sym, ◌∙◌, ℕ, List}
use Rattle.bip_defs.proofs.Sets.{lists_unique}
use Rattle.bip_defs.proofs.Uniqueness.{same_rank}
use Rattle.bip_graph.specs.Texts.{rank_text, sizes_of}
use Rattle.bip_graph.proofs.laws.one_rank_text.Goals as goal

pub returns : goal.returns
returns c a s t p q =
    p.spelled
    ∙ ap (λ (k : ℕ). rank_text (sizes_of a) k p.rows p.cols) (same_rank a p.rank q.rank p.is_rank q.is_rank)
    ∙ ap (λ (rows : List ℕ). rank_text (sizes_of a) q.rank rows p.cols) (lists_unique _ _ _ p.are_rows q.are_rows)
    ∙ ap (λ (cols : List ℕ). rank_text (sizes_of a) q.rank q.rows cols) (lists_unique _ _ _ p.are_cols q.are_cols)
    ∙ sym q.spelled
