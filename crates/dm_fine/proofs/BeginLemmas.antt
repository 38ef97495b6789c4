-- Where the order by waiting begins and ends.
use Rattle.std.proofs.Common.{◌≡◌, ◌≢◌, ◌∙◌, ℕ, ◌<◌, List, [], ◌∷◌, ◌++◌, length, get_or, replicate, refl, sym, ap, subst, ⊎_elim, arith, zero-le}
use Rattle.std.proofs.lemmas.List.{get_or-replicate, length-map, length-replicate, length_push}
use Rattle.bip_defs.specs.Blocks.{AreBlocksOf}
use Rattle.bip_defs.specs.Lists.{Among}
use Rattle.bip_defs.proofs.Sets.{entry_col}
use Rattle.bip_graph.specs.Matching.{none}
use Rattle.dm_fine.specs.Condensation.{IsCondensation}
use Rattle.dm_fine.specs.Layout.{Layout}
use Rattle.dm_fine.specs.Waiting.{AreMarks, IsAtEnd, IsTaken, IsWaiting}
use Rattle.dm_fine.specs.Waits.{idle}
use Rattle.dm_fine.specs.declared.order.Waiting.{Waiting}
use Rattle.dm_fine.specs.declared.waits.Wait.{Wait}
use Rattle.dm_fine.proofs.BlockLemmas.{falls, least_of, looked, ordered_blocks}
use Rattle.dm_fine.proofs.LookLemmas.{below_or}
use Rattle.dm_fine.proofs.OrderLemmas.{follow_few, follow_more}
use Rattle.dm_fine.proofs.StepLemmas.{all_placed}
use Rattle.id_groups.specs.Groups.{block_of}
use Rattle.square_components.specs.Numbers.{look}

-- the numbers of rows at first
pub first_marks : (t : Layout) (of_rows : List ℕ) → IsCondensation t of_rows → AreMarks t [] of_rows
first_marks t of_rows g = record {
  long = g.mates.long;
  sound = λ r rt some.
      let lt = below r rt some in
      (lt, (g.by_row.lists (get_or of_rows r 0) lt).complete r ((let long = g.mates.long in omega (arith, long, rt)), refl), λ h. h);
  complete = λ k r kt on left. ((g.by_row.lists k kt).sound r on).1;
}
  where
    below : (r : ℕ) → r < t.matrix.rows → get_or of_rows r 0 ≢ none → get_or of_rows r 0 < length t.cols
    below r rt some = ⊎_elim
        (λ (q : (c : ℕ) × Among (r, c) g.pairs × (get_or of_rows r 0 ≡ get_or g.numbers c 0)).
        let within = entry_col t.matrix r q.0 (g.matching.entries r q.0 q.1) in
        let is : get_or of_rows r 0 ≡ look g.numbers q.0 = q.2 ∙ looked t.matrix g.pairs g.numbers (length t.cols) q.0 g.numbered within in
        ⊎_elim (λ (lt : look g.numbers q.0 < length t.cols). omega (arith, is, lt)) (λ ge. absurd (some (is ∙ g.numbered.columns.outside q.0 (λ square. let lt = g.numbered.columns.below q.0 square in absurd (omega (arith, lt, ge)))))) (below_or (look g.numbers q.0) (length t.cols)))
        (λ q. absurd (some q.1))
        (g.mates.each r rt)

-- nothing is placed, and nothing waits
pub first_waiting : (t : Layout) (of_rows : List ℕ) (ws : List Wait) → IsCondensation t of_rows → ws ≡ replicate (length t.cols) idle → IsWaiting t [] (λ v. []) none none of_rows ws [] 0
first_waiting t of_rows ws g are = record {
  laid_out = g.laid_out;
  many = ap length are ∙ length-replicate (length t.cols) idle;
  within = zero-le;
  marked = first_marks t of_rows g;
  follow = tt;
  early = λ j on. elim on [ ];
  hole_in = λ ne. absurd (ne refl);
  are_ready = λ j on. elim on [ ];
  are_held = λ j v on. elim on [ ];
  apart = λ u v j one two. elim one [ ];
  distinct = λ v. tt;
  chains = λ v vt left. ap (λ (w : Wait). w.first) (ap (λ (xs : List Wait). get_or xs v idle) are ∙ get_or-replicate (length t.cols) v idle idle vt);
  stand = λ j lt. absurd (omega (arith, lt));
  no_more = λ v j on ne among. among;
}

-- at the end all are placed, and their blocks are those of the matrix
pub ended : (t : Layout) (of_rows : List ℕ) (s : Waiting) → IsCondensation t of_rows → IsAtEnd t s → AreBlocksOf t.matrix s.blocks
ended t of_rows s g h =
    let o = h.ordering in
    subst (AreBlocksOf t.matrix) (sym o.blocks) (ordered_blocks t of_rows o.placed g (record {
      follow = o.waiting.follow;
      all = all_placed t (λ k. g.numbered.finished (least_of t k)) o.placed o.lists s.of_rows.items s.waits.items s.cursor (falls t of_rows g)
          (subst (λ m. IsWaiting t o.placed o.lists none none s.of_rows.items s.waits.items m s.cursor) h.none_ready o.waiting) h.all_seen;
    }))

-- while one is taken there are fewer blocks than components
pub taken_few : (t : Layout) (k : ℕ) (s : Waiting) → IsTaken t k s → length s.blocks < length t.cols
taken_few t k s h =
    let more = follow_few t (h.placed ++ k ∷ []) (follow_more t [] h.placed k h.waiting.follow h.next) in
    let one = length_push h.placed k in
    let same : length s.blocks ≡ length h.placed = ap length h.blocks ∙ length-map h.placed (block_of t.rows t.cols) in
    omega (arith, more, one, same)
