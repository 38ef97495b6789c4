-- One level: the forest after it, and the board and the workers.
use Rattle.std.proofs.Common.{◌≡◌, ◌∙◌, ◌⊎◌, ◌-◌, ◌<◌, ◌^◌, ℕ, List, ◌++◌, length, take, drop, sym, ap, subst, arith, inl, inr, ⊎_elim, length-append}
use Rattle.std.proofs.Math.Seq.{drop-append_seam, take-length}
use Rattle.std.proofs.lemmas.List.{map-append}
use Rattle.bip_defs.specs.Forest.{HasWon, InForest, IsSettled, State}
use Rattle.bip_defs.specs.Lists.{Among}
use Rattle.bip_defs.specs.Matching.{rows_of}
use Rattle.bip_defs.specs.Matrix.{IsEntry, Matrix, Place, cols}
use Rattle.bip_defs.proofs.Sets.{among_left, number_among}
use Rattle.claim_words.specs.WorkerState.{WorkerState, fresh_claims_of}
use Rattle.forest_core.specs.Events.{Grows}
use Rattle.forest_core.specs.Trees.{HasTrees}
use Rattle.level_sharing.specs.Agreement.{Agree}
use Rattle.level_sharing.specs.Growth.{grown}
use Rattle.tree_graft.specs.PhaseSearch.{AreMatesOf, IsAtNextLevel, IsDone, IsGoneThrough, IsReady}
use Rattle.tree_graft.specs.declared.levels.PhaseSearch.{PhaseSearch}
use Rattle.tree_graft.proofs.FrontierLemmas.{next_is_frontier, scanned_after}

-- what was claimed since then
pub last_claims : (xs ys before now : List Place) → before ≡ xs → now ≡ xs ++ ys → take (length now - length before) (drop (length before) now) ≡ ys
last_claims xs ys before now e f = rw (e, f) (ap (λ n. take n (drop (length xs) (xs ++ ys))) count ∙ ap (λ (zs : List Place). take (length ys) zs) (drop-append_seam xs ys) ∙ take-length ys)
  where
    count : length (xs ++ ys) - length xs ≡ length ys
    count = omega (arith, length-append xs ys)

-- a level from all unclaimed rows went through each column
pub through_rows : (s : State) (ws : List WorkerState) (free : List ℕ) → ((r : ℕ) → r < s.matrix.rows → ¬ Among r (rows_of s.claims) → Among r free)
    → ((r c : ℕ) → Among r free → IsEntry s.matrix r c → InForest s c → Among r (rows_of (grown s ws).claims) ⊎ HasWon (grown s ws) c)
    → (c : ℕ) → InForest s c → IsGoneThrough s (grown s ws) c
through_rows s ws free unclaimed attached c i = inr (inr (λ r e. ⊎_elim
    (λ h. inl (subst (Among r) (sym (map-append (λ (p : Place). p.0) s.claims (fresh_claims_of ws))) (among_left r (rows_of s.claims) (rows_of (fresh_claims_of ws)) h)))
    (λ n. attached r c (unclaimed r e.0 n) e i)
    (number_among r (rows_of s.claims))))

-- the level after one that is done, and made on the forest
pub next_level : {m : PhaseSearch} (ws us : List WorkerState) (s t : State) → IsDone m.board ws s → t ≡ grown s ws → Grows s t → m.workers.items ≡ us → length us ≡ length ws → Agree m.board us t.claims t.leaves
    → HasTrees t → AreMatesOf t (fresh_claims_of ws) m.frontier.items → IsAtNextLevel s m t
next_level {m = m} ws us s t done e g over many agree trees mates = record {
  level = record {
    ready = subst (λ (vs : List WorkerState). IsReady m.board vs t) (sym over) (record {
      sized = record {
        few = let few = done.sized.few in omega (arith, few, many);
        small = subst (λ (a : Matrix). (a.rows < 2 ^ 32) × (cols a < 2 ^ 32)) (sym g.matrix) done.sized.small;
        rows = done.sized.rows ∙ sym (ap (λ (a : Matrix). a.rows) g.matrix);
        roots = done.sized.roots ∙ sym (ap cols g.matrix);
      };
      agree = agree;
      settled = subst IsSettled (sym e) done.settled;
    });
    frontier = next_is_frontier s t (fresh_claims_of ws) m.frontier.items trees g claims few (λ c i. scanned_after s t trees g c i (subst (λ u. IsGoneThrough s u c) (sym e) (done.through c i))) mates;
  };
  matrix = g.matrix;
  more = let short = mates.few in let long = ap (λ (ps : List Place). length ps) claims ∙ length-append s.claims (fresh_claims_of ws) in omega (arith, short, long);
  few = trees.few;
}
  where
    claims : t.claims ≡ s.claims ++ fresh_claims_of ws
    claims = ap (λ (u : State). u.claims) e

    few : length t.claims < 2 ^ 32
    few = let within = trees.few in let rows = ap (λ (a : Matrix). a.rows) g.matrix in let small = done.sized.small.0 in omega (arith, within, rows, small)
