-- Marked rows that are the horizontal rows.
use Rattle.std.proofs.Common.{◌≡◌, ◌∙◌, ℕ, zero, suc, ◌<◌, ◌≤◌, Bool, true, false, List, length, slice_index_or, refl, sym, subst, inl, inr, ⊎_elim, arith, true≢false}
use Rattle.bip_defs.specs.Lists.{Among, IsMarked}
use Rattle.bip_defs.specs.Marks.{AreClosed, IsExplored, Marks}
use Rattle.bip_defs.specs.Matching.{IsMatching, IsMaximum, cols_of}
use Rattle.bip_defs.specs.Matrix.{IsEntry, Matrix, Place, cols}
use Rattle.bip_defs.specs.Parts.{IsHorizontalRow}
use Rattle.bip_defs.specs.Walks.{IsLed, Walk, stay}
use Rattle.bip_defs.proofs.Closed.{closed_maximum}
use Rattle.bip_defs.proofs.Reaching.{led_horizontal, reached_horizontal, reached_somehow, walk_on, walk_stays}
use Rattle.bip_defs.proofs.Sets.{col_among, one_col, one_row}
use Rattle.bip_graph.specs.Matching.{Pairing}
use Rattle.path_search.specs.Forests.{HaveNoPath, IsForest, IsFound, Trees, reached_at}
use Rattle.path_search.specs.Search.{AreLedTo}
use Rattle.path_search.proofs.Queues.{place_of}
use Rattle.path_search.proofs.SweepLemmas.{HasGrown, no_path_closed, no_path_explored_all}

-- a column to which walks lead has all its entries in marked rows
led_explored : (a : Matrix) (m : List Place) (marks : List Bool) (c : ℕ) → IsMatching a m → AreClosed a m marks → ((c : ℕ) → c < cols a → ¬ Among c (cols_of m) → IsExplored a marks c) → IsLed a m c → IsExplored a marks c
led_explored a m marks c k closed explored led = walk_stays (λ x. IsExplored a marks x) a m (λ r x d here e pair. let (y, p, there) = closed r (here r e) in subst (λ z. IsExplored a marks z) (one_col m k.rows_differ r y d p pair) there) (explored led.0 led.1 led.2) led.3

marked_stable : (marks : List Bool) (r : ℕ) → ¬ ¬ IsMarked marks r → IsMarked marks r
marked_stable marks r = by (slice_index_or marks r false)
  where
    by : (b : Bool) → ¬ ¬ (b ≡ true) → b ≡ true
    by true nn = refl
    by false nn = absurd (nn (λ e. true≢false (sym e)))

pub marked_horizontal : (a : Matrix) (m : List Place) (marks : List Bool) → IsMatching a m → length marks ≡ a.rows → AreClosed a m marks → AreLedTo a m marks → ((c : ℕ) → c < cols a → ¬ Among c (cols_of m) → IsExplored a marks c) → Marks a.rows (IsHorizontalRow a) marks
marked_horizontal a m marks k long closed led explored = record {
  long = long;
  exact = λ r lt. (λ h. let (c, walk, e) = led r h in (c, led_horizontal a m c max walk, e), λ h. marked_stable marks r (λ un. reached_somehow a m max (λ s. un (led_explored a m marks h.0 k closed explored (s.1.led h.0 ((reached_horizontal a m s.0 k s.1).complete h.0 h.1)) r h.2))));
}
  where
    max : IsMaximum a m
    max = closed_maximum a m marks k closed explored

-- Where no tree has found a path.

-- walks lead to the columns that were reached
reached_led : (a : Matrix) (m : List Place) (t : Trees) (place n i : ℕ) → IsForest a m t → HaveNoPath a m t place → i < n → i < length t.queue → IsLed a m (reached_at t.queue i).col
reached_led a m t place zero i f none few lt = absurd (omega arith)
reached_led a m t place (suc n) i f none few lt = ⊎_elim root_led
    (λ (before, same, r, pair, entry). let (s, below, free, walk) = reached_led a m t place n (reached_at t.queue i).from f none (omega arith) (omega arith) in (s, below, free, walk_on a m r walk entry pair)) (f.found i lt (none.roots_unmatched i lt))
  where
    root_led : (reached_at t.queue i).col ≡ (reached_at t.queue i).root → IsLed a m (reached_at t.queue i).col
    root_led e = ((reached_at t.queue i).root, (f.in_range i lt).1, none.roots_unmatched i lt, subst (λ x. Walk a m (reached_at t.queue i).root x) (sym e) stay)

-- and to the marked rows
no_path_led : (a : Matrix) (m : List Place) (t : Trees) (place : ℕ) → IsMatching a m → IsForest a m t → HaveNoPath a m t place → AreLedTo a m t.marks
no_path_led a m t place k f none r h =
    let (d, pair, had) = none.leads_on r h in
    let (i, lt, at) = place_of t.queue d had in
    by d pair i lt at (f.found i lt (none.roots_unmatched i lt))
  where
    by : (d : ℕ) → Among {X = Place} (r, d) m → (i : ℕ) → i < length t.queue → (reached_at t.queue i).col ≡ d → IsFound a m t.queue i → (c : ℕ) × IsLed a m c × IsEntry a r c
    by d pair i lt at (inl e) = absurd (none.roots_unmatched i lt (subst (λ x. Among x (cols_of m)) (sym at ∙ e) (col_among r d m pair)))
    by d pair i lt at (inr (before, same, s, mate, entry)) =
        let e : s ≡ r = one_row m k.cols_differ s r d (subst (λ x. Among {X = Place} (s, x) m) at mate) pair in
        let earlier : (reached_at t.queue i).from < length t.queue = omega arith in
        ((reached_at t.queue (reached_at t.queue i).from).col, reached_led a m t place (length t.queue) (reached_at t.queue i).from f none earlier earlier, subst (λ x. IsEntry a x (reached_at t.queue (reached_at t.queue i).from).col) e entry)

-- where a phase has not grown the matching the marked rows are the horizontal ones
pub grown_marks : (a : Matrix) (start m : Pairing) (t : Trees) (place : ℕ) → HasGrown a start m t place → IsForest a m.pairs t → IsMatching a m.pairs → length t.queue ≤ place → length m.pairs ≡ length start.pairs → Marks a.rows (IsHorizontalRow a) t.marks
grown_marks a start m t place (inr grown) f k le same = absurd (omega arith)
grown_marks a start m t place (inl stays) f k le same = marked_horizontal a m.pairs t.marks k f.rows_are (no_path_closed a m.pairs t place stays.1 le) (no_path_led a m.pairs t place k f stays.1) (no_path_explored_all a m.pairs t place stays.1 le)
