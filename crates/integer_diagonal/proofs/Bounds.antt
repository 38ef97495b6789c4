-- How far a search can come.
use Rattle.std.proofs.Common.{◌≡◌, ℕ, zero, suc, slice_index, ◌+◌, ◌*◌, ◌<◌, ◌≤◌, List, length, arith}
use Rattle.std.proofs.lemmas.List.{length-map}
use Rattle.std.proofs.lemmas.Nat.{row_fits}
use Rattle.bip_defs.specs.Lists.{Among}
use Rattle.bip_defs.specs.Matching.{IsMatching}
use Rattle.bip_defs.specs.Matrix.{Place, cols, upto}
use Rattle.bip_defs.proofs.Sets.{few_distinct, upto_length, upto_lists}
use Rattle.integer_diagonal.proofs.Cheap.{cheap_entry}
use Rattle.integer_diagonal.specs.Duals.{Priced, cheap, cost, dual, paid}
use Rattle.integer_diagonal.specs.SearchTree.{IsGrown, IsLedTo, Reaches, Tree, depth, stop}
use Rattle.bip_defs.specs.Queues.{at, heads}

-- the depth of the column at a place, and its dual variable, against each other
pub record IsWithin (x : Priced) (t : Tree) (i : ℕ) : Type 0 where
  pub near : depth t i ≤ dual x (stop t i) + i * x.top
  pub low : dual x (stop t i) ≤ depth t i + (dual x (stop t 0) + i * x.top)

within_first : (x : Priced) (m : List Place) (root : ℕ) (t : Tree) → IsGrown x m root t → IsWithin x t 0
within_first x m root t g = record { near = omega (arith, g.begins); low = omega (arith, g.begins) }

-- a pair costs as much as its column's dual variable
pub pair_cheap : (x : Priced) (m : List Place) (r c : ℕ) → IsMatching (cheap x) m → Among (r, c) m → paid x r c ≡ dual x c
pair_cheap x m r c k h = (cheap_entry x r c (k.entries r c h)).1

within_step : (x : Priced) (m : List Place) (t : Tree) (i : ℕ) → IsMatching (cheap x) m → IsLedTo x m t i → IsWithin x t (at t.queue i).1 → IsWithin x t i
within_step x m t i k (r, pair, earlier, reaches) w =
    let p : ℕ = (at t.queue i).1 in
    let met = pair_cheap x m r (stop t i) k pair in
    let long = reaches.long in
    let near = w.near in
    let low = w.low in
    let one : cost x.top x.weighing r (stop t p) ≤ x.top = omega arith in
    let two : cost x.top x.weighing r (stop t i) ≤ x.top = omega arith in
    let more : p * x.top + x.top ≤ i * x.top = row_fits p x.top i x.top earlier (omega arith) in
    record {
      near = omega (arith, met, long, near, one, more);
      low = omega (arith, met, long, low, two, more);
    }

within_below : (x : Priced) (m : List Place) (root : ℕ) (t : Tree) → IsMatching (cheap x) m → IsGrown x m root t → (n i : ℕ) → i < n → i < length t.queue → IsWithin x t i
within_below x m root t k g zero i lt inside = absurd (omega arith)
within_below x m root t k g (suc n) zero lt inside = within_first x m root t g
within_below x m root t k g (suc n) (suc i) lt inside =
    let led = g.led (suc i) (omega arith) inside in
    within_step x m t (suc i) k led (within_below x m root t k g n (at t.queue (suc i)).1 (let e = led.2 in omega arith) (let e = led.2 in omega arith))

pub within_all : (x : Priced) (m : List Place) (root : ℕ) (t : Tree) → IsMatching (cheap x) m → IsGrown x m root t → (i : ℕ) → i < length t.queue → IsWithin x t i
within_all x m root t k g i inside = within_below x m root t k g (suc i) i (omega arith) inside

-- a row that is reached is not far beyond its price
pub reached_near : (x : Priced) (m : List Place) (root : ℕ) (t : Tree) (r p d : ℕ) → IsMatching (cheap x) m → IsGrown x m root t → Reaches x t r p d → d ≤ slice_index x.prices r + (p * x.top + x.top)
reached_near x m root t r p d k g reaches =
    let w = (within_all x m root t k g p reaches.within).near in
    let long = reaches.long in
    let one : cost x.top x.weighing r (stop t p) ≤ x.top = omega arith in
    omega (arith, w, long, one)

-- there are no more columns in a queue than in the matrix
pub queue_short : (x : Priced) (m : List Place) (root : ℕ) (t : Tree) → IsGrown x m root t → length t.queue ≤ cols x.weighing.matrix
queue_short x m root t g =
    let few = few_distinct (heads t.queue) (upto (cols x.weighing.matrix)) g.distinct (λ c h. (upto_lists (cols x.weighing.matrix)).complete c (g.in_range c h)) in
    let all = upto_length 0 (cols x.weighing.matrix) in
    let long = length-map t.queue (λ (p : ℕ × ℕ). p.0) in
    omega (arith, few, all, long)

-- what the places up to one add to a sum
pub places_add : (x : Priced) (m : List Place) (root : ℕ) (t : Tree) (i : ℕ) → IsGrown x m root t → i < length t.queue → i * x.top + x.top ≤ cols x.weighing.matrix * x.top
places_add x m root t i g inside =
    let short = queue_short x m root t g in
    row_fits i x.top (cols x.weighing.matrix) x.top (omega (arith, short, inside)) (omega arith)
