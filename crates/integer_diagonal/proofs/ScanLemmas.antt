-- One entry of the column that is looked at.
use Rattle.std.proofs.Common.{◌≡◌, ◌≢◌, ◌⊎◌, ◌∙◌, ℕ, slice_index, ◌+◌, ◌-◌, ◌<◌, ◌≤◌, List, length, get_or, sym, ap, subst, inl, inr, arith}
use Rattle.std.proofs.lemmas.List.{get_or_read}
use Rattle.bip_defs.specs.Lists.{Among, Lists}
use Rattle.bip_defs.specs.Matching.{IsMatching}
use Rattle.bip_defs.specs.Matrix.{IsEntry, Matrix, Place, cols, column}
use Rattle.bip_defs.proofs.Sets.{among_at, number_same, place_among}
use Rattle.integer_diagonal.proofs.Bounds.{places_add, within_all}
use Rattle.integer_diagonal.specs.Labels.{AreKnown, IsKnown, Labels}
use Rattle.integer_diagonal.specs.Duals.{IsBounded, IsFeasible, Priced, cheap, cost, dual, paid}
use Rattle.integer_diagonal.specs.Amounts.{HasDistance, HasRoom}
use Rattle.integer_diagonal.specs.SearchTree.{IsGrown, Reaches, Tree, depth, stop}
use Rattle.sp_pattern.specs.Weights.{weight_at}
use Rattle.bip_defs.proofs.Queues.{head_at}

-- the column that is read at a place
pub place_col : (x : Priced) (m : List Place) (root : ℕ) (t : Tree) (place : ℕ) (q : ℕ × ℕ) → IsGrown x m root t → place < length t.queue → q ≡ get_or t.queue place q → (q.0 ≡ stop t place) × (q.0 < cols x.weighing.matrix)
place_col x m root t place q g lt e =
    let same : q.0 ≡ stop t place = ap (λ (p : ℕ × ℕ). p.0) (get_or_read t.queue place q lt e (0, 0)) in
    (same, subst (λ c. c < cols x.weighing.matrix) (sym same) (g.in_range (stop t place) (head_at t.queue place lt)))

-- the row that is read from the list is in the column
pub row_entry : (a b : Matrix) (c : ℕ) (rows : List ℕ) (k r row : ℕ) → b ≡ a → Lists (λ s. IsEntry a s c) rows → k < length rows → r ≡ get_or rows k r → row ≡ r → IsEntry b row c
row_entry a b c rows k r row same lists lt e is = subst (λ (z : Matrix). IsEntry z row c) (sym same) (lists.sound row (subst (λ s. Among s rows) (sym (is ∙ get_or_read rows k r lt e 0)) (among_at rows k 0 lt)))

pub record IsScan (x : Priced) (t : Tree) (place row price weight out dep : ℕ) : Type 0 where
  pub entry : IsEntry x.weighing.matrix row (stop t place)
  pub price_is : price ≡ slice_index x.prices row
  pub weight_is : weight ≡ weight_at x.weighing row (stop t place)
  pub out_is : out ≡ dual x (stop t place)
  pub dep_is : dep ≡ depth t place

pub make_scan : (x : Priced) (m : List Place) (root : ℕ) (t : Tree) (place k : ℕ) (rows weights : List ℕ) (q : ℕ × ℕ) (dep out price r row : ℕ) → IsFeasible x → IsGrown x m root t → place < length t.queue → q ≡ get_or t.queue place q → dep ≡ get_or t.depths place dep → out ≡ get_or x.duals q.0 out → price ≡ get_or x.prices row price → rows ≡ column x.weighing.matrix q.0 → k < length rows → r ≡ get_or rows k r → row ≡ r → IsEntry x.weighing.matrix row q.0 → ((j : ℕ) → j < length weights → slice_index weights j ≡ weight_at x.weighing (slice_index (column x.weighing.matrix q.0) j) q.0) → length weights ≡ length (column x.weighing.matrix q.0) → IsScan x t place row price (slice_index weights k) out dep
make_scan x m root t place k rows weights q dep out price r row f g lt qe de oe pe rows_are within re same entry each long =
    let col = place_col x m root t place q g lt qe in
    let read = same ∙ get_or_read rows k r within re 0 ∙ ap (λ (z : List ℕ). get_or z k 0) rows_are in
    let inside : k < length weights = (let l = ap (λ (z : List ℕ). length z) rows_are in omega (arith, within, l, long)) in
    record {
      entry = subst (IsEntry x.weighing.matrix row) col.0 entry;
      price_is = get_or_read x.prices row price (let l = f.prices_are in let r = entry.0 in omega (arith, l, r)) pe 0;
      weight_is = each k inside ∙ ap (λ z. weight_at x.weighing z q.0) (sym read) ∙ ap (weight_at x.weighing row) col.0;
      out_is = get_or_read x.duals q.0 out (let l = f.duals_are in let c = col.1 in omega (arith, l, c)) oe 0 ∙ ap (dual x) col.0;
      dep_is = get_or_read t.depths place dep (let l = g.long in omega (arith, l, lt)) de 0;
    }

module _ (x : Priced) (t : Tree) (place row price weight out dep : ℕ) (f : IsFeasible x) (lt : place < length t.queue) (s : IsScan x t place row price weight out dep) where
  scan_paid : price + (x.top - weight) ≡ paid x row (stop t place)
  scan_paid = ap (λ z. price + (x.top - z)) s.weight_is ∙ ap (λ z. z + cost x.top x.weighing row (stop t place)) s.price_is

  scan_covers : out ≤ price + (x.top - weight)
  scan_covers =
      let paid_is = scan_paid in
      let covers = f.covers row (stop t place) s.entry in
      let out_is = s.out_is in
      omega (arith, paid_is, covers, out_is)

  pub scan_distance : (m : List Place) (root limit : ℕ) → HasRoom (cols x.weighing.matrix) x.top limit → IsMatching (cheap x) m → IsBounded x m → IsGrown x m root t → HasDistance limit x.top price weight out dep
  scan_distance m root limit room k b g =
      let covers = scan_covers in
      let low = b.prices row in
      let price_is = s.price_is in
      let one : x.top - weight ≤ x.top = omega arith in
      let near = (within_all x m root t k g place lt).near in
      let out_is = s.out_is in
      let dep_is = s.dep_is in
      let part = places_add x m root t place g lt in
      record {
        small = let weight_is = s.weight_is in let small = f.small row (stop t place) s.entry in omega (arith, weight_is, small);
        covers = covers;
        priced = omega (arith, low, price_is, one, room);
        fits = omega (arith, low, price_is, one, near, out_is, dep_is, covers, part, room);
      }

  pub scan_reaches : Reaches x t row place (dep + (price + (x.top - weight) - out))
  scan_reaches = record {
    within = lt;
    entry = s.entry;
    long = (let covers = scan_covers in let paid_is = scan_paid in let out_is = s.out_is in let dep_is = s.dep_is in omega (arith, covers, paid_is, out_is, dep_is));
  }

-- all entries of one column more
pub known_column : (x : Priced) (t : Tree) (l : Labels) (limit place k : ℕ) (rows : List ℕ) → AreKnown x t l limit place → rows ≡ column x.weighing.matrix (stop t place) → length rows ≤ k → ((j : ℕ) → j < k → IsKnown x t l limit place (get_or rows j 0)) → AreKnown x t l limit (place + 1)
known_column x t l limit place k rows known e long part i r lt entry = by (number_same i place)
  where
    by : (i ≡ place) ⊎ (i ≢ place) → IsKnown x t l limit i r
    by (inr ne) = known i r (omega arith) entry
    by (inl is) =
        let on : Among r rows = subst (λ (z : List ℕ). Among r z) (sym e) (subst (λ z. Among r (column x.weighing.matrix (stop t z))) is entry.1) in
        let (j, within, at_j) = place_among r 0 rows on in
        subst (λ z. IsKnown x t l limit z r) (sym is) (subst (λ z. IsKnown x t l limit place z) at_j (part j (omega arith)))
