-- How many rows and columns of a forest are of each kind.
use Rattle.std.proofs.Common.{◌≡◌, ◌⊎◌, ℕ, suc, ◌+◌, ◌-◌, ◌<◌, ◌≤◌, List, [], ◌∷◌, ◌++◌, length, slice_index_or, take, refl, sym, ap, subst, inl, inr, ⊎_elim, arith, length-append}
use Rattle.std.proofs.lemmas.List.{length-map, take_all, take_more}
use Rattle.bip_defs.specs.Forest.{IsSettled, IsWon, State, above, itself, roots_of}
use Rattle.bip_defs.specs.Lists.{Among, AreDistinct}
use Rattle.bip_defs.specs.Matching.{cols_of, rows_of}
use Rattle.bip_defs.specs.Matrix.{Place, cols, upto}
use Rattle.bip_defs.specs.Once.{ListsOnce}
use Rattle.bip_defs.proofs.Counts.{distinct_append}
use Rattle.bip_defs.proofs.Full.{few_below}
use Rattle.bip_defs.proofs.Sets.{among_either, among_last, among_left, among_right, beside, beside_lists, col_among, col_pair, distinct_last, entry_col, few_distinct, number_among, one_col, one_row, row_pair, upto_length, upto_lists}
use Rattle.bip_defs.proofs.Triangular.{lists_once}
use Rattle.forest_core.specs.Sound.{IsSound}
use Rattle.forest_core.specs.Trees.{HasTrees}
use Rattle.tree_graft.specs.Counts.{IsCountOf, IsFreed, IsKept}
use Rattle.tree_graft.specs.PhaseSearch.{IsUnclaimed}
use Rattle.tree_graft.proofs.SearchLemmas.{row_apart, row_last, rows_had, rows_more}

-- Counts.

pub one_count : (P : ℕ → Type 0) (m n : ℕ) → IsCountOf P m → IsCountOf P n → m ≡ n
one_count P m n (xs, f, l) (ys, g, k) =
    let up = few_distinct xs ys f.distinct (λ x h. g.complete x (f.sound x h)) in
    let down = few_distinct ys xs g.distinct (λ x h. f.complete x (g.sound x h)) in
    omega (arith, up, down, l, k)

-- what is chosen by the count of one kind
pub choose_one : (P : ℕ → Type 0) (T : ℕ → Type 0) (m : ℕ) → IsCountOf P m → T m → (n : ℕ) → IsCountOf P n → T n
choose_one P T m c t n d = subst T (one_count P m n c d) t

-- those of one kind and those of another
pub count_both : (P Q R : ℕ → Type 0) (m n : ℕ) → ((x : ℕ) → P x → ¬ Q x) → ((x : ℕ) → P x → R x) → ((x : ℕ) → Q x → R x) → ((x : ℕ) → R x → P x ⊎ Q x) → IsCountOf P m → IsCountOf Q n → IsCountOf R (m + n)
count_both P Q R m n apart left right each (xs, f, l) (ys, g, k) = (
  xs ++ ys,
  record {
    distinct = distinct_append xs ys f.distinct g.distinct (λ x h i. apart x (f.sound x h) (g.sound x i));
    sound = λ x h. ⊎_elim (λ i. left x (f.sound x i)) (λ i. right x (g.sound x i)) (among_either x xs ys h);
    complete = λ x r. ⊎_elim (λ p. among_left x xs ys (f.complete x p)) (λ q. among_right x xs ys (g.complete x q)) (each x r);
  },
  omega (arith, length-append xs ys, l, k),
)

pub count_below : (n : ℕ) → IsCountOf (λ x. x < n) n
count_below n = (upto n, lists_once (λ x. x < n) (upto n) (upto_lists n), upto_length 0 n)

pub count_few : (P : ℕ → Type 0) (m n : ℕ) → ((x : ℕ) → P x → x < n) → IsCountOf P m → m ≤ n
count_few P m n below (xs, f, l) = let few = few_below n xs f.distinct (λ x h. below x (f.sound x h)) in omega (arith, few, l)

-- the numbers below n that are not of a list
pub count_beside : (n : ℕ) (xs : List ℕ) → AreDistinct xs → ((x : ℕ) → Among x xs → x < n) → IsCountOf (λ x. (x < n) × (¬ Among x xs)) (n - length xs)
count_beside n xs d below = (beside n xs, rest, omega (arith, whole))
  where
    rest : ListsOnce (λ x. (x < n) × (¬ Among x xs)) (beside n xs)
    rest = lists_once (λ x. (x < n) × (¬ Among x xs)) (beside n xs) (beside_lists n xs)

    listed : IsCountOf (λ x. Among x xs) (length xs)
    listed = (xs, record { distinct = d; sound = λ x h. h; complete = λ x h. h }, refl)

    whole : n ≡ length xs + length (beside n xs)
    whole = one_count (λ x. x < n) n (length xs + length (beside n xs)) (count_below n)
        (count_both (λ x. Among x xs) (λ x. (x < n) × (¬ Among x xs)) (λ x. x < n) (length xs) (length (beside n xs)) (λ x h k. k.1 h) below (λ x h. h.0)
        (λ x lt. ⊎_elim (λ (h : Among x xs). inl h) (λ (out : ¬ Among x xs). inr (lt, out)) (number_among x xs)) listed (beside n xs, rest, refl))

-- Claimed rows.

claimed_within : (s : State) → HasTrees s → (r : ℕ) → Among r (rows_of s.claims) → r < s.matrix.rows
claimed_within s trees r h = let (d, i) = row_pair r s.claims h in (trees.claim_in_range r d i).0

pub count_unclaimed : (s : State) → HasTrees s → IsCountOf (IsUnclaimed s) (s.matrix.rows - length s.claims)
count_unclaimed s trees = subst (λ n. IsCountOf (IsUnclaimed s) (s.matrix.rows - n)) (length-map s.claims (λ (p : Place). p.0)) (count_beside s.matrix.rows (rows_of s.claims) trees.rows_differ (claimed_within s trees))

-- Freed rows, claim by claim.

abbrev pub IsFreedBefore : State → ℕ → ℕ → Type 0
IsFreedBefore s k r = Among r (rows_of (take k s.claims)) × IsWon s r

pub freed_none : (s : State) → IsCountOf (IsFreedBefore s 0) 0
freed_none s = ([], record { distinct = tt; sound = λ x h. absurd h; complete = λ x h. h.0 }, refl)

abbrev pub claim_at : State → ℕ → Place
claim_at s k = slice_index_or s.claims k (0, 0)

next_taken : (s : State) (k : ℕ) → k < length s.claims → take (k + 1) s.claims ≡ take k s.claims ++ claim_at s k ∷ []
next_taken s k lt = take_more s.claims k (0, 0) lt

pub freed_more : (s : State) (k n : ℕ) → AreDistinct (rows_of s.claims) → k < length s.claims → IsWon s (claim_at s k).0 → IsCountOf (IsFreedBefore s k) n → IsCountOf (IsFreedBefore s (k + 1)) (n + 1)
freed_more s k n differ lt won (xs, f, l) = (
  xs ++ (claim_at s k).0 ∷ [],
  record {
    distinct = distinct_last xs (claim_at s k).0 f.distinct (λ h. row_apart s.claims k (0, 0) lt differ ((f.sound (claim_at s k).0 h).0));
    sound = λ r h. subst (λ (ps : List Place). Among r (rows_of ps) × IsWon s r) (sym (next_taken s k lt))
        (⊎_elim (λ i. (rows_had (take k s.claims) (claim_at s k) r (f.sound r i).0, (f.sound r i).1)) (λ (e : r ≡ (claim_at s k).0). subst (λ q. Among q (rows_of (take k s.claims ++ claim_at s k ∷ [])) × IsWon s q) (sym e) (row_last (take k s.claims) (claim_at s k), won)) (among_last r (claim_at s k).0 xs h));
    complete = λ r h. ⊎_elim (λ i. among_left r xs ((claim_at s k).0 ∷ []) (f.complete r (i, h.1))) (λ (e : r ≡ (claim_at s k).0). among_right r xs ((claim_at s k).0 ∷ []) (inl e)) (rows_more (take k s.claims) (claim_at s k) r (subst (λ (ps : List Place). Among r (rows_of ps)) (next_taken s k lt) h.0));
  },
  omega (arith, length-append xs ((claim_at s k).0 ∷ []), l),
)

pub freed_same : (s : State) (k n : ℕ) → k < length s.claims → (¬ IsWon s (claim_at s k).0) → IsCountOf (IsFreedBefore s k) n → IsCountOf (IsFreedBefore s (k + 1)) n
freed_same s k n lt none (xs, f, l) = (
  xs,
  record {
    distinct = f.distinct;
    sound = λ r h. subst (λ (ps : List Place). Among r (rows_of ps) × IsWon s r) (sym (next_taken s k lt)) (rows_had (take k s.claims) (claim_at s k) r (f.sound r h).0, (f.sound r h).1);
    complete = λ r h. ⊎_elim (λ i. f.complete r (i, h.1)) (λ (e : r ≡ (claim_at s k).0). absurd (none (subst (IsWon s) e h.1))) (rows_more (take k s.claims) (claim_at s k) r (subst (λ (ps : List Place). Among r (rows_of ps)) (next_taken s k lt) h.0));
  },
  l,
)

pub freed_all : (s : State) (k n : ℕ) → length s.claims ≤ k → IsCountOf (IsFreedBefore s k) n → IsCountOf (IsFreed s) n
freed_all s k n le c = subst (λ (ps : List Place). IsCountOf (λ r. Among r (rows_of ps) × IsWon s r) n) (take_all k s.claims le) c

-- Kept columns: roots without a leaf, and the base mates of claimed rows that are not freed.

-- the mates of these rows, in order
record AreTheirMates (m : List Place) (rs cs : List ℕ) : Type 0 where
  long : length cs ≡ length rs
  distinct : AreDistinct cs
  from : (c : ℕ) → Among c cs → (r : ℕ) × Among r rs × Among (r, c) m
  to : (r : ℕ) → Among r rs → (c : ℕ) × Among c cs × Among (r, c) m

their_mates : (m : List Place) → AreDistinct (cols_of m) → (rs : List ℕ) → AreDistinct rs → ((r : ℕ) → Among r rs → Among r (rows_of m)) → (cs : List ℕ) × AreTheirMates m rs cs
their_mates m one [] d f = ([], record { long = refl; distinct = tt; from = λ c h. absurd h; to = λ r h. absurd h })
their_mates m one (r ∷ rs) d f = with_one (row_pair r m (f r (inl refl))) (their_mates m one rs d.1 (λ q h. f q (inr h)))
  where
    with_one : (c : ℕ) × Among (r, c) m → (cs : List ℕ) × AreTheirMates m rs cs → (cs : List ℕ) × AreTheirMates m (r ∷ rs) cs
    with_one (c, i) (cs, k) = (
      c ∷ cs,
      record {
        long = ap suc k.long;
        distinct = (λ h. let (q, g, j) = k.from c h in d.0 (subst (λ z. Among z rs) (one_row m one q r c j i) g), k.distinct);
        from = λ b h. ⊎_elim (λ (e : b ≡ c). (r, inl refl, subst (λ z. Among {X = Place} (r, z) m) (sym e) i)) (λ g. let (q, h, j) = k.from b g in (q, inr h, j)) h;
        to = λ q h. ⊎_elim (λ (e : q ≡ r). (c, inl refl, subst (λ z. Among {X = Place} (z, c) m) (sym e) i)) (λ g. let (b, h, j) = k.to q g in (b, inr h, j)) h;
      },
    )

abbrev IsStaying : State → ℕ → Type 0
IsStaying s r = Among r (rows_of s.claims) × (¬ IsWon s r)

-- the claimed rows that are not freed
count_staying : (s : State) (freed : ℕ) → HasTrees s → IsCountOf (IsFreed s) freed → IsCountOf (IsStaying s) (length s.claims - freed)
count_staying s freed trees (fs, f, l) = by (count_beside s.matrix.rows (beside s.matrix.rows (rows_of s.claims) ++ fs) differ below)
  where
    un : ListsOnce (λ r. (r < s.matrix.rows) × (¬ Among r (rows_of s.claims))) (beside s.matrix.rows (rows_of s.claims))
    un = lists_once (λ r. (r < s.matrix.rows) × (¬ Among r (rows_of s.claims))) (beside s.matrix.rows (rows_of s.claims)) (beside_lists s.matrix.rows (rows_of s.claims))

    within : (r : ℕ) → Among r (rows_of s.claims) → r < s.matrix.rows
    within = claimed_within s trees

    differ : AreDistinct (beside s.matrix.rows (rows_of s.claims) ++ fs)
    differ = distinct_append (beside s.matrix.rows (rows_of s.claims)) fs un.distinct f.distinct (λ r h i. (un.sound r h).1 (f.sound r i).0)

    below : (r : ℕ) → Among r (beside s.matrix.rows (rows_of s.claims) ++ fs) → r < s.matrix.rows
    below r h = ⊎_elim (λ i. (un.sound r i).0) (λ i. within r (f.sound r i).0) (among_either r (beside s.matrix.rows (rows_of s.claims)) fs h)

    to : (r : ℕ) → (r < s.matrix.rows) × (¬ Among r (beside s.matrix.rows (rows_of s.claims) ++ fs)) → IsStaying s r
    to r (lt, out) = (
      ⊎_elim (λ (h : Among r (rows_of s.claims)). h) (λ (n : ¬ Among r (rows_of s.claims)). absurd (out (among_left r (beside s.matrix.rows (rows_of s.claims)) fs (un.complete r (lt, n))))) (number_among r (rows_of s.claims)),
      λ w. out (among_right r (beside s.matrix.rows (rows_of s.claims)) fs (f.complete r (⊎_elim (λ (h : Among r (rows_of s.claims)). h) (λ (n : ¬ Among r (rows_of s.claims)). absurd (out (among_left r (beside s.matrix.rows (rows_of s.claims)) fs (un.complete r (lt, n))))) (number_among r (rows_of s.claims)), w))),
    )

    back : (r : ℕ) → IsStaying s r → (r < s.matrix.rows) × (¬ Among r (beside s.matrix.rows (rows_of s.claims) ++ fs))
    back r (h, none) = (within r h, λ i. ⊎_elim (λ k. (un.sound r k).1 h) (λ k. none (f.sound r k).1) (among_either r (beside s.matrix.rows (rows_of s.claims)) fs i))

    by : IsCountOf (λ r. (r < s.matrix.rows) × (¬ Among r (beside s.matrix.rows (rows_of s.claims) ++ fs))) (s.matrix.rows - length (beside s.matrix.rows (rows_of s.claims) ++ fs)) → IsCountOf (IsStaying s) (length s.claims - freed)
    by (xs, g, k) = (
      xs,
      record { distinct = g.distinct; sound = λ r h. to r (g.sound r h); complete = λ r h. g.complete r (back r h) },
      (let long = length-append (beside s.matrix.rows (rows_of s.claims)) fs in
          let rest = one_count (λ r. (r < s.matrix.rows) × (¬ Among r (rows_of s.claims))) (length (beside s.matrix.rows (rows_of s.claims))) (s.matrix.rows - length (rows_of s.claims)) (beside s.matrix.rows (rows_of s.claims), un, refl) (count_beside s.matrix.rows (rows_of s.claims) trees.rows_differ within) in
          let few = few_below s.matrix.rows (rows_of s.claims) trees.rows_differ within in
          let many = length-map s.claims (λ (p : Place). p.0) in
          omega (arith, k, long, rest, l, few, many)),
    )

-- a root without a leaf
abbrev IsBareRoot : State → ℕ → Type 0
IsBareRoot s c = (c < cols s.matrix) × (¬ Among c (cols_of s.base ++ roots_of s.leaves))

pub ends_differ : (s : State) → IsSound s → AreDistinct (cols_of s.base ++ roots_of s.leaves)
ends_differ s k = distinct_append (cols_of s.base) (roots_of s.leaves) k.base.cols_differ k.roots_differ (λ x h l. let (r, i) = row_pair x s.leaves l in (k.leaves x r i).root_unmatched h)

pub ends_within : (s : State) → HasTrees s → (x : ℕ) → Among x (cols_of s.base ++ roots_of s.leaves) → x < cols s.matrix
ends_within s trees x h = ⊎_elim
    (λ m. let (r, i) = col_pair x s.base m in entry_col s.matrix r x (trees.sound.base.entries r x i))
    (λ l. let (r, i) = row_pair x s.leaves l in let (d, g, w) = (trees.sound.leaves x r i).in_tree in trees.root_in_range x d w (trees.claim_in_range r d g).1)
    (among_either x (cols_of s.base) (roots_of s.leaves) h)

-- the base's columns and the roots with a leaf are at most as many as there are columns
pub ends_few : (s : State) → HasTrees s → length s.base + length s.leaves ≤ cols s.matrix
ends_few s trees =
    let few = few_below (cols s.matrix) (cols_of s.base ++ roots_of s.leaves) (ends_differ s trees.sound) (ends_within s trees) in
    omega (arith, few, length-append (cols_of s.base) (roots_of s.leaves), length-map s.base (λ (p : Place). p.1), length-map s.leaves (λ (q : ℕ × ℕ). q.0))

count_bare : (s : State) → HasTrees s → IsCountOf (IsBareRoot s) (cols s.matrix - length s.base - length s.leaves)
count_bare s trees = subst (IsCountOf (IsBareRoot s)) same (count_beside (cols s.matrix) (cols_of s.base ++ roots_of s.leaves) (ends_differ s trees.sound) (ends_within s trees))
  where
    same : cols s.matrix - length (cols_of s.base ++ roots_of s.leaves) ≡ cols s.matrix - length s.base - length s.leaves
    same = omega (arith, length-append (cols_of s.base) (roots_of s.leaves), length-map s.base (λ (p : Place). p.1), length-map s.leaves (λ (q : ℕ × ℕ). q.0))

-- the base mate of a claimed row that is not freed
abbrev IsStayingMate : State → ℕ → Type 0
IsStayingMate s c = (r : ℕ) × Among (r, c) s.base × IsStaying s r

count_mates : (s : State) (n : ℕ) → IsSound s → IsSettled s → IsCountOf (IsStaying s) n → IsCountOf (IsStayingMate s) n
count_mates s n k settled (rs, f, l) = by (their_mates s.base k.base.cols_differ rs f.distinct matched)
  where
    matched : (r : ℕ) → Among r rs → Among r (rows_of s.base)
    matched r h = ⊎_elim (λ (m : Among r (rows_of s.base)). m) (λ (free : ¬ Among r (rows_of s.base)). absurd ((f.sound r h).1 (settled r (f.sound r h).0 free))) (number_among r (rows_of s.base))

    by : (cs : List ℕ) × AreTheirMates s.base rs cs → IsCountOf (IsStayingMate s) n
    by (cs, m) = (
      cs,
      record {
        distinct = m.distinct;
        sound = λ c h. let (r, g, i) = m.from c h in (r, i, f.sound r g);
        complete = λ c (r, i, stays). let (d, g, j) = m.to r (f.complete r stays) in subst (λ z. Among z cs) (one_col_of r d c j i) g;
      },
      omega (arith, m.long, l),
    )
      where
        one_col_of : (r d c : ℕ) → Among (r, d) s.base → Among (r, c) s.base → d ≡ c
        one_col_of r d c = one_col s.base k.base.rows_differ r d c

pub count_kept : (s : State) (freed : ℕ) → HasTrees s → IsSettled s → IsCountOf (IsFreed s) freed → IsCountOf (IsKept s) ((cols s.matrix - length s.base - length s.leaves) + (length s.claims - freed))
count_kept s freed trees settled c = count_both (IsBareRoot s) (IsStayingMate s) (IsKept s) (cols s.matrix - length s.base - length s.leaves) (length s.claims - freed) apart bare mate each (count_bare s trees) (count_mates s (length s.claims - freed) trees.sound settled (count_staying s freed trees c))
  where
    apart : (d : ℕ) → IsBareRoot s d → ¬ IsStayingMate s d
    apart d (lt, out) (r, i, stays) = out (among_left d (cols_of s.base) (roots_of s.leaves) (col_among r d s.base i))

    bare : (d : ℕ) → IsBareRoot s d → IsKept s d
    bare d (lt, out) =
        let free : ¬ Among d (cols_of s.base) = λ h. out (among_left d (cols_of s.base) (roots_of s.leaves) h) in
        ((lt, inl free), λ (x, up, l). out (among_right d (cols_of s.base) (roots_of s.leaves) (subst (λ z. Among z (roots_of s.leaves)) (trees.one_root x d d up (itself free)) l)))

    mate : (d : ℕ) → IsStayingMate s d → IsKept s d
    mate d (r, i, (h, none)) = ((entry_col s.matrix r d (trees.sound.base.entries r d i), inr (r, i, h)), λ (x, up, l). none (x, trees.mate_root x r d up i, l))

    each : (d : ℕ) → IsKept s d → IsBareRoot s d ⊎ IsStayingMate s d
    each d ((lt, inl free), none) = inl (lt, λ h. ⊎_elim (λ m. free m) (λ l. none (d, itself free, l)) (among_either d (cols_of s.base) (roots_of s.leaves) h))
    each d ((lt, inr (r, i, h)), none) = inr (r, i, (h, λ (x, (b, g, up), l). none (x, above r i g up, l)))

pub freed_few : (s : State) (freed : ℕ) → IsCountOf (IsFreed s) freed → freed ≤ length s.claims
freed_few s freed (fs, f, l) = let few = few_distinct fs (rows_of s.claims) f.distinct (λ r h. (f.sound r h).0) in let many = length-map s.claims (λ (p : Place). p.0) in omega (arith, few, many, l)

pub kept_few : (s : State) (kept : ℕ) → IsCountOf (IsKept s) kept → kept ≤ cols s.matrix
kept_few s kept c = count_few (IsKept s) kept (cols s.matrix) (λ d h. h.0.0) c
