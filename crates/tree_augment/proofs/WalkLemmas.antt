-- The walk over the path of a root.
use Rattle.std.proofs.Common.{◌≡◌, ◌∙◌, ℕ, suc, ◌+◌, ◌*◌, ◌-◌, ◌<◌, ◌≤◌, List, [], ◌∷◌, ◌++◌, Some, length, length-append, append_assoc, refl, sym, ap, subst, inl, inr, ⊎_elim, arith}
use Rattle.std.proofs.lemmas.List.{append-nil, length-map}
use Rattle.bip_defs.specs.Forest.{IsRootOfRow, RootOf, State}
use Rattle.bip_defs.specs.Lists.{Among, AreDistinct}
use Rattle.bip_defs.specs.Matching.{cols_of, rows_of}
use Rattle.bip_defs.specs.Matrix.{Place, cols, upto}
use Rattle.bip_defs.specs.Paths.{Alternates, BeginsUnmatched}
use Rattle.bip_defs.specs.WordValues.{held}
use Rattle.bip_defs.proofs.Sets.{among_either, among_last, among_left, among_right, col_among, few_distinct, one_col, one_row, row_among, row_pair, upto_complete, upto_length}
use Rattle.bip_defs.proofs.Exchange.{later_col}
use Rattle.flip_words.specs.Board.{Board, col_vertex}
use Rattle.flip_words.specs.Seat.{HasSet, HasSetTo, Seat, Took, after_set, with_listed}
use Rattle.forest_core.specs.Current.{OnPath, leaf}
use Rattle.forest_core.specs.Paths.{IsPath}
use Rattle.forest_core.specs.Sound.{IsSound}
use Rattle.tree_augment.specs.Augmented.{IsPathPair}
use Rattle.tree_augment.specs.Rounds.{HasExchanged}
use Rattle.tree_augment.specs.ForestBoards.{IsBoardOf}

-- a path of which the walk has come over `done` and not yet over `rest`, whose last pair stands first
abbrev joined_at : List Place → List Place → List Place
joined_at [] done = done
joined_at (p ∷ rest) done = joined_at rest (p ∷ done)

-- what is set on a walk over these pairs, the last one first: each row to the column, and the column, a vertex after so many
-- rows, to the row
abbrev sets_on : ℕ → List Place → List (ℕ × ℕ)
sets_on rows [] = []
sets_on rows (p ∷ path) = sets_on rows path ++ (p.0, p.1) ∷ (rows + p.1, p.0) ∷ []

-- the seat after it set these too
abbrev with_sets : Seat → List (ℕ × ℕ) → Seat
with_sets t more = with_listed t (record { taken = t.listed.taken; seen = t.listed.seen; sets = t.listed.sets ++ more; looks = t.listed.looks })

-- the walk over the path of the root x has come to the row r, which the column c claimed, and the seat t has set what lies behind
pub record IsAt (s : State) (b : Board) (x r c : ℕ) (t u : Seat) : Type 0 where
  pub rest : List Place
  pub done : List Place
  pub path : IsPath s x (joined_at rest ((r, c) ∷ done))
  pub seat : u ≡ with_sets t (sets_on b.rows done)

-- so does a walk that has come to the row, whatever column claimed it
abbrev pub HasComeTo : State → Board → ℕ → ℕ → Seat → Seat → Type 0
HasComeTo s b x r t u = (c : ℕ) × IsAt s b x r c t u

-- Paths in two parts.

joined_done : (rest done : List Place) (p : Place) → Among p done → Among p (joined_at rest done)
joined_done [] done p h = h
joined_done (q ∷ rest) done p h = joined_done rest (q ∷ done) p (inr h)

joined_alternates : (m rest : List Place) (p : Place) (done : List Place) → Alternates m (joined_at rest (p ∷ done)) → Alternates m (p ∷ done)
joined_alternates m [] p done a = a
joined_alternates m (q ∷ rest) p done a = (joined_alternates m rest q (p ∷ done) a).1

joined_differ : (rest done : List Place) → AreDistinct (rows_of (joined_at rest done)) → AreDistinct (rows_of done)
joined_differ [] done d = d
joined_differ (q ∷ rest) done d = (joined_differ rest (q ∷ done) d).1

joined_length : (rest done : List Place) → length (joined_at rest done) ≡ length rest + length done
joined_length [] done = omega arith
joined_length (q ∷ rest) done = (let e = joined_length rest (q ∷ done) in omega (arith, e))

joined_twice : (path more done : List Place) → joined_at (joined_at path more) done ≡ joined_at more (path ++ done)
joined_twice [] more done = refl
joined_twice (p ∷ path) more done = joined_twice path (p ∷ more) done

-- no column comes twice on a path
col_new : (m rest : List Place) (p : Place) (done : List Place) → AreDistinct (cols_of m) → BeginsUnmatched m (joined_at rest (p ∷ done)) → Alternates m (joined_at rest (p ∷ done)) → AreDistinct (rows_of (joined_at rest (p ∷ done))) → ¬ Among p.1 (cols_of done)
col_new m [] p done one begins a d h = let (r, on, mate) = later_col m p done p.1 a h in begins (col_among r p.1 m mate)
col_new m (o ∷ rest) p done one begins a d h =
    let whole = joined_alternates m rest o (p ∷ done) a in
    let (r, on, mate) = later_col m p done p.1 whole.1 h in
    (joined_differ rest (o ∷ p ∷ done) d).0 (subst (λ z. Among z (rows_of (p ∷ done))) (one_row m one r o.0 p.1 mate whole.0) on)

-- the last row of a path is the one without a mate
last_row : (m : List Place) (r : ℕ) (path done : List Place) → Alternates m path → ¬ Among r (rows_of m) → Among r (rows_of path) → (c : ℕ) × (rest : List Place) × (joined_at path done ≡ (r, c) ∷ rest)
last_row m r [] done a free h = absurd h
last_row m r (p ∷ []) done a free h = ⊎_elim (λ (e : r ≡ p.0). (p.1, done, λ i. (sym e i, p.1) ∷ done)) (λ n. absurd n) h
last_row m r (p ∷ q ∷ path) done a free (inl e) = absurd (free (row_among r q.1 m (subst (λ z. Among {X = Place} (z, q.1) m) (sym e) a.0)))
last_row m r (p ∷ q ∷ path) done a free (inr h) = last_row m r (q ∷ path) (p ∷ done) a.1 free h

-- What is set on a walk.

sets_length : (rows : ℕ) (path : List Place) → length (sets_on rows path) ≡ 2 * length path
sets_length rows [] = refl
sets_length rows (p ∷ path) = (let e = sets_length rows path in let f = length-append (sets_on rows path) ((p.0, p.1) ∷ (rows + p.1, p.0) ∷ []) in omega (arith, e, f))

-- a vertex below the columns is a row
row_in_sets : (rows r c : ℕ) (path : List Place) → r < rows → Among (r, c) (sets_on rows path) → Among (r, c) path
row_in_sets rows r c [] lt h = absurd h
row_in_sets rows r c (p ∷ path) lt h = ⊎_elim (λ g. inr (row_in_sets rows r c path lt g)) last (among_either (r, c) (sets_on rows path) ((p.0, p.1) ∷ (rows + p.1, p.0) ∷ []) h)
  where
    last : Among {X = Place} (r, c) ((p.0, p.1) ∷ (rows + p.1, p.0) ∷ []) → Among (r, c) (p ∷ path)
    last (inl e) = inl e
    last (inr (inl e)) = let f : r ≡ rows + p.1 = ap (λ (q : Place). q.0) e in absurd (omega (arith, f, lt))
    last (inr (inr n)) = absurd n

row_sets : (rows r c : ℕ) (path : List Place) → Among (r, c) path → Among (r, c) (sets_on rows path)
row_sets rows r c [] h = absurd h
row_sets rows r c (p ∷ path) (inl e) = among_right (r, c) (sets_on rows path) ((p.0, p.1) ∷ (rows + p.1, p.0) ∷ []) (inl e)
row_sets rows r c (p ∷ path) (inr h) = among_left (r, c) (sets_on rows path) ((p.0, p.1) ∷ (rows + p.1, p.0) ∷ []) (row_sets rows r c path h)

col_in_sets : (rows r c : ℕ) (path : List Place) → ((q : ℕ) → Among q (rows_of path) → q < rows) → Among (rows + c, r) (sets_on rows path) → Among (r, c) path
col_in_sets rows r c [] lt h = absurd h
col_in_sets rows r c (p ∷ path) lt h = ⊎_elim (λ g. inr (col_in_sets rows r c path (λ q i. lt q (inr i)) g)) last (among_either (rows + c, r) (sets_on rows path) ((p.0, p.1) ∷ (rows + p.1, p.0) ∷ []) h)
  where
    last : Among {X = Place} (rows + c, r) ((p.0, p.1) ∷ (rows + p.1, p.0) ∷ []) → Among (r, c) (p ∷ path)
    last (inl e) = let f : rows + c ≡ p.0 = ap (λ (q : Place). q.0) e in let small = lt p.0 (inl refl) in absurd (omega (arith, f, small))
    last (inr (inl e)) =
        let f : rows + c ≡ rows + p.1 = ap (λ (q : Place). q.0) e in
        let same : c ≡ p.1 = omega (arith, f) in
        inl (λ i. (ap (λ (q : Place). q.1) e i, same i))
    last (inr (inr n)) = absurd n

col_sets : (rows r c : ℕ) (path : List Place) → Among (r, c) path → Among (rows + c, r) (sets_on rows path)
col_sets rows r c [] h = absurd h
col_sets rows r c (p ∷ path) (inl e) = among_right (rows + c, r) (sets_on rows path) ((p.0, p.1) ∷ (rows + p.1, p.0) ∷ []) (inr (inl (λ i. (rows + (e i).1, (e i).0))))
col_sets rows r c (p ∷ path) (inr h) = among_left (rows + c, r) (sets_on rows path) ((p.0, p.1) ∷ (rows + p.1, p.0) ∷ []) (col_sets rows r c path h)

-- The walk.

-- the seat with these sets
abbrev having_set : Seat → List (ℕ × ℕ) → Seat
having_set t sets = record { board = t.board; number = t.number; seats = t.seats; listed = record { taken = t.listed.taken; seen = t.listed.seen; sets = sets; looks = t.listed.looks } }

sets_count : (t : Seat) (rows : ℕ) (path : List Place) → length (t.listed.sets ++ sets_on rows path) ≡ length t.listed.sets + 2 * length path
sets_count t rows path = (let e = length-append t.listed.sets (sets_on rows path) in let f = sets_length rows path in omega (arith, e, f))

path_few : (rows : ℕ) (path : List Place) → AreDistinct (rows_of path) → ((q : ℕ) → Among q (rows_of path) → q < rows) → length path ≤ rows
path_few rows path differ low =
    let le = few_distinct (rows_of path) (upto rows) differ (λ q h. let lt = low q h in upto_complete 0 rows q (omega arith) (omega (arith, lt))) in
    let many = upto_length 0 rows in
    let same = length-map path (λ (p : Place). p.0) in
    omega (arith, le, many, same)

-- a whole path was set
exchanged : {s : State} {b : Board} {x : ℕ} {t z : Seat} (path : List Place) → IsPath s x path → ((q d : ℕ) → Among (q, d) s.claims → q < b.rows) → AreDistinct (rows_of s.claims) → z ≡ with_sets t (sets_on b.rows path) → HasExchanged s b x t z
exchanged {s = s} {b = b} {x = x} {t = t} {z = z} path p low one e = record {
  same = record { board = ap (λ (v : Seat). v.board) e; number = ap (λ (v : Seat). v.number) e; seats = ap (λ (v : Seat). v.seats) e };
  taken = ap (λ (v : Seat). v.listed.taken) e;
  seen = ap (λ (v : Seat). v.listed.seen) e;
  rows = λ r c lt. (
    λ h. ⊎_elim (λ g. inl g) (λ g. inr (pair r c (row_in_sets b.rows r c path lt g))) (among_either (r, c) t.listed.sets (sets_on b.rows path) (subst (λ (v : Seat). HasSetTo v r c) e h)),
    λ h. subst (λ (v : Seat). HasSetTo v r c) (sym e) (⊎_elim (λ g. among_left (r, c) t.listed.sets (sets_on b.rows path) g) (λ g. among_right (r, c) t.listed.sets (sets_on b.rows path) (row_sets b.rows r c path (on r c g))) h),
  );
  cols = λ r c. (
    λ h. ⊎_elim (λ g. inl g) (λ g. inr (pair r c (col_in_sets b.rows r c path below g))) (among_either (col_vertex b c, r) t.listed.sets (sets_on b.rows path) (subst (λ (v : Seat). HasSetTo v (col_vertex b c) r) e h)),
    λ h. subst (λ (v : Seat). HasSetTo v (col_vertex b c) r) (sym e) (⊎_elim (λ g. among_left (col_vertex b c, r) t.listed.sets (sets_on b.rows path) g) (λ g. among_right (col_vertex b c, r) t.listed.sets (sets_on b.rows path) (col_sets b.rows r c path (on r c g))) h),
  );
}
  where
    pair : (r c : ℕ) → Among (r, c) path → IsPathPair s x (r, c)
    pair r c h = (p.on_path r (row_among r c path h), p.claimed (r, c) h)

    on : (r c : ℕ) → IsPathPair s x (r, c) → Among (r, c) path
    on r c g = let (d, h) = row_pair r path (p.complete r g.0) in subst (λ i. Among {X = Place} (r, i) path) (one_col s.claims one r d c (p.claimed (r, d) h) g.1) h

    below : (q : ℕ) → Among q (rows_of path) → q < b.rows
    below q h = let (d, g) = row_pair q path h in low q d (p.claimed (q, d) g)

-- the walk begins at the leaf
pub come_to_leaf : {s : State} {b : Board} {x r : ℕ} (t : Seat) → IsSound s → Among (x, r) s.leaves → (path : List Place) × IsPath s x path → HasComeTo s b x r t t
come_to_leaf {s = s} {b = b} {x = x} {r = r} t k h (path, p) =
    let (c, rest, e) = last_row s.base r path [] p.alternates (k.leaves x r h).leaf_unmatched (p.complete r (leaf h)) in (
      c,
      record {
        rest = rest;
        done = [];
        path = subst (IsPath s x) (sym (append-nil path) ∙ sym (joined_twice path [] []) ∙ ap (λ (q : List Place). joined_at q []) e) p;
        seat = ap (having_set t) (sym (append-nil t.listed.sets));
      },
    )

module _ {s : State} {b : Board} {x r c : ℕ} {t u : Seat} (w : IsAt s b x r c t u) where
  -- the pair at which the walk is, and what lies behind it
  here : Among (r, c) (joined_at w.rest ((r, c) ∷ w.done))
  here = joined_done w.rest ((r, c) ∷ w.done) (r, c) (inl refl)

  behind : (p : Place) → Among p w.done → Among p (joined_at w.rest ((r, c) ∷ w.done))
  behind p h = joined_done w.rest ((r, c) ∷ w.done) p (inr h)

  at_claim : Among (r, c) s.claims
  at_claim = w.path.claimed (r, c) here

  at_on_path : OnPath s.base s.claims s.leaves x r
  at_on_path = w.path.on_path r (row_among r c (joined_at w.rest ((r, c) ∷ w.done)) here)

  row_not_behind : ¬ Among r (rows_of w.done)
  row_not_behind = (joined_differ w.rest ((r, c) ∷ w.done) w.path.rows_differ).0

  col_not_behind : AreDistinct (cols_of s.base) → ¬ Among c (cols_of w.done)
  col_not_behind one = col_new s.base w.rest (r, c) w.done one w.path.begins w.path.alternates w.path.rows_differ

  -- the walk has set neither the row nor the column
  not_set_row : r < b.rows → ¬ HasSet t r → ¬ HasSet u r
  not_set_row lt free (mate, h) = ⊎_elim (λ g. free (mate, g)) (λ g. row_not_behind (row_among r mate w.done (row_in_sets b.rows r mate w.done lt g))) (among_either (r, mate) t.listed.sets (sets_on b.rows w.done) (subst (λ (v : Seat). HasSetTo v r mate) w.seat h))

  not_set_col : {v : Seat} → ((q d : ℕ) → Among (q, d) s.claims → q < b.rows) → AreDistinct (cols_of s.base) → ¬ HasSet t (col_vertex b c) → v ≡ after_set u r c → ¬ HasSet v (col_vertex b c)
  not_set_col {v = v} low one free e (mate, h) =
      ⊎_elim old last (among_last (col_vertex b c, mate) (r, c) (t.listed.sets ++ sets_on b.rows w.done) (subst (λ (z : Seat). HasSetTo z (col_vertex b c) mate) (e ∙ ap (λ (z : Seat). after_set z r c) w.seat) h))
    where
      old : ¬ Among (col_vertex b c, mate) (t.listed.sets ++ sets_on b.rows w.done)
      old g = ⊎_elim (λ i. free (mate, i)) (λ i. col_not_behind one (col_among mate c w.done (col_in_sets b.rows mate c w.done (λ q j. let (d, k) = row_pair q w.done j in low q d (w.path.claimed (q, d) (behind (q, d) k))) i))) (among_either (col_vertex b c, mate) t.listed.sets (sets_on b.rows w.done) g)

      last : ¬ ◌≡◌ {A = ℕ × ℕ} (col_vertex b c, mate) (r, c)
      last g = let same : b.rows + c ≡ r = ap (λ (q : Place). q.0) g in let lt = low r c at_claim in omega (arith, same, lt)

  -- what is set here joins what was set behind
  more_sets : {v z : Seat} → v ≡ after_set u r c → z ≡ after_set v (col_vertex b c) r → z ≡ with_sets t (sets_on b.rows ((r, c) ∷ w.done))
  more_sets e f =
      f ∙ ap (λ (v : Seat). after_set v (col_vertex b c) r) (e ∙ ap (λ (v : Seat). after_set v r c) w.seat)
      ∙ ap (having_set t) (append_assoc (t.listed.sets ++ sets_on b.rows w.done) ((r, c) ∷ []) ((b.rows + c, r) ∷ []) ∙ append_assoc t.listed.sets (sets_on b.rows w.done) ((r, c) ∷ (b.rows + c, r) ∷ []))

  -- the walk goes on to the column's base row
  further_up : {v z : Seat} (q : ℕ) → AreDistinct (cols_of s.base) → v ≡ after_set u r c → z ≡ after_set v (col_vertex b c) r → Among (q, c) s.base → HasComeTo s b x q t z
  further_up {z = z} q one e f m = on w.rest w.path
    where
      on : (rest : List Place) → IsPath s x (joined_at rest ((r, c) ∷ w.done)) → HasComeTo s b x q t z
      on [] p = absurd (p.begins (col_among q c s.base m))
      on (o ∷ rest) p =
          let mate = (joined_alternates s.base rest o ((r, c) ∷ w.done) p.alternates).0 in
          let same : o.0 ≡ q = one_row s.base one o.0 q c mate m in (
            o.1,
            record {
              rest = rest;
              done = (r, c) ∷ w.done;
              path = subst (λ i. IsPath s x (joined_at rest ((i, o.1) ∷ (r, c) ∷ w.done))) same p;
              seat = more_sets e f;
            },
          )

  -- or ends at a column without a base mate
  at_end : {v z : Seat} → ((q d : ℕ) → Among (q, d) s.claims → q < b.rows) → AreDistinct (rows_of s.claims) → v ≡ after_set u r c → z ≡ after_set v (col_vertex b c) r → ¬ Among c (cols_of s.base) → HasExchanged s b x t z
  at_end {z = z} low one e f free = on w.rest w.path
    where
      on : (rest : List Place) → IsPath s x (joined_at rest ((r, c) ∷ w.done)) → HasExchanged s b x t z
      on [] p = exchanged ((r, c) ∷ w.done) p low one (more_sets e f)
      on (o ∷ rest) p = absurd (free (col_among o.0 c s.base (joined_alternates s.base rest o ((r, c) ∷ w.done) p.alternates).0))

  -- each turn sets two vertices, and a path has no more rows than the matrix
  less_to_set : {v z : Seat} (rows : ℕ) → ((q d : ℕ) → Among (q, d) s.claims → q < rows) → v ≡ after_set u r c → z ≡ after_set v (col_vertex b c) r → length t.listed.sets + 2 * rows - length z.listed.sets < length t.listed.sets + 2 * rows - length u.listed.sets
  less_to_set {z = z} rows low e f =
      let path = joined_at w.rest ((r, c) ∷ w.done) in
      let few = path_few rows path w.path.rows_differ (λ q h. let (d, g) = row_pair q path h in low q d (w.path.claimed (q, d) g)) in
      let many = joined_length w.rest ((r, c) ∷ w.done) in
      let before : length u.listed.sets ≡ length t.listed.sets + 2 * length w.done = ap (λ (k : Seat). length k.listed.sets) w.seat ∙ sets_count t b.rows w.done in
      let after : length z.listed.sets ≡ length t.listed.sets + 2 * suc (length w.done) = ap (λ (k : Seat). length k.listed.sets) (more_sets e f) ∙ sets_count t b.rows ((r, c) ∷ w.done) in
      omega (arith, few, many, before, after)

-- The loop.

-- what holds of forest, board and seat on the whole walk
pub record CanWalk (s : State) (b : Board) (x : ℕ) (t : Seat) : Type 0 where
  pub sound : IsSound s
  pub board : IsBoardOf s b
  pub seat : t.board ≡ b
  pub took : Took t x
  pub unset : (v : ℕ) → held b.trees v ≡ Some x → ¬ HasSet t v
  pub once : AreDistinct (rows_of s.claims)
  pub low : (q d : ℕ) → Among (q, d) s.claims → (q < s.matrix.rows) × (d < cols s.matrix)
  pub root : x < cols s.matrix
  pub tree : (q : ℕ) → OnPath s.base s.claims s.leaves x q → IsRootOfRow s.base s.claims x q

-- what holds of the row and the column at which the walk is
pub record IsTurn (s : State) (b : Board) (x r c : ℕ) (t u : Seat) : Type 0 where
  pub at : IsAt s b x r c t u
  pub seat : u.board ≡ b
  pub took : Took u x
  pub root : x < b.cols
  pub row : r < b.rows
  pub col : c < b.cols
  pub row_tree : held b.trees r ≡ Some x
  pub col_tree : held b.trees (col_vertex b c) ≡ Some x

module _ {s : State} {b : Board} {x : ℕ} {t : Seat} (can : CanWalk s b x t) where
  low : (q d : ℕ) → Among (q, d) s.claims → q < b.rows
  low q d h = subst (λ n. q < n) (sym can.board.opened.rows) (can.low q d h).0

  pub row_claimed : {r : ℕ} {u : Seat} → HasComeTo s b x r t u → Among r (rows_of s.claims) × (r < s.matrix.rows)
  row_claimed {r = r} (c, w) = (row_among r c s.claims (at_claim w), (can.low r c (at_claim w)).0)

  -- the column that claimed the row is the one that holds it
  pub turn : {r c : ℕ} {u : Seat} → HasComeTo s b x r t u → Among (r, c) s.claims → IsTurn s b x r c t u
  turn {r = r} {c = c} {u = u} (d, w) h =
      let at : IsAt s b x r c t u = subst (λ e. IsAt s b x r e t u) (one_col s.claims can.once r d c (at_claim w) h) w in
      let (e, g, v) = can.tree r (at_on_path at) in
      let root : RootOf s.base s.claims x c = subst (RootOf s.base s.claims x) (one_col s.claims can.once r e c g h) v in
      let there : c < b.cols = subst (λ n. c < n) (sym can.board.opened.cols) (can.low r c h).1 in
      record {
        at = at;
        seat = ap (λ (z : Seat). z.board) at.seat ∙ can.seat;
        took = subst (λ (z : Seat). Took z x) (sym at.seat) can.took;
        root = subst (λ n. x < n) (sym can.board.opened.cols) can.root;
        row = low r c h;
        col = there;
        row_tree = (can.board.row_trees r x (low r c h)).1 (e, g, v);
        col_tree = (can.board.col_trees c x there).1 root;
      }

  module _ {r c : ℕ} {u : Seat} (k : IsTurn s b x r c t u) where
    pub row_unset : ¬ HasSet u r
    row_unset = not_set_row k.at k.row (can.unset r k.row_tree)

    pub col_in_matrix : c < cols s.matrix
    col_in_matrix = (can.low r c (at_claim k.at)).1

    module _ {v : Seat} (e : v ≡ after_set u r c) where
      pub seat_then : v.board ≡ b
      seat_then = ap (λ (z : Seat). z.board) e ∙ k.seat

      pub took_then : Took v x
      took_then = subst (λ (z : Seat). Took z x) (sym e) k.took

      pub col_unset : ¬ HasSet v (col_vertex b c)
      col_unset = not_set_col k.at low can.sound.base.cols_differ (can.unset (col_vertex b c) k.col_tree) e

      module _ {z : Seat} (f : z ≡ after_set v (col_vertex b c) r) where
        pub comes_further : (q : ℕ) → Among (q, c) s.base → HasComeTo s b x q t z
        comes_further q m = further_up k.at q can.sound.base.cols_differ e f m

        pub comes_to_end : ¬ Among c (cols_of s.base) → HasExchanged s b x t z
        comes_to_end free = at_end k.at low can.once e f free

        pub fewer_left : length t.listed.sets + 2 * s.matrix.rows - length z.listed.sets < length t.listed.sets + 2 * s.matrix.rows - length u.listed.sets
        fewer_left = less_to_set k.at s.matrix.rows (λ q d h. (can.low q d h).0) e f
