-- How a search begins, and what it has found at its end.
use Rattle.std.proofs.Common.{◌≡◌, ◌≢◌, ◌∙◌, ℕ, zero, suc, ◌+◌, ◌-◌, ◌*◌, ◌<◌, ◌≤◌, List, [], ◌∷◌, set, length, get_or, replicate, sum_by, sym, ap, subst, ⊎_elim, arith, length-set, get_or-set_same, get_or-set_other}
use Rattle.std.proofs.lemmas.List.{get_or-replicate, get_or_past, length-replicate}
use Rattle.std.proofs.lemmas.List.Folds.{sum_by-replicate}
use Rattle.std.proofs.lemmas.List.Sums.{sum_by-set}
use Rattle.bip_defs.specs.Lists.{Among, IsRising, Lists, numbers_of}
use Rattle.bip_defs.specs.Matching.{IsMaximum}
use Rattle.bip_defs.specs.Matrix.{IsEntry, Matrix, Place, cols, upto}
use Rattle.bip_defs.specs.Parts.{IsSquareCol, IsSquareRow}
use Rattle.bip_defs.specs.Walks.{Walk}
use Rattle.bip_defs.proofs.Sets.{among_at, below_each_sound, col_among, col_pair, few_distinct, number_among, number_same, one_row, pigeonhole, place_among, rising_distinct, row_among, row_pair, upto_complete, upto_length, upto_rising, upto_sound}
use Rattle.bip_defs.proofs.Square.{in_rows, in_rows_among, in_rows_back, square_col_mate, square_pairs_perfect, square_row_matched}
use Rattle.bip_graph.specs.Matching.{none}
use Rattle.column_lists.specs.Listed.{AreListed}
use Rattle.square_components.specs.Answers.{IsOneComponent}
use Rattle.square_components.specs.Found.{IsFound, col_in, finished_at, row_in}
use Rattle.square_components.specs.Numbers.{look}
use Rattle.square_components.specs.Part.{IsSquarePart}
use Rattle.square_components.specs.Stacks.{IsDepthFirst, IsGraph, PathState, one_free}
use Rattle.square_components.specs.Steps.{AreUnmet, IsBeginning}
use Rattle.square_components.proofs.Changes.{rising_few}
use Rattle.square_components.proofs.GraphLemmas.{col_in_is, less, row_in_is}
use Rattle.square_components.proofs.PathLemmas.{not_free}
use Rattle.square_components.proofs.SearchLemmas.{path_empty}

-- Rows that are not met.

-- what stands at a place of a list is one of it
pub at_among : (xs : List ℕ) (k q : ℕ) → q ≡ get_or xs k 0 → k < length xs → Among q xs
at_among xs k q e lt = subst (λ y. Among y xs) (sym e) (among_at xs k 0 lt)

-- as many rising numbers as there are numbers below n are all of these
pub all_of_them : (xs : List ℕ) (n r : ℕ) → IsRising xs → ((x : ℕ) → Among x xs → x < n) → length xs ≡ n → r < n → Among r xs
all_of_them xs n r rising below e lt = ⊎_elim
    (λ h. h)
    (λ o. absurd (let z = few_distinct (r ∷ xs) (upto n) (o, rising_distinct xs rising) (λ x h. ⊎_elim (λ (f : x ≡ r). upto_complete 0 n x (omega arith) (omega arith)) (λ g. let y = below x g in upto_complete 0 n x (omega arith) (omega arith)) h) in let y = upto_length 0 n in omega arith))
    (number_among r xs)

-- where all rows are listed, none is met
pub unmet_all : (n : ℕ) (square : List ℕ) → IsRising square → ((r : ℕ) → Among r square → r < n) → length square ≡ n → AreUnmet n square (replicate {A = ℕ} n 0)
unmet_all n square rising below e = record {
  long = length-replicate {A = ℕ} n 0;
  unmet = λ r h. get_or-replicate n r 0 none (below r h);
  others = λ r o. ⊎_elim
      (λ (lt : r < n). absurd (o (all_of_them square n r rising below e lt)))
      (λ (le : n ≤ r). get_or_past (replicate {A = ℕ} n 0) r none (let z : length (replicate {A = ℕ} n 0) ≡ n = length-replicate {A = ℕ} n 0 in omega (arith, z, le)))
      (less r n);
  free = let z : sum_by one_free (replicate {A = ℕ} n 0) ≡ n * 1 = sum_by-replicate one_free n 0 in omega arith;
}

-- the first k of these rows have 0, and others none
pub record AreCleared (n : ℕ) (square : List ℕ) (k : ℕ) (state : List ℕ) : Type 0 where
  pub long : length state ≡ n
  pub within : k ≤ length square
  pub unmet : (j : ℕ) → j < k → look state (get_or square j 0) ≡ 0
  pub others : (r : ℕ) → ((j : ℕ) → j < k → get_or square j 0 ≢ r) → look state r ≡ none
  pub free : sum_by one_free state ≡ k

pub cleared_none : (n : ℕ) (square : List ℕ) → AreCleared n square 0 (replicate {A = ℕ} n none)
cleared_none n square = record {
  long = length-replicate {A = ℕ} n none;
  within = omega arith;
  unmet = λ j lt. absurd (omega arith);
  others = λ r o. ⊎_elim
      (λ (lt : r < n). get_or-replicate n r none none lt)
      (λ (le : n ≤ r). get_or_past (replicate {A = ℕ} n none) r none (let z : length (replicate {A = ℕ} n none) ≡ n = length-replicate {A = ℕ} n none in omega (arith, z, le)))
      (less r n);
  free = let z : sum_by one_free (replicate {A = ℕ} n none) ≡ n * 0 = subst (λ x. sum_by one_free (replicate {A = ℕ} n none) ≡ n * x) (not_free none (λ e. absurd (omega (arith, e)))) (sum_by-replicate one_free n none) in omega arith;
}

pub cleared_more : (n : ℕ) (square state : List ℕ) (k row : ℕ) → IsRising square → ((r : ℕ) → Among r square → r < n) → AreCleared n square k state → k < length square → row ≡ get_or square k 0 → AreCleared n square (k + 1) (set state row 0)
cleared_more n square state k row rising below c lt at = record {
  long = length-set state row 0 ∙ c.long;
  within = omega arith;
  unmet = λ j l. ⊎_elim
      (λ (e : get_or square j 0 ≡ row). ap (look (set state row 0)) e ∙ same)
      (λ ne. other (get_or square j 0) ne ∙ c.unmet j (let nj : j ≢ k = λ z. ne (ap (λ x. get_or square x 0) z ∙ sym at) in omega arith))
      (number_same (get_or square j 0) row);
  others = λ r h. other r (λ e. h k (omega arith) (sym at ∙ sym e)) ∙ c.others r (λ j l. h j (omega arith));
  free =
      let was : look state row ≡ none = c.others row (λ j l e. let z = later square j k rising l lt in absurd (omega (arith, z, e, at))) in
      let old : one_free (look state row) ≡ 0 = not_free (look state row) (λ e. absurd (omega (arith, was, e))) in
      let z : sum_by one_free (set state row 0) + one_free (look state row) ≡ sum_by one_free state + 1 = sum_by-set one_free state row 0 none inside in
      let f = c.free in
      omega (arith, z, old, f);
}
  where
    inside : row < length state
    inside = let l = below row (subst (λ x. Among x square) (sym at) (among_at square k 0 lt)) in let e = c.long in omega arith

    same : look (set state row 0) row ≡ 0
    same = get_or-set_same state row 0 none inside

    other : (t : ℕ) → t ≢ row → look (set state row 0) t ≡ look state t
    other t ne = get_or-set_other state row t 0 none ne

    -- of rising numbers a later one is greater
    later : (xs : List ℕ) (i j : ℕ) → IsRising xs → i < j → j < length xs → get_or xs i 0 < get_or xs j 0
    later [] i j rising lt le = absurd (omega arith)
    later (x ∷ xs) i zero rising lt le = absurd (omega arith)
    later (x ∷ xs) zero (suc j) rising lt le = below_each_sound x (get_or xs j 0) xs rising.0 (among_at xs j 0 (omega arith))
    later (x ∷ xs) (suc i) (suc j) rising lt le = later xs i j rising.1 (omega arith) (omega arith)

pub cleared_all : (n : ℕ) (square state : List ℕ) (k : ℕ) → AreCleared n square k state → length square ≤ k → AreUnmet n square state
cleared_all n square state k c le = record {
  long = c.long;
  unmet = λ r h. let (j, lt, e) = place_among r 0 square h in subst (λ x. look state x ≡ 0) e (c.unmet j (omega arith));
  others = λ r o. c.others r (λ j lt e. o (subst (λ x. Among x square) e (among_at square j 0 (let w = c.within in omega arith))));
  free = let f = c.free in let w = c.within in omega arith;
}

-- The beginning.

-- the pairs of a maximum matching in the square rows
pub is_graph : (a : Matrix) (line : ℕ → List ℕ) (pairs : List Place) (square : List ℕ) → IsMaximum a pairs → AreListed a line → Lists (IsSquareRow a) square → IsGraph (record { matrix = a; line = line; pairs = pairs; square = in_rows square pairs })
is_graph a line pairs square max listed l = record {
  perfect = square_pairs_perfect a pairs square max l;
  listed = listed;
  mates = λ r inside.
      let (c, p) = row_pair r pairs (square_row_matched a pairs r max inside) in
      subst (λ x. Among (r, x) (in_rows square pairs)) (sym (col_in_is pairs r c max.matching.rows_differ p)) (in_rows_among square pairs r c p (l.complete r inside));
  over = λ r c h. (in_rows_back square pairs r c h).0;
}

pub begins : (a : Matrix) (line : ℕ → List ℕ) (pairs : List Place) (square : List ℕ) (s : PathState) → IsMaximum a pairs → AreListed a line → Lists (IsSquareRow a) square → IsBeginning a.rows square s → IsDepthFirst a line pairs s
begins a line pairs square s max listed l b = record {
  square = in_rows square pairs;
  graph = is_graph a line pairs square max listed l;
  state = record {
    long = b.unmet.long;
    on = λ i lt. absurd (omega (arith, bare, lt));
    placed = λ r inside ne le. absurd (ne (unmet r inside));
    outside = λ r o. b.unmet.others r (λ h. o (l.sound r h));
    walks = λ i j lt lj clear. absurd (omega (arith, bare, lt));
    gone_over = λ i k d h g. absurd (subst (Among (i, k)) b.frames h);
    left = λ i lt. absurd (omega (arith, bare, lt));
    done = record {
      falling = λ r d inside lt h. absurd (not_done r inside lt);
      used = λ k lt. absurd (let e = b.count in omega (arith, e, lt));
      joined = λ r t inside there lt e. absurd (not_done r inside lt);
    };
    todo_in = λ i h. absurd (subst (λ fs. Among i (numbers_of fs)) b.frames h);
    todo_rises = subst (λ fs. IsRising (numbers_of fs)) (sym b.frames) tt;
    starts_in = λ x h. absurd (subst (Among x) b.starts h);
    starts_rise = subst IsRising (sym b.starts) tt;
    first = λ lt. absurd (omega (arith, bare, lt));
    few = let e = b.count in let f = b.unmet.free in let g = b.room in omega (arith, bare, e, f, g);
    small = let few = rising_few square a.rows l.rising (λ x h. (l.sound x h).0) in let e = b.room in let f = listed.few_rows in omega (arith, few, e, f);
  };
  opened = λ x h. absurd (subst (Among x) b.starts h);
}
  where
    bare : length s.stack ≡ 0
    bare = ap length b.stack

    unmet : (r : ℕ) → IsSquareRow a r → look s.state r ≡ 0
    unmet r inside = b.unmet.unmet r (l.complete r inside)

    not_done : (r : ℕ) → IsSquareRow a r → ¬ (none < look s.state r + s.count)
    not_done r inside lt = let e = unmet r inside in let f = b.count in omega (arith, e, f, lt)

-- The end.

-- where the path is empty and the mates of all square columns were met, each has the number of its component
pub ends : (a : Matrix) (line : ℕ → List ℕ) (pairs : List Place) (s : PathState) → IsMaximum a pairs → IsDepthFirst a line pairs s → s.frames ≡ [] → ((r c : ℕ) → IsSquareCol a c → Among (r, c) pairs → look s.state r ≢ 0) → ((r : ℕ) → look s.state r ≤ none) → IsFound a pairs s.state s.count
ends a line pairs s max k empty met small = record {
  long = k.state.long;
  square = k.square;
  perfect = k.graph.perfect;
  are_pairs = k.graph.over;
  all_pairs = λ r c h sc.
      let (t, p) = col_pair c k.square (k.graph.perfect.covers_col c sc) in
      subst (λ x. Among (x, c) k.square) (one_row pairs max.matching.cols_differ t r c (k.graph.over t c p) h) p;
  components = record { joined = joined; falling = falling };
  below = λ c sc. let (r, p) = mate c sc in let e = row_is r c p in let lt = done r c sc p in let le = small r in subst (λ x. none - look s.state x < s.count) (sym e) (omega (arith, lt, le));
  used = used;
  outside = k.state.outside;
  few = let z = pigeonhole (λ (x c : ℕ). finished_at pairs s.state c ≡ x) (λ x z c e f. sym e ∙ f) (upto s.count) (upto (cols a)) (rising_distinct (upto s.count) (upto_rising 0 s.count)) taken in let e = upto_length 0 s.count in let f = upto_length 0 (cols a) in omega (arith, z, e, f);
  few_cols = let f = k.graph.listed.few_cols in omega (arith, f);
}
  where
    mate : (c : ℕ) → IsSquareCol a c → (r : ℕ) × Among (r, c) k.square
    mate c sc = col_pair c k.square (k.graph.perfect.covers_col c sc)

    row_is : (r c : ℕ) → Among (r, c) k.square → row_in pairs c ≡ r
    row_is r c p = row_in_is pairs r c max.matching.cols_differ (k.graph.over r c p)

    col_is : (r c : ℕ) → Among (r, c) k.square → col_in pairs r ≡ c
    col_is r c p = col_in_is pairs r c max.matching.rows_differ (k.graph.over r c p)

    inside : (r c : ℕ) → Among (r, c) k.square → IsSquareRow a r
    inside r c p = k.graph.perfect.only_rows r (row_among r c k.square p)

    done : (r c : ℕ) → IsSquareCol a c → Among (r, c) k.square → none < look s.state r + s.count
    done r c sc p = ⊎_elim
        (λ lt. lt)
        (λ (le : look s.state r + s.count ≤ none).
        let (i, lt, e) = k.state.placed r (inside r c p) (met r c sc (k.graph.over r c p)) le in
        let z = path_empty a line pairs s k empty in
        absurd (omega (arith, lt, z)))
        (less none (look s.state r + s.count))

    joined : (c d : ℕ) → IsSquareCol a c → IsSquareCol a d → finished_at pairs s.state c ≡ finished_at pairs s.state d → Walk a k.square c d
    joined c d sc sd e =
        let (r, p) = mate c sc in
        let (t, q) = mate d sd in
        let f : none - look s.state r ≡ none - look s.state t = ap (λ x. none - look s.state x) (sym (row_is r c p)) ∙ e ∙ ap (λ x. none - look s.state x) (row_is t d q) in
        let le = small r in
        let lf = small t in
        let same : look s.state r ≡ look s.state t = omega (arith, f, le, lf) in
        let w = k.state.done.joined r t (inside r c p) (inside t d q) (done r c sc p) same in
        subst (λ x. Walk a k.square x d) (col_is r c p) (subst (Walk a k.square (col_in pairs r)) (col_is t d q) w)

    falling : (r c d : ℕ) → IsSquareCol a c → IsEntry a r c → Among (r, d) k.square → finished_at pairs s.state d ≤ finished_at pairs s.state c
    falling r c d sc e h =
        let (q, p) = mate c sc in
        let on : Among r (line (col_in pairs q)) = subst (λ x. Among r (line x)) (sym (col_is q c p)) ((k.graph.listed.entries r c sc.0).0 e) in
        let le = k.state.done.falling q r (inside q c p) (done q c sc p) on in
        subst (λ x. none - look s.state x ≤ finished_at pairs s.state c) (sym (row_is r d h)) (subst (λ x. none - look s.state r ≤ none - look s.state x) (sym (row_is q c p)) (omega (arith, le)))

    used : (x : ℕ) → x < s.count → (c : ℕ) × IsSquareCol a c × (finished_at pairs s.state c ≡ x)
    used x lt =
        let (r, is_in, e) = k.state.done.used x lt in
        let p = k.graph.mates r is_in in
        (col_in pairs r, k.graph.perfect.only_cols (col_in pairs r) (col_among r (col_in pairs r) k.square p), ap (λ y. none - look s.state y) (row_is r (col_in pairs r) p) ∙ omega (arith, e))

    taken : (x : ℕ) → Among x (upto s.count) → (c : ℕ) × Among c (upto (cols a)) × (finished_at pairs s.state c ≡ x)
    taken x h =
        let lt = (upto_sound 0 s.count x h).1 in
        let (c, sc, e) = used x (omega (arith, lt)) in
        let in_range = sc.0 in
        (c, upto_complete 0 (cols a) c (omega arith) (omega (arith, in_range)), e)

-- the mate of the column at a place of a square part is one of its rows
pub part_row : (a : Matrix) (rows listed : List ℕ) (pairs : List Place) (end k col row : ℕ) → IsSquarePart a rows listed pairs → k < end → end ≡ length rows → col ≡ get_or listed k 0 → Among (row, col) pairs → IsSquareRow a row
part_row a rows listed pairs end k col row part lt long at pair =
    let same = part.same in
    square_col_mate a pairs row col part.maximum pair (part.square_cols.sound col (at_among listed k col at (omega (arith, lt, long, same))))

-- where one component was found, it has all square columns
pub one_found : (a : Matrix) (pairs : List Place) (state : List ℕ) (count : ℕ) → IsFound a pairs state count → count ≡ 1 → IsOneComponent a
one_found a pairs state count found one = record {
  square = found.square;
  perfect = found.perfect;
  components = record {
    joined = λ c d here there e. found.components.joined c d here there (let x = found.below c here in let y = found.below d there in omega (arith, x, y, one));
    falling = λ r c d here entry pair. omega arith;
  };
  some = let (c, here, e) = found.used 0 (omega (arith, one)) in (c, here);
}
