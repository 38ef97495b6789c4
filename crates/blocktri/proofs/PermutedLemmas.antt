-- The orders and the cuts of a decomposition in which a matching stands on the diagonal.
use Rattle.std.proofs.Common.{◌≡◌, ◌≢◌, ◌⊎◌, ◌↔◌, ◌∙◌, ℕ, ◌+◌, ◌-◌, ◌<◌, ◌≤◌, Bool, true, false, List, [], ◌∷◌, ◌++◌, Option, None, Some, IfNone, IfSome, IsTrue, length, map, take, drop, get_or, refl, sym, ap, arith, subst, inl, inr, is_some, not, length-append, true≢false}
use Rattle.std.proofs.Math.Bool.{beq}
use Rattle.std.proofs.Math.Decide.{dec_lt}
use Rattle.std.proofs.Math.Seq.{drop-append_seam, ext_get_or}
use Rattle.std.proofs.lemmas.List.{append_assoc, get_or_append_left, get_or-append-add, get_or-take, length-map, length-take-le, map-append, map-id, take_all, take_more}
use Rattle.bip_defs.specs.Blocks.{Block, all_cols, block_at, no_block}
use Rattle.bip_defs.specs.Decomposition.{Decomposition, IsDecompositionOf}
use Rattle.bip_defs.specs.Lists.{Among, AreDistinct, IsRising, Lists}
use Rattle.bip_defs.specs.Matching.{IsMaximum, cols_of, rows_of}
use Rattle.bip_defs.specs.Matrix.{Matrix, Place, cols, upto}
use Rattle.bip_defs.specs.Once.{ListsOnce}
use Rattle.bip_defs.specs.Parts.{IsHorizontalCol, IsHorizontalRow, IsVerticalRow}
use Rattle.bip_defs.proofs.Counts.{distinct_append, horizontal_count}
use Rattle.bip_defs.proofs.Paired.{block_square, maximum_pairs}
use Rattle.bip_defs.proofs.Queues.{distinct_at}
use Rattle.bip_defs.proofs.Sets.{among_at, among_either, among_last, among_left, among_right, beside, beside_length, beside_lists, col_among, col_pair, entry_col, lists_same, lists_unique, number_among, one_row, place_among, rising_distinct, rising_last, rising_order, row_among, row_pair, upto_more}
use Rattle.bip_defs.proofs.Slices.{read_at}
use Rattle.bip_defs.proofs.Triangular.{cols_once}
use Rattle.bip_graph.specs.Answers.{orders_of}
use Rattle.bip_graph.specs.Orders.{rows_before}
use Rattle.blocktri.specs.Answers.{Fills}
use Rattle.blocktri.specs.Compressed.{IsRoom}
use Rattle.blocktri.specs.Dmperm.{Grows, IsColumnOrder, IsRowOrderOf}
use Rattle.blocktri.specs.Written.{IsPut}
use Rattle.blocktri.proofs.DiagonalOrderLemmas.{all_same, column_in_block, mates_distinct}
use Rattle.blocktri.proofs.DmpermLemmas.{parts_long}
use Rattle.blocktri.proofs.WriteLemmas.{before_within, once_long}

-- Cuts.

-- one cut more
pub cut_more : (before : List ℕ) (f : ℕ → ℕ) (n at : ℕ) (old new : List ℕ) → at ≡ f n → old ≡ before ++ map f (upto n) → new ≡ old ++ at ∷ [] → new ≡ before ++ map f (upto (n + 1))
cut_more before f n at old new here had grown =
    grown ∙ ap (λ (ys : List ℕ). ys ++ at ∷ []) had ∙ append_assoc before (map f (upto n)) (at ∷ [])
    ∙ ap (λ (x : ℕ). before ++ (map f (upto n) ++ x ∷ [])) here ∙ ap (λ (ys : List ℕ). before ++ ys) (sym (map-append f (upto n) (n ∷ [])) ∙ ap (λ (ys : List ℕ). map f ys) (sym (upto_more n)))

-- a list that is written from its first place to its last
pub put_whole : (xs old new : List ℕ) → length old ≡ length xs → IsPut 0 xs old new → new ≡ xs
put_whole xs old new long put = let e = put.long in ext_get_or 0 new xs (e ∙ long) (λ i lt. let z : 0 + i ≡ i = omega arith in subst (λ (j : ℕ). get_or new j 0 ≡ get_or xs i 0) z (put.here i (omega (arith, e, long, lt))))

-- it is what a list that is wanted is filled with
pub put_filled : (xs ids old mid new : List ℕ) → IsRoom (length xs) old → length old ≢ 0 → ids ≡ xs → IsPut 0 (map (λ (n : ℕ). n) ids) old mid → new ≡ mid → Fills old new (new ≡ xs)
put_filled xs ids old mid new room wanted are put is = record {
  long = ap (λ (ys : List ℕ). length ys) is ∙ put.long;
  holds = λ _. is ∙ put_whole xs old mid (all room) (subst (λ (ys : List ℕ). IsPut 0 ys old mid) (map-id ids ∙ are) put);
}
  where
    all : IsRoom (length xs) old → length old ≡ length xs
    all (inl none) = absurd (wanted none)
    all (inr long) = long

pub not_filled : (P : Type 0) (old new : List ℕ) → length old ≡ 0 → new ≡ old → Fills old new P
not_filled P old new none same = record { long = ap (λ (ys : List ℕ). length ys) same; holds = λ wanted. absurd (wanted none) }

-- Numbers that are pushed.

-- what a read number adds to the numbers read so far
read_more : (xs : List ℕ) (k x : ℕ) → k < length xs → x ≡ get_or xs k x → take (k + 1) xs ≡ take k xs ++ x ∷ []
read_more xs k x lt is = take_more xs k x lt ∙ ap (λ (z : ℕ). take k xs ++ z ∷ []) (sym is)

-- it is above them, where the list rises
above_front : (xs : List ℕ) (k x y : ℕ) → IsRising xs → k < length xs → x ≡ get_or xs k x → Among y (take k xs) → y < x
above_front xs k x y rising lt is h =
    let (i, within, e) = place_among y 0 (take k xs) h in
    let few = length-take-le k xs (let le : k ≤ length xs = omega (arith, lt) in le) in
    let before : i < k = omega (arith, few, within) in
    let same = get_or-take k xs i 0 before in
    let le = rising_order xs rising i k (omega (arith, before)) lt in
    let ne = distinct_at xs i k (rising_distinct xs rising) before lt in
    let at = read_at x 0 xs k lt is in
    omega (arith, e, same, le, ne, at)

-- a number that has Q was read and pushed
pub pushed : (Q : ℕ → Type 0) (xs old new newer : List ℕ) (k x : ℕ) → IsRising xs → k < length xs → x ≡ get_or xs k x → Q x → newer ≡ new ++ x ∷ [] → Grows (λ y. Among y (take k xs) × Q y) old new → Grows (λ y. Among y (take (k + 1) xs) × Q y) old newer
pushed Q xs old new newer k x rising lt is has last grown = record {
  added = grown.added ++ x ∷ [];
  added_are = record {
    rising = rising_last grown.added x grown.added_are.rising (λ y h. above_front xs k x y rising lt is (grown.added_are.sound y h).0);
    sound = λ y h. sound y (among_last y x grown.added h);
    complete = λ y h. complete y h.1 (among_last y x (take k xs) (subst (λ (ys : List ℕ). Among y ys) more h.0));
  };
  joined = last ∙ ap (λ (ys : List ℕ). ys ++ x ∷ []) grown.joined ∙ append_assoc old grown.added (x ∷ []);
}
  where
    more : take (k + 1) xs ≡ take k xs ++ x ∷ []
    more = read_more xs k x lt is

    sound : (y : ℕ) → Among y grown.added ⊎ (y ≡ x) → Among y (take (k + 1) xs) × Q y
    sound y (inl h) = let told = grown.added_are.sound y h in (subst (λ (ys : List ℕ). Among y ys) (sym more) (among_left y (take k xs) (x ∷ []) told.0), told.1)
    sound y (inr e) = (subst (λ (ys : List ℕ). Among y ys) (sym more) (among_right y (take k xs) (x ∷ []) (inl e)), subst Q (sym e) has)

    complete : (y : ℕ) → Q y → Among y (take k xs) ⊎ (y ≡ x) → Among y (grown.added ++ x ∷ [])
    complete y q (inl h) = among_left y grown.added (x ∷ []) (grown.added_are.complete y (h, q))
    complete y q (inr e) = among_right y grown.added (x ∷ []) (inl e)

-- one that has not was read, and nothing was pushed
pub passed : (Q : ℕ → Type 0) (xs old new newer : List ℕ) (k x : ℕ) → k < length xs → x ≡ get_or xs k x → ¬ Q x → newer ≡ new → Grows (λ y. Among y (take k xs) × Q y) old new → Grows (λ y. Among y (take (k + 1) xs) × Q y) old newer
passed Q xs old new newer k x lt is out same grown = record {
  added = grown.added;
  added_are = lists_same (λ y. Among y (take k xs) × Q y) (λ y. Among y (take (k + 1) xs) × Q y) grown.added
      (λ y h. (subst (λ (ys : List ℕ). Among y ys) (sym more) (among_left y (take k xs) (x ∷ []) h.0), h.1))
      (λ y h. (before y h.1 (among_last y x (take k xs) (subst (λ (ys : List ℕ). Among y ys) more h.0)), h.1)) grown.added_are;
  joined = same ∙ grown.joined;
}
  where
    more : take (k + 1) xs ≡ take k xs ++ x ∷ []
    more = read_more xs k x lt is

    before : (y : ℕ) → Q y → Among y (take k xs) ⊎ (y ≡ x) → Among y (take k xs)
    before y q (inl h) = h
    before y q (inr e) = absurd (out (subst Q e q))

-- all were read
pub all_read : (Q : ℕ → Type 0) (xs old new : List ℕ) (k : ℕ) → length xs ≤ k → Grows (λ y. Among y (take k xs) × Q y) old new → Grows (λ y. Among y xs × Q y) old new
all_read Q xs old new k le grown = subst (λ (ys : List ℕ). Grows (λ y. Among y ys × Q y) old new) (take_all k xs le) grown

-- what the test whether a column has a row says
pub has_row : (m : List Place) (c : ℕ) (o : Option ℕ) (some : Bool) → some ≡ is_some o → IfSome o (λ r. Among (r, c) m) → IfNone o (¬ Among c (cols_of m)) → IsTrue some ↔ Among c (cols_of m)
has_row m c None some is on out = (λ t. absurd (true≢false (sym t ∙ is)), λ h. absurd (out h))
has_row m c (Some r) some is on out = (λ t. col_among r c m on, λ h. is)

pub is_wanted : (P : Type 0) (some wanted : Bool) → beq some wanted ≡ true → (IsTrue some ↔ P) → IsTrue wanted ↔ P
is_wanted P true true e told = told
is_wanted P false false e told = told
is_wanted P true false e told = absurd (true≢false (sym e))
is_wanted P false true e told = absurd (true≢false (sym e))

pub not_wanted : (P : Type 0) (some wanted : Bool) → beq some wanted ≡ false → (IsTrue some ↔ P) → ¬ (IsTrue wanted ↔ P)
not_wanted P true true e told q = true≢false e
not_wanted P false false e told q = true≢false e
not_wanted P true false e told q = true≢false (sym (q.1 (told.0 refl)))
not_wanted P false true e told q = true≢false (sym (told.1 (q.0 refl)))

-- what the test whether a row has no column says
pub has_no_col : (m : List Place) (r : ℕ) (o : Option ℕ) (none : Bool) → is_some o ≡ not none → IfSome o (λ c. Among (r, c) m) → IfNone o (¬ Among r (rows_of m)) → (none ≡ true → ¬ Among r (rows_of m)) × (none ≡ false → Among r (rows_of m))
has_no_col m r None none is on out = (λ t. out, λ f. absurd (true≢false (sym (is ∙ ap not f))))
has_no_col m r (Some c) none is on out = (λ t. absurd (true≢false (is ∙ ap not t)), λ f. row_among r c m on)

-- the same numbers under other names
pub grows_from : (Q : ℕ → Type 0) (xs ys old start new : List ℕ) → ys ≡ xs → old ≡ start → Grows (λ y. Among y ys × Q y) old new → Grows (λ y. Among y xs × Q y) start new
grows_from Q xs ys old start new same none grown = subst (λ (os : List ℕ). Grows (λ y. Among y xs × Q y) os new) none (subst (λ (zs : List ℕ). Grows (λ y. Among y zs × Q y) old new) same grown)

-- The order of the columns.

distinct_front : (xs ys : List ℕ) → AreDistinct (xs ++ ys) → AreDistinct xs
distinct_front [] ys d = tt
distinct_front (x ∷ xs) ys d = (λ h. d.0 (among_left x xs ys h), distinct_front xs ys d.1)

distinct_back : (xs ys : List ℕ) → AreDistinct (xs ++ ys) → AreDistinct ys
distinct_back [] ys d = d
distinct_back (x ∷ xs) ys d = distinct_back xs ys d.1

distinct_apart : (xs ys : List ℕ) → AreDistinct (xs ++ ys) → (z : ℕ) → Among z xs → ¬ Among z ys
distinct_apart [] ys d z h on = h
distinct_apart (x ∷ xs) ys d z (inl e) on = d.0 (among_right x xs ys (subst (λ y. Among y ys) e on))
distinct_apart (x ∷ xs) ys d z (inr h) on = distinct_apart xs ys d.1 z h on

-- other numbers that are the same first ones
other_front : (P : ℕ → Type 0) (xs zs ys : List ℕ) → AreDistinct zs → ((x : ℕ) → Among x zs ↔ Among x xs) → ListsOnce P (xs ++ ys) → ListsOnce P (zs ++ ys)
other_front P xs zs ys once same all = record {
  distinct = distinct_append zs ys once (distinct_back xs ys all.distinct) (λ x h. distinct_apart xs ys all.distinct x ((same x).0 h));
  sound = λ x h. all.sound x (over x (among_either x zs ys h));
  complete = λ x p. back x (among_either x xs ys (all.complete x p));
}
  where
    over : (x : ℕ) → Among x zs ⊎ Among x ys → Among x (xs ++ ys)
    over x (inl h) = among_left x xs ys ((same x).0 h)
    over x (inr h) = among_right x xs ys h

    back : (x : ℕ) → Among x xs ⊎ Among x ys → Among x (zs ++ ys)
    back x (inl h) = among_left x zs ys ((same x).1 h)
    back x (inr h) = among_right x zs ys h

pub column_order_told : (a : Matrix) (d : Decomposition) (m : List Place) (one two q : List ℕ) → IsDecompositionOf a d → ListsOnce (λ c. c < cols a) (orders_of d).1
    → Grows (λ c. Among c d.parts.horizontal_cols × (IsTrue false ↔ Among c (cols_of m))) [] one
    → Grows (λ c. Among c d.parts.horizontal_cols × (IsTrue true ↔ Among c (cols_of m))) one two
    → q ≡ two ++ all_cols d.blocks ++ d.parts.vertical_cols → IsColumnOrder a d m q
column_order_told a d m one two q is once first second grown = record {
  unmatched = first.added;
  matched = second.added;
  unmatched_are = lists_same (λ c. Among c d.parts.horizontal_cols × (IsTrue false ↔ Among c (cols_of m))) (λ c. IsHorizontalCol a c × (¬ Among c (cols_of m))) first.added
      (λ c h. (horizontal.sound c h.0, λ on. not_true (h.1.1 on)))
      (λ c h. (horizontal.complete c h.0, (λ t. absurd (not_true t), λ on. absurd (h.1 on)))) first.added_are;
  matched_are = lists_same (λ c. Among c d.parts.horizontal_cols × (IsTrue true ↔ Among c (cols_of m))) (λ c. IsHorizontalCol a c × Among c (cols_of m)) second.added
      (λ c h. (horizontal.sound c h.0, h.1.0 refl))
      (λ c h. (horizontal.complete c h.0, (λ t. h.1, λ on. refl))) second.added_are;
  q_is = q_is;
  once = subst (λ (ys : List ℕ). ListsOnce (λ c. c < cols a) ys) (sym regrouped) (other_front (λ c. c < cols a) d.parts.horizontal_cols (first.added ++ second.added) (all_cols d.blocks ++ d.parts.vertical_cols) distinct same
      (subst (λ (ys : List ℕ). ListsOnce (λ c. c < cols a) ys) (append_assoc d.parts.horizontal_cols (all_cols d.blocks) d.parts.vertical_cols) once));
}
  where
    horizontal : Lists (IsHorizontalCol a) d.parts.horizontal_cols
    horizontal = is.parts.horizontal_cols

    not_true : ¬ IsTrue false
    not_true t = true≢false (sym t)

    both : two ≡ first.added ++ second.added
    both = second.joined ∙ ap (λ (ys : List ℕ). ys ++ second.added) first.joined

    q_is : q ≡ first.added ++ second.added ++ all_cols d.blocks ++ d.parts.vertical_cols
    q_is = grown ∙ ap (λ (ys : List ℕ). ys ++ all_cols d.blocks ++ d.parts.vertical_cols) both

    regrouped : q ≡ first.added ++ second.added ++ (all_cols d.blocks ++ d.parts.vertical_cols)
    regrouped = q_is ∙ append_assoc (first.added ++ second.added) (all_cols d.blocks) d.parts.vertical_cols

    distinct : AreDistinct (first.added ++ second.added)
    distinct = distinct_append first.added second.added (rising_distinct first.added first.added_are.rising) (rising_distinct second.added second.added_are.rising)
        (λ x h on. not_true ((first.added_are.sound x h).1.1 ((second.added_are.sound x on).1.0 refl)))

    over : (x : ℕ) → Among x first.added ⊎ Among x second.added → Among x d.parts.horizontal_cols
    over x (inl h) = (first.added_are.sound x h).0
    over x (inr h) = (second.added_are.sound x h).0

    back : (x : ℕ) → Among x d.parts.horizontal_cols → Among x (cols_of m) ⊎ (¬ Among x (cols_of m)) → Among x (first.added ++ second.added)
    back x h (inl on) = among_right x first.added second.added (second.added_are.complete x (h, (λ t. on, λ e. refl)))
    back x h (inr out) = among_left x first.added second.added (first.added_are.complete x (h, (λ t. absurd (not_true t), λ on. absurd (out on))))

    same : (x : ℕ) → Among x (first.added ++ second.added) ↔ Among x d.parts.horizontal_cols
    same x = (λ h. over x (among_either x first.added second.added h), λ h. back x h (number_among x (cols_of m)))

-- The matched columns.

-- behind as many columns as have no row stand those that have one, part by part
pub record StandBehind (a : Matrix) (d : Decomposition) (m : List Place) (q : List ℕ) : Type 0 where
  pub free : List ℕ
  pub behind : List ℕ
  pub q_is : q ≡ free ++ behind
  pub wide : length q ≡ cols a
  pub few : length m ≤ cols a
  pub free_long : cols a - length m ≡ length free
  pub long : length behind ≡ length m
  pub distinct : AreDistinct behind
  pub matched : (c : ℕ) → Among c behind → Among c (cols_of m)
  pub complete : (c : ℕ) → Among c (cols_of m) → Among c behind
  pub horizontal : List ℕ
  pub horizontal_are : (c : ℕ) → Among c horizontal → IsHorizontalCol a c
  pub behind_is : behind ≡ horizontal ++ all_cols d.blocks ++ d.parts.vertical_cols

pub columns_behind : (a : Matrix) (d : Decomposition) (m : List Place) (q : List ℕ) → IsMaximum a m → IsRising (cols_of m) → IsColumnOrder a d m q → StandBehind a d m q
columns_behind a d m q max rising order = record {
  free = order.unmatched;
  behind = behind;
  q_is = q_is;
  wide = wide;
  few = omega (arith, counted);
  free_long = omega (arith, counted);
  long = let joined = ap (λ (ys : List ℕ). length ys) q_is in let sum = length-append order.unmatched behind in omega (arith, counted, joined, sum, wide);
  distinct = distinct_back order.unmatched behind split;
  matched = λ c h. matched c h (number_among c (cols_of m));
  complete = λ c on. complete c on (among_either c order.unmatched behind (subst (λ (ys : List ℕ). Among c ys) q_is (order.once.complete c (within c on))));
  horizontal = order.matched;
  horizontal_are = λ c h. (order.matched_are.sound c h).0;
  behind_is = refl;
}
  where
    behind : List ℕ
    behind = order.matched ++ all_cols d.blocks ++ d.parts.vertical_cols

    q_is : q ≡ order.unmatched ++ behind
    q_is = order.q_is ∙ ap (λ (ys : List ℕ). ys ++ d.parts.vertical_cols) (append_assoc order.unmatched order.matched (all_cols d.blocks)) ∙ append_assoc order.unmatched (order.matched ++ all_cols d.blocks) d.parts.vertical_cols

    wide : length q ≡ cols a
    wide = once_long (cols a) q order.once

    split : AreDistinct (order.unmatched ++ behind)
    split = subst (λ (ys : List ℕ). AreDistinct ys) q_is order.once.distinct

    within : (c : ℕ) → Among c (cols_of m) → c < cols a
    within c on = let (r, pair) = col_pair c m on in entry_col a r c (max.matching.entries r c pair)

    horizontal : (c : ℕ) → c < cols a → ¬ Among c (cols_of m) → IsHorizontalCol a c
    horizontal c lt out = (lt, m, max, out)

    counted : length m + length order.unmatched ≡ cols a
    counted =
        let beside_are = lists_same (λ c. IsHorizontalCol a c × (¬ Among c (cols_of m))) (λ c. (c < cols a) × (¬ Among c (cols_of m))) order.unmatched (λ c h. (h.0.0, h.1)) (λ c h. (horizontal c h.0 h.1, h.1)) order.unmatched_are in
        let same = ap (λ (ys : List ℕ). length ys) (lists_unique (λ c. (c < cols a) × (¬ Among c (cols_of m))) order.unmatched (beside (cols a) (cols_of m)) beside_are (beside_lists (cols a) (cols_of m))) in
        let all = beside_length (cols a) (cols_of m) rising within in
        let pairs = length-map m (λ (p : Place). p.1) in
        omega (arith, same, all, pairs)

    matched : (c : ℕ) → Among c behind → Among c (cols_of m) ⊎ (¬ Among c (cols_of m)) → Among c (cols_of m)
    matched c h (inl on) = on
    matched c h (inr out) =
        let lt : c < cols a = order.once.sound c (subst (λ (ys : List ℕ). Among c ys) (sym q_is) (among_right c order.unmatched behind h)) in
        absurd (distinct_apart order.unmatched behind split c (order.unmatched_are.complete c (horizontal c lt out, out)) h)

    complete : (c : ℕ) → Among c (cols_of m) → Among c order.unmatched ⊎ Among c behind → Among c behind
    complete c on (inl h) = absurd ((order.unmatched_are.sound c h).1 on)
    complete c on (inr h) = h

-- the matched column at a place
behind_at : (a : Matrix) (d : Decomposition) (m : List Place) (q : List ℕ) (x : ℕ) → (s : StandBehind a d m q) → get_or q (cols a - length m + x) 0 ≡ get_or s.behind x 0
behind_at a d m q x s = ap (λ (n : ℕ). get_or q (n + x) 0) s.free_long ∙ ap (λ (ys : List ℕ). get_or ys (length s.free + x) 0) s.q_is ∙ get_or-append-add s.free s.behind x 0

pub has_mate : (a : Matrix) (d : Decomposition) (m : List Place) (q : List ℕ) (k : ℕ) → StandBehind a d m q → length q - length m ≤ k → k < length q → Among (get_or q k 0) (cols_of m)
has_mate a d m q k s from to =
    let wide = s.wide in
    let few = s.few in
    let long = s.long in
    let at : cols a - length m + (k - (cols a - length m)) ≡ k = omega (arith, wide, from) in
    let inside : k - (cols a - length m) < length s.behind = omega (arith, wide, few, long, from, to) in
    subst (λ (n : ℕ). Among (get_or q n 0) (cols_of m)) at (subst (λ (c : ℕ). Among c (cols_of m)) (sym (behind_at a d m q (k - (cols a - length m)) s)) (s.matched (get_or s.behind (k - (cols a - length m)) 0) (among_at s.behind (k - (cols a - length m)) 0 inside)))

-- The order of the rows.

-- the rows that have been pushed are the mates of the first matched columns
pub record AreMatesBehind (m : List Place) (q rows : List ℕ) (k : ℕ) : Type 0 where
  pub long : length q - length m + length rows ≡ k
  pub mates : (x : ℕ) → x < length rows → Among (get_or rows x 0, get_or q (length q - length m + x) 0) m

pub mate_pushed : (m : List Place) (q rows newer : List ℕ) (k r c : ℕ) → k < length q → c ≡ get_or q k c → Among (r, c) m → newer ≡ rows ++ r ∷ [] → AreMatesBehind m q rows k → AreMatesBehind m q newer (k + 1)
mate_pushed m q rows newer k r c lt is on grown are = record {
  long = let had = are.long in omega (arith, had, more);
  mates = λ x within. subst (λ (ys : List ℕ). Among (get_or ys x 0, get_or q (length q - length m + x) 0) m) (sym grown) (by x within (dec_lt x (length rows)));
}
  where
    more : length newer ≡ length rows + 1
    more = let sum = length-append rows (r ∷ []) in ap (λ (ys : List ℕ). length ys) grown ∙ sum

    by : (x : ℕ) → x < length newer → Dec (x < length rows) → Among (get_or (rows ++ r ∷ []) x 0, get_or q (length q - length m + x) 0) m
    by x within (yes before) = subst (λ (s : ℕ). Among (s, get_or q (length q - length m + x) 0) m) (sym (get_or_append_left rows (r ∷ []) 0 x before)) (are.mates x before)
    by x within (no late) =
        let had = are.long in
        let last : x ≡ length rows + 0 = omega (arith, more, within, late) in
        let here : length q - length m + x ≡ k = omega (arith, had, last) in
        let row : get_or (rows ++ r ∷ []) x 0 ≡ r = ap (λ (n : ℕ). get_or (rows ++ r ∷ []) n 0) last ∙ get_or-append-add rows (r ∷ []) 0 0 in
        let column : get_or q (length q - length m + x) 0 ≡ c = ap (λ (n : ℕ). get_or q n 0) here ∙ sym (read_at c 0 q k lt is) in
        subst (λ (s : ℕ). Among (s, get_or q (length q - length m + x) 0) m) (sym row) (subst (λ (e : ℕ). Among (r, e) m) (sym column) on)

pub row_order_told : (a : Matrix) (d : Decomposition) (m : List Place) (q rows p : List ℕ) (k : ℕ) → IsDecompositionOf a d → IsMaximum a m → StandBehind a d m q → length q ≤ k → k ≤ length q → AreMatesBehind m q rows k
    → Grows (λ r. Among r d.parts.vertical_rows × (¬ Among r (rows_of m))) rows p → IsRowOrderOf a d m q p
row_order_told a d m q rows p k is max s end top are grown = record {
  once = subst (λ (ys : List ℕ). ListsOnce (λ r. r < a.rows) ys) (sym grown.joined) once;
  diagonal = diagonal;
  left_out = subst (λ (ys : List ℕ). Lists (λ r. IsVerticalRow a r × (¬ Among r (rows_of m))) ys) (sym dropped) left;
  horizontal = horizontal;
  of_blocks = in_blocks;
}
  where
    long : length rows ≡ length m
    long =
        let had = are.long in
        let wide = s.wide in
        let few = s.few in
        omega (arith, had, wide, few, end, top)

    mates : (x : ℕ) → x < length m → Among (get_or rows x 0, get_or q (cols a - length m + x) 0) m
    mates x lt = subst (λ (n : ℕ). Among (get_or rows x 0, get_or q (n - length m + x) 0) m) s.wide (are.mates x (omega (arith, long, lt)))

    diagonal : (x : ℕ) → x < length m → Among (get_or p x 0, get_or q (cols a - length m + x) 0) m
    diagonal x lt = subst (λ (ys : List ℕ). Among (get_or ys x 0, get_or q (cols a - length m + x) 0) m) (sym grown.joined)
        (subst (λ (r : ℕ). Among (r, get_or q (cols a - length m + x) 0) m) (sym (get_or_append_left rows grown.added 0 x (omega (arith, long, lt)))) (mates x lt))

    dropped : drop (length m) p ≡ grown.added
    dropped = ap (λ (ys : List ℕ). drop (length m) ys) grown.joined ∙ ap (λ (n : ℕ). drop n (rows ++ grown.added)) (sym long) ∙ drop-append_seam rows grown.added

    left : Lists (λ r. IsVerticalRow a r × (¬ Among r (rows_of m))) grown.added
    left = lists_same (λ r. Among r d.parts.vertical_rows × (¬ Among r (rows_of m))) (λ r. IsVerticalRow a r × (¬ Among r (rows_of m))) grown.added
        (λ r h. (is.parts.vertical_rows.sound r h.0, h.1)) (λ r h. (is.parts.vertical_rows.complete r h.0, h.1)) grown.added_are

    -- the mates of the columns that stand behind
    paired : (x : ℕ) → x < length s.behind → Among (get_or rows x 0, get_or s.behind x 0) m
    paired x lt = let equal = s.long in subst (λ (c : ℕ). Among (get_or rows x 0, c) m) (behind_at a d m q x s) (mates x (omega (arith, equal, lt)))

    has_column : (r : ℕ) → Among r rows → Among r (rows_of m)
    has_column r h =
        let (x, lt, e) = place_among r 0 rows h in
        subst (λ (t : ℕ). Among t (rows_of m)) e (row_among (get_or rows x 0) (get_or q (cols a - length m + x) 0) m (mates x (omega (arith, long, lt))))

    in_range : (r : ℕ) → Among r (rows_of m) → r < a.rows
    in_range r on = let (c, pair) = row_pair r m on in (max.matching.entries r c pair).0

    is_mate : (r : ℕ) → Among r (rows_of m) → Among r rows
    is_mate r on =
        let (c, pair) = row_pair r m on in
        let (x, lt, e) = place_among c 0 s.behind (s.complete c (col_among r c m pair)) in
        let equal = s.long in
        let same = one_row m max.matching.cols_differ (get_or rows x 0) r c (subst (λ (b : ℕ). Among (get_or rows x 0, b) m) e (paired x lt)) pair in
        subst (λ (t : ℕ). Among t rows) same (among_at rows x 0 (omega (arith, long, equal, lt)))

    sound : (r : ℕ) → Among r rows ⊎ Among r grown.added → r < a.rows
    sound r (inl h) = in_range r (has_column r h)
    sound r (inr h) = (left.sound r h).0.0

    complete : (r : ℕ) → r < a.rows → Among r (rows_of m) ⊎ (¬ Among r (rows_of m)) → Among r (rows ++ grown.added)
    complete r lt (inl on) = among_left r rows grown.added (is_mate r on)
    complete r lt (inr out) = among_right r rows grown.added (left.complete r ((lt, m, max, out), out))

    once : ListsOnce (λ r. r < a.rows) (rows ++ grown.added)
    once = record {
      distinct = distinct_append rows grown.added (mates_distinct a m s.behind rows max.matching s.distinct (long ∙ sym s.long) paired) (rising_distinct grown.added left.rising) (λ r h on. (left.sound r on).1 (has_column r h));
      sound = λ r h. sound r (among_either r rows grown.added h);
      complete = λ r lt. complete r lt (number_among r (rows_of m));
    }

    -- the parts of the columns that stand behind
    blocks_front : length (s.horizontal ++ all_cols d.blocks) ≡ length s.horizontal + length (all_cols d.blocks)
    blocks_front = length-append s.horizontal (all_cols d.blocks)

    behind_long : length s.horizontal + length (all_cols d.blocks) + length d.parts.vertical_cols ≡ length m
    behind_long =
        let parts = ap (λ (ys : List ℕ). length ys) s.behind_is in
        let sum = length-append (s.horizontal ++ all_cols d.blocks) d.parts.vertical_cols in
        let equal = s.long in
        omega (arith, parts, sum, blocks_front, equal)

    horizontal_long : length s.horizontal ≡ length d.parts.horizontal_rows
    horizontal_long =
        let all = parts_long (cols a) d.parts.horizontal_cols (all_cols d.blocks) d.parts.vertical_cols (cols_once a d is) in
        let count = horizontal_count a m d.parts.horizontal_cols d.parts.horizontal_rows max is.parts.horizontal_cols is.parts.horizontal_rows in
        omega (arith, all, count, behind_long)

    -- the mate of a column of the horizontal part or of the blocks
    front_mate : (x c : ℕ) → x < length s.horizontal + length (all_cols d.blocks) → get_or (s.horizontal ++ all_cols d.blocks) x 0 ≡ c → Among (get_or p x 0, c) m
    front_mate x c lt here =
        let front = get_or_append_left (s.horizontal ++ all_cols d.blocks) d.parts.vertical_cols 0 x (omega (arith, blocks_front, lt)) in
        let column = behind_at a d m q x s ∙ ap (λ (ys : List ℕ). get_or ys x 0) s.behind_is ∙ front ∙ here in
        subst (λ (e : ℕ). Among (get_or p x 0, e) m) column (diagonal x (omega (arith, behind_long, lt)))

    horizontal : (x : ℕ) → x < length d.parts.horizontal_rows → IsHorizontalRow a (get_or p x 0)
    horizontal x lt =
        let within : x < length s.horizontal = omega (arith, horizontal_long, lt) in
        let c : ℕ = get_or s.horizontal x 0 in
        let pair = front_mate x c (omega (arith, within)) (get_or_append_left s.horizontal (all_cols d.blocks) 0 x within) in
        (c, s.horizontal_are c (among_at s.horizontal x 0 within), max.matching.entries (get_or p x 0) c pair)

    same : (b : Block) → Among b d.blocks → length b.rows ≡ length b.cols
    same b h = block_square a d b is h

    in_blocks : (b k : ℕ) → b < length d.blocks → rows_before d.blocks b ≤ k → k < rows_before d.blocks (b + 1) → Among (get_or p (length d.parts.horizontal_rows + k) 0) (block_at d.blocks b).rows
    in_blocks b k lt from to =
        let most = before_within d.blocks (b + 1) in
        let equal = all_same d.blocks same in
        let c : ℕ = get_or (all_cols d.blocks) k 0 in
        let mate = front_mate (length s.horizontal + k) c (omega (arith, to, most, equal)) (get_or-append-add s.horizontal (all_cols d.blocks) k 0) in
        let (r, pair, row) = (maximum_pairs a d m (block_at d.blocks b) is max (among_at d.blocks b no_block lt)).cols c (column_in_block d.blocks b k same lt from to) in
        subst (λ (n : ℕ). Among (get_or p (n + k) 0) (block_at d.blocks b).rows) horizontal_long
        (subst (λ (t : ℕ). Among t (block_at d.blocks b).rows) (one_row m max.matching.cols_differ r (get_or p (length s.horizontal + k) 0) c pair mate) row)
