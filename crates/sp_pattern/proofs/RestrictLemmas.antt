-- Some entries of a matrix, column by column.
use Rattle.std.proofs.Common.{◌≡◌, ◌≢◌, ◌⊎◌, ◌↔◌, ◌∙◌, ℕ, ℤ, pos, ◌+◌, ◌<◌, ◌≤◌, Bool, not, true, false, List, [], ◌∷◌, ◌++◌, filter, length, get_or, take, if◌then◌else◌, nat_lt, refl, sym, ap, arith, subst, inl, inr, ⊎_elim, length-append, append-nil, append_assoc, true≢false}
use Rattle.std.proofs.lemmas.List.{get_or_default, take_more, length-take-le}
use Rattle.std.proofs.lemmas.List.Filters.{length-filter_both}
use Rattle.std.specs.Int.RustNames.{unsigned_abs}
use Rattle.bip_defs.specs.Bottleneck.{restricted}
use Rattle.bip_defs.specs.Lists.{Among, IsRising, Lists}
use Rattle.bip_defs.specs.Matching.{transposed_places}
use Rattle.bip_defs.specs.Matrix.{HasPlaces, IsEntry, Matrix, Place, cols, column}
use Rattle.bip_defs.proofs.BottleneckLemmas.{passing, restricted_back, restricted_cols, restricted_lists, restricted_over}
use Rattle.bip_defs.proofs.Sets.{among_either, among_left, among_right, below_each_from, below_each_sound, entry_col, filter_complete, filter_sound, number_same, rising_filter}
use Rattle.bip_defs.proofs.Transposed.{turned_among, turned_back}
use Rattle.bip_defs.proofs.Uniqueness.{same_matrix}
use Rattle.sp_ids.specs.Entries.{Entries, places}
use Rattle.sp_pattern.specs.Pairs.{IsCompressed, IsOrderOf, Pair}
use Rattle.sp_pattern.specs.Restricted.{AreKept, Decides, taken, taken_rows}
use Rattle.sp_pattern.specs.Weights.{AreSums, Weighing, nonzero_places, place_in, position, start_of, weight_at, weight_of}
use Rattle.sp_pattern.proofs.Both.{order_itself}
use Rattle.sp_pattern.proofs.LoadLemmas.{compressed_extend, with_outer, with_outer_back, with_outer_over}
use Rattle.sp_pattern.proofs.Weighed.{place_later, place_same_here, start_le, start_more, weight_read}

-- The numbers that are taken.

taken_yes : (takes : ℕ → Bool) (at x : ℕ) (xs : List ℕ) → takes at ≡ true → taken takes at (x ∷ xs) ≡ x ∷ taken takes (at + 1) xs
taken_yes takes at x xs e = ap (λ b. if b then x ∷ taken takes (at + 1) xs else taken takes (at + 1) xs) e

taken_no : (takes : ℕ → Bool) (at x : ℕ) (xs : List ℕ) → takes at ≡ false → taken takes at (x ∷ xs) ≡ taken takes (at + 1) xs
taken_no takes at x xs e = ap (λ b. if b then x ∷ taken takes (at + 1) xs else taken takes (at + 1) xs) e

-- one number more
taken_snoc : (takes : ℕ → Bool) (at : ℕ) (xs : List ℕ) (x : ℕ) → taken takes at (xs ++ x ∷ []) ≡ taken takes at xs ++ (if takes (at + length xs) then x ∷ [] else [])
taken_snoc takes at [] x = ap (λ i. if takes i then x ∷ [] else []) (let e : at ≡ at + 0 = omega arith in e)
taken_snoc takes at (y ∷ ys) x = by (takes at) refl (taken_snoc takes (at + 1) ys x ∙ ap (λ i. taken takes (at + 1) ys ++ (if takes i then x ∷ [] else [])) (let e : at + 1 + length ys ≡ at + length (y ∷ ys) = omega arith in e))
  where
    by : (b : Bool) → takes at ≡ b → taken takes (at + 1) (ys ++ x ∷ []) ≡ taken takes (at + 1) ys ++ (if takes (at + length (y ∷ ys)) then x ∷ [] else []) → taken takes at (y ∷ ys ++ x ∷ []) ≡ taken takes at (y ∷ ys) ++ (if takes (at + length (y ∷ ys)) then x ∷ [] else [])
    by true e rest = rw (taken_yes takes at y (ys ++ x ∷ []) e, taken_yes takes at y ys e) (ap (λ zs. y ∷ zs) rest)
    by false e rest = rw (taken_no takes at y (ys ++ x ∷ []) e, taken_no takes at y ys e) rest

length_taken : (takes : ℕ → Bool) (at : ℕ) (xs : List ℕ) → length (taken takes at xs) ≤ length xs
length_taken takes at [] = omega arith
length_taken takes at (x ∷ xs) = by (takes at) refl (length_taken takes (at + 1) xs)
  where
    by : (b : Bool) → takes at ≡ b → length (taken takes (at + 1) xs) ≤ length xs → length (taken takes at (x ∷ xs)) ≤ length (x ∷ xs)
    by true e rest = rw (taken_yes takes at x xs e) (omega (arith, rest))
    by false e rest = rw (taken_no takes at x xs e) (omega (arith, rest))

-- those of a rising list are some of it, at places that are taken
taken_over : (takes : ℕ → Bool) (at : ℕ) (xs : List ℕ) (y : ℕ) → IsRising xs → Among y (taken takes at xs) → Among y xs × (takes (at + place_in y xs) ≡ true)
taken_over takes at [] y up h = elim h [ ]
taken_over takes at (x ∷ xs) y up h = by (takes at) refl (λ (k : Among y (taken takes (at + 1) xs)). taken_over takes (at + 1) xs y up.1 k)
  where
    later : Among y xs × (takes (at + 1 + place_in y xs) ≡ true) → Among y (x ∷ xs) × (takes (at + place_in y (x ∷ xs)) ≡ true)
    later rest =
        let above = below_each_sound x y xs up.0 rest.0 in
        let where_is = place_later y x xs (omega (arith, above)) in
        (inr rest.0, ap takes (let e : at + place_in y (x ∷ xs) ≡ at + 1 + place_in y xs = omega (arith, where_is) in e) ∙ rest.1)

    by : (b : Bool) → takes at ≡ b → (Among y (taken takes (at + 1) xs) → Among y xs × (takes (at + 1 + place_in y xs) ≡ true)) → Among y (x ∷ xs) × (takes (at + place_in y (x ∷ xs)) ≡ true)
    by false e rest = later (rest (subst (Among y) (taken_no takes at x xs e) h))
    by true e rest = ⊎_elim (λ (k : y ≡ x). (inl k, ap takes (let first = place_same_here y x xs k in let z : at + place_in y (x ∷ xs) ≡ at = omega (arith, first) in z) ∙ e)) (λ (k : Among y (taken takes (at + 1) xs)). later (rest k)) (subst (Among y) (taken_yes takes at x xs e) h)

taken_back : (takes : ℕ → Bool) (at : ℕ) (xs : List ℕ) (y : ℕ) → IsRising xs → Among y xs → takes (at + place_in y xs) ≡ true → Among y (taken takes at xs)
taken_back takes at [] y up h t = elim h [ ]
taken_back takes at (x ∷ xs) y up h t = by (takes at) refl (number_same y x) (λ (k : Among y xs) (u : takes (at + 1 + place_in y xs) ≡ true). taken_back takes (at + 1) xs y up.1 k u)
  where
    later : y ≢ x → (Among y xs → takes (at + 1 + place_in y xs) ≡ true → Among y (taken takes (at + 1) xs)) → Among y (taken takes (at + 1) xs)
    later ne rest =
        let where_is = place_later y x xs ne in
        rest (⊎_elim (λ (k : y ≡ x). absurd (ne k)) (λ (k : Among y xs). k) h) (ap takes (let e : at + 1 + place_in y xs ≡ at + place_in y (x ∷ xs) = omega (arith, where_is) in e) ∙ t)

    here : y ≡ x → takes at ≡ true
    here k = ap takes (let first = place_same_here y x xs k in let z : at ≡ at + place_in y (x ∷ xs) = omega (arith, first) in z) ∙ t

    by : (b : Bool) → takes at ≡ b → (y ≡ x) ⊎ (y ≢ x) → (Among y xs → takes (at + 1 + place_in y xs) ≡ true → Among y (taken takes (at + 1) xs)) → Among y (taken takes at (x ∷ xs))
    by true e (inl k) rest = subst (Among y) (sym (taken_yes takes at x xs e)) (inl k)
    by true e (inr ne) rest = subst (Among y) (sym (taken_yes takes at x xs e)) (inr (later ne rest))
    by false e (inl k) rest = absurd (true≢false (sym (here k) ∙ e))
    by false e (inr ne) rest = subst (Among y) (sym (taken_no takes at x xs e)) (later ne rest)

taken_rising : (takes : ℕ → Bool) (at : ℕ) (xs : List ℕ) → IsRising xs → IsRising (taken takes at xs)
taken_rising takes at [] up = tt
taken_rising takes at (x ∷ xs) up = by (takes at) refl (taken_rising takes (at + 1) xs up.1)
  where
    by : (b : Bool) → takes at ≡ b → IsRising (taken takes (at + 1) xs) → IsRising (taken takes at (x ∷ xs))
    by true e rest = subst IsRising (sym (taken_yes takes at x xs e)) (below_each_from x (taken takes (at + 1) xs) (λ y h. below_each_sound x y xs up.0 (taken_over takes (at + 1) xs y up.1 h).0), rest)
    by false e rest = subst IsRising (sym (taken_no takes at x xs e)) rest

-- The loop over a column.

taken_one : (takes : ℕ → Bool) (from k : ℕ) (xs : List ℕ) → k < length xs → taken takes from (take (k + 1) xs) ≡ taken takes from (take k xs) ++ (if takes (from + k) then get_or xs k 0 ∷ [] else [])
taken_one takes from k xs lt =
    let short : length (take k xs) ≡ k = length-take-le k xs (omega (arith, lt)) in
    ap (taken takes from) (take_more xs k 0 lt) ∙ taken_snoc takes from (take k xs) (get_or xs k 0)
    ∙ ap (λ i. taken takes from (take k xs) ++ (if takes (from + i) then get_or xs k 0 ∷ [] else [])) short

-- the number at k is taken
pub taking_yes : (takes : ℕ → Bool) (from k x : ℕ) (xs old items longer : List ℕ) → k < length xs → x ≡ get_or xs k x → takes (from + k) ≡ true → items ≡ old ++ taken takes from (take k xs) → longer ≡ items ++ x ∷ [] → longer ≡ old ++ taken takes from (take (k + 1) xs)
taking_yes takes from k x xs old items longer lt is test was more =
    let read : x ≡ get_or xs k 0 = is ∙ get_or_default xs k x 0 lt in
    more ∙ ap (λ zs. zs ++ x ∷ []) was ∙ append_assoc old (taken takes from (take k xs)) (x ∷ [])
    ∙ ap (λ z. old ++ (taken takes from (take k xs) ++ z ∷ [])) read
    ∙ ap (λ b. old ++ (taken takes from (take k xs) ++ (if b then get_or xs k 0 ∷ [] else []))) (sym test)
    ∙ ap (λ zs. old ++ zs) (sym (taken_one takes from k xs lt))

-- it is not
pub taking_no : (takes : ℕ → Bool) (from k : ℕ) (xs old items longer : List ℕ) → k < length xs → takes (from + k) ≡ false → items ≡ old ++ taken takes from (take k xs) → longer ≡ items → longer ≡ old ++ taken takes from (take (k + 1) xs)
taking_no takes from k xs old items longer lt test was same =
    same ∙ was ∙ ap (λ zs. old ++ zs) (sym (append-nil (taken takes from (take k xs))))
    ∙ ap (λ b. old ++ (taken takes from (take k xs) ++ (if b then get_or xs k 0 ∷ [] else []))) (sym test)
    ∙ ap (λ zs. old ++ zs) (sym (taken_one takes from k xs lt))

-- The loop over the columns.

-- the rows that are kept of the first k columns stand in the flat list
pub record IsKeeping (a : Matrix) (kept : ℕ → List ℕ) (k : ℕ) (starts flat : List ℕ) : Type 0 where
  pub pairs : List Pair
  pub compressed : IsCompressed pairs starts flat
  pub long : length starts ≡ k
  pub members : (p : Pair) → Among p pairs ↔ ((p.0 < k) × Among p.1 (kept p.0))
  pub few : length flat ≤ start_of a k

pub keeping_step : (a : Matrix) (kept : ℕ → List ℕ) (k : ℕ) (starts opened flat longer : List ℕ) → IsRising (kept k) → length (kept k) ≤ length (column a k) → IsKeeping a kept k starts flat → k < cols a → length opened ≡ k + 1
    → ((ds : List Pair) → IsCompressed ds starts flat → IsCompressed ds opened flat) → longer ≡ flat ++ kept k → IsKeeping a kept (k + 1) opened longer
keeping_step a kept k starts opened flat longer up some t lt long stays more = record {
  pairs = t.pairs ++ with_outer k (kept k);
  compressed = rw more (compressed_extend t.pairs opened flat k (kept k) long up (λ q x h g. inl ((t.members q).0 h).0) (stays t.pairs t.compressed));
  long = long;
  members = λ p. (over p, back p);
  few =
      let f = t.few in
      let next = start_more a k lt in
      rw (more, length-append) (omega (arith, f, some, next));
}
  where
    over : (p : Pair) → Among p (t.pairs ++ with_outer k (kept k)) → (p.0 < k + 1) × Among p.1 (kept p.0)
    over p h = ⊎_elim (λ (g : Among p t.pairs). let both = (t.members p).0 g in (let l = both.0 in omega (arith, l), both.1))
        (λ (g : Among p (with_outer k (kept k))). let both = with_outer_over k (kept k) p g in (let e = both.0 in omega (arith, e), subst (λ c. Among p.1 (kept c)) (sym both.0) both.1))
        (among_either p t.pairs (with_outer k (kept k)) h)

    back : (p : Pair) → (p.0 < k + 1) × Among p.1 (kept p.0) → Among p (t.pairs ++ with_outer k (kept k))
    back p h = by (number_same p.0 k)
      where
        by : (p.0 ≡ k) ⊎ (p.0 ≢ k) → Among p (t.pairs ++ with_outer k (kept k))
        by (inl e) =
            let row : Among p.1 (kept k) = subst (λ c. Among p.1 (kept c)) e h.1 in
            among_right p t.pairs (with_outer k (kept k)) (subst (λ i. Among (i, p.1) (with_outer k (kept k))) (sym e) (with_outer_back k (kept k) p.1 row))
        by (inr ne) = among_left p t.pairs (with_outer k (kept k)) ((t.members p).1 (let l = h.0 in omega (arith, l, ne), h.1))

pub keeping_end : (a : Matrix) (kept : ℕ → List ℕ) (k : ℕ) (starts opened flat : List ℕ) → ((r c : ℕ) → Among r (kept c) → IsEntry a r c) → IsKeeping a kept k starts flat → k ≡ cols a → length opened ≡ cols a + 1
    → ((ds : List Pair) → IsCompressed ds starts flat → IsCompressed ds opened flat) → AreKept a kept opened flat
keeping_end a kept k starts opened flat entries t done long stays = record {
  order = record {
    pairs = t.pairs;
    long = long;
    compressed = stays t.pairs t.compressed;
    inside = λ p h. let both = (t.members p).0 h in (let l = both.0 in omega (arith, l, done), (entries p.1 p.0 both.1).0);
  };
  same = λ p. ((λ h. let both = (t.members p).0 h in (let l = both.0 in omega (arith, l, done), both.1)), λ h. (t.members p).1 (let l = h.0 in omega (arith, l, done), h.1));
  few = let f = t.few in let all = start_le a k in omega (arith, f, all);
}

-- The entries that are taken.

-- they are entries
taken_entries : (a : Matrix) (takes : ℕ → Bool) → ((c : ℕ) → Lists (λ r. IsEntry a r c) (column a c)) → (r c : ℕ) → Among r (taken_rows a takes c) → IsEntry a r c
taken_entries a takes listed r c h = (listed c).sound r (taken_over takes (start_of a c) (column a c) r (listed c).rising h).0

pub taking_step : (a : Matrix) (takes : ℕ → Bool) (k from : ℕ) (starts opened flat longer col : List ℕ) → IsRising (column a k) → IsKeeping a (taken_rows a takes) k starts flat → k < cols a → length opened ≡ k + 1
    → ((ds : List Pair) → IsCompressed ds starts flat → IsCompressed ds opened flat) → from ≡ start_of a k → col ≡ column a k → longer ≡ flat ++ taken takes from col → IsKeeping a (taken_rows a takes) (k + 1) opened longer
taking_step a takes k from starts opened flat longer col up t lt long stays begin is more =
    keeping_step a (taken_rows a takes) k starts opened flat longer (taken_rising takes (start_of a k) (column a k) up) (length_taken takes (start_of a k) (column a k)) t lt long stays
    (more ∙ ap (λ i. flat ++ taken takes i col) begin ∙ ap (λ xs. flat ++ taken takes (start_of a k) xs) is)

pub taking_end : (a : Matrix) (takes : ℕ → Bool) (k : ℕ) (starts opened flat : List ℕ) → ((c : ℕ) → Lists (λ r. IsEntry a r c) (column a c)) → IsKeeping a (taken_rows a takes) k starts flat → k ≡ cols a → length opened ≡ cols a + 1
    → ((ds : List Pair) → IsCompressed ds starts flat → IsCompressed ds opened flat) → AreKept a (taken_rows a takes) opened flat
taking_end a takes k starts opened flat listed t done long stays = keeping_end a (taken_rows a takes) k starts opened flat (taken_entries a takes listed) t done long stays

-- The entries that pass a test.

-- they are entries
passing_entries : (a : Matrix) (passes : ℕ → ℕ → Bool) → ((c : ℕ) → Lists (λ r. IsEntry a r c) (column a c)) → (r c : ℕ) → Among r (passing a passes c) → IsEntry a r c
passing_entries a passes listed r c h = (listed c).sound r (filter_sound (λ s. passes s c) r (column a c) h).0

pub passing_step : (a : Matrix) (passes : ℕ → ℕ → Bool) (k : ℕ) (starts opened flat longer col : List ℕ) → IsRising (column a k) → IsKeeping a (passing a passes) k starts flat → k < cols a → length opened ≡ k + 1
    → ((ds : List Pair) → IsCompressed ds starts flat → IsCompressed ds opened flat) → col ≡ column a k → longer ≡ flat ++ filter (λ r. passes r k) col → IsKeeping a (passing a passes) (k + 1) opened longer
passing_step a passes k starts opened flat longer col up t lt long stays is more =
    keeping_step a (passing a passes) k starts opened flat longer (rising_filter (λ r. passes r k) (column a k) up) (let both = length-filter_both (λ r. passes r k) (λ r. not (passes r k)) (λ r. refl) (column a k) in omega (arith, both)) t lt long stays
    (more ∙ ap (λ xs. flat ++ filter (λ r. passes r k) xs) is)

pub passing_end : (a : Matrix) (passes : ℕ → ℕ → Bool) (k : ℕ) (starts opened flat : List ℕ) → ((c : ℕ) → Lists (λ r. IsEntry a r c) (column a c)) → IsKeeping a (passing a passes) k starts flat → k ≡ cols a → length opened ≡ cols a + 1
    → ((ds : List Pair) → IsCompressed ds starts flat → IsCompressed ds opened flat) → AreKept a (passing a passes) opened flat
passing_end a passes k starts opened flat listed t done long stays = keeping_end a (passing a passes) k starts opened flat (passing_entries a passes listed) t done long stays

-- What has the places that are kept is the restricted matrix, where they are those that pass.

-- each column's rows that are kept are those whose entries pass
abbrev pub ArePassing : Matrix → (ℕ → List ℕ) → (ℕ → ℕ → Bool) → Type 0
ArePassing a kept passes = (r c : ℕ) → Among r (kept c) ↔ (IsEntry a r c × (passes r c ≡ true))

pub restricted_made : (a b : Matrix) (kept : ℕ → List ℕ) (passes : ℕ → ℕ → Bool) (starts flat : List ℕ) → ((c : ℕ) → Lists (λ r. IsEntry a r c) (column a c)) → (t : AreKept a kept starts flat) → HasPlaces a.rows (cols a) (transposed_places t.order.pairs) b → ArePassing a kept passes → b ≡ restricted a passes
restricted_made a b kept passes starts flat listed t h passing = same_matrix a.rows (cols a) (transposed_places t.order.pairs) b (restricted a passes) h record {
  rows_are = refl;
  cols_are = restricted_cols a passes;
  entries = λ r c. (over r c, back r c);
  columns = λ c. restricted_lists a passes c (listed c);
}
  where
    over : (r c : ℕ) → IsEntry (restricted a passes) r c → Among (r, c) (transposed_places t.order.pairs)
    over r c e =
        let both = restricted_over a passes r c e in
        turned_among c r t.order.pairs ((t.same (c, r)).1 (entry_col a r c both.0, (passing r c).1 both))

    back : (r c : ℕ) → Among (r, c) (transposed_places t.order.pairs) → IsEntry (restricted a passes) r c
    back r c k =
        let there = (t.same (c, r)).0 (turned_back c r t.order.pairs k) in
        let both = (passing r c).0 there.1 in
        restricted_back a passes r c both.0 both.1

taken_passing : (a : Matrix) (takes : ℕ → Bool) (passes : ℕ → ℕ → Bool) → ((c : ℕ) → Lists (λ r. IsEntry a r c) (column a c)) → Decides a takes passes → ArePassing a (taken_rows a takes) passes
taken_passing a takes passes listed decides r c = (over, back)
  where
    over : Among r (taken_rows a takes c) → IsEntry a r c × (passes r c ≡ true)
    over h =
        let both = taken_over takes (start_of a c) (column a c) r (listed c).rising h in
        let entry = (listed c).sound r both.0 in
        (entry, sym (decides r c entry) ∙ both.1)

    back : IsEntry a r c × (passes r c ≡ true) → Among r (taken_rows a takes c)
    back both = taken_back takes (start_of a c) (column a c) r (listed c).rising both.0.1 (decides r c both.0 ∙ both.1)

tested_passing : (a : Matrix) (passes : ℕ → ℕ → Bool) → ((c : ℕ) → Lists (λ r. IsEntry a r c) (column a c)) → ArePassing a (passing a passes) passes
tested_passing a passes listed r c = (
  (λ h. let both = filter_sound (λ s. passes s c) r (column a c) h in ((listed c).sound r both.0, both.1)),
  λ both. filter_complete (λ s. passes s c) r (column a c) both.0.1 both.1,
)

-- as the calls say it
made_from : (a b : Matrix) (kept : ℕ → List ℕ) (passes : ℕ → ℕ → Bool) (rows columns : ℕ) (starts flat : List ℕ) → ((c : ℕ) → Lists (λ r. IsEntry a r c) (column a c)) → AreKept a kept starts flat → rows ≡ a.rows → columns ≡ cols a
    → ((ps : List Pair) → IsOrderOf columns rows ps starts flat → HasPlaces rows columns (transposed_places ps) b) → ArePassing a kept passes → b ≡ restricted a passes
made_from a b kept passes rows columns starts flat listed t er ec h passing =
    let order : IsOrderOf columns rows t.order.pairs starts flat = rw (er, ec) (order_itself (cols a) a.rows starts flat t.order) in
    let places : HasPlaces a.rows (cols a) (transposed_places t.order.pairs) b = rw (er, ec) at (h t.order.pairs order) in
    restricted_made a b kept passes starts flat listed t places passing

pub restricted_from : (a b : Matrix) (takes : ℕ → Bool) (passes : ℕ → ℕ → Bool) (rows columns : ℕ) (starts flat : List ℕ) → ((c : ℕ) → Lists (λ r. IsEntry a r c) (column a c)) → AreKept a (taken_rows a takes) starts flat → rows ≡ a.rows → columns ≡ cols a
    → ((ps : List Pair) → IsOrderOf columns rows ps starts flat → HasPlaces rows columns (transposed_places ps) b) → Decides a takes passes → b ≡ restricted a passes
restricted_from a b takes passes rows columns starts flat listed t er ec h decides = made_from a b (taken_rows a takes) passes rows columns starts flat listed t er ec h (taken_passing a takes passes listed decides)

pub filtered_from : (a b : Matrix) (passes : ℕ → ℕ → Bool) (rows columns : ℕ) (starts flat : List ℕ) → ((c : ℕ) → Lists (λ r. IsEntry a r c) (column a c)) → AreKept a (passing a passes) starts flat → rows ≡ a.rows → columns ≡ cols a
    → ((ps : List Pair) → IsOrderOf columns rows ps starts flat → HasPlaces rows columns (transposed_places ps) b) → b ≡ restricted a passes
filtered_from a b passes rows columns starts flat listed t er ec h = made_from a b (passing a passes) passes rows columns starts flat listed t er ec h (tested_passing a passes listed)

-- the weight of an entry is the one that is read where it stands
pub weights_decide : (w : Weighing) (a : Matrix) (least : ℕ) (ws : List ℕ) → w.matrix ≡ a → ws ≡ w.weights → Decides a (λ at. nat_lt least (get_or ws at 0)) (λ r c. nat_lt least (weight_at w r c))
weights_decide w a least ws is same r c e = ap (λ n. nat_lt least n) (ap (λ xs. get_or xs (position a r c) 0) same ∙ ap (λ (b : Matrix). get_or w.weights (position b r c) 0) (sym is) ∙ weight_read w r c (subst (λ (b : Matrix). IsEntry b r c) (sym is) e))

-- The places whose sum is not 0.

pub sums_decide : (t : Entries) (a : Matrix) (sums lent : List ℤ) → AreSums t.items a sums → lent ≡ sums → Decides a (λ at. nat_lt 0 (unsigned_abs (get_or lent at (pos 0)))) (λ r c. nat_lt 0 (weight_of t r c))
sums_decide t a sums lent s same r c e = ap (λ z. nat_lt 0 (unsigned_abs z)) (ap (λ zs. get_or zs (position a r c) (pos 0)) same ∙ s.each r c e)

pub nonzero_made : (t : Entries) (a b : Matrix) → HasPlaces t.rows t.cols (places t) a → b ≡ restricted a (λ r c. nat_lt 0 (weight_of t r c)) → HasPlaces t.rows t.cols (nonzero_places t) b
nonzero_made t a b h is = subst (HasPlaces t.rows t.cols (nonzero_places t)) (sym is) record {
  rows_are = h.rows_are;
  cols_are = restricted_cols a (λ r c. nat_lt 0 (weight_of t r c)) ∙ h.cols_are;
  entries = λ r c. (
    (λ e. let both = restricted_over a (λ r c. nat_lt 0 (weight_of t r c)) r c e in filter_complete (λ (p : Place). nat_lt 0 (weight_of t p.0 p.1)) (r, c) (places t) ((h.entries r c).0 both.0) both.1),
    λ k. let both = filter_sound (λ (p : Place). nat_lt 0 (weight_of t p.0 p.1)) (r, c) (places t) k in restricted_back a (λ r c. nat_lt 0 (weight_of t r c)) r c ((h.entries r c).1 both.0) both.1,
  );
  columns = λ c. restricted_lists a (λ r c. nat_lt 0 (weight_of t r c)) c (h.columns c);
}
