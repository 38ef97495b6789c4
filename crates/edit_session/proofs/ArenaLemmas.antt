-- Lists in one array: what a shift, one list more and a move leave of them.
use Rattle.std.proofs.Common.{◌≡◌, ◌≢◌, ◌⊎◌, ◌∙◌, ℕ, ◌+◌, ◌-◌, ◌<◌, ◌≤◌, List, [], ◌∷◌, ◌++◌, map, length, set, get_or, slice_range, refl, sym, ap, ap₂, subst, inl, inr, ⊎_elim, arith, get_or-set_same, get_or-set_other}
use Rattle.std.proofs.Math.Decide.{dec_lt}
use Rattle.std.proofs.lemmas.List.{ext_get_or, get_or-append-add, get_or-map, get_or_append_left, get_or_default, get_or_past, get_or_push, length-append, length-map, length-set, length_push, map-append, map-set, same_lists, set-get_or}
use Rattle.std.proofs.lemmas.List.Edits.{get_or-between, get_or-insert_above, get_or-insert_at, get_or-insert_below, get_or-remove_above, get_or-remove_below, length-between, length-insert, length-remove}
use Rattle.std.specs.List.{insert, remove}
use Rattle.bip_defs.proofs.Sets.{number_same}
use Rattle.edit_session.specs.Arena.{RoomyLists, list_at, room_of, rows_in, with_list}
use Rattle.edit_session.specs.Spans.{AreSpans, IsApart, IsShiftedDown, IsShiftedUp, end_of, nowhere, span_at}
use Rattle.edit_session.specs.declared.arena.Span.{Span}

-- Parts of an array.

-- parts of one length that have the same elements
pub same_part : (xs ys : List ℕ) (i j : ℕ) → j ≤ length xs → j ≤ length ys → ((k d : ℕ) → i ≤ k → k < j → get_or ys k d ≡ get_or xs k d) → slice_range ys i j ≡ slice_range xs i j
same_part xs ys i j le le2 same = same_lists (slice_range ys i j) (slice_range xs i j) (length-between ys i j le2 ∙ sym (length-between xs i j le))
    (λ k d lt. let few : i + k < j = let long = length-between ys i j le2 in omega (arith, long, lt) in
    get_or-between ys i j k d few ∙ same (i + k) d (omega arith) few ∙ sym (get_or-between xs i j k d few))

pub list_is : (slots : List ℕ) (spans : List Span) (i : ℕ) → i < length spans → get_or (map (rows_in slots) spans) i [] ≡ rows_in slots (span_at spans i)
list_is slots spans i lt = get_or-map (rows_in slots) spans i nowhere [] lt

-- another span for one list, and another array that has the same rows for the others
pub changed_lists : (slots slots2 : List ℕ) (spans : List Span) (i : ℕ) (s : Span) (xs : List ℕ) → i < length spans → rows_in slots2 s ≡ xs → ((j : ℕ) → j ≢ i → rows_in slots2 (span_at spans j) ≡ rows_in slots (span_at spans j))
    → map (rows_in slots2) (set spans i s) ≡ set (map (rows_in slots) spans) i xs
changed_lists slots slots2 spans i s xs lt own others = ext_get_or [] (map (rows_in slots2) (set spans i s)) (set (map (rows_in slots) spans) i xs) (length-map (set spans i s) (rows_in slots2) ∙ length-set spans i s ∙ sym (length-map spans (rows_in slots)) ∙ sym (length-set (map (rows_in slots) spans) i xs))
    (λ j less. at j (rw (length-map, length-set) at less) (number_same j i))
  where
    at : (j : ℕ) → j < length spans → (j ≡ i) ⊎ (j ≢ i) → get_or (map (rows_in slots2) (set spans i s)) j [] ≡ get_or (set (map (rows_in slots) spans) i xs) j []
    at j few (inl e) = ap (λ k. get_or (map (rows_in slots2) (set spans i s)) k []) e ∙ get_or-map (rows_in slots2) (set spans i s) i nowhere [] (rw length-set lt) ∙ ap (rows_in slots2) (get_or-set_same spans i s nowhere lt) ∙ own ∙ sym (get_or-set_same (map (rows_in slots) spans) i xs [] (rw length-map lt)) ∙ ap (λ k. get_or (set (map (rows_in slots) spans) i xs) k []) (sym e)
    at j few (inr ne) = get_or-map (rows_in slots2) (set spans i s) j nowhere [] (rw length-set few) ∙ ap (rows_in slots2) (get_or-set_other spans i j s nowhere ne) ∙ others j ne ∙ sym (list_is slots spans j few) ∙ sym (get_or-set_other (map (rows_in slots) spans) i j xs [] ne)

pub same_rooms : (spans : List Span) (i : ℕ) (s : Span) → i < length spans → Span.room s ≡ Span.room (span_at spans i) → map room_of (set spans i s) ≡ map room_of spans
same_rooms spans i s lt e = map-set room_of spans i s ∙ ap (set (map room_of spans) i) (e ∙ sym (get_or-map room_of spans i nowhere 0 lt)) ∙ set-get_or (map room_of spans) i 0

-- One row more, or less.

pub after_insert : (slots new : List ℕ) (spans : List Span) (i at row : ℕ) (s : Span) → AreSpans spans (length slots) → i < length spans → s ≡ span_at spans i → Span.len s < Span.room s → at ≤ Span.len s
    → IsShiftedUp (Span.start s + at) (Span.start s + Span.len s) row slots new
    → map (rows_in new) (set spans i (record { start = Span.start s; len = Span.len s + 1; room = Span.room s })) ≡ set (map (rows_in slots) spans) i (insert (get_or (map (rows_in slots) spans) i []) at row)
after_insert slots new spans i at row s h lt e roomy le up = changed_lists slots new spans i (record { start = Span.start s; len = Span.len s + 1; room = Span.room s }) (insert (get_or (map (rows_in slots) spans) i []) at row) lt (own ∙ ap (λ xs. insert xs at row) (ap (rows_in slots) e ∙ sym (list_is slots spans i lt))) others
  where
    start : ℕ
    start = Span.start s

    long : ℕ
    long = Span.len s

    fits : start + Span.room s ≤ length slots
    fits = subst (λ (z : Span). end_of z ≤ length slots) (sym e) (h.within i)

    new_fits : start + (long + 1) ≤ length new
    new_fits = let l = up.long in let f = fits in omega (arith, l, f, roomy)

    held : length (rows_in slots s) ≡ long
    held = length-between slots start (start + long) (let f = fits in omega (arith, f, roomy)) ∙ omega arith

    pointwise : (k d : ℕ) → k < long + 1 → Dec (k < at) → (k ≡ at) ⊎ (k ≢ at) → get_or (slice_range new start (start + (long + 1))) k d ≡ get_or (insert (rows_in slots s) at row) k d
    pointwise k d few (yes below) c = get_or-between new start (start + (long + 1)) k d (omega (arith, few)) ∙ up.others (start + k) d (inl (omega (arith, below))) ∙ sym (get_or-between slots start (start + long) k d (omega (arith, below, le))) ∙ sym (get_or-insert_below (rows_in slots s) at row d k below (rw held le))
    pointwise k d few (no n) (inl same) = get_or-between new start (start + (long + 1)) k d (omega (arith, few)) ∙ ap (λ z. get_or new (start + z) d) same ∙ up.put d ∙ sym (get_or-insert_at (rows_in slots s) at row d (rw held le)) ∙ ap (λ z. get_or (insert (rows_in slots s) at row) z d) (sym same)
    pointwise k d few (no n) (inr ne) =
        let m = k - 1 in
        let e1 : start + k ≡ (start + m) + 1 = omega (arith, n, ne) in
        let e2 : k ≡ m + 1 = omega (arith, n, ne) in
        get_or-between new start (start + (long + 1)) k d (omega (arith, few)) ∙ ap (λ z. get_or new z d) e1 ∙ up.moved (start + m) d (omega (arith, n, ne)) (omega (arith, few, n, ne))
        ∙ sym (get_or-between slots start (start + long) m d (omega (arith, few, n, ne))) ∙ sym (get_or-insert_above (rows_in slots s) at row d m (omega (arith, n, ne)) (rw held le)) ∙ ap (λ z. get_or (insert (rows_in slots s) at row) z d) (sym e2)

    own : slice_range new start (start + (long + 1)) ≡ insert (rows_in slots s) at row
    own =
        let l1 = length-between new start (start + (long + 1)) new_fits in
        let l2 = length-insert (rows_in slots s) at row (rw held le) in
        same_lists (slice_range new start (start + (long + 1))) (insert (rows_in slots s) at row) (omega (arith, l1, l2, held)) (λ k d few. pointwise k d (omega (arith, l1, few)) (dec_lt k at) (number_same k at))

    others : (j : ℕ) → j ≢ i → rows_in new (span_at spans j) ≡ rows_in slots (span_at spans j)
    others j ne =
        let w = h.within j in let f = h.filled j in
        let l = up.long in
        same_part slots new (Span.start (span_at spans j)) (Span.start (span_at spans j) + Span.len (span_at spans j)) (omega (arith, w, f)) (omega (arith, w, f, l))
        (λ k d a b. up.others k d (⊎_elim (λ g. inl (omega (arith, b, f, g))) (λ g. inr (omega (arith, a, g, roomy))) (subst (IsApart (span_at spans j)) (sym e) (h.apart j i ne))))

pub after_remove : (slots new : List ℕ) (spans : List Span) (i at : ℕ) (s : Span) → AreSpans spans (length slots) → i < length spans → s ≡ span_at spans i → at < Span.len s
    → IsShiftedDown (Span.start s + at) (Span.start s + Span.len s) slots new
    → map (rows_in new) (set spans i (record { start = Span.start s; len = Span.len s - 1; room = Span.room s })) ≡ set (map (rows_in slots) spans) i (remove (get_or (map (rows_in slots) spans) i []) at)
after_remove slots new spans i at s h lt e le down = changed_lists slots new spans i (record { start = Span.start s; len = Span.len s - 1; room = Span.room s }) (remove (get_or (map (rows_in slots) spans) i []) at) lt (own ∙ ap (λ xs. remove xs at) (ap (rows_in slots) e ∙ sym (list_is slots spans i lt))) others
  where
    start : ℕ
    start = Span.start s

    long : ℕ
    long = Span.len s

    fits : start + long ≤ length slots
    fits = let w = subst (λ (z : Span). end_of z ≤ length slots) (sym e) (h.within i) in let f = subst (λ (z : Span). Span.len z ≤ Span.room z) (sym e) (h.filled i) in omega (arith, w, f)

    new_fits : start + (long - 1) ≤ length new
    new_fits = let l = down.long in let f = fits in omega (arith, l, f)

    held : length (rows_in slots s) ≡ long
    held = length-between slots start (start + long) fits ∙ omega arith

    pointwise : (k d : ℕ) → k < long - 1 → Dec (k < at) → get_or (slice_range new start (start + (long - 1))) k d ≡ get_or (remove (rows_in slots s) at) k d
    pointwise k d few (yes below) = get_or-between new start (start + (long - 1)) k d (omega (arith, few)) ∙ down.others (start + k) d (inl (omega (arith, below))) ∙ sym (get_or-between slots start (start + long) k d (omega (arith, below, le))) ∙ sym (get_or-remove_below (rows_in slots s) at d k below (rw held le))
    pointwise k d few (no n) =
        let e1 : (start + k) + 1 ≡ start + (k + 1) = omega arith in
        get_or-between new start (start + (long - 1)) k d (omega (arith, few)) ∙ down.moved (start + k) d (omega (arith, n)) (omega (arith, few)) ∙ ap (λ z. get_or slots z d) e1
        ∙ sym (get_or-between slots start (start + long) (k + 1) d (omega (arith, few))) ∙ sym (get_or-remove_above (rows_in slots s) at d k (omega (arith, n)) (rw held le))

    own : slice_range new start (start + (long - 1)) ≡ remove (rows_in slots s) at
    own =
        let l1 = length-between new start (start + (long - 1)) new_fits in
        let l2 = length-remove (rows_in slots s) at (rw held le) in
        same_lists (slice_range new start (start + (long - 1))) (remove (rows_in slots s) at) (omega (arith, l1, l2, held)) (λ k d few. pointwise k d (omega (arith, l1, few)) (dec_lt k at))

    others : (j : ℕ) → j ≢ i → rows_in new (span_at spans j) ≡ rows_in slots (span_at spans j)
    others j ne =
        let w = h.within j in let f = h.filled j in
        let l = down.long in
        let f2 = subst (λ (z : Span). Span.len z ≤ Span.room z) (sym e) (h.filled i) in
        same_part slots new (Span.start (span_at spans j)) (Span.start (span_at spans j) + Span.len (span_at spans j)) (omega (arith, w, f)) (omega (arith, w, f, l))
        (λ k d a b. down.others k d (⊎_elim (λ g. inl (omega (arith, b, f, g))) (λ g. inr (omega (arith, a, g, f2))) (subst (IsApart (span_at spans j)) (sym e) (h.apart j i ne))))

-- A list that moves to the end.

pub after_widen : (slots slots2 : List ℕ) (spans : List Span) (i room : ℕ) (s : Span) → AreSpans spans (length slots) → i < length spans → s ≡ span_at spans i → length slots + Span.len s ≤ length slots2
    → ((k d : ℕ) → k < length slots + Span.len s → get_or slots2 k d ≡ get_or (slots ++ rows_in slots s) k d)
    → map (rows_in slots2) (set spans i (record { start = length slots; len = Span.len s; room = room })) ≡ map (rows_in slots) spans
after_widen slots slots2 spans i room s h lt e long same = changed_lists slots slots2 spans i (record { start = length slots; len = Span.len s; room = room }) (get_or (map (rows_in slots) spans) i []) lt (own ∙ ap (rows_in slots) e ∙ sym (list_is slots spans i lt)) others ∙ set-get_or (map (rows_in slots) spans) i []
  where
    fits : Span.start s + Span.len s ≤ length slots
    fits = let w = subst (λ (z : Span). end_of z ≤ length slots) (sym e) (h.within i) in let f = subst (λ (z : Span). Span.len z ≤ Span.room z) (sym e) (h.filled i) in omega (arith, w, f)

    held : length (rows_in slots s) ≡ Span.len s
    held = length-between slots (Span.start s) (Span.start s + Span.len s) fits ∙ omega arith

    own : slice_range slots2 (length slots) (length slots + Span.len s) ≡ rows_in slots s
    own =
        let l1 = length-between slots2 (length slots) (length slots + Span.len s) long in
        same_lists (slice_range slots2 (length slots) (length slots + Span.len s)) (rows_in slots s) (omega (arith, l1, held))
        (λ k d few.
        let less : k < Span.len s = omega (arith, l1, few) in
        get_or-between slots2 (length slots) (length slots + Span.len s) k d (omega (arith, less)) ∙ same (length slots + k) d (omega (arith, less)) ∙ get_or-append-add slots (rows_in slots s) k d)

    others : (j : ℕ) → j ≢ i → rows_in slots2 (span_at spans j) ≡ rows_in slots (span_at spans j)
    others j ne =
        let w = h.within j in let f = h.filled j in
        same_part slots slots2 (Span.start (span_at spans j)) (Span.start (span_at spans j) + Span.len (span_at spans j)) (omega (arith, w, f)) (omega (arith, w, f, long))
        (λ k d a b. same k d (omega (arith, b, w, f)) ∙ get_or_append_left slots (rows_in slots s) d k (omega (arith, b, w, f)))

-- One list more.

pub kept_lists : (slots more : List ℕ) (spans : List Span) → AreSpans spans (length slots) → map (rows_in (slots ++ more)) spans ≡ map (rows_in slots) spans
kept_lists slots more spans h = ext_get_or [] (map (rows_in (slots ++ more)) spans) (map (rows_in slots) spans) (length-map spans (rows_in (slots ++ more)) ∙ sym (length-map spans (rows_in slots)))
    (λ j less.
    let few : j < length spans = rw length-map at less in
    let w = h.within j in let f = h.filled j in
    let long = length-append slots more in
    list_is (slots ++ more) spans j few
    ∙ same_part slots (slots ++ more) (Span.start (span_at spans j)) (Span.start (span_at spans j) + Span.len (span_at spans j)) (omega (arith, w, f)) (omega (arith, w, f, long)) (λ k d a b. get_or_append_left slots more d k (omega (arith, b, w, f)))
    ∙ sym (list_is slots spans j few))

pub after_push : (slots more : List ℕ) (spans : List Span) (n : ℕ) → AreSpans spans (length slots) → n ≡ length more → map (rows_in (slots ++ more)) (spans ++ record { start = length slots; len = n; room = n } ∷ []) ≡ map (rows_in slots) spans ++ more ∷ []
after_push slots more spans n h e = map-append (rows_in (slots ++ more)) spans (s ∷ []) ∙ ap₂ (λ (u : List (List ℕ)) (v : List ℕ). u ++ v ∷ []) (kept_lists slots more spans h) own
  where
    s : Span
    s = record { start = length slots; len = n; room = n }

    own : slice_range (slots ++ more) (length slots) (length slots + n) ≡ more
    own =
        let long = length-append slots more in
        let l1 = length-between (slots ++ more) (length slots) (length slots + n) (omega (arith, long, e)) in
        same_lists (slice_range (slots ++ more) (length slots) (length slots + n)) more (omega (arith, l1, e))
        (λ k d few. get_or-between (slots ++ more) (length slots) (length slots + n) k d (omega (arith, l1, few)) ∙ get_or-append-add slots more k d)

last_span : (spans : List Span) (s : Span) (i : ℕ) → ((i < length spans) × (span_at (spans ++ s ∷ []) i ≡ span_at spans i)) ⊎ (((i ≡ length spans) × (span_at (spans ++ s ∷ []) i ≡ s)) ⊎ (span_at (spans ++ s ∷ []) i ≡ nowhere))
last_span spans s i = by (dec_lt i (length spans)) (number_same i (length spans))
  where
    by : Dec (i < length spans) → (i ≡ length spans) ⊎ (i ≢ length spans) → ((i < length spans) × (span_at (spans ++ s ∷ []) i ≡ span_at spans i)) ⊎ (((i ≡ length spans) × (span_at (spans ++ s ∷ []) i ≡ s)) ⊎ (span_at (spans ++ s ∷ []) i ≡ nowhere))
    by (yes lt) e = inl (lt, get_or_append_left spans (s ∷ []) nowhere i lt)
    by (no n) (inl e) = inr (inl (e, get_or_push spans s nowhere i (sym e)))
    by (no n) (inr ne) = inr (inr (get_or_past (spans ++ s ∷ []) i nowhere (let l = length_push spans s in omega (arith, l, n, ne))))

pub pushed_spans : (spans : List Span) (n k : ℕ) → AreSpans spans n → AreSpans (spans ++ record { start = n; len = k; room = k } ∷ []) (n + k)
pushed_spans spans n k h = record {
  within = λ i. within i (last_span spans s i);
  filled = λ i. filled i (last_span spans s i);
  apart = λ i j ne. apart i j ne (last_span spans s i) (last_span spans s j);
}
  where
    s : Span
    s = record { start = n; len = k; room = k }

    within : (i : ℕ) → ((i < length spans) × (span_at (spans ++ s ∷ []) i ≡ span_at spans i)) ⊎ (((i ≡ length spans) × (span_at (spans ++ s ∷ []) i ≡ s)) ⊎ (span_at (spans ++ s ∷ []) i ≡ nowhere)) → end_of (span_at (spans ++ s ∷ []) i) ≤ n + k
    within i (inl a) = let w = h.within i in let e = ap end_of a.1 in omega (arith, w, e)
    within i (inr (inl a)) = let e : end_of (span_at (spans ++ s ∷ []) i) ≡ n + k = ap end_of a.1 in omega (arith, e)
    within i (inr (inr a)) = let e : end_of (span_at (spans ++ s ∷ []) i) ≡ 0 + 0 = ap end_of a in omega (arith, e)

    filled : (i : ℕ) → ((i < length spans) × (span_at (spans ++ s ∷ []) i ≡ span_at spans i)) ⊎ (((i ≡ length spans) × (span_at (spans ++ s ∷ []) i ≡ s)) ⊎ (span_at (spans ++ s ∷ []) i ≡ nowhere)) → Span.len (span_at (spans ++ s ∷ []) i) ≤ Span.room (span_at (spans ++ s ∷ []) i)
    filled i (inl a) = subst (λ (z : Span). Span.len z ≤ Span.room z) (sym a.1) (h.filled i)
    filled i (inr (inl a)) = subst (λ (z : Span). Span.len z ≤ Span.room z) (sym a.1) (omega arith)
    filled i (inr (inr a)) = subst (λ (z : Span). Span.len z ≤ Span.room z) (sym a) (omega arith)

    both : (i j : ℕ) (t u : Span) → span_at (spans ++ s ∷ []) i ≡ t → span_at (spans ++ s ∷ []) j ≡ u → IsApart t u → IsApart (span_at (spans ++ s ∷ []) i) (span_at (spans ++ s ∷ []) j)
    both i j t u a b g = subst (λ (z : Span). IsApart z (span_at (spans ++ s ∷ []) j)) (sym a) (subst (IsApart t) (sym b) g)

    apart : (i j : ℕ) → i ≢ j
        → ((i < length spans) × (span_at (spans ++ s ∷ []) i ≡ span_at spans i)) ⊎ (((i ≡ length spans) × (span_at (spans ++ s ∷ []) i ≡ s)) ⊎ (span_at (spans ++ s ∷ []) i ≡ nowhere))
        → ((j < length spans) × (span_at (spans ++ s ∷ []) j ≡ span_at spans j)) ⊎ (((j ≡ length spans) × (span_at (spans ++ s ∷ []) j ≡ s)) ⊎ (span_at (spans ++ s ∷ []) j ≡ nowhere))
        → IsApart (span_at (spans ++ s ∷ []) i) (span_at (spans ++ s ∷ []) j)
    apart i j ne (inr (inr a)) b = subst (λ (z : Span). IsApart z (span_at (spans ++ s ∷ []) j)) (sym a) (inl (omega arith))
    apart i j ne (inl a) (inr (inr b)) = subst (IsApart (span_at (spans ++ s ∷ []) i)) (sym b) (inr (omega arith))
    apart i j ne (inr (inl a)) (inr (inr b)) = subst (IsApart (span_at (spans ++ s ∷ []) i)) (sym b) (inr (omega arith))
    apart i j ne (inl a) (inl b) = both i j (span_at spans i) (span_at spans j) a.1 b.1 (h.apart i j ne)
    apart i j ne (inl a) (inr (inl b)) = both i j (span_at spans i) s a.1 b.1 (inl (h.within i))
    apart i j ne (inr (inl a)) (inl b) = both i j s (span_at spans j) a.1 b.1 (inr (h.within j))
    apart i j ne (inr (inl a)) (inr (inl b)) = absurd (ne (a.0 ∙ sym b.0))

-- What contracts see.

abbrev pub viewed : List ℕ → List Span → RoomyLists
viewed slots spans = record { lists = map (rows_in slots) spans; room = map room_of spans }

pub list_long : (slots : List ℕ) (spans : List Span) (i : ℕ) (s : Span) → AreSpans spans (length slots) → i < length spans → s ≡ span_at spans i → length (get_or (map (rows_in slots) spans) i []) ≡ Span.len s
list_long slots spans i s h lt e =
    let w = subst (λ (z : Span). end_of z ≤ length slots) (sym e) (h.within i) in
    let f = subst (λ (z : Span). Span.len z ≤ Span.room z) (sym e) (h.filled i) in
    ap length (list_is slots spans i lt ∙ ap (rows_in slots) (sym e)) ∙ length-between slots (Span.start s) (Span.start s + Span.len s) (omega (arith, w, f)) ∙ omega arith

pub room_is : (spans : List Span) (i : ℕ) (s : Span) → i < length spans → s ≡ span_at spans i → get_or (map room_of spans) i 0 ≡ Span.room s
room_is spans i s lt e = get_or-map room_of spans i nowhere 0 lt ∙ ap room_of (sym e)

pub read_span : (spans : List Span) (i : ℕ) (s : Span) → i < length spans → s ≡ get_or spans i s → s ≡ span_at spans i
read_span spans i s lt e = e ∙ get_or_default spans i s nowhere lt

pub inserted : (slots new : List ℕ) (spans : List Span) (i at row : ℕ) (s : Span) (now : RoomyLists) → viewed slots spans ≡ now → AreSpans spans (length slots) → s ≡ get_or spans i s → IsShiftedUp (Span.start s + at) (Span.start s + Span.len s) row slots new
    → i < length now.lists → at ≤ length (list_at now i) → length (list_at now i) < get_or now.room i 0
    → map (rows_in new) (set spans i (record { start = Span.start s; len = Span.len s + 1; room = Span.room s })) ≡ set now.lists i (insert (list_at now i) at row)
inserted slots new spans i at row s now view h read up = subst (λ (w : RoomyLists). i < length w.lists → at ≤ length (list_at w i) → length (list_at w i) < get_or w.room i 0
    → map (rows_in new) (set spans i (record { start = Span.start s; len = Span.len s + 1; room = Span.room s })) ≡ set w.lists i (insert (list_at w i) at row)) view
    (λ less le roomy.
    let lt : i < length spans = rw length-map at less in
    let e = read_span spans i s lt read in
    let long = list_long slots spans i s h lt e in
    let room = room_is spans i s lt e in
    after_insert slots new spans i at row s h lt e (omega (arith, roomy, long, room)) (omega (arith, le, long)) up)

pub removed : (slots new : List ℕ) (spans : List Span) (i at : ℕ) (s : Span) (now : RoomyLists) → viewed slots spans ≡ now → AreSpans spans (length slots) → s ≡ get_or spans i s → IsShiftedDown (Span.start s + at) (Span.start s + Span.len s) slots new
    → i < length now.lists → at < length (list_at now i)
    → map (rows_in new) (set spans i (record { start = Span.start s; len = Span.len s - 1; room = Span.room s })) ≡ set now.lists i (remove (list_at now i) at)
removed slots new spans i at s now view h read down = subst (λ (w : RoomyLists). i < length w.lists → at < length (list_at w i)
    → map (rows_in new) (set spans i (record { start = Span.start s; len = Span.len s - 1; room = Span.room s })) ≡ set w.lists i (remove (list_at w i) at)) view
    (λ less le.
    let lt : i < length spans = rw length-map at less in
    let e = read_span spans i s lt read in
    let long = list_long slots spans i s h lt e in
    after_remove slots new spans i at s h lt e (omega (arith, le, long)) down)

pub same_room : (slots : List ℕ) (spans : List Span) (i : ℕ) (s t : Span) (now : RoomyLists) → viewed slots spans ≡ now → s ≡ get_or spans i s → i < length now.lists → Span.room t ≡ Span.room s → map room_of (set spans i t) ≡ now.room
same_room slots spans i s t now view read = subst (λ (w : RoomyLists). i < length w.lists → Span.room t ≡ Span.room s → map room_of (set spans i t) ≡ w.room) view
    (λ less e. let lt : i < length spans = rw length-map at less in same_rooms spans i t lt (e ∙ ap room_of (read_span spans i s lt read)))

pub widened : (slots ext slots2 : List ℕ) (spans : List Span) (i room start : ℕ) (s : Span) (now : RoomyLists) → viewed slots spans ≡ now → AreSpans spans (length slots) → s ≡ get_or spans i s → start ≡ length slots → length slots2 ≡ start + room
    → ext ≡ slots ++ rows_in slots s → ((k d : ℕ) → k < start + room → k < length ext → get_or slots2 k d ≡ get_or ext k d)
    → i < length now.lists → length (list_at now i) ≤ room
    → map (rows_in slots2) (set spans i (record { start = start; len = Span.len s; room = room })) ≡ now.lists
widened slots ext slots2 spans i room start s now view h read e total ext_is same = subst (λ (w : RoomyLists). i < length w.lists → length (list_at w i) ≤ room
    → map (rows_in slots2) (set spans i (record { start = start; len = Span.len s; room = room })) ≡ w.lists) view
    (λ less fits.
    let lt : i < length spans = rw length-map at less in
    let at_i = read_span spans i s lt read in
    let long = list_long slots spans i s h lt at_i in
    let own : length (rows_in slots s) ≡ Span.len s = ap length (ap (rows_in slots) at_i ∙ sym (list_is slots spans i lt)) ∙ long in
    let all : length ext ≡ length slots + Span.len s = ap length ext_is ∙ length-append slots (rows_in slots s) ∙ ap (λ z. length slots + z) own in
    ap (λ z. map (rows_in slots2) (set spans i (record { start = z; len = Span.len s; room = room }))) e
    ∙ after_widen slots slots2 spans i room s h lt at_i (omega (arith, total, e, fits, long)) (λ k d few. same k d (omega (arith, few, e, fits, long)) (omega (arith, few, all)) ∙ ap (λ xs. get_or xs k d) ext_is))

pub widened_room : (slots : List ℕ) (spans : List Span) (i : ℕ) (t : Span) (now : RoomyLists) → viewed slots spans ≡ now → map room_of (set spans i t) ≡ set now.room i (Span.room t)
widened_room slots spans i t now view = map-set room_of spans i t ∙ ap (λ (w : RoomyLists). set w.room i (Span.room t)) view

pub pushed_view : (slots more : List ℕ) (spans : List Span) (n : ℕ) (now : RoomyLists) → viewed slots spans ≡ now → AreSpans spans (length slots) → n ≡ length more → viewed (slots ++ more) (spans ++ record { start = length slots; len = n; room = n } ∷ []) ≡ with_list now more
pushed_view slots more spans n now view h e = (λ i. record { lists = after_push slots more spans n h e i; room = (map-append room_of spans (record { start = length slots; len = n; room = n } ∷ []) ∙ ap (λ k. map room_of spans ++ k ∷ []) e) i }) ∙ ap (λ (w : RoomyLists). with_list w more) view

pub filled_list : (slots : List ℕ) (spans : List Span) (i : ℕ) (now : RoomyLists) → viewed slots spans ≡ now → AreSpans spans (length slots) → i < length now.lists → length (list_at now i) ≤ get_or now.room i 0
filled_list slots spans i now view h = subst (λ (w : RoomyLists). i < length w.lists → length (list_at w i) ≤ get_or w.room i 0) view
    (λ less.
    let lt : i < length spans = rw length-map at less in
    let long = list_long slots spans i (span_at spans i) h lt refl in
    let room = room_is spans i (span_at spans i) lt refl in
    omega (arith, long, room, h.filled i))

pub widened_has : (slots : List ℕ) (spans : List Span) (i : ℕ) (t : Span) (now : RoomyLists) → viewed slots spans ≡ now → i < length now.lists → get_or (map room_of (set spans i t)) i 0 ≡ Span.room t
widened_has slots spans i t now view = subst (λ (w : RoomyLists). i < length w.lists → get_or (map room_of (set spans i t)) i 0 ≡ Span.room t) view
    (λ less.
    let lt : i < length spans = rw length-map at less in
    room_is (set spans i t) i t (rw length-set lt) (sym (get_or-set_same spans i t nowhere lt)))
