-- What each step of a search keeps.
use Rattle.std.proofs.Common.{◌≡◌, ◌≢◌, ◌⊎◌, ◌↔◌, ◌∙◌, ℕ, suc, slice_index, drop, ◌+◌, ◌<◌, ◌≤◌, Bool, true, false, true≢false, List, [], ◌∷◌, ◌++◌, length, set, get_or, refl, sym, ap, subst, inl, inr, ⊎_elim, arith, drop-cons, length-set, get_or-set_same, get_or-set_other}
use Rattle.std.proofs.lemmas.List.{get_or_read}
use Rattle.bip_defs.specs.Lists.{Among, IsMarked}
use Rattle.bip_defs.specs.Matching.{rows_of}
use Rattle.bip_defs.specs.Matrix.{Place}
use Rattle.bip_defs.proofs.Sets.{among_last, among_left, is_among, number_same}
use Rattle.integer_diagonal.specs.declared.search.Nearest.{Nearest}
use Rattle.integer_diagonal.specs.Labels.{AreBeyond, AreListed, IsBest, IsKept, IsKnown, Labels, Looks, Puts, Takes, distance_of, put}
use Rattle.integer_diagonal.specs.Duals.{Priced}
use Rattle.integer_diagonal.specs.SearchTree.{Reaches, Tree}
use Rattle.integer_diagonal.specs.Amounts.{infinity}

-- A row is given a distance.

put_here : (l : Labels) (h : List (ℕ × ℕ)) (r d p : ℕ) → r < length l.distances → distance_of (put l h r d p) r ≡ d
put_here l h r d p lt = get_or-set_same l.distances r d infinity lt

put_there : (l : Labels) (h : List (ℕ × ℕ)) (r d p s : ℕ) → s ≢ r → distance_of (put l h r d p) s ≡ distance_of l s
put_there l h r d p s ne = get_or-set_other l.distances r s d infinity ne

kept_put : (x : Priced) (m : List Place) (t : Tree) (l k : Labels) (level r d p : ℕ) → IsKept x m t l level → Puts l k r d p → r < x.weighing.matrix.rows → Among r (rows_of m) → d < distance_of l r → Reaches x t r p d → level ≤ d → d < infinity → IsKept x m t k level
kept_put x m t l k level r d p kept puts lt on nearer reaches above fits = subst (λ (z : Labels). IsKept x m t z level) (sym puts.is) (record {
  distances_are = length-set l.distances r d ∙ kept.distances_are;
  parents_are = length-set l.parents r p ∙ kept.parents_are;
  settled_are = kept.settled_are;
  reached = λ s far_off. reached s far_off (number_same s r);
  matched = λ s far_off. ⊎_elim (λ (e : s ≡ r). subst (λ z. Among z (rows_of m)) (sym e) on) (λ ne. kept.matched s (let g = put_there l puts.heap r d p s ne in omega (arith, g, far_off))) (number_same s r);
  settled = λ s mark. let (j, a, b, pair, e) = kept.settled s mark in (j, a, b, pair, e ∙ sym (put_there l puts.heap r d p s (other s mark)));
  entered = kept.entered;
  waiting = λ s far_off. waiting s far_off (number_same s r);
  waits = λ e s h. waits e s h (puts.holds (e, s) h);
  depths = kept.depths;
})
  where
    inside : r < length l.distances
    inside = omega (arith, lt, kept.distances_are)

    other : (s : ℕ) → IsMarked l.settled s → s ≢ r
    other s mark is =
        let (j, a, b, pair, e) = kept.settled s mark in
        let low = kept.depths j b in
        let same = ap (distance_of l) is in
        omega (arith, low, e, same, nearer, above)

    reached : (s : ℕ) → distance_of (put l puts.heap r d p) s < infinity → (s ≡ r) ⊎ (s ≢ r) → Reaches x t s (slice_index (set l.parents r p) s) (distance_of (put l puts.heap r d p) s)
    reached s far_off (inl e) = subst (λ z. Reaches x t z (slice_index (set l.parents r p) z) (distance_of (put l puts.heap r d p) z)) (sym e) (subst (λ z. Reaches x t r z (distance_of (put l puts.heap r d p) r)) (sym (get_or-set_same l.parents r p 0 (omega (arith, lt, kept.parents_are)))) (subst (λ z. Reaches x t r p z) (sym (put_here l puts.heap r d p inside)) reaches))
    reached s far_off (inr ne) = subst (λ z. Reaches x t s z (distance_of (put l puts.heap r d p) s)) (sym (get_or-set_other l.parents r s p 0 ne)) (subst (λ z. Reaches x t s (slice_index l.parents s) z) (sym (put_there l puts.heap r d p s ne)) (kept.reached s (let g = put_there l puts.heap r d p s ne in omega (arith, g, far_off))))

    waiting : (s : ℕ) → distance_of (put l puts.heap r d p) s < infinity → (s ≡ r) ⊎ (s ≢ r) → IsMarked l.settled s ⊎ Among {X = ℕ × ℕ} (distance_of (put l puts.heap r d p) s, s) puts.heap
    waiting s far_off (inl e) = inr (subst (λ z. Among {X = ℕ × ℕ} (distance_of (put l puts.heap r d p) z, z) puts.heap) (sym e) (subst (λ z. Among {X = ℕ × ℕ} (z, r) puts.heap) (sym (put_here l puts.heap r d p inside)) puts.has))
    waiting s far_off (inr ne) =
        let same = put_there l puts.heap r d p s ne in
        ⊎_elim (λ mark. inl mark) (λ h. inr (puts.keeps (distance_of (put l puts.heap r d p) s, s) (subst (λ z. Among {X = ℕ × ℕ} (z, s) l.waiting) (sym same) h))) (kept.waiting s (omega (arith, same, far_off)))

    waits : (e s : ℕ) → Among {X = ℕ × ℕ} (e, s) puts.heap → (◌≡◌ {A = ℕ × ℕ} (e, s) (d, r)) ⊎ Among {X = ℕ × ℕ} (e, s) l.waiting → (level ≤ e) × (distance_of (put l puts.heap r d p) s ≤ e) × (distance_of (put l puts.heap r d p) s < infinity)
    waits e s h (inl is) =
        let one : e ≡ d = ap (λ (z : ℕ × ℕ). z.0) is in
        let two : s ≡ r = ap (λ (z : ℕ × ℕ). z.1) is in
        let here = ap (distance_of (put l puts.heap r d p)) two ∙ put_here l puts.heap r d p inside in
        (omega (arith, one, above), omega (arith, one, here), omega (arith, here, fits))
    waits e s h (inr was) = by (kept.waits e s was) (number_same s r)
      where
        by : (level ≤ e) × (distance_of l s ≤ e) × (distance_of l s < infinity) → (s ≡ r) ⊎ (s ≢ r) → (level ≤ e) × (distance_of (put l puts.heap r d p) s ≤ e) × (distance_of (put l puts.heap r d p) s < infinity)
        by (a, b, g) (inl is) =
            let here = ap (distance_of (put l puts.heap r d p)) is ∙ put_here l puts.heap r d p inside in
            let same = ap (distance_of l) is in
            (a, omega (arith, here, same, nearer, b), omega (arith, here, fits))
        by (a, b, g) (inr ne) =
            let same = put_there l puts.heap r d p s ne in
            (a, omega (arith, same, b), omega (arith, same, g))

-- A look at an entry.

pub kept_look : {W : Type 0} (x : Priced) (m : List Place) (t : Tree) (l k : Labels) (n o : Nearest W) (level r d p : ℕ) → IsKept x m t l level → Looks m r d p l n k o → r < x.weighing.matrix.rows → Reaches x t r p d → level ≤ d → d < infinity → IsKept x m t k level
kept_look x m t l k n o level r d p kept (inl (same, also, less)) lt reaches above fits = subst (λ (z : Labels). IsKept x m t z level) (sym same) kept
kept_look x m t l k n o level r d p kept (inr (inl (puts, also, on, nearer))) lt reaches above fits = kept_put x m t l k level r d p kept puts lt on nearer reaches above fits
kept_look x m t l k n o level r d p kept (inr (inr (same, is, free, nearer))) lt reaches above fits = subst (λ (z : Labels). IsKept x m t z level) (sym same) kept

pub best_look : {W : Type 0} (x : Priced) (m : List Place) (t : Tree) (l k : Labels) (n o : Nearest W) (level r d p : ℕ) → IsBest x m t n level → Looks m r d p l n k o → Reaches x t r p d → level ≤ d → IsBest x m t o level
best_look {W} x m t l k n o level r d p best (inl (same, also, less)) reaches above = subst (λ (z : Nearest W). IsBest x m t z level) (sym also) best
best_look {W} x m t l k n o level r d p best (inr (inl (puts, also, on, nearer))) reaches above = subst (λ (z : Nearest W). IsBest x m t z level) (sym also) best
best_look {W} x m t l k n o level r d p best (inr (inr (same, is, free, nearer))) reaches above = subst (λ (z : Nearest W). IsBest x m t z level) (sym is) (record { nearest = λ fits. record { reaches = reaches; free = free }; above = above; within = (let was = best.within in omega (arith, was, nearer)) })

-- what is known stays known
pub known_look : {W : Type 0} (x : Priced) (m : List Place) (t : Tree) (l k : Labels) (n o : Nearest W) (r d p i s : ℕ) → Looks m r d p l n k o → r < length l.distances → d < infinity → IsKnown x t l n.distance i s → IsKnown x t k o.distance i s
known_look {W} x m t l k n o r d p i s (inl (same, also, less)) lt fits known = subst (λ (z : Labels). IsKnown x t z o.distance i s) (sym same) (subst (λ (z : Nearest W). IsKnown x t l z.distance i s) (sym also) known)
known_look {W} x m t l k n o r d p i s (inr (inl (puts, also, on, nearer))) lt fits known = subst (λ (z : Labels). IsKnown x t z o.distance i s) (sym puts.is) (subst (λ (z : Nearest W). IsKnown x t (put l puts.heap r d p) z.distance i s) (sym also) (by known (number_same s r)))
  where
    by : IsKnown x t l n.distance i s → (s ≡ r) ⊎ (s ≢ r) → IsKnown x t (put l puts.heap r d p) n.distance i s
    by (inr le) same = inr le
    by (inl (a, b)) (inl e) =
        let here = ap (distance_of (put l puts.heap r d p)) e ∙ put_here l puts.heap r d p lt in
        let was = ap (distance_of l) e in
        inl (omega (arith, here, fits), omega (arith, here, was, nearer, b))
    by (inl (a, b)) (inr ne) = let same = put_there l puts.heap r d p s ne in inl (omega (arith, same, a), omega (arith, same, b))
known_look {W} x m t l k n o r d p i s (inr (inr (same, is, free, nearer))) lt fits known = subst (λ (z : Labels). IsKnown x t z o.distance i s) (sym same) (subst (λ (z : Nearest W). IsKnown x t l z.distance i s) (sym is) (by known))
  where
    by : IsKnown x t l n.distance i s → IsKnown x t l d i s
    by (inl known) = inl known
    by (inr le) = inr (omega (arith, nearer, le))

-- and the entry is known then
pub looked_known : {W : Type 0} (x : Priced) (m : List Place) (t : Tree) (l k : Labels) (n o : Nearest W) (r d p : ℕ) → Looks m r d p l n k o → r < length l.distances → d < infinity → Reaches x t r p d → IsKnown x t k o.distance p r
looked_known {W} x m t l k n o r d p (inl (same, also, inl le)) lt fits reaches = subst (λ (z : Nearest W). IsKnown x t k z.distance p r) (sym also) (inr (let g = reaches.long in omega (arith, g, le)))
looked_known {W} x m t l k n o r d p (inl (same, also, inr le)) lt fits reaches = subst (λ (z : Labels). IsKnown x t z o.distance p r) (sym same) (inl (omega (arith, le, fits), (let g = reaches.long in omega (arith, g, le))))
looked_known {W} x m t l k n o r d p (inr (inl (puts, also, on, nearer))) lt fits reaches = subst (λ (z : Labels). IsKnown x t z o.distance p r) (sym puts.is) (inl (let here = put_here l puts.heap r d p lt in omega (arith, here, fits), (let here = put_here l puts.heap r d p lt in let g = reaches.long in omega (arith, g, here))))
looked_known {W} x m t l k n o r d p (inr (inr (same, is, free, nearer))) lt fits reaches = subst (λ (z : Nearest W). IsKnown x t k z.distance p r) (sym is) (inr (let g = reaches.long in omega (arith, g)))

-- The list of what is to be cleared.

pub listed_put : (l k : Labels) (rows : List ℕ) (r d p : ℕ) → Puts l k r d p → AreListed l rows → Among r rows → AreListed k rows
listed_put l k rows r d p puts listed on = subst (λ (z : Labels). AreListed z rows) (sym puts.is) (record {
  in_range = λ s h. let lt = listed.in_range s h in let long = length-set l.distances r d in omega (arith, lt, long);
  complete = λ s off. let (a, b) = listed.complete s off in (put_there l puts.heap r d p s (λ e. off (subst (λ z. Among z rows) (sym e) on)) ∙ a, b);
})

pub listed_same : (l k : Labels) (rows : List ℕ) → k.distances ≡ l.distances → k.settled ≡ l.settled → AreListed l rows → AreListed k rows
listed_same l k rows e f listed = record {
  in_range = λ r h. subst (λ (z : List ℕ). r < length z) (sym e) (listed.in_range r h);
  complete = λ r off. let (a, b) = listed.complete r off in (ap (λ (z : List ℕ). get_or z r infinity) e ∙ a, subst (λ (z : List Bool). ¬ IsMarked z r) (sym f) b);
}

pub listed_settled : (l : Labels) (rows : List ℕ) (r : ℕ) → AreListed l rows → distance_of l r < infinity → AreListed (record l { settled = set l.settled r true }) rows
listed_settled l rows r listed near = record {
  in_range = listed.in_range;
  complete = λ s off. let (a, b) = listed.complete s off in (a, λ mark. b (sym (get_or-set_other l.settled r s true false (λ e. let g = ap (distance_of l) e in omega (arith, a, near, g))) ∙ mark));
}

-- a row is cleared
pub listed_less : (l : Labels) (rows : List ℕ) (r : ℕ) → length l.settled ≡ length l.distances → AreListed l (r ∷ rows) → AreListed (record l { distances = set l.distances r infinity; settled = set l.settled r false }) rows
listed_less l rows r long listed = record {
  in_range = λ s h. let lt = listed.in_range s (inr h) in let same = length-set l.distances r infinity in omega (arith, lt, same);
  complete = λ s off. by s off (number_same s r);
}
  where
    inside : r < length l.distances
    inside = listed.in_range r (inl refl)

    by : (s : ℕ) → ¬ Among s rows → (s ≡ r) ⊎ (s ≢ r) → (get_or (set l.distances r infinity) s infinity ≡ infinity) × (¬ IsMarked (set l.settled r false) s)
    by s off (inl e) = (ap (λ z. get_or (set l.distances r infinity) z infinity) e ∙ get_or-set_same l.distances r infinity infinity inside, λ mark. true≢false (sym mark ∙ ap (λ z. get_or (set l.settled r false) z false) e ∙ get_or-set_same l.settled r false false (omega (arith, inside, long))))
    by s off (inr ne) =
        let (a, b) = listed.complete s (λ h. ⊎_elim (λ e. ne e) off h) in
        (get_or-set_other l.distances r s infinity infinity ne ∙ a, λ mark. b (sym (get_or-set_other l.settled r s false false ne) ∙ mark))

pub listed_more : (l : Labels) (rows : List ℕ) (r : ℕ) → r < length l.distances → AreListed l rows → AreListed l (rows ++ r ∷ [])
listed_more l rows r lt listed = record {
  in_range = λ s h. ⊎_elim (λ g. listed.in_range s g) (λ (e : s ≡ r). omega (arith, e, lt)) (among_last s r rows h);
  complete = λ s off. listed.complete s (λ h. off (among_left s rows (r ∷ []) h));
}

-- a row with a distance is listed
pub listed_on : (l : Labels) (rows : List ℕ) (r : ℕ) → AreListed l rows → distance_of l r ≢ infinity → Among r rows
listed_on l rows r listed ne = ⊎_elim (λ h. h) (λ off. absurd (ne (listed.complete r off).0)) (is_among number_same r rows)

next_is : (k : ℕ) → suc k ≡ k + 1
next_is k = omega arith

-- a row is cleared that is read from the list
pub clear_step : (l : Labels) (xs : List ℕ) (k row : ℕ) → k < length xs → row ≡ get_or xs k row → length l.settled ≡ length l.distances → AreListed l (drop k xs) → (row < length l.distances) × AreListed (record l { distances = set l.distances row infinity; settled = set l.settled row false }) (drop (k + 1) xs)
clear_step l xs k row lt e long listed =
    let first : AreListed l (row ∷ drop (k + 1) xs) = subst (AreListed l) (drop-cons xs k row lt ∙ ap (λ n. get_or xs k row ∷ drop n xs) (next_is k) ∙ ap (λ z. z ∷ drop (k + 1) xs) (sym e)) listed in
    (first.in_range row (inl refl), listed_less l (drop (k + 1) xs) row long first)

-- Rows are taken out.

pub not_marked : (marks olds : List Bool) (r : ℕ) (b : Bool) → marks ≡ olds → r < length marks → b ≡ get_or marks r b → b ≡ false → ¬ IsMarked olds r
not_marked marks olds r b e lt read is mark = true≢false (sym mark ∙ ap (λ z. get_or z r false) (sym e) ∙ sym (get_or_read marks r b lt read false) ∙ is)

pub is_marked : (marks olds : List Bool) (r : ℕ) (b : Bool) → marks ≡ olds → r < length marks → b ≡ get_or marks r b → b ≡ true → IsMarked olds r
is_marked marks olds r b e lt read is = ap (λ z. get_or z r false) (sym e) ∙ sym (get_or_read marks r b lt read false) ∙ is

pub takes_nearest : (l k : Labels) (new : List (ℕ × ℕ)) (d r limit : ℕ) → k ≡ record l { waiting = k.waiting } → ((e : ℕ × ℕ) → Among e k.waiting → Among e l.waiting) → ((e : ℕ × ℕ) → Among e l.waiting → IsMarked l.settled e.1 ⊎ Among e k.waiting) → ((e : ℕ × ℕ) → Among e k.waiting ↔ ((e ≡ (d, r)) ⊎ Among e new)) → ((e : ℕ × ℕ) → Among e k.waiting → d ≤ e.0) → ¬ IsMarked l.settled r → d < limit → Takes l (record k { waiting = new }) d r limit
takes_nearest l k new d r limit same holds keeps taken nearest fresh below = record {
  heap = new;
  is = ap (λ (z : Labels). record z { waiting = new }) same;
  new = fresh;
  was = holds (d, r) ((taken (d, r)).1 (inl refl));
  below = below;
  holds = λ e h. (holds e ((taken e).1 (inr h)), nearest e ((taken e).1 (inr h)));
  keeps = λ e h. ⊎_elim (λ mark. inr (inl mark)) (λ g. ⊎_elim (λ is. inl is) (λ n. inr (inr n)) ((taken e).0 g)) (keeps e h);
}

pub skip_keeps : (l k : Labels) (new : List (ℕ × ℕ)) (d r : ℕ) → ((e : ℕ × ℕ) → Among e l.waiting → IsMarked l.settled e.1 ⊎ Among e k.waiting) → ((e : ℕ × ℕ) → Among e k.waiting ↔ ((e ≡ (d, r)) ⊎ Among e new)) → IsMarked l.settled r → (e : ℕ × ℕ) → Among e l.waiting → IsMarked l.settled e.1 ⊎ Among e new
skip_keeps l k new d r keeps taken mark e h = ⊎_elim (λ m. inl m) (λ g. ⊎_elim (λ (is : e ≡ (d, r)). inl (subst (λ (z : ℕ × ℕ). IsMarked l.settled z.1) (sym is) mark)) (λ n. inr n) ((taken e).0 g)) (keeps e h)

pub nearest_beyond : (l k : Labels) (d limit : ℕ) → ((e : ℕ × ℕ) → Among e l.waiting → IsMarked l.settled e.1 ⊎ Among e k.waiting) → ((e : ℕ × ℕ) → Among e k.waiting → d ≤ e.0) → limit ≤ d → AreBeyond l limit
nearest_beyond l k d limit keeps nearest le e h = ⊎_elim (λ m. inl m) (λ g. inr (let low = nearest e g in omega (arith, low, le))) (keeps e h)
