-- Trees as queues, and the places of their columns.
use Rattle.std.proofs.Common.{◌≡◌, ◌≢◌, ◌∙◌, ℕ, suc, ◌+◌, ◌<◌, ◌≤◌, List, [], ◌∷◌, ◌++◌, length, get_or, set, refl, sym, ap, subst, ⊎_elim, arith, length-append, length-set, get_or-set_same, get_or-set_other}
use Rattle.std.proofs.Math.Decide.{dec_lt}
use Rattle.std.proofs.lemmas.List.{get_or_read, length-map}
use Rattle.bip_graph.specs.Matching.{none}
use Rattle.bip_defs.specs.Lists.{Among, AreDistinct}
use Rattle.bip_defs.specs.Queues.{Queue, at, heads}
use Rattle.bip_defs.proofs.Full.{few_below}
use Rattle.bip_defs.proofs.Queues.{at_push, head_at, place_of}
use Rattle.bip_defs.proofs.Sets.{number_same}
use Rattle.least_match.specs.Tree.{IsIndexed, Reached, place_in}

-- the first columns of a queue, and the last one
pub at_last : (q : Queue) (x : ℕ × ℕ) → at (q ++ x ∷ []) (length q) ≡ x
at_last [] x = refl
at_last (y ∷ q) x = at_last q x

-- distinct, since each has its own place
pub indexed_distinct : (places : List ℕ) (q : Queue) → IsIndexed places q → AreDistinct (heads q)
indexed_distinct places q k = from q (λ i j li lj e. sym (k.placed i li).1 ∙ ap (λ c. place_in places c) e ∙ (k.placed j lj).1)
  where
    from : (p : Queue) → ((i j : ℕ) → i < length p → j < length p → (at p i).0 ≡ (at p j).0 → i ≡ j) → AreDistinct (heads p)
    from [] one = tt
    from (x ∷ p) one = (
      λ h. let (i, lt, e) = place_of p x.0 h in let z : 0 ≡ suc i = one 0 (suc i) (omega arith) (omega arith) (sym e) in absurd (omega (arith, z)),
      from p (λ i j li lj e. let z : suc i ≡ suc j = one (suc i) (suc j) (omega arith) (omega arith) e in omega (arith, z)),
    )

indexed_below : (places : List ℕ) (q : Queue) (c : ℕ) → IsIndexed places q → Among c (heads q) → c < length places
indexed_below places q c k h = let (i, lt, e) = place_of q c h in subst (λ x. x < length places) e (k.placed i lt).0

pub indexed_few : (places : List ℕ) (q : Queue) → IsIndexed places q → length q ≤ length places
indexed_few places q k = omega (arith, length-map q (λ (p : ℕ × ℕ). p.0), few_below (length places) (heads q) (indexed_distinct places q k) (λ c h. indexed_below places q c k h))

-- there is room for one column more
pub indexed_room : (places : List ℕ) (q : Queue) (c : ℕ) → IsIndexed places q → c < length places → ¬ Among c (heads q) → length q < length places
indexed_room places q c k lt fresh = omega (arith, length-map q (λ (p : ℕ × ℕ). p.0), few_below (length places) (c ∷ heads q) (fresh, indexed_distinct places q k) (λ d h. ⊎_elim (λ (e : d ≡ c). subst (λ x. x < length places) (sym e) lt) (λ g. indexed_below places q d k g) h))

pub indexed_none : (places : List ℕ) (q : Queue) (c : ℕ) → IsIndexed places q → place_in places c ≡ none → ¬ Among c (heads q)
indexed_none places q c k e h =
    let (i, lt, f) = place_of q c h in
    let z : i ≡ none = sym (k.placed i lt).1 ∙ ap (λ x. place_in places x) f ∙ e in
    omega (arith, z, indexed_few places q k, k.few)

pub indexed_push : (places : List ℕ) (q : Queue) (c p : ℕ) → IsIndexed places q → c < length places → ¬ Among c (heads q) → IsIndexed (set places c (length q)) (q ++ (c, p) ∷ [])
indexed_push places q c p k lt fresh = record {
  few = rw (length-set places c (length q)) k.few;
  placed = λ i l. by i l (dec_lt i (length q));
  back = λ d some. ⊎_elim (λ e. here d e) (λ ne. there d ne some) (number_same d c);
}
  where
    longer : length (q ++ (c, p) ∷ []) ≡ length q + 1
    longer = length-append q ((c, p) ∷ [])

    by : (i : ℕ) → i < length (q ++ (c, p) ∷ []) → Dec (i < length q) → ((at (q ++ (c, p) ∷ []) i).0 < length (set places c (length q))) × (place_in (set places c (length q)) (at (q ++ (c, p) ∷ []) i).0 ≡ i)
    by i l (yes old) =
        let is = at_push q (c, p) i old in
        let b = k.placed i old in
        let apart : (at q i).0 ≢ c = λ e. fresh (subst (λ x. Among x (heads q)) e (head_at q i old)) in
        subst (λ (x : ℕ × ℕ). (x.0 < length (set places c (length q))) × (place_in (set places c (length q)) x.0 ≡ i)) (sym is) (rw (length-set places c (length q)) b.0, get_or-set_other places c (at q i).0 (length q) none apart ∙ b.1)
    by i l (no new) =
        let e : i ≡ length q = omega (arith, longer) in
        let is : at (q ++ (c, p) ∷ []) i ≡ (c, p) = ap (at (q ++ (c, p) ∷ [])) e ∙ at_last q (c, p) in
        subst (λ (x : ℕ × ℕ). (x.0 < length (set places c (length q))) × (place_in (set places c (length q)) x.0 ≡ i)) (sym is) (rw (length-set places c (length q)) lt, get_or-set_same places c (length q) none lt ∙ sym e)

    here : (d : ℕ) → d ≡ c → (place_in (set places c (length q)) d < length (q ++ (c, p) ∷ [])) × ((at (q ++ (c, p) ∷ []) (place_in (set places c (length q)) d)).0 ≡ d)
    here d e =
        let is : place_in (set places c (length q)) d ≡ length q = ap (λ x. place_in (set places c (length q)) x) e ∙ get_or-set_same places c (length q) none lt in
        subst (λ i. (i < length (q ++ (c, p) ∷ [])) × ((at (q ++ (c, p) ∷ []) i).0 ≡ d)) (sym is) (omega (arith, longer), ap (λ (x : ℕ × ℕ). x.0) (at_last q (c, p)) ∙ sym e)

    there : (d : ℕ) → d ≢ c → place_in (set places c (length q)) d ≢ none → (place_in (set places c (length q)) d < length (q ++ (c, p) ∷ [])) × ((at (q ++ (c, p) ∷ []) (place_in (set places c (length q)) d)).0 ≡ d)
    there d ne some =
        let same = get_or-set_other places c d (length q) none ne in
        let b = k.back d (λ e. some (same ∙ e)) in
        subst (λ i. (i < length (q ++ (c, p) ∷ [])) × ((at (q ++ (c, p) ∷ []) i).0 ≡ d)) (sym same) (omega (arith, longer, b.0), ap (λ (x : ℕ × ℕ). x.0) (at_push q (c, p) (place_in places d) b.0) ∙ b.1)

-- the last column of the queue is forgotten
pub indexed_pop : (places : List ℕ) (q : Queue) (c p : ℕ) → IsIndexed places (q ++ (c, p) ∷ []) → IsIndexed (set places c none) q
indexed_pop places q c p k = record {
  few = rw (length-set places c none) k.few;
  placed = λ i lt.
      let b = k.placed i (omega (arith, longer)) in
      let is : at (q ++ (c, p) ∷ []) i ≡ at q i = at_push q (c, p) i lt in
      let col : (at (q ++ (c, p) ∷ []) i).0 ≡ (at q i).0 = ap (λ (x : ℕ × ℕ). x.0) is in
      let in_range : (at q i).0 < length places = subst (λ x. x < length places) col b.0 in
      let place : place_in places (at q i).0 ≡ i = ap (λ x. place_in places x) (sym col) ∙ b.1 in
      let apart : (at q i).0 ≢ c = λ e. let z : i ≡ length q = sym place ∙ ap (λ x. place_in places x) e ∙ last_place in omega (arith, z) in
      (rw (length-set places c none) in_range, get_or-set_other places c (at q i).0 none none apart ∙ place);
  back = λ d some. ⊎_elim (λ e. absurd (some (ap (λ x. place_in (set places c none) x) e ∙ gone))) (λ ne. there d ne some) (number_same d c);
}
  where
    longer : length (q ++ (c, p) ∷ []) ≡ length q + 1
    longer = length-append q ((c, p) ∷ [])

    last : (at (q ++ (c, p) ∷ []) (length q)).0 ≡ c
    last = ap (λ (x : ℕ × ℕ). x.0) (at_last q (c, p))

    last_b : ((at (q ++ (c, p) ∷ []) (length q)).0 < length places) × (place_in places (at (q ++ (c, p) ∷ []) (length q)).0 ≡ length q)
    last_b = k.placed (length q) (omega (arith, longer))

    last_place : place_in places c ≡ length q
    last_place = ap (λ x. place_in places x) (sym last) ∙ last_b.1

    col_in : c < length places
    col_in = subst (λ x. x < length places) last last_b.0

    gone : place_in (set places c none) c ≡ none
    gone = get_or-set_same places c none none col_in

    there : (d : ℕ) → d ≢ c → place_in (set places c none) d ≢ none → (place_in (set places c none) d < length q) × ((at q (place_in (set places c none) d)).0 ≡ d)
    there d ne some =
        let same = get_or-set_other places c d none none ne in
        let b = k.back d (λ e. some (same ∙ e)) in
        let apart : place_in places d ≢ length q = λ e. ne (sym b.1 ∙ ap (λ i. (at (q ++ (c, p) ∷ []) i).0) e ∙ last) in
        let lt : place_in places d < length q = omega (arith, b.0, longer) in
        subst (λ i. (i < length q) × ((at q i).0 ≡ d)) (sym same) (lt, ap (λ (x : ℕ × ℕ). x.0) (sym (at_push q (c, p) (place_in places d) lt)) ∙ b.1)

-- What contracts see.

abbrev pub shown : List ℕ → Queue → Reached
shown places q = record { cols = length places; queue = q }

pub unreached : (places : List ℕ) (q : Queue) (v : Reached) (i c x : ℕ) → IsIndexed places q → shown places q ≡ v → i ≡ c → c < v.cols → x ≡ get_or places i x → x ≡ none → ¬ Among c (heads v.queue)
unreached places q v i c x k seen e lt r z = subst (λ (w : Reached). c < w.cols → ¬ Among c (heads w.queue)) seen (λ within. subst (λ y. ¬ Among y (heads q)) e (indexed_none places q i k (sym (get_or_read places i x (subst (λ y. y < length places) (sym e) within) r none) ∙ z))) lt

-- a column that is new
pub fresh_in : (places : List ℕ) (q : Queue) (v : Reached) (i c : ℕ) → shown places q ≡ v → i ≡ c → c < v.cols → ¬ Among c (heads v.queue) → (i < length places) × (¬ Among i (heads q))
fresh_in places q v i c seen e = subst (λ (w : Reached). c < w.cols → ¬ Among c (heads w.queue) → (i < length places) × (¬ Among i (heads q))) seen (λ lt fresh. subst (λ y. (y < length places) × (¬ Among y (heads q))) (sym e) (lt, fresh))
