-- Trees that grow, and what scanning a column finds.
use Rattle.std.proofs.Common.{◌≡◌, ◌⊎◌, ◌∙◌, ℕ, ◌+◌, ◌<◌, ◌≤◌, List, [], ◌∷◌, ◌++◌, length, take, get_or, refl, sym, ap, subst, inl, inr, ⊎_elim, arith, length-append}
use Rattle.std.proofs.Math.Decide.{dec_lt}
use Rattle.std.proofs.lemmas.List.{append-nil, length-map, take_all, take_more}
use Rattle.bip_defs.specs.Lists.{Among, AreDistinct, Lists}
use Rattle.bip_defs.specs.Matching.{IsMatching, cols_of}
use Rattle.bip_defs.specs.Matrix.{IsEntry, Matrix, Place, cols}
use Rattle.bip_defs.specs.Queues.{IsPrefix, Queue, at, heads}
use Rattle.bip_defs.proofs.Full.{few_below}
use Rattle.bip_defs.proofs.Queues.{at_push, grown_among, grown_at, heads_push}
use Rattle.bip_defs.proofs.Sets.{among_at, among_last, among_right, distinct_last, one_row}
use Rattle.least_match.specs.Classes.{IsOther, IsInTail}
use Rattle.least_match.specs.Trees.{AreSearchTrees, Enters, IsScanned, IsScannedBack, IsTree, LeadsTo, Looks}
use Rattle.least_match.specs.Outcomes.{AreScanned, AreScannedBack}
use Rattle.least_match.proofs.TreeLemmas.{at_last}

-- Trees with one column more.

longer : (q : Queue) (x : ℕ × ℕ) → length (q ++ x ∷ []) ≡ length q + 1
longer q x = length-append q (x ∷ [])

-- what holds of the place of each column of a queue but the first, and of one more column, holds of all
each_place : (P : Queue → ℕ → Type 0) (q : Queue) (x : ℕ × ℕ) → ((i : ℕ) → i < length q → P q i → P (q ++ x ∷ []) i) → ((i : ℕ) → 0 < i → i < length q → P q i) → (P (q ++ x ∷ []) (length q)) → (i : ℕ) → 0 < i → i < length (q ++ x ∷ []) → P (q ++ x ∷ []) i
each_place P q x keep old last i some lt = by (dec_lt i (length q))
  where
    by : Dec (i < length q) → P (q ++ x ∷ []) i
    by (yes l) = keep i l (old i some l)
    by (no nl) = let e : length q ≡ i = omega (arith, longer q x) in subst (P (q ++ x ∷ [])) e last

tree_more : (a : Matrix) (m : List Place) (classes : List ℕ) (j first c p : ℕ) (q : Queue) → IsTree a m classes j first q → IsInTail a classes j c → Among c (cols_of m) → ¬ Among c (heads q) → p < length q → IsTree a m classes j first (q ++ (c, p) ∷ [])
tree_more a m classes j first c p q t in_tail matched fresh lt = record {
  some = let some = t.some in omega (arith, longer q (c, p));
  root = ap (λ (x : ℕ × ℕ). x.0) (at_push q (c, p) 0 t.some) ∙ t.root;
  tail = λ d h. ⊎_elim (λ g. t.tail d g) (λ e. subst (IsInTail a classes j) (sym e) in_tail) (is_old d h);
  matched = λ d h. ⊎_elim (λ g. t.matched d g) (λ e. subst (λ x. Among x (cols_of m)) (sym e) matched) (is_old d h);
  distinct = subst AreDistinct (sym (heads_push q c p)) (distinct_last (heads q) c t.distinct fresh);
  behind = each_place (λ (z : Queue) i. (at z i).1 < i) q (c, p) (λ i l g. subst (λ (x : ℕ × ℕ). x.1 < i) (sym (at_push q (c, p) i l)) g) t.behind (subst (λ (x : ℕ × ℕ). x.1 < length q) (sym (at_last q (c, p))) lt);
}
  where
    is_old : (d : ℕ) → Among d (heads (q ++ (c, p) ∷ [])) → Among d (heads q) ⊎ (d ≡ c)
    is_old d h = among_last d c (heads q) (subst (Among d) (heads_push q c p) h)

-- a relation of each column with its parent
abbrev Related : (ℕ → ℕ → Type 0) → Queue → ℕ → Type 0
Related R q i = ((at q i).1 < i) × R (at q (at q i).1).0 (at q i).0

related_more : (R : ℕ → ℕ → Type 0) (q : Queue) (c p : ℕ) → ((i : ℕ) → 0 < i → i < length q → Related R q i) → p < length q → R (at q p).0 c → (i : ℕ) → 0 < i → i < length (q ++ (c, p) ∷ []) → R (at (q ++ (c, p) ∷ []) (at (q ++ (c, p) ∷ []) i).1).0 (at (q ++ (c, p) ∷ []) i).0
related_more R q c p old lt new i some within = (each_place (Related R) q (c, p) keep old last i some within).1
  where
    keep : (k : ℕ) → k < length q → Related R q k → Related R (q ++ (c, p) ∷ []) k
    keep k l g =
        let here = at_push q (c, p) k l in
        let there = at_push q (c, p) (at q k).1 (let h = g.0 in omega arith) in
        subst (λ (x : ℕ × ℕ). (x.1 < k) × R (at (q ++ (c, p) ∷ []) x.1).0 x.0) (sym here) (g.0, subst (λ (x : ℕ × ℕ). R x.0 (at q k).0) (sym there) g.1)

    last : Related R (q ++ (c, p) ∷ []) (length q)
    last = subst (λ (x : ℕ × ℕ). (x.1 < length q) × R (at (q ++ (c, p) ∷ []) x.1).0 x.0) (sym (at_last q (c, p))) (lt, subst (λ (x : ℕ × ℕ). R x.0 c) (sym (at_push q (c, p) p lt)) new)

pub forward_more : (a : Matrix) (m : List Place) (classes : List ℕ) (j d c p : ℕ) (f f2 b : Queue) → AreSearchTrees a m classes j d f b → Enters c p f f2 → ¬ Among c (heads b) → IsInTail a classes j c → Among c (cols_of m) → p < length f → LeadsTo a m (at f p).0 c → AreSearchTrees a m classes j d f2 b
forward_more a m classes j d c p f f2 b t (inl e) off in_tail matched lt leads = subst (λ (z : Queue). AreSearchTrees a m classes j d z b) (sym e.1) t
forward_more a m classes j d c p f f2 b t (inr e) off in_tail matched lt leads = subst (λ (z : Queue). AreSearchTrees a m classes j d z b) (sym e.1) (record {
  forward_tree = tree_more a m classes j d c p f t.forward_tree in_tail matched e.0 lt;
  forward_led = related_more (LeadsTo a m) f c p (λ i some l. (t.forward_tree.behind i some l, t.forward_led i some l)) lt leads;
  backward_tree = t.backward_tree;
  backward_leads = t.backward_leads;
  apart = λ x h. ⊎_elim (λ g. t.apart x g) (λ e. subst (λ y. ¬ Among y (heads b)) (sym e) off) (among_last x c (heads f) (subst (Among x) (heads_push f c p) h));
})

pub backward_more : (a : Matrix) (m : List Place) (classes : List ℕ) (j d c p : ℕ) (f b b2 : Queue) → AreSearchTrees a m classes j d f b → Enters c p b b2 → ¬ Among c (heads f) → IsInTail a classes j c → Among c (cols_of m) → p < length b → LeadsTo a m c (at b p).0 → AreSearchTrees a m classes j d f b2
backward_more a m classes j d c p f b b2 t (inl e) off in_tail matched lt leads = subst (λ (z : Queue). AreSearchTrees a m classes j d f z) (sym e.1) t
backward_more a m classes j d c p f b b2 t (inr e) off in_tail matched lt leads = subst (λ (z : Queue). AreSearchTrees a m classes j d f z) (sym e.1) (record {
  forward_tree = t.forward_tree;
  forward_led = t.forward_led;
  backward_tree = tree_more a m classes j j c p b t.backward_tree in_tail matched e.0 lt;
  backward_leads = related_more (λ x y. LeadsTo a m y x) b c p (λ i some l. (t.backward_tree.behind i some l, t.backward_leads i some l)) lt leads;
  apart = λ x h g. ⊎_elim (λ k. t.apart x h k) (λ e. off (subst (λ y. Among y (heads f)) e h)) (among_last x c (heads b) (subst (Among x) (heads_push b c p) g));
})

-- Queues that grow.

pub grows_entered : (c p : ℕ) (q q2 : Queue) → Enters c p q q2 → IsPrefix q q2
grows_entered c p q q2 (inl e) = ([], e.1 ∙ sym (append-nil q))
grows_entered c p q q2 (inr e) = ((c, p) ∷ [], e.1)

pub entered_among : (c p : ℕ) (q q2 : Queue) → Enters c p q q2 → Among c (heads q2)
entered_among c p q q2 (inl e) = subst (λ (z : Queue). Among c (heads z)) (sym e.1) e.0
entered_among c p q q2 (inr e) = subst (λ (z : Queue). Among c (heads z)) (sym e.1) (subst (Among c) (sym (heads_push q c p)) (among_right c (heads q) (c ∷ []) (inl refl)))

-- The rows of a column, one after the other.

-- these rows are matched, to columns of the tree or to others
abbrev pub AreSeen : List Place → List ℕ → ℕ → Queue → List ℕ → Type 0
AreSeen m classes j q rows = (r : ℕ) → Among r rows → (d : ℕ) × Among (r, d) m × (IsOther classes j d ⊎ Among d (heads q))

-- a fact of the first k of a list, and of the next one
pub each_more : (P : ℕ → Type 0) (xs : List ℕ) (k x : ℕ) → ((y : ℕ) → Among y (take k xs) → P y) → k < length xs → get_or xs k 0 ≡ x → P x → (y : ℕ) → Among y (take (k + 1) xs) → P y
each_more P xs k x old lt e new y h = ⊎_elim (λ g. old y g) (λ g. subst P (sym (g ∙ e)) new) (among_last y (get_or xs k 0) (take k xs) (subst (Among y) (take_more xs k 0 lt) h))

pub seen_grown : (m : List Place) (classes : List ℕ) (j : ℕ) (q q2 : Queue) (rows : List ℕ) → AreSeen m classes j q rows → IsPrefix q q2 → AreSeen m classes j q2 rows
seen_grown m classes j q q2 rows seen g r h = let (d, p, s) = seen r h in (d, p, ⊎_elim (λ o. inl o) (λ on. inr (grown_among q q2 d g on)) s)

pub seen_scanned : (a : Matrix) (m : List Place) (classes : List ℕ) (j c k : ℕ) (q : Queue) (rows : List ℕ) → AreSeen m classes j q (take k rows) → length rows ≤ k → Lists (λ r. IsEntry a r c) rows → IsScanned a m classes j q c
seen_scanned a m classes j c k q rows seen all listed r e = seen r (subst (Among r) (sym (take_all k rows all)) (listed.complete r e))

-- these columns are of the tree or others
abbrev pub AreSeenBack : List ℕ → ℕ → Queue → List ℕ → Type 0
AreSeenBack classes j q found = (c : ℕ) → Among c found → IsOther classes j c ⊎ Among c (heads q)

pub seen_grown_back : (classes : List ℕ) (j : ℕ) (q q2 : Queue) (found : List ℕ) → AreSeenBack classes j q found → IsPrefix q q2 → AreSeenBack classes j q2 found
seen_grown_back classes j q q2 found seen g c h = ⊎_elim (λ o. inl o) (λ on. inr (grown_among q q2 c g on)) (seen c h)

pub seen_scanned_back : (a : Matrix) (m : List Place) (classes : List ℕ) (j d row k : ℕ) (q : Queue) (found : List ℕ) → IsMatching a m → Among (row, d) m → AreSeenBack classes j q (take k found) → length found ≤ k → Lists (λ c. IsEntry a row c) found → IsScannedBack a m classes j q d
seen_scanned_back a m classes j d row k q found matching p seen all listed r c h e = seen c (subst (Among c) (sym (take_all k found all)) (listed.complete c (subst (λ x. IsEntry a x c) (one_row m matching.cols_differ r row d h p) e)))

-- a row's mate leads: the column has an entry in the row
pub leads_by : (a : Matrix) (m : List Place) (r c d : ℕ) → IsMatching a m → Among (r, d) m → IsEntry a r c → LeadsTo a m c d
leads_by a m r c d k p e s q = subst (λ x. IsEntry a x c) (one_row m k.cols_differ r s d p q) e

-- What looking at a column does to the trees.

pub looks_prefix : (a : Matrix) (m : List Place) (classes : List ℕ) (j c p : ℕ) (q q2 other : Queue) → Looks a m classes j c p q q2 other → IsPrefix q q2
looks_prefix a m classes j c p q q2 other (inl o) = ([], o.1 ∙ sym (append-nil q))
looks_prefix a m classes j c p q q2 other (inr l) = grows_entered c p q q2 l.3

pub looks_seen : (a : Matrix) (m : List Place) (classes : List ℕ) (j c p : ℕ) (q q2 other : Queue) → Looks a m classes j c p q q2 other → IsOther classes j c ⊎ Among c (heads q2)
looks_seen a m classes j c p q q2 other (inl o) = inl o.0
looks_seen a m classes j c p q q2 other (inr l) = inr (entered_among c p q q2 l.3)

pub looks_forward : (a : Matrix) (m : List Place) (classes : List ℕ) (j d c p : ℕ) (f f2 b : Queue) → AreSearchTrees a m classes j d f b → Looks a m classes j c p f f2 b → p < length f → LeadsTo a m (at f p).0 c → AreSearchTrees a m classes j d f2 b
looks_forward a m classes j d c p f f2 b t (inl o) lt leads = subst (λ (z : Queue). AreSearchTrees a m classes j d z b) (sym o.1) t
looks_forward a m classes j d c p f f2 b t (inr l) lt leads = forward_more a m classes j d c p f f2 b t l.3 l.2 l.0 l.1 lt leads

pub looks_back : (a : Matrix) (m : List Place) (classes : List ℕ) (j d c p : ℕ) (f b b2 : Queue) → AreSearchTrees a m classes j d f b → Looks a m classes j c p b b2 f → p < length b → LeadsTo a m c (at b p).0 → AreSearchTrees a m classes j d f b2
looks_back a m classes j d c p f b b2 t (inl o) lt leads = subst (λ (z : Queue). AreSearchTrees a m classes j d f z) (sym o.1) t
looks_back a m classes j d c p f b b2 t (inr l) lt leads = backward_more a m classes j d c p f b b2 t l.3 l.2 l.0 l.1 lt leads

-- what was scanned stays so
pub scanned_grown : (a : Matrix) (m : List Place) (classes : List ℕ) (j n : ℕ) (q q2 : Queue) → IsPrefix q q2 → n ≤ length q → AreScanned a m classes j q n → AreScanned a m classes j q2 n
scanned_grown a m classes j n q q2 g le old i lt = subst (λ (x : ℕ × ℕ). IsScanned a m classes j q2 x.0) (sym (grown_at q q2 i g (omega arith))) (λ r e. let (d, p, s) = old i lt r e in (d, p, ⊎_elim (λ o. inl o) (λ on. inr (grown_among q q2 d g on)) s))

pub scanned_grown_back : (a : Matrix) (m : List Place) (classes : List ℕ) (j n : ℕ) (q q2 : Queue) → IsPrefix q q2 → n ≤ length q → AreScannedBack a m classes j q n → AreScannedBack a m classes j q2 n
scanned_grown_back a m classes j n q q2 g le old i lt = subst (λ (x : ℕ × ℕ). IsScannedBack a m classes j q2 x.0) (sym (grown_at q q2 i g (omega arith))) (λ r c h e. ⊎_elim (λ o. inl o) (λ on. inr (grown_among q q2 c g on)) (old i lt r c h e))

-- a tree has no more columns than the matrix
pub tree_few : (a : Matrix) (m : List Place) (classes : List ℕ) (j first : ℕ) (q : Queue) → IsTree a m classes j first q → length q ≤ cols a
tree_few a m classes j first q t = omega (arith, length-map q (λ (p : ℕ × ℕ). p.0), few_below (cols a) (heads q) t.distinct (λ c h. (t.tail c h).within))

-- the element that is read at a place of a list
pub item_among : (xs : List ℕ) (k x : ℕ) → x ≡ get_or xs k x → k < length xs → Among x xs
item_among xs k x is lt = subst (λ y. Among y xs) (sym is) (among_at xs k x lt)

-- a row that is read from the list of a column
pub row_entry : (a : Matrix) (rows : List ℕ) (k x c d : ℕ) → Lists (λ r. IsEntry a r c) rows → x ≡ get_or rows k x → k < length rows → c ≡ d → IsEntry a x d
row_entry a rows k x c d listed is lt here = subst (IsEntry a x) here (listed.sound x (item_among rows k x is lt))

-- a column that is read from the list of a row
pub col_leads : (a : Matrix) (m : List Place) (found : List ℕ) (k x row c d : ℕ) → IsMatching a m → Among (row, c) m → Lists (λ z. IsEntry a row z) found → x ≡ get_or found k x → k < length found → c ≡ d → LeadsTo a m x d
col_leads a m found k x row c d matching p listed is lt here = subst (LeadsTo a m x) here (leads_by a m row x c matching p (listed.sound x (item_among found k x is lt)))

-- the column at a place that was read before the queue grew
pub col_stays : (q q2 : Queue) (place : ℕ) (x : ℕ × ℕ) → IsPrefix q q2 → place < length q → x ≡ at q place → x.0 ≡ (at q2 place).0
col_stays q q2 place x g lt e = ap (λ (y : ℕ × ℕ). y.0) (e ∙ sym (grown_at q q2 place g lt))
