-- Labels become the numbers of their classes, and at the end the numbers of components.
use Rattle.std.proofs.Common.{◌≡◌, ◌≢◌, ◌⊎◌, ◌∙◌, ℕ, zero, suc, ◌+◌, ◌<◌, ◌≤◌, List, [], ◌∷◌, length, map, get_or, set, replicate, refl, sym, ap, subst, inl, inr, arith, length-set, get_or-set_same, get_or-set_other}
use Rattle.std.proofs.lemmas.List.{get_or-map, get_or-replicate, length-map, length-replicate}
use Rattle.bip_defs.specs.Blocks.{ColAt, RowAt, Vertex}
use Rattle.bip_defs.specs.ConnectedComponents.{IsHorizontalVertex, Joined, alone}
use Rattle.bip_defs.specs.Lists.{Among, IsRising, Lists}
use Rattle.bip_defs.specs.Matrix.{IsEntry, Matrix, cols}
use Rattle.bip_defs.specs.Parts.{IsHorizontalCol}
use Rattle.bip_defs.proofs.Connected.{joined_back, joined_on}
use Rattle.bip_defs.proofs.Sets.{among_at, among_map_back, below_each_from, below_each_sound, number_same, place_among, rising_order}
use Rattle.bip_graph.specs.Matching.{none}
use Rattle.outer_components.specs.Classes.{AreClasses}
use Rattle.outer_components.specs.Contacts.{AreEnds, HasNoContacts, IsAlong, IsContact, Linked, linked_on, linked_self}
use Rattle.outer_components.specs.Labels.{AreLabels, AreRenamed, FitLabels, KeepsLabels}
use Rattle.outer_components.specs.Numbers.{AreNumbers, IsOfRoot}
use Rattle.outer_components.specs.declared.contacts.Contacts.{Contacts}

-- the later of two places has the greater number
pub rising_at : (xs : List ℕ) (i j : ℕ) → IsRising xs → i < j → j < length xs → get_or xs i 0 < get_or xs j 0
rising_at [] i j rising lt within = absurd (omega (arith, within))
rising_at (x ∷ xs) zero zero rising lt within = absurd (omega (arith, lt))
rising_at (x ∷ xs) zero (suc j) rising lt within = below_each_sound x (get_or xs j 0) xs rising.0 (among_at xs j 0 (omega (arith, within)))
rising_at (x ∷ xs) (suc i) zero rising lt within = absurd (omega (arith, lt))
rising_at (x ∷ xs) (suc i) (suc j) rising lt within = rising_at xs i j rising.1 (omega (arith, lt)) (omega (arith, within))

rising_picked : (xs ks : List ℕ) → IsRising xs → IsRising ks → ((k : ℕ) → Among k ks → k < length xs) → IsRising (map (λ k. get_or xs k 0) ks)
rising_picked xs [] rising up within = tt
rising_picked xs (k ∷ ks) rising up within = (below_each_from (get_or xs k 0) (map (λ j. get_or xs j 0) ks) later, rising_picked xs ks rising up.1 (λ j on. within j (inr on)))
  where
    later : (y : ℕ) → Among y (map (λ j. get_or xs j 0) ks) → get_or xs k 0 < y
    later y h =
        let (j, on, is) = among_map_back (λ i. get_or xs i 0) y ks h in
        let more = rising_at xs k j rising (below_each_sound k j ks up.0 on) (within j (inr on)) in
        omega (arith, more, is)

-- Nothing was labelled.

no_contacts : (c : Contacts) (l k : ℕ) → HasNoContacts c → ¬ IsContact c l k
no_contacts c l k empty (i, (lt, e), f) = absurd (let none_there = ap length empty.0 in omega (arith, lt, none_there))

no_ends : (c : Contacts) → HasNoContacts c → AreEnds c
no_ends c empty = record {
  long = ap length empty.1 ∙ sym (ap length empty.0);
  first = λ i lt. absurd (let none_there = ap length empty.0 in omega (arith, lt, none_there));
  second = λ i lt. absurd (let none_there = ap length empty.0 in omega (arith, lt, none_there));
}

pub labels_start : (a : Matrix) (list : List ℕ) (c : Contacts) (rs cs : List ℕ) → Lists (IsHorizontalCol a) list → c.count ≡ 0 → HasNoContacts c → rs ≡ replicate a.rows none → cs ≡ replicate (cols a) none → AreLabels a list 0 c rs cs
labels_start a list c rs cs lists zero_labels empty rows_are cols_are = record {
  roots = [];
  count_is = sym zero_labels;
  few = omega (arith, zero_labels);
  small = omega (arith, zero_labels);
  columns = lists;
  rising = tt;
  root = λ l lt. absurd (omega (arith, lt, zero_labels));
  later = λ l i lt. absurd (omega (arith, lt, zero_labels));
  long_rows = ap length rows_are ∙ length-replicate a.rows none;
  long_cols = ap length cols_are ∙ length-replicate (cols a) none;
  ends = no_ends c empty;
  row = λ r lt ne. absurd (ne (ap (λ z. get_or z r 0) rows_are ∙ get_or-replicate a.rows r none 0 lt));
  col = λ j lt ne. absurd (ne (ap (λ z. get_or z j 0) cols_are ∙ get_or-replicate (cols a) j none 0 lt));
  contact = λ l k t. absurd (no_contacts c l k empty t);
  done = λ i lt. absurd (omega (arith, lt));
  entry = λ i r lt. absurd (omega (arith, lt));
}

-- the labels are those that were given
pub labels_fit : (a : Matrix) (list : List ℕ) (at : ℕ) (c : Contacts) (rs cs : List ℕ) → AreLabels a list at c rs cs → FitLabels c rs cs
labels_fit a list at c rs cs x = record {
  ends = x.ends;
  row = λ r lt ne. let low = (x.row r (let l = x.long_rows in omega (arith, lt, l)) ne).0 in let e = x.count_is in omega (arith, low, e);
  col = λ j lt ne. let low = (x.col j (let l = x.long_cols in omega (arith, lt, l)) ne).0.0 in let e = x.count_is in omega (arith, low, e);
}

-- Classes for labels.

module _ (c : Contacts) (count : ℕ) (numbers rs cs rs2 cs2 : List ℕ) (d : Contacts) (k : AreClasses c count numbers) (rows : AreRenamed numbers rs rs2) (columns : AreRenamed numbers cs cs2) (count_is : d.count ≡ count) (empty : HasNoContacts d) (a : Matrix) (list : List ℕ) (at : ℕ) (x : AreLabels a list at c rs cs) where
  P : Vertex → Type 0
  P = IsHorizontalVertex a

  root : ℕ → ℕ
  root l = get_or x.roots l 0

  roots2 : List ℕ
  roots2 = map (λ l. get_or x.roots l 0) k.firsts

  root_at : (j : ℕ) → j < count → get_or roots2 j 0 ≡ root (get_or k.firsts j 0)
  unfolding roots2 root
  root_at j lt = get_or-map (λ l. get_or x.roots l 0) k.firsts j 0 0 (let e = k.count_is in omega (arith, lt, e))

  long2 : length roots2 ≡ count
  unfolding roots2
  long2 = length-map k.firsts (λ l. get_or x.roots l 0) ∙ k.count_is

  low_first : (l : ℕ) → Among l k.firsts → l < length x.roots
  low_first l on = let (j, lt, is) = place_among l 0 k.firsts on in let low = (k.first j (let e = k.count_is in omega (arith, lt, e))).0 in let e = x.count_is in omega (arith, low, is, e)

  chain : {l j : ℕ} → Linked c l j → Joined a P (ColAt (root l)) (ColAt (root j))
  unfolding P root
  chain linked_self = alone
  chain (linked_on {j = j} {k = m} y (inl t)) = joined_on a (IsHorizontalVertex a) (chain y) (x.contact j m t)
  chain (linked_on {j = j} {k = m} y (inr t)) = joined_on a (IsHorizontalVertex a) (chain y) (joined_back a (IsHorizontalVertex a) (x.contact m j t))

  -- what has a label has its number
  of_root : (l n : ℕ) (v : Vertex) → IsOfRoot a x.roots l v → n ≡ get_or numbers l 0 → IsOfRoot a roots2 n v
  unfolding P root
  of_root l n v (lt, y) e =
      let low : l < c.count = (let same = x.count_is in omega (arith, lt, same)) in
      let less = k.number l low in
      rw e (
        (let same = long2 in omega (arith, less, same)),
        subst (λ z. Joined a (IsHorizontalVertex a) (ColAt z) v) (sym (root_at (get_or numbers l 0) less)) (joined_on a (IsHorizontalVertex a) (chain (k.linked l low)) y),
      )

  had : (olds news : List ℕ) → AreRenamed numbers olds news → (v : ℕ) → get_or news v 0 ≢ none → get_or olds v 0 ≢ none
  had olds news r v ne e = ne (r.none_stays v e)

  row2 : (r : ℕ) → r < a.rows → get_or rs2 r 0 ≢ none → IsOfRoot a roots2 (get_or rs2 r 0) (RowAt r)
  row2 r lt ne =
      let old = had rs rs2 rows r ne in
      of_root (get_or rs r 0) (get_or rs2 r 0) (RowAt r) (x.row r lt old) (rows.label r (let l = x.long_rows in omega (arith, lt, l)) old)

  col_label : (j : ℕ) → j < cols a → get_or cs j 0 ≢ none → get_or cs2 j 0 ≡ get_or numbers (get_or cs j 0) 0
  col_label j lt old = columns.label j (let l = x.long_cols in omega (arith, lt, l)) old

  col2 : (j : ℕ) → j < cols a → get_or cs2 j 0 ≢ none → IsOfRoot a roots2 (get_or cs2 j 0) (ColAt j) × (get_or roots2 (get_or cs2 j 0) 0 ≤ j)
  unfolding root
  col2 j lt ne =
      let old = had cs cs2 columns j ne in
      let is = col_label j lt old in
      let (of, le) = x.col j lt old in
      let low : get_or cs j 0 < c.count = (let same = x.count_is in let less = of.0 in omega (arith, less, same)) in
      let least = k.least (get_or cs j 0) low in
      let order = rising_order x.roots x.rising (get_or k.firsts (get_or numbers (get_or cs j 0) 0) 0) (get_or cs j 0) least of.0 in
      let there = root_at (get_or numbers (get_or cs j 0) 0) (k.number (get_or cs j 0) low) in
      (of_root (get_or cs j 0) (get_or cs2 j 0) (ColAt j) of is, rw is (omega (arith, le, order, there)))

  root2 : (l : ℕ) → l < count → IsHorizontalCol a (get_or roots2 l 0) × (get_or cs2 (get_or roots2 l 0) 0 ≡ l)
  unfolding root
  root2 l lt =
      let (low, is) = k.first l lt in
      let (h, label) = x.root (get_or k.firsts l 0) low in
      let some : get_or cs (get_or x.roots (get_or k.firsts l 0) 0) 0 ≢ none = (λ e. (let small = x.small in omega (arith, e, label, low, small))) in
      rw (root_at l lt) (h, col_label (get_or x.roots (get_or k.firsts l 0) 0) h.0 some ∙ ap (λ z. get_or numbers z 0) label ∙ is)

  at_col : (i : ℕ) → i < length list → get_or list i 0 < cols a
  at_col i within = (x.columns.sound (get_or list i 0) (among_at list i 0 within)).0

  numbered : (v : ℕ) → v < c.count → get_or numbers v 0 ≢ none
  numbered v lt e = let less = k.number v lt in let few = k.few in let small = x.small in omega (arith, less, few, small, e)

  pub merged_labels : AreLabels a list at d rs2 cs2
  unfolding root roots2
  merged_labels = record {
    roots = roots2;
    count_is = long2 ∙ sym count_is;
    few = let f = x.few in let g = k.few in omega (arith, f, g, count_is);
    small = let f = x.small in let g = k.few in omega (arith, f, g, count_is);
    columns = x.columns;
    rising = rising_picked x.roots k.firsts x.rising k.rising low_first;
    root = λ l lt. root2 l (omega (arith, lt, count_is));
    later = λ l i lt le within. let less : l < count = omega (arith, lt, count_is) in let low = (k.first l less).0 in let up = x.later (get_or k.firsts l 0) i low le within in let there = root_at l less in omega (arith, up, there);
    long_rows = rows.long ∙ x.long_rows;
    long_cols = columns.long ∙ x.long_cols;
    ends = no_ends d empty;
    row = row2;
    col = col2;
    contact = λ l j t. absurd (no_contacts d l j empty t);
    done = λ i lt within. done i lt within;
    entry = λ i r lt within e. entry i r lt within e;
  }
    where
      done : (i : ℕ) → i < at → i < length list → get_or cs2 (get_or list i 0) 0 ≢ none
      done i lt within =
          let old = x.done i lt within in
          let in_range = at_col i within in
          let low = (x.col (get_or list i 0) in_range old).0.0 in
          λ e. numbered (get_or cs (get_or list i 0) 0) (let same = x.count_is in omega (arith, low, same)) (sym (col_label (get_or list i 0) in_range old) ∙ e)

      entry : (i r : ℕ) → i < at → i < length list → IsEntry a r (get_or list i 0) → (get_or rs2 r 0 ≢ none) × ((f : ℕ → ℕ) → IsAlong f d → f (get_or rs2 r 0) ≡ f (get_or cs2 (get_or list i 0) 0))
      entry i r lt within e =
          let (old, same) = x.entry i r lt within e in
          let is = rows.label r (let l = x.long_rows in let m = e.0 in omega (arith, l, m)) old in
          let low = (x.row r e.0 old).0 in
          let there = col_label (get_or list i 0) (at_col i within) (x.done i lt within) in (
            λ z. numbered (get_or rs r 0) (let long = x.count_is in omega (arith, low, long)) (sym is ∙ z),
            λ f z. ap f (is ∙ same (λ l. get_or numbers l 0) k.same ∙ sym there),
          )

pub merged : (c : Contacts) (count : ℕ) (numbers rs cs rs2 cs2 : List ℕ) (d : Contacts) → AreClasses c count numbers → AreRenamed numbers rs rs2 → AreRenamed numbers cs cs2 → d.count ≡ count → HasNoContacts d → KeepsLabels c rs cs d rs2 cs2
merged c count numbers rs cs rs2 cs2 d k rows columns count_is empty a list at x = merged_labels c count numbers rs cs rs2 cs2 d k rows columns count_is empty a list at x

-- All columns were gone over, and no contact is left.

pub labels_end : (a : Matrix) (list : List ℕ) (at : ℕ) (c : Contacts) (rs cs : List ℕ) → AreLabels a list at c rs cs → HasNoContacts c → length list ≤ at → AreNumbers a c.count rs cs
labels_end a list at c rs cs x empty all = record {
  roots = x.roots;
  count_is = x.count_is;
  rising = x.rising;
  root = x.root;
  long_rows = x.long_rows;
  long_cols = x.long_cols;
  row = λ r lt less. x.row r lt (λ e. (let small = x.small in omega (arith, e, less, small)));
  col = λ j lt less. x.col j lt (λ e. (let small = x.small in omega (arith, e, less, small)));
  numbered = λ j h. let (i, lt, is) = place_among j 0 list (x.columns.complete j h) in
      let some : get_or cs j 0 ≢ none = subst (λ z. get_or cs z 0 ≢ none) is (x.done i (omega (arith, lt, all)) lt) in
      let low = (x.col j h.0 some).0.0 in let e = x.count_is in omega (arith, low, e);
  same = λ r j h e. let (i, lt, is) = place_among j 0 list (x.columns.complete j h) in
      subst (λ z. get_or rs r 0 ≡ get_or cs z 0) is ((x.entry i r (omega (arith, lt, all)) lt (subst (IsEntry a r) (sym is) e)).1 (λ z. z) (λ l k t. absurd (no_contacts c l k empty t)));
}

-- Renaming.

-- the labels before a place have their numbers, and the others stand as they were
pub record AreRenaming (numbers olds : List ℕ) (at : ℕ) (news : List ℕ) : Type 0 where
  pub long : length news ≡ length olds
  pub done : (v : ℕ) → v < at → get_or olds v 0 ≢ none → get_or news v 0 ≡ get_or numbers (get_or olds v 0) 0
  pub none_stays : (v : ℕ) → get_or olds v 0 ≡ none → get_or news v 0 ≡ none
  pub rest : (v : ℕ) → at ≤ v → get_or news v 0 ≡ get_or olds v 0

pub renaming_start : (numbers olds : List ℕ) → AreRenaming numbers olds 0 olds
renaming_start numbers olds = record { long = refl; done = λ v lt. absurd (omega (arith, lt)); none_stays = λ v e. e; rest = λ v le. refl }

-- the place has no label
pub renaming_none : (numbers olds : List ℕ) (at : ℕ) (news : List ℕ) → AreRenaming numbers olds at news → get_or news at 0 ≡ none → AreRenaming numbers olds (at + 1) news
renaming_none numbers olds at news x e = record {
  long = x.long;
  done = λ v lt ne. done v lt ne (number_same v at);
  none_stays = x.none_stays;
  rest = λ v le. x.rest v (omega (arith, le));
}
  where
    done : (v : ℕ) → v < at + 1 → get_or olds v 0 ≢ none → (v ≡ at) ⊎ (v ≢ at) → get_or news v 0 ≡ get_or numbers (get_or olds v 0) 0
    done v lt ne (inl f) = absurd (ne (sym (x.rest v (omega (arith, f))) ∙ ap (λ z. get_or news z 0) f ∙ e))
    done v lt ne (inr off) = x.done v (omega (arith, lt, off)) ne

pub renaming_more : (numbers olds : List ℕ) (at : ℕ) (news : List ℕ) → AreRenaming numbers olds at news → at < length news → get_or news at 0 ≢ none → AreRenaming numbers olds (at + 1) (set news at (get_or numbers (get_or news at 0) 0))
renaming_more numbers olds at news x within some = record {
  long = length-set news at (get_or numbers (get_or news at 0) 0) ∙ x.long;
  done = λ v lt ne. done v lt ne (number_same v at);
  none_stays = λ v e. none_stays v e (number_same v at);
  rest = λ v le. there v (omega (arith, le)) ∙ x.rest v (omega (arith, le));
}
  where
    same : get_or news at 0 ≡ get_or olds at 0
    same = x.rest at (omega arith)

    there : (v : ℕ) → v ≢ at → get_or (set news at (get_or numbers (get_or news at 0) 0)) v 0 ≡ get_or news v 0
    there v ne = get_or-set_other news at v (get_or numbers (get_or news at 0) 0) 0 ne

    here : get_or (set news at (get_or numbers (get_or news at 0) 0)) at 0 ≡ get_or numbers (get_or olds at 0) 0
    here = get_or-set_same news at (get_or numbers (get_or news at 0) 0) 0 within ∙ ap (λ z. get_or numbers z 0) same

    done : (v : ℕ) → v < at + 1 → get_or olds v 0 ≢ none → (v ≡ at) ⊎ (v ≢ at) → get_or (set news at (get_or numbers (get_or news at 0) 0)) v 0 ≡ get_or numbers (get_or olds v 0) 0
    done v lt ne (inl e) = rw e here
    done v lt ne (inr off) = there v off ∙ x.done v (omega (arith, lt, off)) ne

    none_stays : (v : ℕ) → get_or olds v 0 ≡ none → (v ≡ at) ⊎ (v ≢ at) → get_or (set news at (get_or numbers (get_or news at 0) 0)) v 0 ≡ none
    none_stays v e (inl f) = absurd (some (same ∙ ap (λ z. get_or olds z 0) (sym f) ∙ e))
    none_stays v e (inr off) = there v off ∙ x.none_stays v e

pub renaming_end : (numbers olds : List ℕ) (at : ℕ) (news : List ℕ) → AreRenaming numbers olds at news → length olds ≤ at → AreRenamed numbers olds news
renaming_end numbers olds at news x all = record { long = x.long; label = λ v lt ne. x.done v (omega (arith, lt, all)) ne; none_stays = x.none_stays }

-- a label that is to be renamed has a number
pub renaming_read : (numbers olds : List ℕ) (at : ℕ) (news : List ℕ) → AreRenaming numbers olds at news → ((v : ℕ) → v < length olds → get_or olds v 0 ≢ none → get_or olds v 0 < length numbers) → at < length news → get_or news at 0 ≢ none → get_or news at 0 < length numbers
renaming_read numbers olds at news x below lt some =
    let same = x.rest at (omega arith) in
    let l = x.long in
    let low = below at (omega (arith, lt, l)) (λ e. some (same ∙ e)) in
    omega (arith, low, same)
