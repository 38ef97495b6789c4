-- What is known of labels after one column more.
use Rattle.std.proofs.Common.{◌≡◌, ◌≢◌, ◌⊎◌, ◌∙◌, ℕ, ◌+◌, ◌<◌, ◌≤◌, List, [], ◌∷◌, ◌++◌, length, get_or, set, refl, sym, ap, subst, inl, inr, arith, length-append, length-set, get_or-set_same, get_or-set_other}
use Rattle.std.proofs.lemmas.List.{get_or_append_left, get_or_push}
use Rattle.bip_defs.specs.Blocks.{ColAt, RowAt, Vertex}
use Rattle.bip_defs.specs.ConnectedComponents.{IsHorizontalVertex, Joined, alone, to_col, to_row}
use Rattle.bip_defs.specs.Lists.{Among, IsRising}
use Rattle.bip_defs.specs.Matrix.{IsEntry, Matrix, cols}
use Rattle.bip_defs.specs.Parts.{IsHorizontalCol}
use Rattle.bip_defs.proofs.Connected.{joined_back, joined_on}
use Rattle.bip_defs.proofs.Sets.{among_at, number_same, place_among, rising_last}
use Rattle.bip_graph.specs.Matching.{none}
use Rattle.outer_components.specs.Contacts.{AddsContact, IsAlong, IsContact}
use Rattle.outer_components.specs.Labels.{AreLabels, AreMet, IsLabelFor, IsMet, LabelsColumn}
use Rattle.outer_components.specs.Numbers.{IsOfRoot}
use Rattle.outer_components.specs.declared.contacts.Contacts.{Contacts}
use Rattle.outer_components.proofs.ClassLemmas.{contact_ends}
use Rattle.outer_components.proofs.MergeLemmas.{rising_at}

-- One contact more.

module _ (c d : Contacts) (l k : ℕ) (x : AddsContact c l k d) (long : length c.seconds.items ≡ length c.firsts.items) where
  pub adds_had : (i j : ℕ) → IsContact c i j → IsContact d i j
  adds_had i j (p, (lt, e), f) = (
    p,
    ((let same = ap length x.firsts ∙ length-append c.firsts.items (l ∷ []) in omega (arith, lt, same)), ap (λ z. get_or z p 0) x.firsts ∙ get_or_append_left c.firsts.items (l ∷ []) 0 p lt ∙ e),
    ap (λ z. get_or z p 0) x.seconds ∙ get_or_append_left c.seconds.items (k ∷ []) 0 p (omega (arith, lt, long)) ∙ f,
  )

  pub adds_here : IsContact d l k
  adds_here = (
    length c.firsts.items,
    ((let same = ap length x.firsts ∙ length-append c.firsts.items (l ∷ []) in omega (arith, same)), ap (λ z. get_or z (length c.firsts.items) 0) x.firsts ∙ get_or_push c.firsts.items l 0 (length c.firsts.items) refl),
    ap (λ z. get_or z (length c.firsts.items) 0) x.seconds ∙ get_or_push c.seconds.items k 0 (length c.firsts.items) long,
  )

  pub adds_new : (i j : ℕ) → IsContact d i j → IsContact c i j ⊎ ((i ≡ l) × (j ≡ k))
  adds_new i j (p, (lt, e), f) = by (number_same p (length c.firsts.items))
    where
      by : (p ≡ length c.firsts.items) ⊎ (p ≢ length c.firsts.items) → IsContact c i j ⊎ ((i ≡ l) × (j ≡ k))
      by (inl at) = inr (
        sym e ∙ ap (λ z. get_or z p 0) x.firsts ∙ get_or_push c.firsts.items l 0 p (sym at),
        sym f ∙ ap (λ z. get_or z p 0) x.seconds ∙ get_or_push c.seconds.items k 0 p (long ∙ sym at),
      )
      by (inr ne) =
          let low : p < length c.firsts.items = (let same = ap length x.firsts ∙ length-append c.firsts.items (l ∷ []) in omega (arith, lt, same, ne)) in
          inl (
            p,
            (low, sym (ap (λ z. get_or z p 0) x.firsts ∙ get_or_append_left c.firsts.items (l ∷ []) 0 p low) ∙ e),
            sym (ap (λ z. get_or z p 0) x.seconds ∙ get_or_append_left c.seconds.items (k ∷ []) 0 p (omega (arith, low, long))) ∙ f,
          )

  pub adds_long : length d.seconds.items ≡ length d.firsts.items
  adds_long = let a = ap length x.firsts ∙ length-append c.firsts.items (l ∷ []) in let b = ap length x.seconds ∙ length-append c.seconds.items (k ∷ []) in omega (arith, a, b, long)

-- The rows of a column.

-- what a list has at a place is on it
pub stands_on : (list : List ℕ) (at row : ℕ) → at < length list → row ≡ get_or list at 0 → Among row list
stands_on list at row within is = rw is (among_at list at 0 within)

-- the rows before a place were met, and the last other label is in contact
pub record AreMeeting (list : List ℕ) (at label last : ℕ) (os ns : List ℕ) (c d : Contacts) : Type 0 where
  pub met : AreMet list at label os ns c d
  pub last_some : last ≢ none
  pub last_on : (last ≡ label) ⊎ IsContact d label last

pub meeting_start : (list : List ℕ) (label : ℕ) (os : List ℕ) (c : Contacts) → label ≢ none → length c.seconds.items ≡ length c.firsts.items → AreMeeting list 0 label label os os c c
meeting_start list label os c some long = record {
  met = record {
    long = refl;
    kept = λ r ne. refl;
    told = λ r e ne. absurd (ne e);
    count = refl;
    long_contacts = long;
    had = λ l k t. t;
    only = λ l k t. inl t;
    met = λ i lt. absurd (omega (arith, lt));
  };
  last_some = some;
  last_on = inl refl;
}

module _ (list : List ℕ) (at label last row : ℕ) (os ns : List ℕ) (c d : Contacts) (x : AreMeeting list at label last os ns c d) (some : label ≢ none) (within : at < length list) (is : row ≡ get_or list at 0) (lt : row < length ns) where
  m : AreMet list at label os ns c d
  m = x.met

  among : Among row list
  among = stands_on list at row within is

  of_row : (i : ℕ) → i ≡ at → row ≡ get_or list i 0
  of_row i e = is ∙ ap (λ z. get_or list z 0) (sym e)

  -- nothing is new
  meeting_same : (get_or ns row 0 ≡ label) ⊎ (get_or ns row 0 ≡ last) → AreMeeting list (at + 1) label last os ns c d
  meeting_same known = record {
    met = record {
      long = m.long;
      kept = m.kept;
      told = m.told;
      count = m.count;
      long_contacts = m.long_contacts;
      had = m.had;
      only = m.only;
      met = λ i less. met i less (number_same i at);
    };
    last_some = x.last_some;
    last_on = x.last_on;
  }
    where
      some_known : (get_or ns row 0 ≡ label) ⊎ (get_or ns row 0 ≡ last) → get_or ns row 0 ≢ none
      some_known (inl e) f = some (sym e ∙ f)
      some_known (inr e) f = x.last_some (sym e ∙ f)

      by_last : (f : ℕ → ℕ) → IsAlong f d → (last ≡ label) ⊎ IsContact d label last → f last ≡ f label
      by_last f z (inl e) = ap f e
      by_last f z (inr t) = sym (z label last t)

      along : (f : ℕ → ℕ) → IsAlong f d → (get_or ns row 0 ≡ label) ⊎ (get_or ns row 0 ≡ last) → f (get_or ns row 0) ≡ f label
      along f z (inl e) = ap f e
      along f z (inr e) = ap f e ∙ by_last f z x.last_on

      met : (i : ℕ) → i < at + 1 → (i ≡ at) ⊎ (i ≢ at) → (get_or ns (get_or list i 0) 0 ≢ none) × ((f : ℕ → ℕ) → IsAlong f d → f (get_or ns (get_or list i 0) 0) ≡ f label)
      met i less (inl e) = subst (λ r. (get_or ns r 0 ≢ none) × ((f : ℕ → ℕ) → IsAlong f d → f (get_or ns r 0) ≡ f label)) (of_row i e) (some_known known, λ f z. along f z known)
      met i less (inr ne) = m.met i (omega (arith, less, ne))

  -- the row had no label
  meeting_row : get_or ns row 0 ≡ none → AreMeeting list (at + 1) label last os (set ns row label) c d
  meeting_row bare = record {
    met = record {
      long = length-set ns row label ∙ m.long;
      kept = λ r ne. there r (λ e. ne (sym (m.kept r ne) ∙ ap (λ z. get_or ns z 0) e ∙ bare)) ∙ m.kept r ne;
      told = λ r e ne. told r e ne (number_same r row);
      count = m.count;
      long_contacts = m.long_contacts;
      had = m.had;
      only = λ l k t. new l k (m.only l k t);
      met = λ i less. met i less (number_same i at);
    };
    last_some = x.last_some;
    last_on = x.last_on;
  }
    where
      here : get_or (set ns row label) row 0 ≡ label
      here = get_or-set_same ns row label 0 lt

      there : (r : ℕ) → r ≢ row → get_or (set ns row label) r 0 ≡ get_or ns r 0
      there r ne = get_or-set_other ns row r label 0 ne

      told : (r : ℕ) → get_or os r 0 ≡ none → get_or (set ns row label) r 0 ≢ none → (r ≡ row) ⊎ (r ≢ row) → (get_or (set ns row label) r 0 ≡ label) × Among r list
      told r e ne (inl f) = rw f (here, among)
      told r e ne (inr off) = let (g, on) = m.told r e (λ z. ne (there r off ∙ z)) in (there r off ∙ g, on)

      new : (l k : ℕ) → IsContact c l k ⊎ ((l ≡ label) × (k ≢ none) × (r : ℕ) × Among r list × (get_or ns r 0 ≡ k)) → IsContact c l k ⊎ ((l ≡ label) × (k ≢ none) × (r : ℕ) × Among r list × (get_or (set ns row label) r 0 ≡ k))
      new l k (inl t) = inl t
      new l k (inr (e, ne, r, on, g)) = inr (e, ne, r, on, there r (λ f. ne (sym g ∙ ap (λ z. get_or ns z 0) f ∙ bare)) ∙ g)

      met : (i : ℕ) → i < at + 1 → (i ≡ at) ⊎ (i ≢ at) → (get_or (set ns row label) (get_or list i 0) 0 ≢ none) × ((f : ℕ → ℕ) → IsAlong f d → f (get_or (set ns row label) (get_or list i 0) 0) ≡ f label)
      met i less (inl e) = subst (λ r. (get_or (set ns row label) r 0 ≢ none) × ((f : ℕ → ℕ) → IsAlong f d → f (get_or (set ns row label) r 0) ≡ f label)) (of_row i e) (λ z. some (sym here ∙ z), λ f z. ap f here)
      met i less (inr ne) =
          let (had, same) = m.met i (omega (arith, less, ne)) in
          let off : get_or list i 0 ≢ row = λ f. had (ap (λ z. get_or ns z 0) f ∙ bare) in
          (λ z. had (sym (there (get_or list i 0) off) ∙ z), λ f z. ap f (there (get_or list i 0) off) ∙ same f z)

  -- the row has another label
  meeting_contact : (e : Contacts) → get_or ns row 0 ≢ none → AddsContact d label (get_or ns row 0) e → AreMeeting list (at + 1) label (get_or ns row 0) os ns c e
  meeting_contact e known y = record {
    met = record {
      long = m.long;
      kept = m.kept;
      told = m.told;
      count = y.count ∙ m.count;
      long_contacts = adds_long d e label (get_or ns row 0) y m.long_contacts;
      had = λ l k t. adds_had d e label (get_or ns row 0) y m.long_contacts l k (m.had l k t);
      only = λ l k t. new l k (adds_new d e label (get_or ns row 0) y m.long_contacts l k t);
      met = λ i less. met i less (number_same i at);
    };
    last_some = known;
    last_on = inr added;
  }
    where
      added : IsContact e label (get_or ns row 0)
      added = adds_here d e label (get_or ns row 0) y m.long_contacts

      new : (l k : ℕ) → IsContact d l k ⊎ ((l ≡ label) × (k ≡ get_or ns row 0)) → IsContact c l k ⊎ ((l ≡ label) × (k ≢ none) × (r : ℕ) × Among r list × (get_or ns r 0 ≡ k))
      new l k (inl t) = m.only l k t
      new l k (inr (f, g)) = inr (f, (λ z. known (sym g ∙ z)), row, among, sym g)

      before : (f : ℕ → ℕ) → IsAlong f e → IsAlong f d
      before f z l k t = z l k (adds_had d e label (get_or ns row 0) y m.long_contacts l k t)

      met : (i : ℕ) → i < at + 1 → (i ≡ at) ⊎ (i ≢ at) → (get_or ns (get_or list i 0) 0 ≢ none) × ((f : ℕ → ℕ) → IsAlong f e → f (get_or ns (get_or list i 0) 0) ≡ f label)
      met i less (inl same) = subst (λ r. (get_or ns r 0 ≢ none) × ((f : ℕ → ℕ) → IsAlong f e → f (get_or ns r 0) ≡ f label)) (of_row i same) (known, λ f z. sym (z label (get_or ns row 0) added))
      met i less (inr ne) = let (had, same) = m.met i (omega (arith, less, ne)) in (had, λ f z. same f (before f z))

  pub meeting_more : (now : ℕ) (ns2 : List ℕ) (e : Contacts) → IsMet row label last now ns ns2 d e → AreMeeting list (at + 1) label now os ns2 c e
  meeting_more now ns2 e (inl (rows, contacts, is_last, known)) = rw (rows, contacts, is_last) (meeting_same known)
  meeting_more now ns2 e (inr (inl (bare, rows, contacts, is_last))) = rw (rows, contacts, is_last) (meeting_row bare)
  meeting_more now ns2 e (inr (inr (known, rows, y, is_known))) = rw (rows, is_known) (meeting_contact e known (subst (λ z. AddsContact d label z e) is_known y))

-- no more is asked of the rows than that they were met
pub meeting_end : (list : List ℕ) (at n label last : ℕ) (os ns : List ℕ) (c d : Contacts) → AreMeeting list at label last os ns c d → n ≤ at → AreMet list n label os ns c d
meeting_end list at n label last os ns c d x le = record {
  long = x.met.long;
  kept = x.met.kept;
  told = x.met.told;
  count = x.met.count;
  long_contacts = x.met.long_contacts;
  had = x.met.had;
  only = x.met.only;
  met = λ i lt. x.met.met i (omega (arith, lt, le));
}

-- The column.

module _ (a : Matrix) (list : List ℕ) (at col : ℕ) (c d : Contacts) (rs cs rs2 : List ℕ) (x : AreLabels a list at c rs cs) (within : at < length list) (is : col ≡ get_or list at 0) (entries : List ℕ) (sound : (r : ℕ) → Among r entries → IsEntry a r col) (complete : (r : ℕ) → IsEntry a r col → Among r entries) where
  P : Vertex → Type 0
  P = IsHorizontalVertex a

  horizontal : IsHorizontalCol a col
  horizontal = rw is (x.columns.sound (get_or list at 0) (among_at list at 0 within))

  apart : (i : ℕ) → i < at → get_or list i 0 ≢ col
  apart i less e = let up = rising_at list i at x.columns.rising less within in omega (arith, up, is, e)

  -- with these roots, and this label for the column
  module _ (label : ℕ) (mid : Contacts) (roots1 : List ℕ) (long1 : length roots1 ≡ mid.count) (few1 : mid.count ≤ at + 1) (small1 : mid.count ≤ none) (rising1 : IsRising roots1) (more : c.count ≤ mid.count) (old : (l : ℕ) → l < c.count → get_or roots1 l 0 ≡ get_or x.roots l 0) (root1 : (l : ℕ) → l < mid.count → (l < c.count) ⊎ ((l ≡ label) × (get_or roots1 l 0 ≡ col))) (lt1 : label < mid.count) (low1 : get_or roots1 label 0 ≤ col) (chain : Joined a (IsHorizontalVertex a) (ColAt (get_or roots1 label 0)) (ColAt col)) (had1 : (l k : ℕ) → IsContact c l k → IsContact mid l k) (new1 : (l k : ℕ) → IsContact mid l k → IsContact c l k) (met : AreMet entries (length entries) label rs rs2 mid d) where
    cs2 : List ℕ
    cs2 = set cs col label

    some : label ≢ none
    some e = omega (arith, e, lt1, small1)

    here : get_or cs2 col 0 ≡ label
    unfolding cs2
    here = get_or-set_same cs col label 0 (let lt = horizontal.0 in let l = x.long_cols in omega (arith, lt, l))

    there : (j : ℕ) → j ≢ col → get_or cs2 j 0 ≡ get_or cs j 0
    unfolding cs2
    there j ne = get_or-set_other cs col j label 0 ne

    of_old : (l : ℕ) (v : Vertex) → IsOfRoot a x.roots l v → IsOfRoot a roots1 l v
    of_old l v (lt, y) =
        let low : l < c.count = (let e = x.count_is in omega (arith, lt, e)) in
        ((omega (arith, low, more, long1)), subst (λ z. Joined a (IsHorizontalVertex a) (ColAt z) v) (sym (old l low)) y)

    to_entry : (r : ℕ) → Among r entries → Joined a (IsHorizontalVertex a) (ColAt (get_or roots1 label 0)) (RowAt r)
    to_entry r on = to_row chain (sound r on) (col, horizontal, sound r on) horizontal

    row : (r : ℕ) → r < a.rows → get_or rs2 r 0 ≢ none → (get_or rs r 0 ≡ none) ⊎ (get_or rs r 0 ≢ none) → IsOfRoot a roots1 (get_or rs2 r 0) (RowAt r)
    row r lt ne (inl e) = let (f, on) = met.told r e ne in rw f ((omega (arith, lt1, long1)), to_entry r on)
    row r lt ne (inr was) = rw (met.kept r was) (of_old (get_or rs r 0) (RowAt r) (x.row r lt was))

    column : (j : ℕ) → j < cols a → get_or cs2 j 0 ≢ none → (j ≡ col) ⊎ (j ≢ col) → IsOfRoot a roots1 (get_or cs2 j 0) (ColAt j) × (get_or roots1 (get_or cs2 j 0) 0 ≤ j)
    column j lt ne (inl e) = rw (e, here) (((omega (arith, lt1, long1)), chain), low1)
    column j lt ne (inr off) =
        let (of, le) = x.col j lt (λ z. ne (there j off ∙ z)) in
        let low : get_or cs j 0 < c.count = (let same = x.count_is in let less = of.0 in omega (arith, less, same)) in
        rw (there j off) (of_old (get_or cs j 0) (ColAt j) of, (let same = old (get_or cs j 0) low in omega (arith, le, same)))

    -- a row of the column and the label that it has
    of_entry : (r : ℕ) → Among r entries → get_or rs2 r 0 ≢ none → IsOfRoot a roots1 (get_or rs2 r 0) (RowAt r)
    of_entry r on ne = row r (sound r on).0 ne (number_same (get_or rs r 0) none)

    contact : (l k : ℕ) → IsContact mid l k ⊎ ((l ≡ label) × (k ≢ none) × (r : ℕ) × Among r entries × (get_or rs2 r 0 ≡ k)) → (l < mid.count) × (k < mid.count) × Joined a (IsHorizontalVertex a) (ColAt (get_or roots1 l 0)) (ColAt (get_or roots1 k 0))
    contact l k (inl t) =
        let was = new1 l k t in
        let (a1, b1) = contact_ends c l k x.ends was in
        ((omega (arith, a1, more)), (omega (arith, b1, more)), rw (old l a1, old k b1) (x.contact l k was))
    contact l k (inr (e, ne, r, on, f)) =
        let (low, y) = of_entry r on (λ z. ne (sym f ∙ z)) in
        rw (e, ← f) (lt1, (omega (arith, low, long1)), joined_on a (IsHorizontalVertex a) (to_entry r on) (joined_back a (IsHorizontalVertex a) y))

    root : (l : ℕ) → (l < c.count) ⊎ ((l ≡ label) × (get_or roots1 l 0 ≡ col)) → IsHorizontalCol a (get_or roots1 l 0) × (get_or cs2 (get_or roots1 l 0) 0 ≡ l)
    root l (inl lt) =
        let (h, e) = x.root l lt in
        let up = x.later l at lt (omega arith) within in
        rw (old l lt) (h, there (get_or x.roots l 0) (λ f. (omega (arith, f, up, is))) ∙ e)
    root l (inr (e, f)) = rw f (horizontal, here ∙ sym e)

    later : (l i : ℕ) → (l < c.count) ⊎ ((l ≡ label) × (get_or roots1 l 0 ≡ col)) → at + 1 ≤ i → i < length list → get_or roots1 l 0 < get_or list i 0
    later l i (inl lt) le low = rw (old l lt) (x.later l i lt (omega (arith, le)) low)
    later l i (inr (e, f)) le low = let up = rising_at list at i x.columns.rising (omega (arith, le)) low in omega (arith, up, is, f)

    at_here : (i : ℕ) → i ≡ at → col ≡ get_or list i 0
    at_here i e = is ∙ ap (λ z. get_or list z 0) (sym e)

    done : (i : ℕ) → i < at + 1 → i < length list → (i ≡ at) ⊎ (i ≢ at) → get_or cs2 (get_or list i 0) 0 ≢ none
    done i lt low (inl e) = subst (λ z. get_or cs2 z 0 ≢ none) (at_here i e) (λ z. some (sym here ∙ z))
    done i lt low (inr ne) = let less : i < at = omega (arith, lt, ne) in let was = x.done i less low in λ z. was (sym (there (get_or list i 0) (apart i less)) ∙ z)

    before : (f : ℕ → ℕ) → IsAlong f d → IsAlong f c
    before f z l k t = z l k (met.had l k (had1 l k t))

    entry_here : (r : ℕ) → IsEntry a r col → (get_or rs2 r 0 ≢ none) × ((f : ℕ → ℕ) → IsAlong f d → f (get_or rs2 r 0) ≡ f (get_or cs2 col 0))
    entry_here r e =
        let (i, low, same) = place_among r 0 entries (complete r e) in
        let (ne, along) = subst (λ z. (get_or rs2 z 0 ≢ none) × ((f : ℕ → ℕ) → IsAlong f d → f (get_or rs2 z 0) ≡ f label)) same (met.met i low) in
        (ne, λ f z. along f z ∙ ap f (sym here))

    entry : (i r : ℕ) → i < at + 1 → i < length list → IsEntry a r (get_or list i 0) → (i ≡ at) ⊎ (i ≢ at) → (get_or rs2 r 0 ≢ none) × ((f : ℕ → ℕ) → IsAlong f d → f (get_or rs2 r 0) ≡ f (get_or cs2 (get_or list i 0) 0))
    entry i r lt low e (inl f) = subst (λ z. (get_or rs2 r 0 ≢ none) × ((g : ℕ → ℕ) → IsAlong g d → g (get_or rs2 r 0) ≡ g (get_or cs2 z 0))) (at_here i f) (entry_here r (subst (IsEntry a r) (sym (at_here i f)) e))
    entry i r lt low e (inr ne) =
        let less : i < at = omega (arith, lt, ne) in
        let (was, same) = x.entry i r less low e in (
          λ z. was (sym (met.kept r was) ∙ z),
          λ f z. ap f (met.kept r was) ∙ same f (before f z) ∙ ap f (sym (there (get_or list i 0) (apart i less))),
        )

    pub column_step : AreLabels a list (at + 1) d rs2 (set cs col label)
    unfolding cs2
    column_step = record {
      roots = roots1;
      count_is = long1 ∙ sym met.count;
      few = let e = met.count in omega (arith, few1, e);
      small = let e = met.count in omega (arith, small1, e);
      columns = x.columns;
      rising = rising1;
      root = λ l lt. root l (root1 l (let e = met.count in omega (arith, lt, e)));
      later = λ l i lt le low. later l i (root1 l (let e = met.count in omega (arith, lt, e))) le low;
      long_rows = met.long ∙ x.long_rows;
      long_cols = length-set cs col label ∙ x.long_cols;
      ends = record {
        long = met.long_contacts;
        first = λ i lt. let low = (contact (get_or d.firsts.items i 0) (get_or d.seconds.items i 0) (met.only (get_or d.firsts.items i 0) (get_or d.seconds.items i 0) (i, (lt, refl), refl))).0 in let e = met.count in omega (arith, low, e);
        second = λ i lt. let low = (contact (get_or d.firsts.items i 0) (get_or d.seconds.items i 0) (met.only (get_or d.firsts.items i 0) (get_or d.seconds.items i 0) (i, (lt, refl), refl))).1 in let e = met.count in omega (arith, low, e);
      };
      row = λ r lt ne. row r lt ne (number_same (get_or rs r 0) none);
      col = λ j lt ne. column j lt ne (number_same j col);
      contact = λ l k t. (contact l k (met.only l k t)).2;
      done = λ i lt low. done i lt low (number_same i at);
      entry = λ i r lt low e. entry i r lt low e (number_same i at);
    }

  -- the label is that of a row
  column_old : (label r : ℕ) → Among r entries → get_or rs r 0 ≡ label → label ≢ none → AreMet entries (length entries) label rs rs2 c d → AreLabels a list (at + 1) d rs2 (set cs col label)
  column_old label r on e some met =
      let h = sound r on in
      let (low, y) = subst (λ z. IsOfRoot a x.roots z (RowAt r)) e (x.row r h.0 (λ f. some (sym e ∙ f))) in
      let lt : label < c.count = (let same = x.count_is in omega (arith, low, same)) in
      let up = x.later label at lt (omega arith) within in
      column_step label c x.roots x.count_is (let f = x.few in omega (arith, f)) x.small x.rising (omega arith) (λ l less. refl) (λ l less. inl less) lt (omega (arith, up, is)) (to_col y h (col, horizontal, h) horizontal) (λ l k t. t) (λ l k t. t) met

  -- the label is new
  column_new : (mid : Contacts) → mid ≡ record c { count = c.count + 1 } → c.count < none → AreMet entries (length entries) c.count rs rs2 mid d → AreLabels a list (at + 1) d rs2 (set cs col c.count)
  column_new mid same few met = column_step c.count mid (x.roots ++ col ∷ [])
      (length-append x.roots (col ∷ []) ∙ ap (λ z. z + 1) x.count_is ∙ sym count_is)
      (let f = x.few in omega (arith, f, count_is))
      (omega (arith, few, count_is))
      (rising_last x.roots col x.rising (λ y on. let (l, less, e) = place_among y 0 x.roots on in let up = x.later l at (let f = x.count_is in omega (arith, less, f)) (omega arith) within in omega (arith, up, is, e)))
      (omega (arith, count_is))
      (λ l less. get_or_append_left x.roots (col ∷ []) 0 l (let e = x.count_is in omega (arith, less, e)))
      (λ l less. by l (omega (arith, less, count_is)) (number_same l c.count))
      (omega (arith, count_is))
      (rw last (omega arith))
      (rw last alone)
      (λ l k t. subst (λ (z : Contacts). IsContact z l k) (sym same) t)
      (λ l k t. subst (λ (z : Contacts). IsContact z l k) same t)
      met
    where
      count_is : mid.count ≡ c.count + 1
      count_is = ap (λ (z : Contacts). z.count) same

      last : get_or (x.roots ++ col ∷ []) c.count 0 ≡ col
      last = get_or_push x.roots col 0 c.count x.count_is

      by : (l : ℕ) → l < c.count + 1 → (l ≡ c.count) ⊎ (l ≢ c.count) → (l < c.count) ⊎ ((l ≡ c.count) × (get_or (x.roots ++ col ∷ []) l 0 ≡ col))
      by l less (inl e) = inr (e, ap (λ z. get_or (x.roots ++ col ∷ []) z 0) e ∙ last)
      by l less (inr ne) = inl (omega (arith, less, ne))

pub labelled : (a : Matrix) (list : List ℕ) (at col : ℕ) (c d : Contacts) (rs cs rs2 new_cs : List ℕ) → AreLabels a list at c rs cs → at < length list → col ≡ get_or list at 0 → c.count < none → LabelsColumn a col c rs cs d rs2 new_cs → AreLabels a list (at + 1) d rs2 new_cs
labelled a list at col c d rs cs rs2 new_cs x within is few y = subst (AreLabels a list (at + 1) d rs2) (sym y.written) (by y.label_for)
  where
    by : IsLabelFor y.entries rs y.label c y.mid → AreLabels a list (at + 1) d rs2 (set cs col y.label)
    by (inl (same, ne, r, on, e)) = column_old a list at col c d rs cs rs2 x within is y.entries y.sound y.complete y.label r on e ne (subst (λ (z : Contacts). AreMet y.entries (length y.entries) y.label rs rs2 z d) same y.met)
    by (inr (same, e)) = subst (λ z. AreLabels a list (at + 1) d rs2 (set cs col z)) (sym e) (column_new a list at col c d rs cs rs2 x within is y.entries y.sound y.complete y.mid same few (subst (λ z. AreMet y.entries (length y.entries) z rs rs2 y.mid d) e y.met))

-- the label is one
pub label_some : (entries rs : List ℕ) (label : ℕ) (c d : Contacts) → IsLabelFor entries rs label c d → c.count < none → label ≢ none
label_some entries rs label c d (inl (same, ne, r, on, e)) few = ne
label_some entries rs label c d (inr (same, e)) few = λ f. (omega (arith, few, e, f))

-- and brings no contact
pub label_long : (entries rs : List ℕ) (label : ℕ) (c d : Contacts) → IsLabelFor entries rs label c d → length c.seconds.items ≡ length c.firsts.items → length d.seconds.items ≡ length d.firsts.items
label_long entries rs label c d (inl (same, ne, r, on, e)) long = subst (λ (z : Contacts). length z.seconds.items ≡ length z.firsts.items) (sym same) long
label_long entries rs label c d (inr (same, e)) long = subst (λ (z : Contacts). length z.seconds.items ≡ length z.firsts.items) (sym same) long
