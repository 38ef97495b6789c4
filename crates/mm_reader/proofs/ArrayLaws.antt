-- Value lines: the place of each, and what it adds.
use Rattle.std.proofs.Common.{◌≡◌, ℕ, ℤ, nat_abs, ◌+◌, ◌<◌, ◌≤◌, Bool, true, false, ◌==◌, List, [], ◌∷◌, ◌++◌, length, get_or, length-append, refl, sym, ap, subst, ◌∙◌, arith, append-nil, flat_map}
use Rattle.std.specs.List.{zip}
use Rattle.std.proofs.lemmas.Grind.{flat_map-append}
use Rattle.std.proofs.lemmas.List.{map-append}
use Rattle.sp_ids.specs.Entries as entries
use Rattle.sp_ids.specs.Entries.{Triple}
use Rattle.mm_defs.specs.declared.header.Format.{Format}
use Rattle.mm_defs.specs.declared.header.Format.TheVariants.{Coordinate, Array}
use Rattle.mm_defs.specs.declared.header.Header.{Header}
use Rattle.mm_defs.specs.declared.header.Size.{Size}
use Rattle.mm_defs.specs.declared.header.Symmetry.{Symmetry}
use Rattle.mm_defs.specs.declared.header.Symmetry.TheVariants.{General, Symmetric, SkewSymmetric, Hermitian}
use Rattle.mm_defs.specs.Words.{Word, Line, word}
use Rattle.mm_defs.specs.Numbers.{integer}
use Rattle.mm_defs.specs.Header.{is_array, is_general}
use Rattle.mm_defs.specs.Arrays.{HasValue, array_places, first_row, following, value_count}
use Rattle.mm_defs.specs.Faults.{entry_rules, coordinate_rules, array_rules}
use Rattle.mm_defs.specs.File.{mirror, placed, said, with_mirrors, items, triple}
use Rattle.mm_defs.proofs.ArrayLemmas.{general_count, square_count, places_first, places_next, places_inside}
use Rattle.mm_reader.specs.declared.array.ArrayPlace.{ArrayPlace}
use Rattle.mm_reader.specs.declared.machine.Position.{Position}
use Rattle.mm_reader.specs.declared.machine.Preamble.{Preamble}
use Rattle.mm_reader.specs.Additions.{with_entries}
use Rattle.mm_reader.specs.Judged.{IsHeader, IsWithin}
use Rattle.mm_reader.specs.Machine.{HasRoom}
use Rattle.mm_reader.specs.ArrayPlaces.{IsNext, array_place, place_at, place_of, said_next}

-- ---- what one more line adds

zip-none : {K V : Type 0} (ks : List K) → ◌≡◌ {A = List (K × V)} (zip ks []) []
zip-none [] = refl
zip-none (k ∷ ks) = refl

zip-push : {K V : Type 0} (ks : List K) (vs : List V) (v : V) (d : K) → length vs < length ks → zip ks (vs ++ v ∷ []) ≡ zip ks vs ++ (get_or ks (length vs) d, v) ∷ []
zip-push [] vs v d h = absurd (omega arith)
zip-push (k ∷ ks) [] v d h = ap (λ t. (k, v) ∷ t) (zip-none ks)
zip-push (k ∷ ks) (w ∷ vs) v d h = ap (λ t. (k, w) ∷ t) (zip-push ks vs v d (omega arith))

said-none : (f : Format) (h : Header) (s : Size) → said f h s [] ≡ []
said-none Coordinate h s = refl
said-none Array h s = ap (flat_map (λ (x : (ℕ × ℕ) × Line). placed x.0 (integer (word x.1.words 0)))) (zip-none (array_places h.symmetry s.rows s.cols))

said-push : (f : Format) (h : Header) (s : Size) (ls : List Line) (l : Line) → (is_array f ≡ true → length ls < length (array_places h.symmetry s.rows s.cols))
    → said f h s (ls ++ l ∷ []) ≡ said f h s ls ++ said_next f h s (length ls) l.words
said-push Coordinate h s ls l low = map-append (λ (x : Line). triple h x.words) ls (l ∷ [])
said-push Array h s ls l low =
    let p : ℕ × ℕ = place_at h s (length ls) in
    let f : (ℕ × ℕ) × Line → List Triple = λ x. placed x.0 (integer (word x.1.words 0)) in
    ap (flat_map f) (zip-push (array_places h.symmetry s.rows s.cols) ls l (0, 0) (low refl))
    ∙ flat_map-append f (zip (array_places h.symmetry s.rows s.cols) ls) ((p, l) ∷ [])
    ∙ ap (λ t. flat_map f (zip (array_places h.symmetry s.rows s.cols) ls) ++ t) (append-nil (placed p (integer (word l.words 0))))

pub items-none : (h : Header) (s : Size) → items h s [] ≡ []
items-none h s = ap (with_mirrors h.symmetry) (said-none h.format h s)

pub items-push : (h : Header) (s : Size) (ls : List Line) (l : Line) → (is_array h.format ≡ true → length ls < length (array_places h.symmetry s.rows s.cols))
    → items h s (ls ++ l ∷ []) ≡ items h s ls ++ with_mirrors h.symmetry (said_next h.format h s (length ls) l.words)
items-push h s ls l low =
    ap (with_mirrors h.symmetry) (said-push h.format h s ls l low)
    ∙ flat_map-append (λ (t : Triple). t ∷ mirror h.symmetry t) (said h.format h s ls) (said_next h.format h s (length ls) l.words)

-- one triple and its mirror
pub mirrored : (y : Symmetry) (t : Triple) → with_mirrors y (t ∷ []) ≡ t ∷ mirror y t
mirrored y t = append-nil (t ∷ mirror y t)

few_mirrors : (y : Symmetry) (t : Triple) → length (mirror y t) ≤ 1
few_mirrors General t = omega arith
few_mirrors Symmetric t = by (t.row == t.col) refl
  where
    by : (b : Bool) → (t.row == t.col) ≡ b → length (mirror Symmetric t) ≤ 1
    by true e = rw e (omega arith)
    by false e = rw e (omega arith)
few_mirrors SkewSymmetric t = omega arith
few_mirrors Hermitian t = by (t.row == t.col) refl
  where
    by : (b : Bool) → (t.row == t.col) ≡ b → length (mirror Hermitian t) ≤ 1
    by true e = rw e (omega arith)
    by false e = rw e (omega arith)

-- a value adds at most a place and its mirror
pub few_added : (y : Symmetry) (p : ℕ × ℕ) (v : ℤ) → length (with_mirrors y (placed p v)) ≤ 2
few_added y p v = by (nat_abs v == 0) refl
  where
    by : (b : Bool) → (nat_abs v == 0) ≡ b → length (with_mirrors y (placed p v)) ≤ 2
    by true e = rw e (omega arith)
    by false e =
        let t : Triple = record { row = p.0; col = p.1; value = v } in
        let m = few_mirrors y t in
        let k : placed p v ≡ t ∷ [] = rw e refl in
        let q : with_mirrors y (placed p v) ≡ t ∷ mirror y t = ap (with_mirrors y) k ∙ mirrored y t in
        rw q (omega arith)

-- ---- the place of the next value

module _ (h : Header) (s : Size) (within : IsWithin h s) (array : is_array h.format ≡ true) where
  places_are : length (array_places h.symmetry s.rows s.cols) ≡ s.count
  places_are = by h.symmetry refl
    where
      square : (y : Symmetry) → h.symmetry ≡ y → is_general y ≡ false → length (array_places h.symmetry s.rows s.cols) ≡ s.count
      square y e other =
          let q : s.rows ≡ s.cols = within.square (ap is_general e ∙ other) in
          let c = square_count h.symmetry s.rows in
          ap (λ n. length (array_places h.symmetry s.rows n)) (sym q) ∙ c ∙ ap (λ n. value_count h.symmetry s.rows n) q ∙ sym (within.values array)

      by : (y : Symmetry) → h.symmetry ≡ y → length (array_places h.symmetry s.rows s.cols) ≡ s.count
      by General e = let v : s.count ≡ value_count General s.rows s.cols = rw e at (within.values array) in rw e (general_count s.rows s.cols ∙ sym v)
      by Symmetric e = square Symmetric e refl
      by SkewSymmetric e = square SkewSymmetric e refl
      by Hermitian e = square Hermitian e refl

  pub in_places : (done : ℕ) → done < s.count → done < length (array_places h.symmetry s.rows s.cols)
  in_places done low = let n = places_are in omega arith

  -- the next value's place is in the matrix
  pub next_inside : (done : ℕ) (next : ArrayPlace) → done < s.count → IsNext h s done next → (next.row < s.rows) × (next.col < s.cols)
  next_inside done next low is =
      let k = places_inside h.symmetry s.rows s.cols done (in_places done low) in
      let e : place_at h s done ≡ place_of next = is array low in
      let v : HasValue h.symmetry s.rows s.cols (place_of next) = rw e at k in
      (v.0, v.1)

  pub next_follows : (done : ℕ) (next : ArrayPlace) → done < s.count → IsNext h s done next → IsNext h s (done + 1) (array_place (following h.symmetry s.rows (place_of next)))
  next_follows done next low is _ more =
      places_next h.symmetry s.rows s.cols done (in_places (done + 1) more) ∙ ap (following h.symmetry s.rows) (is array low)

pub next_first : (h : Header) (s : Size) → IsWithin h s → IsNext h s 0 (array_place (first_row h.symmetry 0, 0))
next_first h s within array low = places_first h.symmetry s.rows s.cols (in_places h s within array 0 low)

-- one more value is kept
pub more_room : (b : Preamble) (at : Position) (t t2 : entries.Entries) (v : ℤ) → HasRoom b at t → b.header.format ≡ Array → at.done < b.size.count
    → t2 ≡ with_entries t (with_mirrors b.header.symmetry (placed (place_of at.place) v))
    → HasRoom b (record { done = at.done + 1; place = array_place (following b.header.symmetry b.size.rows (place_of at.place)) }) t2
more_room b at t t2 v r e low is =
    let h = b.header in
    let n : length t2.items ≡ length t.items + length (with_mirrors h.symmetry (placed (place_of at.place) v)) =
    ap (λ (x : entries.Entries). length x.items) is ∙ length-append t.items (with_mirrors h.symmetry (placed (place_of at.place) v)) in
    let f = few_added h.symmetry (place_of at.place) v in
    record {
      header = r.header;
      within = r.within;
      in_count = omega arith;
      next_is = next_follows h b.size r.within (rw e refl) at.done at.place low r.next_is;
      rows = ap (λ (x : entries.Entries). x.rows) is ∙ r.rows;
      cols = ap (λ (x : entries.Entries). x.cols) is ∙ r.cols;
      field = ap (λ (x : entries.Entries). x.field) is ∙ r.field;
      few = omega (arith, r.few);
    }

-- no value has come yet
pub first_room : (h : Header) (s : Size) (next : ArrayPlace) (t : entries.Entries) → IsHeader h → IsWithin h s → next ≡ array_place (first_row h.symmetry 0, 0)
    → t ≡ record { rows = s.rows; cols = s.cols; field = h.field; items = [] } → HasRoom (record { header = h; size = s }) (record { done = 0; place = next }) t
first_room h s next t header within place_is is = record {
  header = header;
  within = within;
  in_count = omega arith;
  next_is = subst (λ (p : ArrayPlace). IsNext h s 0 p) (sym place_is) (next_first h s within);
  rows = ap (λ (x : entries.Entries). x.rows) is;
  cols = ap (λ (x : entries.Entries). x.cols) is;
  field = ap (λ (x : entries.Entries). x.field) is;
  few = let n : length t.items ≡ 0 = ap (λ (x : entries.Entries). length x.items) is in omega arith;
}

-- ---- what the lines of each format say and are judged by

pub entry_says : (h : Header) (s : Size) (done : ℕ) (ws : List Word) → h.format ≡ Coordinate → with_mirrors h.symmetry (said_next h.format h s done ws) ≡ triple h ws ∷ mirror h.symmetry (triple h ws)
entry_says h s done ws e = rw e (mirrored h.symmetry (triple h ws))

pub value_says : (h : Header) (s : Size) (done : ℕ) (next : ArrayPlace) (ws : List Word) → h.format ≡ Array → done < s.count → IsNext h s done next
    → with_mirrors h.symmetry (said_next h.format h s done ws) ≡ with_mirrors h.symmetry (placed (place_of next) (integer (word ws 0)))
value_says h s done next ws e low is =
    let p : place_at h s done ≡ place_of next = is (rw e refl) low in
    rw e (ap (λ q. with_mirrors h.symmetry (placed q (integer (word ws 0)))) p)

pub entry_rules_are : (h : Header) (s : Size) (ws : List Word) → h.format ≡ Coordinate → entry_rules h s ws ≡ coordinate_rules h s ws
entry_rules_are h s ws e = rw e refl

pub value_rules_are : (h : Header) (s : Size) (ws : List Word) → h.format ≡ Array → entry_rules h s ws ≡ array_rules h ws
value_rules_are h s ws e = rw e refl
