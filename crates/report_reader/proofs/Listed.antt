-- Parts and blocks that are read.
use Rattle.std.proofs.Common.{codes, ◌≡◌, ◌≢◌, ◌⊎◌, inl, inr, ◌<◌, ◌≤◌, ◌+◌, ◌^◌, eqb, ◌&&◌, if◌then◌else◌, nat_lt, ℕ, suc, Bool, true, false, cond, List, [], ◌∷◌, ◌++◌, length, Some, None, refl, sym, ap, ap₂, ◌∙◌, subst, arith, append_assoc, eqb-true, eq-eqb, ltb-true, lt-ltb, true≢false}
use Rattle.std.proofs.lemmas.Bool.Decides.{eqb_tells}
use Rattle.std.proofs.lemmas.List.{nil_from_length}
use Rattle.bip_defs.specs.Blocks.{Block}
use Rattle.bip_graph.specs.Texts.{TextLine, counted, line, lists, part, spelled, text_of}
use Rattle.report_reader.specs.Readable.{IsBlockLike, IsList}
use Rattle.report_reader.specs.ReportGrammar.{◌>>=◌, block_at, list_at, lists_at, part_at, rises, two_at}
use Rattle.report_reader.proofs.ListLines.{IsTwoLine, list_again, list_takes, two_again, two_takes}
use Rattle.report_reader.proofs.Rising.{rises_complete, rises_sound}
use Rattle.report_reader.proofs.Spelled.{bind_some, some_is, where_some}

both : (a b : Bool) → (a && b) ≡ true → (a ≡ true) × (b ≡ true)
both true b e = (refl, e)
both false b e = absurd (true≢false (sym e))

-- two lists as a block
abbrev pub of_lists : List ℕ × List ℕ → Block
of_lists l = record { rows = l.0; cols = l.1 }

-- two lines in front of more bytes
lists_before : (rows cols rest : List ℕ) → text_of (lists rows cols) ++ rest ≡ spelled (line (codes "rows") (counted rows)) ++ (spelled (line (codes "columns") (counted cols)) ++ rest)
lists_before rows cols rest =
    append_assoc (spelled (line (codes "rows") (counted rows))) (spelled (line (codes "columns") (counted cols)) ++ []) rest
    ∙ ap (λ (t : List ℕ). spelled (line (codes "rows") (counted rows)) ++ t) (append_assoc (spelled (line (codes "columns") (counted cols))) [] rest)

-- two rising lists of these lengths
pub record AreListsOf (m n : ℕ) (bytes : List ℕ) (x : (List ℕ × List ℕ) × List ℕ) : Type 0 where
  pub spells : bytes ≡ text_of (lists x.0.0 x.0.1) ++ x.1
  pub rows : IsList x.0.0
  pub cols : IsList x.0.1
  pub rows_long : length x.0.0 ≡ m
  pub cols_long : length x.0.1 ≡ n

pub lists_take : (m n : ℕ) (bytes : List ℕ) (x : (List ℕ × List ℕ) × List ℕ) → m < 2 ^ 32 → n < 2 ^ 32 → lists_at m n bytes ≡ Some x → AreListsOf m n bytes x
unfolding lists_at
lists_take m n bytes x small_m small_n e =
    let r = bind_some (list_at (codes "rows") bytes) (λ rows. list_at (codes "columns") rows.1 >>= λ cols. cond (eqb (length rows.0) m && eqb (length cols.0) n) (cond (rises rows.0 && rises cols.0) (Some ((rows.0, cols.0), cols.1)) None) None) x e in
    let k = bind_some (list_at (codes "columns") r.0.1) (λ cols. cond (eqb (length r.0.0) m && eqb (length cols.0) n) (cond (rises r.0.0 && rises cols.0) (Some ((r.0.0, cols.0), cols.1)) None) None) x r.2 in
    let g = where_some (eqb (length r.0.0) m && eqb (length k.0.0) n) (cond (rises r.0.0 && rises k.0.0) (Some ((r.0.0, k.0.0), k.0.1)) None) x k.2 in
    let h = where_some (rises r.0.0 && rises k.0.0) (Some ((r.0.0, k.0.0), k.0.1)) x g.1 in
    let long = both (eqb (length r.0.0) m) (eqb (length k.0.0) n) g.0 in
    let rise = both (rises r.0.0) (rises k.0.0) h.0 in
    let row_line = list_takes (codes "rows") bytes r.0 r.1 in
    let col_line = list_takes (codes "columns") r.0.1 k.0 k.1 in
    let rows_long : length r.0.0 ≡ m = eqb-true (length r.0.0) m long.0 in
    let cols_long : length k.0.0 ≡ n = eqb-true (length k.0.0) n long.1 in
    subst (AreListsOf m n bytes) (some_is ((r.0.0, k.0.0), k.0.1) x h.1)
    (record {
      spells = row_line.0 ∙ ap (λ (t : List ℕ). spelled (line (codes "rows") (counted r.0.0)) ++ t) col_line.0 ∙ sym (lists_before r.0.0 k.0.0 k.0.1);
      rows = record { ids_fit = row_line.1; rising = rises_sound r.0.0 rise.0; few = omega (arith, rows_long, small_m) };
      cols = record { ids_fit = col_line.1; rising = rises_sound k.0.0 rise.1; few = omega (arith, cols_long, small_n) };
      rows_long = rows_long;
      cols_long = cols_long;
    })

pub lists_again : (rows cols rest : List ℕ) → IsList rows → IsList cols → lists_at (length rows) (length cols) (text_of (lists rows cols) ++ rest) ≡ Some ((rows, cols), rest)
unfolding lists_at
lists_again rows cols rest rows_are cols_are =
    ap (lists_at (length rows) (length cols)) (lists_before rows cols rest)
    ∙ rw (
      list_again (codes "rows") rows (spelled (line (codes "columns") (counted cols)) ++ rest) rows_are.ids_fit,
      list_again (codes "columns") cols rest cols_are.ids_fit,
      eq-eqb (length rows) (length rows) refl,
      eq-eqb (length cols) (length cols) refl,
      rises_complete rows rows_are.rising,
      rises_complete cols cols_are.rising,
    ) refl

-- ---- parts

pub record IsPartOf (word bytes : List ℕ) (x : (List ℕ × List ℕ) × List ℕ) : Type 0 where
  pub spells : bytes ≡ text_of (part word x.0.0 x.0.1) ++ x.1
  pub rows : IsList x.0.0
  pub cols : IsList x.0.1

pub nothing_listed : IsList []
nothing_listed = record { ids_fit = tt; rising = tt; few = omega arith }

both_none : (a b : ℕ) → (eqb a 0 && eqb b 0) ≡ true → (a ≡ 0) × (b ≡ 0)
both_none a b e = let g = both (eqb a 0) (eqb b 0) e in (eqb-true a 0 g.0, eqb-true b 0 g.1)

pub some_there : (a b : ℕ) → (eqb a 0 && eqb b 0) ≡ false → a + b ≢ 0
some_there a b e none =
    let no_a : a ≡ 0 = omega (arith, none) in
    let no_b : b ≡ 0 = omega (arith, none) in
    true≢false (sym (ap₂ (λ (x y : ℕ). eqb x 0 && eqb y 0) no_a no_b) ∙ e)

pub not_both : (a b : ℕ) → a + b ≢ 0 → (eqb a 0 && eqb b 0) ≡ false
not_both a b some = by (eqb a 0 && eqb b 0) refl
  where
    by : (t : Bool) → (eqb a 0 && eqb b 0) ≡ t → (eqb a 0 && eqb b 0) ≡ false
    by true e = let g = both_none a b e in absurd (some (omega (arith, g.0, g.1)))
    by false e = e

-- a line in front of others
pub line_first : (l : TextLine) (ls : List TextLine) (rest : List ℕ) → text_of (l ∷ ls) ++ rest ≡ spelled l ++ (text_of ls ++ rest)
line_first l ls rest = append_assoc (spelled l) (text_of ls) rest

part_full : (word rows cols : List ℕ) → length rows + length cols ≢ 0 → line word (length rows ∷ length cols ∷ []) ∷ lists rows cols ≡ part word rows cols
part_full word rows cols some =
    let test : eqb (length rows + length cols) 0 ≡ false = elim (eqb_tells (length rows + length cols) 0) [ inl t ↦ absurd (some t.1) | inr t ↦ t.0 ] in
    sym (ap (λ (b : Bool). line word (length rows ∷ length cols ∷ []) ∷ (if b then [] else lists rows cols)) test)

pub part_takes : (word bytes : List ℕ) (x : (List ℕ × List ℕ) × List ℕ) → part_at word bytes ≡ Some x → IsPartOf word bytes x
unfolding part_at
part_takes word bytes x e =
    let s = bind_some (two_at word bytes) (λ sizes. cond (eqb sizes.0.0 0 && eqb sizes.0.1 0) (Some (([], []), sizes.1)) (lists_at sizes.0.0 sizes.0.1 sizes.1)) x e in
    by s.0 (two_takes word bytes s.0 s.1) (eqb s.0.0.0 0 && eqb s.0.0.1 0) refl s.2
  where
    by : (s : (ℕ × ℕ) × List ℕ) → IsTwoLine word bytes s → (b : Bool) → (eqb s.0.0 0 && eqb s.0.1 0) ≡ b → cond b (Some (([], []), s.1)) (lists_at s.0.0 s.0.1 s.1) ≡ Some x → IsPartOf word bytes x
    by s sizes true test f =
        let none = both_none s.0.0 s.0.1 test in
        subst (IsPartOf word bytes) (some_is (([], []), s.1) x f)
        (record {
          spells = sizes.0 ∙ ap₂ (λ (m n : ℕ). spelled (line word (m ∷ n ∷ [])) ++ s.1) none.0 none.1 ∙ sym (line_first (line word (0 ∷ 0 ∷ [])) [] s.1);
          rows = nothing_listed;
          cols = nothing_listed;
        })
    by s sizes false test f =
        let l = lists_take s.0.0 s.0.1 s.1 x sizes.1 sizes.2 f in
        let some : length x.0.0 + length x.0.1 ≢ 0 = λ none. some_there s.0.0 s.0.1 test (omega (arith, none, l.rows_long, l.cols_long)) in
        record {
          spells = sizes.0 ∙ ap₂ (λ (m n : ℕ). spelled (line word (m ∷ n ∷ [])) ++ s.1) (sym l.rows_long) (sym l.cols_long)
              ∙ ap (λ (t : List ℕ). spelled (line word (length x.0.0 ∷ length x.0.1 ∷ [])) ++ t) l.spells
              ∙ sym (line_first (line word (length x.0.0 ∷ length x.0.1 ∷ [])) (lists x.0.0 x.0.1) x.1)
              ∙ ap (λ (ls : List TextLine). text_of ls ++ x.1) (part_full word x.0.0 x.0.1 some);
          rows = l.rows;
          cols = l.cols;
        }

pub part_again : (word rows cols rest : List ℕ) → IsList rows → IsList cols → part_at word (text_of (part word rows cols) ++ rest) ≡ Some ((rows, cols), rest)
unfolding part_at
part_again word rows cols rest rows_are cols_are = by (eqb_tells (length rows + length cols) 0)
  where
    empty : part_at word (text_of (part word [] []) ++ rest) ≡ Some (([], []), rest)
    empty = ap (part_at word) (line_first (line word (0 ∷ 0 ∷ [])) [] rest) ∙ rw (two_again word 0 0 rest (omega arith) (omega arith)) refl

    by : ((eqb (length rows + length cols) 0 ≡ true) × (length rows + length cols ≡ 0)) ⊎ ((eqb (length rows + length cols) 0 ≡ false) × (length rows + length cols ≢ 0))
        → part_at word (text_of (part word rows cols) ++ rest) ≡ Some ((rows, cols), rest)
    by (inl none) =
        subst (λ (l : List ℕ × List ℕ). part_at word (text_of (part word l.0 l.1) ++ rest) ≡ Some ((l.0, l.1), rest))
        (ap₂ (λ (a b : List ℕ). (a, b)) (sym (nil_from_length rows (omega (arith, none.1)))) (sym (nil_from_length cols (omega (arith, none.1))))) empty
    by (inr some) =
        ap (λ (ls : List TextLine). part_at word (text_of ls ++ rest)) (sym (part_full word rows cols some.1))
        ∙ ap (part_at word) (line_first (line word (length rows ∷ length cols ∷ [])) (lists rows cols) rest)
        ∙ rw (two_again word (length rows) (length cols) (text_of (lists rows cols) ++ rest) rows_are.few cols_are.few, not_both (length rows) (length cols) some.1)
        (lists_again rows cols rest rows_are cols_are)

-- ---- blocks

pub record IsBlockOf (number room : ℕ) (bytes : List ℕ) (x : (List ℕ × List ℕ) × List ℕ) : Type 0 where
  pub spells : bytes ≡ text_of (line (codes "block") (number ∷ length x.0.0 ∷ []) ∷ lists x.0.0 x.0.1) ++ x.1
  pub like : IsBlockLike (record { rows = x.0.0; cols = x.0.1 })
  pub fits : length x.0.0 ≤ room

pub block_takes : (number room : ℕ) (bytes : List ℕ) (x : (List ℕ × List ℕ) × List ℕ) → block_at number room bytes ≡ Some x → IsBlockOf number room bytes x
unfolding block_at
block_takes number room bytes x e =
    let word : List ℕ = codes "block" in
    let h = bind_some (two_at word bytes) (λ head. cond (eqb head.0.0 number && (nat_lt 0 head.0.1 && nat_lt head.0.1 (suc room))) (lists_at head.0.1 head.0.1 head.1) None) x e in
    let head = two_takes word bytes h.0 h.1 in
    let g = where_some (eqb h.0.0.0 number && (nat_lt 0 h.0.0.1 && nat_lt h.0.0.1 (suc room))) (lists_at h.0.0.1 h.0.0.1 h.0.1) x h.2 in
    let t = both (eqb h.0.0.0 number) (nat_lt 0 h.0.0.1 && nat_lt h.0.0.1 (suc room)) g.0 in
    let u = both (nat_lt 0 h.0.0.1) (nat_lt h.0.0.1 (suc room)) t.1 in
    let l = lists_take h.0.0.1 h.0.0.1 h.0.1 x head.2 head.2 g.1 in
    record {
      spells = head.0 ∙ ap₂ (λ (i n : ℕ). spelled (line word (i ∷ n ∷ [])) ++ h.0.1) (eqb-true h.0.0.0 number t.0) (sym l.rows_long)
          ∙ ap (λ (t : List ℕ). spelled (line word (number ∷ length x.0.0 ∷ [])) ++ t) l.spells
          ∙ sym (line_first (line word (number ∷ length x.0.0 ∷ [])) (lists x.0.0 x.0.1) x.1);
      like = record { rows = l.rows; cols = l.cols; some = omega (arith, l.rows_long, ltb-true 0 h.0.0.1 u.0); same = l.cols_long ∙ sym l.rows_long };
      fits = omega (arith, l.rows_long, ltb-true h.0.0.1 (suc room) u.1);
    }

pub block_again : (number room : ℕ) (b : Block) (rest : List ℕ) → IsBlockLike b → number < 2 ^ 32 → length b.rows ≤ room
    → block_at number room (text_of (line (codes "block") (number ∷ length b.rows ∷ []) ∷ lists b.rows b.cols) ++ rest) ≡ Some ((b.rows, b.cols), rest)
unfolding block_at
block_again number room b rest like small fits =
    ap (block_at number room) (line_first (line (codes "block") (number ∷ length b.rows ∷ [])) (lists b.rows b.cols) rest)
    ∙ rw (two_again (codes "block") number (length b.rows) (text_of (lists b.rows b.cols) ++ rest) small like.rows.few, eq-eqb number number refl, lt-ltb 0 (length b.rows) like.some, lt-ltb (length b.rows) (suc room) (omega (arith, fits)))
    (ap (λ (n : ℕ). lists_at (length b.rows) n (text_of (lists b.rows b.cols) ++ rest)) (sym like.same) ∙ lists_again b.rows b.cols rest like.rows like.cols)
