-- Orders and pairs that are read.
use Rattle.std.proofs.Common.{codes, decimal, ◌≡◌, ℕ, zero, suc, Bool, true, false, cond, List, [], ◌∷◌, ◌++◌, length, map, nat_eq, Option, Some, None, refl, sym, ap, ap₂, ◌∙◌, subst, arith}
use Rattle.std.specs.Prelude.{IfSome}
use Rattle.std.specs.List.{starts_with}
use Rattle.bip_defs.specs.Matching.{cols_of, rows_of}
use Rattle.bip_defs.specs.Matrix.{Place}
use Rattle.bip_graph.specs.Texts.{counted, line, order_lines, pair_line, pair_lines, spelled, text_of}
use Rattle.report_reader.specs.Readable.{AreOrdersLike, ArePairsLike, IsId}
use Rattle.report_reader.specs.ReportGrammar.{◌>>=◌, both_orders_at, field_at, id_of, line_end, list_at, number_at, one_at, orders_at, pair_at, pair_list_at, pairs_at, rises}
use Rattle.report_reader.proofs.ListLines.{AreIds, end_again, end_takes, list_again, list_takes, one_again, one_before, one_takes}
use Rattle.report_reader.proofs.Listed.{line_first}
use Rattle.report_reader.proofs.Rising.{rises_complete, rises_sound}
use Rattle.report_reader.proofs.Spelled.{bind_some, field_again, field_takes, id_again, id_takes, line_ends_number, number_again, number_takes, some_is, space_ends, where_some}

-- ---- orders

abbrev Orders : Type 0
Orders = List ℕ × List ℕ

orders_before : (o : Orders) (rest : List ℕ) → text_of (order_lines (Some o)) ++ rest ≡ spelled (line (codes "row_order") (counted o.0)) ++ (spelled (line (codes "column_order") (counted o.1)) ++ rest)
orders_before o rest =
    line_first (line (codes "row_order") (counted o.0)) (line (codes "column_order") (counted o.1) ∷ []) rest
    ∙ ap (λ (t : List ℕ). spelled (line (codes "row_order") (counted o.0)) ++ t) (line_first (line (codes "column_order") (counted o.1)) [] rest)

pub record AreOrdersOf (bytes : List ℕ) (x : Option Orders × List ℕ) : Type 0 where
  pub spells : bytes ≡ text_of (order_lines x.0) ++ x.1
  pub like : IfSome x.0 AreOrdersLike

both_take : (bytes : List ℕ) (x : Option Orders × List ℕ) → both_orders_at bytes ≡ Some x → AreOrdersOf bytes x
unfolding both_orders_at
both_take bytes x e =
    let r = bind_some (list_at (codes "row_order") bytes) (λ rows. list_at (codes "column_order") rows.1 >>= λ cols. Some (Some (rows.0, cols.0), cols.1)) x e in
    let k = bind_some (list_at (codes "column_order") r.0.1) (λ cols. Some (Some (r.0.0, cols.0), cols.1)) x r.2 in
    let row_line = list_takes (codes "row_order") bytes r.0 r.1 in
    let col_line = list_takes (codes "column_order") r.0.1 k.0 k.1 in
    subst (AreOrdersOf bytes) (some_is (Some (r.0.0, k.0.0), k.0.1) x k.2)
    (record {
      spells = row_line.0 ∙ ap (λ (t : List ℕ). spelled (line (codes "row_order") (counted r.0.0)) ++ t) col_line.0 ∙ sym (orders_before (r.0.0, k.0.0) k.0.1);
      like = (row_line.1, col_line.1);
    })

pub orders_take : (bytes : List ℕ) (x : Option Orders × List ℕ) → orders_at bytes ≡ Some x → AreOrdersOf bytes x
unfolding orders_at
orders_take bytes x e = by (starts_with nat_eq bytes (codes "row_order")) e
  where
    by : (b : Bool) → cond b (both_orders_at bytes) (Some (None, bytes)) ≡ Some x → AreOrdersOf bytes x
    by true f = both_take bytes x f
    by false f = subst (AreOrdersOf bytes) (some_is (None, bytes) x f) (record { spells = refl; like = tt })

both_again : (o : Orders) (rest : List ℕ) → AreOrdersLike o → both_orders_at (spelled (line (codes "row_order") (counted o.0)) ++ (spelled (line (codes "column_order") (counted o.1)) ++ rest)) ≡ Some (Some o, rest)
unfolding both_orders_at
both_again o rest like =
    rw (list_again (codes "row_order") o.0 (spelled (line (codes "column_order") (counted o.1)) ++ rest) like.0, list_again (codes "column_order") o.1 rest like.1) refl

pub orders_again : (o : Option Orders) (rest : List ℕ) → IfSome o AreOrdersLike → starts_with nat_eq rest (codes "row_order") ≡ false → orders_at (text_of (order_lines o) ++ rest) ≡ Some (o, rest)
unfolding orders_at
orders_again None rest like other = rw other refl
orders_again (Some o) rest like other = ap orders_at (orders_before o rest) ∙ both_again o rest like

-- ---- pairs

record IsPairOf (bytes : List ℕ) (x : Place × List ℕ) : Type 0 where
  pub spells : bytes ≡ spelled (pair_line x.0) ++ x.1
  pub row_fits : IsId x.0.0
  pub col_fits : IsId x.0.1

pair_takes : (bytes : List ℕ) (x : Place × List ℕ) → pair_at bytes ≡ Some x → IsPairOf bytes x
unfolding pair_at
pair_takes bytes x e =
    let r = bind_some (number_at bytes) (λ r. id_of r >>= λ row. field_at row.1 >>= λ c. id_of c >>= λ col. line_end col.1 >>= λ after. Some ((row.0, col.0), after)) x e in
    let row = bind_some (id_of r.0) (λ row. field_at row.1 >>= λ c. id_of c >>= λ col. line_end col.1 >>= λ after. Some ((row.0, col.0), after)) x r.2 in
    let c = bind_some (field_at row.0.1) (λ c. id_of c >>= λ col. line_end col.1 >>= λ after. Some ((row.0.0, col.0), after)) x row.2 in
    let col = bind_some (id_of c.0) (λ col. line_end col.1 >>= λ after. Some ((row.0.0, col.0), after)) x c.2 in
    let z = bind_some (line_end col.0.1) (λ after. Some ((row.0.0, col.0.0), after)) x col.2 in
    let nr = number_takes bytes r.0 r.1 in
    let ir = id_takes r.0 row.0 row.1 in
    let nc = field_takes row.0.1 c.0 c.1 in
    let ic = id_takes c.0 col.0 col.1 in
    subst (IsPairOf bytes) (some_is ((row.0.0, col.0.0), z.0) x z.2)
    (record {
      spells = nr.0 ∙ ap₂ (λ (n : ℕ) (t : List ℕ). decimal n ++ t) ir.0 (ir.1 ∙ nc.0 ∙ ap₂ (λ (n : ℕ) (t : List ℕ). (32 ∷ decimal n) ++ t) ic.0 (ic.1 ∙ end_takes col.0.1 z.0 z.1))
          ∙ sym (one_before (decimal (suc row.0.0)) (suc col.0.0) z.0);
      row_fits = omega (arith, nr.1, ir.0);
      col_fits = omega (arith, nc.1, ic.0);
    })

pair_again : (p : Place) (rest : List ℕ) → IsId p.0 → IsId p.1 → pair_at (spelled (pair_line p) ++ rest) ≡ Some (p, rest)
unfolding pair_at
pair_again p rest row_fits col_fits =
    ap pair_at (one_before (decimal (suc p.0)) (suc p.1) rest)
    ∙ rw (
      number_again (suc p.0) ((32 ∷ decimal (suc p.1)) ++ 10 ∷ rest) (omega (arith, row_fits)) (space_ends (decimal (suc p.1) ++ 10 ∷ rest)),
      id_again p.0 ((32 ∷ decimal (suc p.1)) ++ 10 ∷ rest),
      field_again (suc p.1) (10 ∷ rest) (omega (arith, col_fits)) (line_ends_number rest),
      id_again p.1 (10 ∷ rest),
      end_again rest,
    ) refl

record ArePairLines (count : ℕ) (bytes : List ℕ) (x : List Place × List ℕ) : Type 0 where
  pub spells : bytes ≡ text_of (map pair_line x.0) ++ x.1
  pub rows_fit : AreIds (rows_of x.0)
  pub cols_fit : AreIds (cols_of x.0)
  pub many : length x.0 ≡ count

pair_list_takes : (count : ℕ) (bytes : List ℕ) (x : List Place × List ℕ) → pair_list_at count bytes ≡ Some x → ArePairLines count bytes x
unfolding pair_list_at
pair_list_takes zero bytes x e = subst (ArePairLines zero bytes) (some_is ([], bytes) x e) (record { spells = refl; rows_fit = tt; cols_fit = tt; many = refl })
pair_list_takes (suc count) bytes x e =
    let p = bind_some (pair_at bytes) (λ p. pair_list_at count p.1 >>= λ others. Some (p.0 ∷ others.0, others.1)) x e in
    let o = bind_some (pair_list_at count p.0.1) (λ others. Some (p.0.0 ∷ others.0, others.1)) x p.2 in
    let one = pair_takes bytes p.0 p.1 in
    let rest = pair_list_takes count p.0.1 o.0 o.1 in
    subst (ArePairLines (suc count) bytes) (some_is (p.0.0 ∷ o.0.0, o.0.1) x o.2)
    (record {
      spells = one.spells ∙ ap (λ (t : List ℕ). spelled (pair_line p.0.0) ++ t) rest.spells ∙ sym (line_first (pair_line p.0.0) (map pair_line o.0.0) o.0.1);
      rows_fit = (one.row_fits, rest.rows_fit);
      cols_fit = (one.col_fits, rest.cols_fit);
      many = ap suc rest.many;
    })

pair_list_again : (ps : List Place) (rest : List ℕ) → AreIds (rows_of ps) → AreIds (cols_of ps) → pair_list_at (length ps) (text_of (map pair_line ps) ++ rest) ≡ Some (ps, rest)
unfolding pair_list_at
pair_list_again [] rest rows_fit cols_fit = refl
pair_list_again (p ∷ ps) rest rows_fit cols_fit =
    ap (pair_list_at (suc (length ps))) (line_first (pair_line p) (map pair_line ps) rest)
    ∙ rw (pair_again p (text_of (map pair_line ps) ++ rest) rows_fit.0 cols_fit.0, pair_list_again ps rest rows_fit.1 cols_fit.1) refl

pub record ArePairsOf (bytes : List ℕ) (x : List Place × List ℕ) : Type 0 where
  pub spells : bytes ≡ text_of (pair_lines (Some x.0)) ++ x.1
  pub like : ArePairsLike x.0

pub pairs_take : (bytes : List ℕ) (x : List Place × List ℕ) → pairs_at bytes ≡ Some x → ArePairsOf bytes x
unfolding pairs_at
pairs_take bytes x e =
    let n = bind_some (one_at (codes "pairs") bytes) (λ count. pair_list_at count.0 count.1 >>= λ pairs. cond (rises (cols_of pairs.0)) (Some pairs) None) x e in
    let ps = bind_some (pair_list_at n.0.0 n.0.1) (λ pairs. cond (rises (cols_of pairs.0)) (Some pairs) None) x n.2 in
    let g = where_some (rises (cols_of ps.0.0)) (Some ps.0) x ps.2 in
    let head = one_takes (codes "pairs") bytes n.0 n.1 in
    let list = pair_list_takes n.0.0 n.0.1 ps.0 ps.1 in
    subst (ArePairsOf bytes) (some_is ps.0 x g.1)
    (record {
      spells = head.0 ∙ ap (λ (k : ℕ). spelled (line (codes "pairs") (k ∷ [])) ++ n.0.1) (sym list.many)
          ∙ ap (λ (t : List ℕ). spelled (line (codes "pairs") (length ps.0.0 ∷ [])) ++ t) list.spells
          ∙ sym (line_first (line (codes "pairs") (length ps.0.0 ∷ [])) (map pair_line ps.0.0) ps.0.1);
      like = record { rows_fit = list.rows_fit; cols_fit = list.cols_fit; rising = rises_sound (cols_of ps.0.0) g.0; few = omega (arith, list.many, head.1) };
    })

pub pairs_again : (ps : List Place) (rest : List ℕ) → ArePairsLike ps → pairs_at (text_of (pair_lines (Some ps)) ++ rest) ≡ Some (ps, rest)
unfolding pairs_at
pairs_again ps rest like =
    ap pairs_at (line_first (line (codes "pairs") (length ps ∷ [])) (map pair_line ps) rest)
    ∙ rw (one_again (codes "pairs") (length ps) (text_of (map pair_line ps) ++ rest) like.few, pair_list_again ps rest like.rows_fit like.cols_fit, rises_complete (cols_of ps) like.rising) refl
