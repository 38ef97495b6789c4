-- No reason applies exactly where a report is that of a matrix.
use Rattle.std.proofs.Common.{◌≡◌, ◌∙◌, ℕ, ◌<◌, Bool, true, false, List, ◌++◌, Option, Some, None, filter, nat_eq, refl, sym, subst}
use Rattle.std.specs.List.{list_any}
use Rattle.std.specs.Prelude.{IfSome}
use Rattle.bip_defs.specs.Blocks.{AreBlocksOf, all_cols, all_rows}
use Rattle.bip_defs.specs.ConnectedComponents.{AreConnectedComponents, Components}
use Rattle.bip_defs.specs.Decomposition.{Decomposition, IsDecompositionOf}
use Rattle.bip_defs.specs.Lists.{IsRising, Lists}
use Rattle.bip_defs.specs.Matching.{IsMaximum, cols_of}
use Rattle.bip_defs.specs.Matrix.{Matrix, Place, cols, upto}
use Rattle.bip_defs.specs.Once.{ListsOnce}
use Rattle.bip_defs.specs.Parts.{IsSquareCol, IsSquareRow}
use Rattle.bip_defs.proofs.Sets.{among_test, filter_lists, lists_same}
use Rattle.bip_defs.proofs.Together.{square_cols_once, square_rows_once}
use Rattle.bip_graph.specs.Answers.{AreOfVersion, orders_of, report_of, where_asked}
use Rattle.bip_graph.specs.Texts.{Report, version_of}
use Rattle.btf_check.specs.Reasons.{AreOrdersOf, IsMet, TellsParts}
use Rattle.btf_check.specs.Verdicts.{IsReportOf}

-- what is listed once in any order can be listed rising
abbrev sorted : ℕ → List ℕ → List ℕ
sorted n xs = filter (λ x. list_any (nat_eq x) xs) (upto n)

sorted_lists : (P : ℕ → Type 0) (n : ℕ) (xs : List ℕ) → ((x : ℕ) → P x → x < n) → ListsOnce P xs → Lists P (sorted n xs)
sorted_lists P n xs below once = lists_same (λ x. (x < n) × (list_any (nat_eq x) xs ≡ true)) P (sorted n xs) (λ x h. once.sound x ((among_test x xs).0 h.1)) (λ x p. (below x p, (among_test x xs).1 (once.complete x p))) (filter_lists (λ x. list_any (nat_eq x) xs) n)

-- The law.

is_met : (a : Matrix) (d : Decomposition) (v : ℕ) (cs : Option Components) (order : Bool) (m : List Place) → IsDecompositionOf a d → AreOfVersion a v cs → IsMaximum a m → (k : ℕ) → IsMet a (report_of a d cs order (Some m)) k
is_met a d v cs order m whole of_version max k = record {
  pairs = λ e. record { entries = max.matching.entries; rows_differ = max.matching.rows_differ };
  maximum = λ e. max;
  parts = λ e. record {
    sizes = refl;
    rank = whole.rank;
    horizontal_rows = whole.parts.horizontal_rows;
    horizontal_cols = whole.parts.horizontal_cols;
    square_rows = square_rows_once a d.blocks whole.blocks;
    square_cols = square_cols_once a d.blocks whole.blocks;
    vertical_rows = whole.parts.vertical_rows;
    vertical_cols = whole.parts.vertical_cols;
  };
  blocks = λ e. record { blocks = whole.blocks; orders = in_order order };
  components = λ e. listed cs of_version;
}
  where
    in_order : (b : Bool) → IfSome (where_asked b (orders_of d)) (AreOrdersOf (report_of a d cs order (Some m)))
    in_order true = record { rows = refl; cols = refl }
    in_order false = tt

    listed : (o : Option Components) → AreOfVersion a v o → IfSome o (AreConnectedComponents a)
    listed None h = tt
    listed (Some c) h = h.1

pub met_of_report : (a : Matrix) (r : Report) → IsReportOf a r → (k : ℕ) → IsMet a r k
met_of_report a r is k = subst (λ s. IsMet a s k) (sym is.same) (is_met a is.decomposition is.version is.components is.order is.matching is.is_decomposition is.of_version is.maximum k)

-- the decomposition that a report tells
abbrev contents : Matrix → Report → Decomposition
contents a r = record {
  rank = r.rank;
  parts = record {
    horizontal_rows = r.horizontal_rows;
    horizontal_cols = r.horizontal_cols;
    square_rows = sorted a.rows (all_rows r.blocks);
    square_cols = sorted (cols a) (all_cols r.blocks);
    vertical_rows = r.vertical_rows;
    vertical_cols = r.vertical_cols;
  };
  blocks = r.blocks;
}

told_decomposition : (a : Matrix) (r : Report) → TellsParts a r → AreBlocksOf a r.blocks → IsDecompositionOf a (contents a r)
told_decomposition a r tells blocks = record {
  rank = tells.rank;
  parts = record {
    horizontal_rows = tells.horizontal_rows;
    horizontal_cols = tells.horizontal_cols;
    square_rows = sorted_lists (IsSquareRow a) a.rows (all_rows r.blocks) (λ x s. s.0) tells.square_rows;
    square_cols = sorted_lists (IsSquareCol a) (cols a) (all_cols r.blocks) (λ x s. s.0) tells.square_cols;
    vertical_rows = tells.vertical_rows;
    vertical_cols = tells.vertical_cols;
  };
  blocks = blocks;
}

abbrev with_orders : {X : Type 0} → Option X → Bool
with_orders None = false
with_orders (Some x) = true

same_orders : (r : Report) (both : List ℕ × List ℕ) → (both.0 ≡ r.horizontal_rows ++ all_rows r.blocks ++ r.vertical_rows) → (both.1 ≡ r.horizontal_cols ++ all_cols r.blocks ++ r.vertical_cols) → (o : Option (List ℕ × List ℕ)) → IfSome o (AreOrdersOf r) → o ≡ where_asked (with_orders o) both
same_orders r both e f None h = refl
same_orders r both e f (Some o) h = λ i. Some ((h.rows ∙ sym e) i, (h.cols ∙ sym f) i)

-- the version of these components
told_version : (a : Matrix) (o : Option Components) → IfSome o (AreConnectedComponents a) → AreOfVersion a (version_of o) o
told_version a None h = refl
told_version a (Some c) h = (refl, h)

pub report_of_met : (a : Matrix) (r : Report) (pairs : List Place) → r.pairs ≡ Some pairs → IsRising (cols_of pairs) → ((k : ℕ) → IsMet a r k) → IsReportOf a r
report_of_met a r pairs given rising met = record {
  decomposition = contents a r;
  is_decomposition = told_decomposition a r tells ((met 5).blocks refl).blocks;
  version = version_of r.components;
  components = r.components;
  of_version = told_version a r.components ((met 6).components refl);
  order = with_orders r.orders;
  matching = pairs;
  maximum = subst (λ o. IfSome o (IsMaximum a)) given ((met 3).maximum refl);
  rising = rising;
  same = λ i. record {
    sizes = tells.sizes i;
    rank = r.rank;
    components = r.components;
    horizontal_rows = r.horizontal_rows;
    horizontal_cols = r.horizontal_cols;
    blocks = r.blocks;
    vertical_rows = r.vertical_rows;
    vertical_cols = r.vertical_cols;
    orders = same_orders r (orders_of (contents a r)) refl refl r.orders ((met 5).blocks refl).orders i;
    pairs = given i;
  };
}
  where
    tells : TellsParts a r
    tells = (met 4).parts refl
