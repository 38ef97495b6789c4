-- What the searches of a phase leave.
use Rattle.std.proofs.Common.{◌≡◌, ◌⊎◌, ◌∙◌, ℕ, ◌+◌, ◌<◌, ◌≤◌, Bool, true, false, List, [], ◌∷◌, ◌++◌, length, refl, sym, subst, subst₂, inl, inr, ⊎_elim, arith}
use Rattle.std.proofs.lemmas.List.{length-map}
use Rattle.std.specs.Bool.{OnFalse, OnTrue}
use Rattle.bip_defs.specs.Lists.{Among}
use Rattle.bip_defs.specs.Marks.{AreClosed, IsExplored}
use Rattle.bip_defs.specs.Matching.{Covers, IsMatching, IsMaximum, cols_of, transposed_places}
use Rattle.bip_defs.specs.Matrix.{Matrix, Place, cols, transpose}
use Rattle.bip_defs.specs.Parts.{MarkHorizontalRows}
use Rattle.bip_defs.proofs.Closed.{closed_maximum}
use Rattle.bip_defs.proofs.Sets.{among_last}
use Rattle.bip_defs.proofs.Transposed.{transpose_back, transpose_is, turned_maximum, turned_twice}
use Rattle.bip_graph.specs.Matching.{Pairing}
use Rattle.pothen_fan.specs.Roots.{HoldRoots, Extends}
use Rattle.path_search.specs.Search.{Augments, AreLedTo, Fails}

pub extends_matched : (a : Matrix) (m : Pairing) (marks : List Bool) (root : ℕ) → Among root (cols_of m.pairs) → Extends a m m marks marks root
extends_matched a m marks root on = inl (refl, record { marked = λ r h. h; closed = λ closed. closed; led = λ led. led; of_root = λ free. absurd (free on) })

pub extends_failed : (a : Matrix) (m n : Pairing) (old new : List Bool) (root : ℕ) → n ≡ m → Fails a m.pairs old new root → Extends a m n old new root
extends_failed a m n old new root same fails = inl (same, record { marked = fails.marked; closed = fails.closed; led = fails.led; of_root = λ free. fails.of_root })

pub extends_found : (a : Matrix) (m n : Pairing) (old new : List Bool) (root : ℕ) → Augments root old m.pairs n.pairs → Extends a m n old new root
extends_found a m n old new root found = inr (let e = found.size in omega arith)

-- the matching is as at the phase's start, and the rows that were marked are left out for good, or it has grown
abbrev pub Progress : Matrix → Pairing → Pairing → List Bool → List ℕ → Type 0
Progress a start m marks roots = ((m ≡ start) × AreClosed a m.pairs marks × AreLedTo a m.pairs marks × ((c : ℕ) → Among c roots → ¬ Among c (cols_of m.pairs) → IsExplored a marks c)) ⊎ (length start.pairs < length m.pairs)

pub progress_more : (a : Matrix) (start m n : Pairing) (old new : List Bool) (roots : List ℕ) (root : ℕ) → Progress a start m old roots → Extends a m n old new root → Progress a start n new (roots ++ root ∷ [])
progress_more a start m n old new roots root (inr grown) (inr more) = inr (omega arith)
progress_more a start m n old new roots root (inr grown) (inl same) = inr (subst (λ (p : Pairing). length start.pairs < length p.pairs) (sym same.0) grown)
progress_more a start m n old new roots root (inl stays) (inr more) = inr (subst (λ (p : Pairing). length p.pairs < length n.pairs) stays.0 more)
progress_more a start m n old new roots root (inl stays) (inl same) = inl (same.0 ∙ stays.0, subst (λ (p : Pairing). AreClosed a p.pairs new) (sym same.0) (same.1.closed stays.1), subst (λ (p : Pairing). AreLedTo a p.pairs new) (sym same.0) (same.1.led stays.2), λ c h. subst (λ (p : Pairing). ¬ Among c (cols_of p.pairs) → IsExplored a new c) (sym same.0) (λ free. ⊎_elim (λ g. (λ r e. same.1.marked r (stays.3 c g free r e))) (λ (e : c ≡ root). subst (λ x. IsExplored a new x) (sym e) (same.1.of_root (subst (λ x. ¬ Among x (cols_of m.pairs)) e free))) (among_last c root roots h)))

-- each unmatched column has all its entries in marked rows
all_explored : (a : Matrix) (start m : Pairing) (marks : List Bool) (roots : List ℕ) → m ≡ start → ((c : ℕ) → Among c roots → ¬ Among c (cols_of m.pairs) → IsExplored a marks c) → HoldRoots a start.pairs roots → (c : ℕ) → c < cols a → ¬ Among c (cols_of m.pairs) → IsExplored a marks c
all_explored a start m marks roots same explored hold c lt free r e = explored c (hold.complete c (record { unmatched = subst (λ (p : Pairing). ¬ Among c (cols_of p.pairs)) same free; entry = (r, e) })) free r e

pub progress_ends : (a : Matrix) (start m : Pairing) (marks : List Bool) (roots : List ℕ) → Progress a start m marks roots → HoldRoots a start.pairs roots → IsMatching a m.pairs → ((m ≡ start) × IsMaximum a start.pairs) ⊎ (length start.pairs < length m.pairs)
progress_ends a start m marks roots (inr grown) hold k = inr grown
progress_ends a start m marks roots (inl stays) hold k = inl (stays.0, subst (λ (p : Pairing). IsMaximum a p.pairs) stays.0 (closed_maximum a m.pairs marks k stays.1 (all_explored a start m marks roots stays.0 stays.3 hold)))

-- that such rows are the horizontal ones
abbrev pub AreTold : Matrix → List Place → List Bool → Type 0
AreTold a m marks = IsMatching a m → length marks ≡ a.rows → AreClosed a m marks → AreLedTo a m marks → ((c : ℕ) → c < cols a → ¬ Among c (cols_of m) → IsExplored a marks c) → MarkHorizontalRows a marks

pub progress_marks : (a : Matrix) (start m : Pairing) (marks : List Bool) (roots : List ℕ) → AreTold a m.pairs marks → Progress a start m marks roots → HoldRoots a start.pairs roots → IsMatching a m.pairs → length marks ≡ a.rows → length m.pairs ≡ length start.pairs → MarkHorizontalRows a marks
progress_marks a start m marks roots told (inr grown) hold k long same = absurd (omega arith)
progress_marks a start m marks roots told (inl stays) hold k long same = told k long stays.1 stays.2 (all_explored a start m marks roots stays.0 stays.3 hold)

-- Lists of roots.

pub roots_still : (a : Matrix) (m n : List Place) (roots : List ℕ) → Covers m n → HoldRoots a m roots → HoldRoots a n roots
roots_still a m n roots stay hold = record { in_range = hold.in_range; complete = λ c root. hold.complete c (record { unmatched = λ on. root.unmatched (stay.cols c on); entry = root.entry }) }

pub extends_either : (a : Matrix) (m n : Pairing) (old new : List Bool) (root : ℕ) (b : Bool) → OnTrue b (Augments root old m.pairs n.pairs) → OnFalse b (n ≡ m) → OnFalse b (Fails a m.pairs old new root) → Extends a m n old new root
extends_either a m n old new root true found same failed = extends_found a m n old new root found
extends_either a m n old new root false found same failed = extends_failed a m n old new root same failed

-- Phases that go on while they pay.

pub ungrown_maximum : (a : Matrix) (start m : Pairing) (growth : ℕ) → length m.pairs ≡ length start.pairs + growth → growth ≡ 0 → ((m ≡ start) × IsMaximum a start.pairs) ⊎ (length start.pairs < length m.pairs) → IsMaximum a m.pairs
ungrown_maximum a start m growth grown none (inl same) = subst (λ (p : Pairing). IsMaximum a p.pairs) (sym same.0) same.1
ungrown_maximum a start m growth grown none (inr more) = absurd (omega arith)

pub growth_ends : (a : Matrix) (first start m : Pairing) → length first.pairs ≤ length start.pairs → ((m ≡ start) × IsMaximum a start.pairs) ⊎ (length start.pairs < length m.pairs) → IsMaximum a m.pairs ⊎ (length first.pairs < length m.pairs)
growth_ends a first start m le (inl same) = inl (subst (λ (p : Pairing). IsMaximum a p.pairs) (sym same.0) same.1)
growth_ends a first start m le (inr more) = inr (omega arith)

-- Seen from the rows.

-- a matching of the transpose that is maximum, or longer than another, is so of the matrix
pub straight_longer : (a : Matrix) (start m : Pairing) → IsMaximum (transpose a) (transposed_places m.pairs) ⊎ (length (transposed_places start.pairs) < length (transposed_places m.pairs)) → IsMaximum a m.pairs ⊎ (length start.pairs < length m.pairs)
straight_longer a start m (inl max) = inl (subst (λ (z : List Place). IsMaximum a z) (turned_twice m.pairs) (turned_maximum (transpose a) a (transposed_places m.pairs) (transpose_back a (transpose a) (transpose_is a)) max))
straight_longer a start m (inr more) = inr (subst₂ (λ n k. n < k) (length-map start.pairs (λ (p : Place). (p.1, p.0))) (length-map m.pairs (λ (p : Place). (p.1, p.0))) more)
