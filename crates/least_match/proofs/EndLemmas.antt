-- What a search that ends without a path shows, and what is kept.
use Rattle.std.proofs.Common.{◌≡◌, ◌⊎◌, ◌∙◌, ℕ, ◌+◌, ◌<◌, List, [], ◌∷◌, length, get_or, refl, sym, subst, inl, inr, ⊎_elim, arith}
use Rattle.std.proofs.lemmas.List.{get_or_read}
use Rattle.bip_defs.specs.Lists.{Among}
use Rattle.bip_defs.specs.Matching.{IsMaximum, cols_of}
use Rattle.bip_defs.specs.Matrix.{Matrix, Place, cols}
use Rattle.bip_defs.specs.Parts.{IsHorizontalCol, IsVerticalCol}
use Rattle.bip_defs.specs.Queues.{Queue, at, heads}
use Rattle.bip_defs.proofs.Queues.{head_at}
use Rattle.bip_defs.proofs.Square.{cols_apart}
use Rattle.bip_graph.specs.Matching.{IsMaximumOf, Pairing}
use Rattle.least_match.specs.Classes.{AreClasses, IsInTail, IsSplit}
use Rattle.least_match.specs.Exchanges.{Frees}
use Rattle.least_match.specs.Extensions.{Excludes, Extends, HasAt}
use Rattle.least_match.specs.Outcomes.{AreParted, AreScanned, AreScannedBack, BackwardDecides, ForwardDecides, IsIn}
use Rattle.least_match.specs.Ready.{IsReady}
use Rattle.least_match.specs.Trees.{AreSearchTrees, IsTree}
use Rattle.least_match.specs.declared.classes.ColClasses.{ColClasses}
use Rattle.least_match.specs.declared.exchanges.Exchanges.{Exchanges}
use Rattle.least_match.specs.declared.parts.ColPart.{ColPart}
use Rattle.least_match.specs.declared.parts.ColPart.TheVariants.{Horizontal, Square, Vertical}
use Rattle.least_match.proofs.ClassLemmas.{IsTight, backward_cols, backward_rows, classes_more, forward_cols, forward_rows, split_classes, tight_excluded, tight_excluded_back}

-- a tree that decides in the column's part
pub forward_inner : (a : Matrix) (j : ℕ) (p : ColPart) → IsIn a j p → ForwardDecides p → ¬ IsHorizontalCol a j
forward_inner a j Horizontal h decides = absurd decides
forward_inner a j Square h decides = h.0
forward_inner a j Vertical h decides = λ z. cols_apart a j z h

pub backward_inner : (a : Matrix) (j : ℕ) (p : ColPart) → IsIn a j p → BackwardDecides p → ¬ IsVerticalCol a j
backward_inner a j Horizontal h decides = cols_apart a j h
backward_inner a j Square h decides = h.1
backward_inner a j Vertical h decides = absurd decides

-- the part that was read
pub part_at : (a : Matrix) (parts : List ColPart) (j : ℕ) (p : ColPart) → AreParted a parts → j < cols a → p ≡ get_or parts j p → IsIn a j p
part_at a parts j p k lt e = subst (IsIn a j) (sym (get_or_read parts j p (omega (arith, k.long)) e Square)) (k.each j lt)

module _ (a : Matrix) (m : List Place) (j d r : ℕ) (classes : List ℕ) (count : ℕ) (f b : Queue) (k : AreClasses a m j classes count) (max : IsMaximum a m) (lt : j < cols a) (t : AreSearchTrees a m classes j d f b) (mate : Among (r, d) m) where
  j_on : Among j (heads b)
  j_on = subst (λ x. Among x (heads b)) t.backward_tree.root (head_at b 0 t.backward_tree.some)

  d_on : Among d (heads f)
  d_on = subst (λ x. Among x (heads f)) t.forward_tree.root (head_at f 0 t.forward_tree.some)

  module _ (inner : ¬ IsHorizontalCol a j) (scanned : AreScanned a m classes j f (length f)) where
    forward_tight : IsTight a m j (heads f)
    forward_tight = record {
      rows = forward_rows a m j classes count d f k max lt t.forward_tree scanned inner;
      cols = forward_cols a m j classes count d f k max lt t.forward_tree scanned inner;
    }

    -- the row is excluded, and the tree is a class
    pub forward_excludes : Excludes a m j r
    forward_excludes = tight_excluded a m j r d (heads f) forward_tight mate d_on (λ h. t.apart j h j_on)

    pub forward_splits : (new : List ℕ) → IsSplit classes count (heads f) new → AreClasses a m j new (count + 1)
    forward_splits new split = split_classes a m j classes new count (heads f) k split t.forward_tree.tail forward_tight

  module _ (inner : ¬ IsVerticalCol a j) (scanned : AreScannedBack a m classes j b (length b)) where
    backward_tight : IsTight a m j (heads b)
    backward_tight = record {
      rows = backward_rows a m j classes count j b k max lt t.backward_tree scanned inner;
      cols = backward_cols a m j classes count j b k max lt t.backward_tree scanned inner;
    }

    pub backward_excludes : Excludes a m j r
    backward_excludes = tight_excluded_back a m j r d (heads b) max.matching backward_tight mate (t.apart d d_on) j_on

    pub backward_splits : (new : List ℕ) → IsSplit classes count (heads b) new → AreClasses a m j new (count + 1)
    backward_splits new split = split_classes a m j classes new count (heads b) k split t.backward_tree.tail backward_tight

-- The trees of a search that begins.

one_tree : (a : Matrix) (m : List Place) (classes : List ℕ) (j c p : ℕ) → IsInTail a classes j c → Among c (cols_of m) → IsTree a m classes j c ((c, p) ∷ [])
one_tree a m classes j c p in_tail matched = record {
  some = omega arith;
  root = refl;
  tail = λ x h. ⊎_elim (λ (e : x ≡ c). subst (IsInTail a classes j) (sym e) in_tail) (λ (z : ⊥). absurd z) h;
  matched = λ x h. ⊎_elim (λ (e : x ≡ c). subst (λ y. Among y (cols_of m)) (sym e) matched) (λ (z : ⊥). absurd z) h;
  distinct = (λ h. h, tt);
  behind = λ i some lt. absurd (omega (arith, some, lt));
}

pub trees_start : (a : Matrix) (m : List Place) (classes : List ℕ) (j d : ℕ) (f b : Queue) → f ≡ (d, 0) ∷ [] → b ≡ (j, 0) ∷ [] → IsInTail a classes j d → j < d → Among d (cols_of m) → Among j (cols_of m) → AreSearchTrees a m classes j d f b
trees_start a m classes j d f b e g in_tail lt matched own = subst (λ (x : Queue). AreSearchTrees a m classes j d x b) (sym e) (subst (λ (y : Queue). AreSearchTrees a m classes j d ((d, 0) ∷ []) y) (sym g) (record {
  forward_tree = one_tree a m classes j d 0 in_tail matched;
  forward_led = λ i some l. absurd (omega (arith, some, l));
  backward_tree = one_tree a m classes j j 0 (record { from = omega arith; within = let within = in_tail.within in omega arith; class = refl }) own;
  backward_leads = λ i some l. absurd (omega (arith, some, l));
  apart = λ c h k. ⊎_elim (λ (z : c ≡ d). ⊎_elim (λ (y : c ≡ j). absurd (omega arith)) (λ (y : ⊥). y) k) (λ (z : ⊥). z) h;
}))

-- the row of the forward tree's first column is free
pub root_frees : {a : Matrix} {m n : List Place} {classes : List ℕ} {j d r : ℕ} {f b : Queue} → AreSearchTrees a m classes j d f b → ((s : ℕ) → Among (s, (at f 0).0) m → Frees a m j s n) → Among (r, d) m → Frees a m j r n
root_frees {m = m} {r = r} t frees mate = frees r (subst (λ x. Among {X = Place} (r, x) m) (sym t.forward_tree.root) mate)

-- classes of which one was split off, or none where no number was left
pub split_or_not : {a : Matrix} {m : List Place} {j : ℕ} {old new : ColClasses} {xs : List ℕ} → AreClasses a m j old.numbers.items old.count → (IsSplit old.numbers.items old.count xs new.numbers.items → AreClasses a m j new.numbers.items (old.count + 1)) → (new ≡ old) ⊎ (IsSplit old.numbers.items old.count xs new.numbers.items × (new.count ≡ old.count + 1)) → AreClasses a m j new.numbers.items new.count
split_or_not {a = a} {m = m} {j = j} k split (inl e) = subst (λ (z : ColClasses). AreClasses a m j z.numbers.items z.count) (sym e) k
split_or_not {a = a} {m = m} {j = j} {new = new} k split (inr s) = subst (AreClasses a m j new.numbers.items) (sym s.1) (split s.0)

-- A maximum matching as contracts see it.

pub has_maximum : (a : Matrix) (m n : Pairing) (j r : ℕ) → IsMaximumOf a m → n.rows ≡ m.rows → n.cols ≡ m.cols → HasAt a m.pairs j r n.pairs → IsMaximumOf a n
has_maximum a m n j r k rows sizes h = record {
  matching = record { rows = rows ∙ k.matching.rows; cols = sizes ∙ k.matching.cols; matching = h.extends.maximum.matching };
  maximum = h.extends.maximum;
}

-- What is kept, where the column j is settled.
pub ready_more : (a : Matrix) (m m2 : List Place) (j : ℕ) (x : Exchanges) → IsReady a m j x → Extends a m j m2 → IsReady a m2 (j + 1) x
ready_more a m m2 j x k e = record { pattern = k.pattern; parts = k.parts; classes = classes_more a m m2 j x.classes.numbers.items x.classes.count k.classes e; trees = k.trees }

-- the same of the matrix and the matching by another name
pub ready_same : (a a2 : Matrix) (m m2 : Pairing) (j : ℕ) (x : Exchanges) → a ≡ a2 → m ≡ m2 → IsReady a m.pairs j x → IsReady a2 m2.pairs j x
ready_same a a2 m m2 j x e f k = subst (λ (z : Matrix). IsReady z m2.pairs j x) e (subst (λ (z : Pairing). IsReady a z.pairs j x) f k)

pub has_same : (a a2 : Matrix) (m m2 : Pairing) (j r s : ℕ) (n : List Place) → a ≡ a2 → m ≡ m2 → r ≡ s → HasAt a m.pairs j r n → HasAt a2 m2.pairs j s n
has_same a a2 m m2 j r s n e f g h = subst (λ (z : Matrix). HasAt z m2.pairs j s n) e (subst (λ (z : Pairing). HasAt a z.pairs j s n) f (subst (λ x. HasAt a m.pairs j x n) g h))

pub excludes_same : (a a2 : Matrix) (m m2 : Pairing) (j r s : ℕ) → a ≡ a2 → m ≡ m2 → r ≡ s → Excludes a m.pairs j r → Excludes a2 m2.pairs j s
excludes_same a a2 m m2 j r s e f g h = subst (λ (z : Matrix). Excludes z m2.pairs j s) e (subst (λ (z : Pairing). Excludes a z.pairs j s) f (subst (Excludes a m.pairs j) g h))
