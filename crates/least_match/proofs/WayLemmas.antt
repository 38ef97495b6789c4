-- What the exchanges of a path leave, and the matchings that are made of it.
use Rattle.std.proofs.Common.{◌≡◌, ◌≢◌, ◌⊎◌, ◌↔◌, ◌∙◌, ℕ, suc, ◌<◌, ◌≤◌, List, ◌∷◌, length, refl, sym, ap, subst, inl, inr, ⊎_elim, arith}
use Rattle.bip_defs.specs.Lists.{Among, AreDistinct}
use Rattle.bip_defs.specs.Matching.{IsMatching, IsMaximum, cols_of, rows_of}
use Rattle.bip_defs.specs.Matrix.{IsEntry, Matrix, Place}
use Rattle.bip_defs.specs.Paths.{Reassigns}
use Rattle.bip_defs.specs.Queues.{Queue, at, heads}
use Rattle.bip_defs.proofs.Exchange.{adds_pair}
use Rattle.bip_defs.proofs.Queues.{head_at}
use Rattle.bip_defs.proofs.Reaching.{same_size_maximum}
use Rattle.bip_defs.proofs.Sets.{col_among, col_pair, number_among, one_col, one_row, row_among}
use Rattle.least_match.specs.Exchanges.{AgreeBeside, Frees, IsMatchedTree, Swaps}
use Rattle.least_match.specs.Extensions.{HasAt}
use Rattle.least_match.specs.Trees.{AreSearchTrees, IsLedTo, IsTree}
use Rattle.least_match.proofs.ExchangeLemmas.{Unpairs, parted_col, parted_row}

pub matched_tree : (a : Matrix) (m : List Place) (classes : List ℕ) (j first : ℕ) (q : Queue) → IsTree a m classes j first q → IsMatchedTree m q
matched_tree a m classes j first q t = record { distinct = t.distinct; matched = t.matched; behind = t.behind }

-- the first column of the backward tree has lost its mate
pub record HasVacated (a : Matrix) (m n : List Place) (j : ℕ) (b : Queue) : Type 0 where
  pub matching : IsMatching a n
  pub size : length m ≡ suc (length n)
  pub col_free : ¬ Among j (cols_of n)
  pub beside : AgreeBeside b m n

module _ (a : Matrix) (m : List Place) (classes : List ℕ) (j d : ℕ) (f b : Queue) (k : IsMatching a m) (t : AreSearchTrees a m classes j d f b) where
  pub j_on : Among j (heads b)
  j_on = subst (λ x. Among x (heads b)) t.backward_tree.root (head_at b 0 t.backward_tree.some)

  -- columns below j are in neither tree
  below_f : (c : ℕ) → c < j → ¬ Among c (heads f)
  below_f c lt h = let from = (t.forward_tree.tail c h).from in omega arith

  below_b : (c : ℕ) → c < j → ¬ Among c (heads b)
  below_b c lt h = let from = (t.backward_tree.tail c h).from in omega arith

  -- the column alone is parted
  pub parted_vacates : (n : List Place) (r : ℕ) → AreDistinct (rows_of n) → AreDistinct (cols_of n) → Among (r, j) m → Unpairs r m n → length m ≡ suc (length n) → HasVacated a m n j b
  parted_vacates n r rows cols p parts size = record {
    matching = record { entries = λ s c h. k.entries s c ((parts (s, c)).0 h).0; rows_differ = rows; cols_differ = cols };
    size = size;
    col_free = parted_col r j m n k.cols_differ parts p;
    beside = λ s c off. (λ h. (parts (s, c)).1 (h, λ e. off (subst (λ x. Among x (heads b)) (one_col m k.rows_differ r j c p (subst (λ x. Among (x, c) m) e h)) j_on)), λ h. ((parts (s, c)).0 h).0);
  }

  -- the hole was moved to the column
  pub vacate_vacates : (n : List Place) → IsMatching a n → length m ≡ suc (length n) → ¬ Among (at b 0).0 (cols_of n) → AgreeBeside b m n → HasVacated a m n j b
  vacate_vacates n kn size free beside = record { matching = kn; size = size; col_free = subst (λ x. ¬ Among x (cols_of n)) t.backward_tree.root free; beside = beside }

  module _ (n : List Place) (v : HasVacated a m n j b) where
    -- a column without a mate is in no tree, and stays so
    pub col_fresh : (c : ℕ) → ¬ Among c (cols_of m) → ¬ Among c (cols_of n)
    col_fresh c free h = let (r, p) = col_pair c n h in free (col_among r c m ((v.beside r c (λ on. free (t.backward_tree.matched c on))).1 p))

    -- the forward tree is as before
    pub forward_matched_tree : IsMatchedTree n f
    forward_matched_tree = record {
      distinct = t.forward_tree.distinct;
      matched = λ c h. let (r, p) = col_pair c m (t.forward_tree.matched c h) in col_among r c n ((v.beside r c (t.apart c h)).0 p);
      behind = t.forward_tree.behind;
    }

    pub forward_led : IsLedTo a n f
    forward_led i some lt r p = t.forward_led i some lt r ((v.beside r (at f i).0 (t.apart (at f i).0 (head_at f i lt))).1 p)

    -- rows are moved up the forward tree
    pub shifted_frees : (o : List Place) (own r : ℕ) → IsMatching a o → length o ≡ length n → AgreeBeside f n o → Among (own, (at f 0).0) n → ¬ Among own (rows_of o) → Among (r, (at f 0).0) m → Frees a m j r o
    shifted_frees o own r ko size beside has free p = record {
      matching = ko;
      size = v.size ∙ ap suc (sym size);
      col_free = λ h. let (s, q) = col_pair j o h in v.col_free (col_among s j n ((beside s j (λ on. t.apart j on j_on)).1 q));
      row_free = subst (λ x. ¬ Among x (rows_of o)) (one_row m k.cols_differ own r (at f 0).0 ((v.beside own (at f 0).0 (t.apart (at f 0).0 (head_at f 0 t.forward_tree.some))).1 has) p) free;
      agrees = λ s c lt. (λ h. (beside s c (below_f c lt)).0 ((v.beside s c (below_b c lt)).0 h), λ h. (v.beside s c (below_b c lt)).1 ((beside s c (below_f c lt)).1 h));
    }

    -- an unmatched column takes the row that was left, and the first column of the forward tree loses its own
    pub taken_frees : (o u : List Place) (row col own r : ℕ) → AreDistinct (rows_of u) → AreDistinct (cols_of u) → j < col → ¬ Among col (cols_of m) → ¬ Among row (rows_of n) → IsEntry a row col → Reassigns (row, col) n o → length o ≡ suc (length n) → Among (own, (at f 0).0) o → Unpairs own o u → length o ≡ suc (length u) → Among (r, (at f 0).0) m → Frees a m j r u
    taken_frees o u row col own r rows cols behind fresh row_free e gives more has parts less p = record {
      matching = record { entries = λ s c h. entry s c ((parts (s, c)).0 h).0; rows_differ = rows; cols_differ = cols };
      size = v.size ∙ sym more ∙ less;
      col_free = λ h. let (s, q) = col_pair j u h in ⊎_elim (λ g. let z : j ≡ col = ap (λ (x : Place). x.1) g in omega arith) (λ g. v.col_free (col_among s j n g.0)) ((gives (s, j)).0 ((parts (s, j)).0 q).0);
      row_free = subst (λ x. ¬ Among x (rows_of u)) is_own (parted_row own o u parts);
      agrees = λ s c lt. (λ h. (parts (s, c)).1 ((gives (s, c)).1 (inr (kept s c lt h, λ z. at_row s c lt h z)), λ z. at_first s c lt h z), λ h. ⊎_elim (λ g. let z : c ≡ col = ap (λ (x : Place). x.1) g in absurd (omega arith)) (λ g. (v.beside s c (below_b c lt)).1 g.0) ((gives (s, c)).0 ((parts (s, c)).0 h).0));
    }
      where
        entry : (s c : ℕ) → Among (s, c) o → IsEntry a s c
        entry s c h = ⊎_elim (λ g. subst (λ (x : Place). IsEntry a x.0 x.1) (sym g) e) (λ g. v.matching.entries s c g.0) ((gives (s, c)).0 h)

        kept : (s c : ℕ) → c < j → Among (s, c) m → Among (s, c) n
        kept s c lt h = (v.beside s c (below_b c lt)).0 h

        first_n : Among (r, (at f 0).0) n
        first_n = (v.beside r (at f 0).0 (t.apart (at f 0).0 (head_at f 0 t.forward_tree.some))).0 p

        first_apart : (at f 0).0 ≢ col
        first_apart z = fresh (subst (λ x. Among x (cols_of m)) z (t.forward_tree.matched (at f 0).0 (head_at f 0 t.forward_tree.some)))

        is_own : own ≡ r
        is_own = ⊎_elim (λ g. absurd (first_apart (ap (λ (x : Place). x.1) g))) (λ g. one_row n v.matching.cols_differ own r (at f 0).0 g.0 first_n) ((gives (own, (at f 0).0)).0 has)

        -- the row that the column takes has no mate below j
        at_row : (s c : ℕ) → c < j → Among (s, c) m → s ≢ row
        at_row s c lt h z = row_free (subst (λ x. Among x (rows_of n)) z (row_among s c n (kept s c lt h)))

        at_first : (s c : ℕ) → c < j → Among (s, c) m → s ≢ own
        at_first s c lt h z = let same : c ≡ (at f 0).0 = one_col m k.rows_differ r c (at f 0).0 (subst (λ x. Among (x, c) m) (z ∙ is_own) h) p in below_f c lt (subst (λ x. Among x (heads f)) (sym same) (head_at f 0 t.forward_tree.some))

-- Matchings with the row at the column.

-- the pair is made
pub frees_then_gives : (a : Matrix) (m n o : List Place) (j r : ℕ) → IsMaximum a m → Frees a m j r n → IsEntry a r j → AreDistinct (rows_of o) → AreDistinct (cols_of o) → Reassigns (r, j) n o → length o ≡ suc (length n) → HasAt a m j r o
frees_then_gives a m n o j r max x e rows cols gives size = record {
  extends = record {
    maximum = same_size_maximum a m o max (record { entries = λ s c h. ⊎_elim (λ g. subst (λ (z : Place). IsEntry a z.0 z.1) (sym g) e) (λ g. x.matching.entries s c g.0) ((gives (s, c)).0 h); rows_differ = rows; cols_differ = cols }) (size ∙ sym x.size);
    agrees = λ s c lt. (λ h. let in_n = (x.agrees s c lt).0 h in (gives (s, c)).1 (inr (in_n, λ z. x.row_free (subst (λ y. Among y (rows_of n)) z (row_among s c n in_n)))), λ h. ⊎_elim (λ g. let z : c ≡ j = ap (λ (y : Place). y.1) g in absurd (omega arith)) (λ g. (x.agrees s c lt).1 g.0) ((gives (s, c)).0 h));
  };
  at = (gives (r, j)).1 (inl refl);
}

-- a row is given to the column, in place of the row s at a column that is not below
pub swapped : (a : Matrix) (m n : List Place) (j r s x : ℕ) → IsMaximum a m → IsEntry a r j → AreDistinct (rows_of n) → AreDistinct (cols_of n) → Swaps (r, j) s m n → length n ≡ length m → Among (s, x) m → j ≤ x → HasAt a m j r n
swapped a m n j r s x max e rows cols swaps size p le = record {
  extends = record {
    maximum = same_size_maximum a m n max (record { entries = λ t c h. ⊎_elim (λ g. subst (λ (z : Place). IsEntry a z.0 z.1) (sym g) e) (λ g. max.matching.entries t c g.0) ((swaps (t, c)).0 h); rows_differ = rows; cols_differ = cols }) size;
    agrees = λ t c lt. (λ h. (swaps (t, c)).1 (inr (h, λ z. let same : c ≡ x = one_col m max.matching.rows_differ s c x (subst (λ y. Among (y, c) m) z h) p in omega arith)), λ h. ⊎_elim (λ g. let z : c ≡ j = ap (λ (y : Place). y.1) g in absurd (omega arith)) (λ g. g.0) ((swaps (t, c)).0 h));
  };
  at = (swaps (r, j)).1 (inl refl);
}

-- no row and column without mates have an entry
pub no_free_entry : (a : Matrix) (m : List Place) (r c : ℕ) → IsMaximum a m → IsEntry a r c → ¬ Among r (rows_of m) → Among c (cols_of m)
no_free_entry a m r c max e free = ⊎_elim (λ h. h) (λ nh. let le = max.longest ((r, c) ∷ m) (adds_pair a r c m max.matching e free nh) in absurd (omega arith)) (number_among c (cols_of m))

-- the columns of a matching have the same mates, but for a pair that was made
pub still_matched : (c : ℕ) (p : Place) (n o : List Place) → ((q : Place) → Among q o ↔ ((q ≡ p) ⊎ Among q n)) → Among c (cols_of n) → Among c (cols_of o)
still_matched c p n o added h = let (r, q) = col_pair c n h in col_among r c o ((added (r, c)).1 (inr q))
