-- What a seat lists stays its own: trees that it took itself, and vertices of such trees.
use Rattle.std.proofs.Common.{◌≡◌, ◌⊎◌, ◌∙◌, ℕ, Option, None, Some, List, [], ◌∷◌, sym, ap, subst, inl, ⊎_elim}
use Rattle.bip_defs.specs.Lists.{Among}
use Rattle.bip_defs.specs.WordValues.{held}
use Rattle.bip_defs.proofs.Sets.{among_last, among_left}
use Rattle.flip_words.specs.Board.{Board}
use Rattle.flip_words.specs.Listed.{with_taken}
use Rattle.flip_words.specs.Seat.{IsRightful, Seat, Took, TookTreeOf, after_look, after_set, after_take}

kept_taken : (list : List (ℕ × ℕ)) (root number : ℕ) (found : Option ℕ) (p : ℕ × ℕ) → Among p list → Among p (with_taken list root number found)
kept_taken list root number None p h = among_left p list ((root, number) ∷ []) h
kept_taken list root number (Some x) p h = h

new_taken : (list : List (ℕ × ℕ)) (root number : ℕ) (found : Option ℕ) (p : ℕ × ℕ) → Among p (with_taken list root number found) → Among p list ⊎ (p ≡ (root, number))
new_taken list root number None p h = among_last p (root, number) list h
new_taken list root number (Some x) p h = inl h

pub rightful_take : (s : Seat) (root : ℕ) (found : Option ℕ) → IsRightful s → IsRightful (after_take s root found)
rightful_take s root found own = record {
  taken = λ r n h. ⊎_elim (own.taken r n) (λ (e : ◌≡◌ {A = ℕ × ℕ} (r, n) (root, s.number)). ap (λ (p : ℕ × ℕ). p.1) e) (new_taken s.listed.taken root s.number found (r, n) h);
  sets = λ v mate h. let t = own.sets v mate h in (t.0, t.1, kept_taken s.listed.taken root s.number found (t.0, s.number) t.2);
}

-- the seat t is stored as s, and a set of a vertex leaves it as n
pub rightful_set : {s t n : Seat} {b : Board} (v w mate : ℕ) {root : ℕ} → s ≡ t → n ≡ after_set s w mate → w ≡ v → t.board ≡ b → held b.trees v ≡ Some root → Took t root → IsRightful s → IsRightful n
rightful_set {s = s} {t = t} v w mate {root = root} same is at board tree took own = subst IsRightful (sym is) record {
  taken = own.taken;
  sets = λ u x h. ⊎_elim (own.sets u x) (λ (e : ◌≡◌ {A = ℕ × ℕ} (u, x) (w, mate)). subst (TookTreeOf s) (sym (ap (λ (p : ℕ × ℕ). p.0) e)) there) (among_last (u, x) (w, mate) s.listed.sets h);
}
  where
    there : TookTreeOf s w
    there = subst (TookTreeOf s) (sym at) (subst (λ (r : Seat). TookTreeOf r v) (sym same) (root, ap (λ (d : Board). held d.trees v) board ∙ tree, took))

pub rightful_look : (s : Seat) (v : ℕ) (mate : Option ℕ) → IsRightful s → IsRightful (after_look s v mate)
rightful_look s v mate own = record { taken = own.taken; sets = own.sets }
