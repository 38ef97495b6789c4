-- Two lists compared by marks: each number of the one is marked, and each number of the other takes its mark away.
use Rattle.std.proofs.Common.{◌≡◌, ◌≢◌, ◌∙◌, ℕ, ◌+◌, ◌<◌, ◌≤◌, Bool, true, false, List, [], ◌∷◌, ◌++◌, length, get_or, set, take, take_all, length-set, sym, ap, subst, inl, ⊎_elim, arith, true≢false}
use Rattle.std.proofs.lemmas.List.{get_or-set_other, get_or-set_same, take_more}
use Rattle.bip_defs.specs.Lists.{Among, AreDistinct}
use Rattle.bip_defs.proofs.Sets.{among_at, among_last, among_left, among_right, drops_kept, drops_length, few_distinct, number_among, number_same, taken, apart_from_front, distinct_last, marked_below}
use Rattle.bip_defs.specs.Lists.{IsMarked}
use Rattle.btf_check.specs.ReportParts.{AreOnce}

-- the first k numbers are marked
pub record IsMarking (once : List ℕ) (k n : ℕ) (marks : List Bool) : Type 0 where
  pub long : length marks ≡ n
  pub marked : (x : ℕ) → IsMarked marks x → Among x (take k once)
  pub all : (x : ℕ) → Among x (take k once) → IsMarked marks x

pub marking_more : (once : List ℕ) (k n x : ℕ) (marks : List Bool) → k < length once → x < n → get_or once k 0 ≡ x → IsMarking once k n marks → IsMarking once (k + 1) n (set marks x true)
marking_more once k n x marks lt below e is = record {
  long = length-set marks x true ∙ is.long;
  marked = λ y h. subst (Among y) (sym more) (⊎_elim (λ (same : y ≡ x). among_right y (take k once) (x ∷ []) (inl same)) (λ (ne : y ≢ x). among_left y (take k once) (x ∷ []) (is.marked y (sym (get_or-set_other marks x y true false ne) ∙ h))) (number_same y x));
  all = λ y h. ⊎_elim (λ (same : y ≡ x). subst (IsMarked (set marks x true)) (sym same) (get_or-set_same marks x true false (let l = is.long in omega arith))) (λ (ne : y ≢ x). get_or-set_other marks x y true false ne ∙ is.all y (prefix y ne h)) (number_same y x);
}
  where
    more : take (k + 1) once ≡ take k once ++ x ∷ []
    more = take_more once k 0 lt ∙ ap (λ z. take k once ++ z ∷ []) e

    prefix : (y : ℕ) → y ≢ x → Among y (take (k + 1) once) → Among y (take k once)
    prefix y ne h = ⊎_elim (λ (g : Among y (take k once)). g) (λ (same : y ≡ x). absurd (ne same)) (among_last y x (take k once) (subst (Among y) more h))

-- the marks that are left when the first k numbers of the list have taken theirs away
pub record IsStriking (once list : List ℕ) (k n : ℕ) (marks : List Bool) : Type 0 where
  pub long : length marks ≡ n
  pub marked : (x : ℕ) → IsMarked marks x → Among x once × (¬ Among x (take k list))
  pub left : (x : ℕ) → Among x once → ¬ Among x (take k list) → IsMarked marks x
  pub distinct : AreDistinct (take k list)
  pub sound : (x : ℕ) → Among x (take k list) → Among x once

pub striking_more : (once list : List ℕ) (k n x : ℕ) (marks : List Bool) → k < length list → get_or list k 0 ≡ x → IsMarked marks x → IsStriking once list k n marks → IsStriking once list (k + 1) n (set marks x false)
striking_more once list k n x marks lt e on is = record {
  long = length-set marks x false ∙ is.long;
  marked = λ y h. ⊎_elim
      (λ (same : y ≡ x). absurd (off y same h))
      (λ (ne : y ≢ x). let old = is.marked y (sym (get_or-set_other marks x y false false ne) ∙ h) in (old.0, λ g. ⊎_elim old.1 ne (among_last y x (take k list) (subst (Among y) more g))))
      (number_same y x);
  left = λ y h none. ⊎_elim
      (λ (same : y ≡ x). absurd (none (subst (Among y) (sym more) (among_right y (take k list) (x ∷ []) (inl same)))))
      (λ (ne : y ≢ x). get_or-set_other marks x y false false ne ∙ is.left y h (λ g. none (subst (Among y) (sym more) (among_left y (take k list) (x ∷ []) g))))
      (number_same y x);
  distinct = subst AreDistinct (sym more) (distinct_last (take k list) x is.distinct (is.marked x on).1);
  sound = λ y h. ⊎_elim (is.sound y) (λ (same : y ≡ x). subst (λ z. Among z once) (sym same) (is.marked x on).0) (among_last y x (take k list) (subst (Among y) more h));
}
  where
    more : take (k + 1) list ≡ take k list ++ x ∷ []
    more = take_more list k 0 lt ∙ ap (λ z. take k list ++ z ∷ []) e

    off : (y : ℕ) → y ≡ x → ¬ IsMarked (set marks x false) y
    off y same h = true≢false (sym h ∙ ap (λ z. get_or (set marks x false) z false) same ∙ get_or-set_same marks x false false (marked_below marks x on))

-- a number without a mark shows that the list is another
pub striking_stop : (once list : List ℕ) (k n x : ℕ) (marks : List Bool) → k < length list → get_or list k 0 ≡ x → ¬ IsMarked marks x → IsStriking once list k n marks → ¬ AreOnce once list
striking_stop once list k n x marks lt e off is all = off (is.left x (all.sound x (subst (λ z. Among z list) e (among_at list k 0 lt))) (subst (λ z. ¬ Among z (take k list)) e (apart_from_front k 0 list lt all.distinct)))

pub striking_end : (once list : List ℕ) (k n : ℕ) (marks : List Bool) → length list ≤ k → length list ≡ length once → IsStriking once list k n marks → AreOnce once list
striking_end once list k n marks le same is = record {
  distinct = subst AreDistinct whole is.distinct;
  sound = sound;
  complete = λ x h. ⊎_elim (λ (g : Among x list). g) (λ (ne : ¬ Among x list). absurd (lacks x h ne)) (number_among x list);
}
  where
    whole : take k list ≡ list
    whole = take_all k list le

    sound : (x : ℕ) → Among x list → Among x once
    sound x h = is.sound x (subst (Among x) (sym whole) h)

    lacks : (x : ℕ) → Among x once → ¬ ¬ Among x list
    lacks x h ne =
        let (ys, drops) = taken x once h in
        let few = few_distinct list ys (subst AreDistinct whole is.distinct) (λ y g. ⊎_elim (λ (e : y ≡ x). absurd (ne (subst (λ z. Among z list) e g))) (λ (l : Among y ys). l) (drops_kept drops y (sound y g))) in
        let long = drops_length drops in
        omega (arith, few, long, same)

-- lists of two lengths
pub once_long : (once list : List ℕ) → AreDistinct once → AreOnce once list → length list ≡ length once
once_long once list distinct all = omega (arith, few_distinct list once all.distinct all.sound, few_distinct once list distinct all.complete)
