-- What a failed search, and a search whose marks were taken away, leave of the marks.
use Rattle.std.proofs.Common.{◌≡◌, ◌∙◌, ℕ, zero, suc, ◌<◌, Bool, true, false, List, [], ◌∷◌, length, slice_index_or, refl, sym, ap, ⊎_elim, arith}
use Rattle.bip_defs.specs.Lists.{Among}
use Rattle.bip_defs.specs.Matching.{cols_of}
use Rattle.bip_defs.specs.Matrix.{Matrix, Place, cols}
use Rattle.bip_defs.proofs.Sets.{number_among}
use Rattle.path_search.specs.Search.{Exhausts, Fails, HasMarked, Unmarks}
use Rattle.path_search.proofs.MarkLemmas.{Grows, explored_grows}

marked_grows_to : (visited : List ℕ) (old new : List Bool) → HasMarked visited old new → Grows old new
marked_grows_to visited old new k r h = ⊎_elim (λ g. k.marked r g) (λ g. k.others r g ∙ h) (number_among r visited)

-- the rows that a failed search has marked lead nowhere
pub search_failed : (a : Matrix) (m : List Place) (visited : List ℕ) (old new : List Bool) (root : ℕ) → root < cols a → ¬ Among root (cols_of m) → HasMarked visited old new → Exhausts a m new visited root → Fails a m old new root
search_failed a m visited old new root below free k spent = record {
  marked = grows;
  closed = λ closed r h. ⊎_elim (λ g. spent.of_mates r g) (λ g. let (d, p, explored) = closed r (sym (k.others r g) ∙ h) in (d, p, explored_grows a old new d grows explored)) (number_among r visited);
  led = λ led r h. ⊎_elim (λ g. let (c, walk, e) = spent.walked r g in (c, (root, below, free, walk), e)) (λ g. led r (sym (k.others r g) ∙ h)) (number_among r visited);
  of_root = spent.of_root;
}
  where
    grows : Grows old new
    grows = marked_grows_to visited old new k

-- lists of one length that have the same at each place
same_marks : (xs ys : List Bool) → length xs ≡ length ys → ((r : ℕ) → slice_index_or xs r false ≡ slice_index_or ys r false) → xs ≡ ys
same_marks [] [] e same = refl
same_marks [] (y ∷ ys) e same = absurd (omega arith)
same_marks (x ∷ xs) [] e same = absurd (omega arith)
same_marks (x ∷ xs) (y ∷ ys) e same = ap (λ (b : Bool). b ∷ xs) (same zero) ∙ ap (λ (zs : List Bool). y ∷ zs) (same_marks xs ys (omega arith) (λ r. same (suc r)))

-- the marks are those from before the search
pub marks_restored : (visited : List ℕ) (start old new : List Bool) → HasMarked visited start old → Unmarks visited old new → new ≡ start
marks_restored visited start old new k u = same_marks new start (u.size ∙ k.size) (λ r. ⊎_elim (λ g. unmarked (slice_index_or new r false) (slice_index_or start r false) (u.gone r g) (k.fresh r g)) (λ g. u.others r g ∙ k.others r g) (number_among r visited))
  where
    unmarked : (x y : Bool) → ¬ (x ≡ true) → ¬ (y ≡ true) → x ≡ y
    unmarked true y nx ny = absurd (nx refl)
    unmarked false true nx ny = absurd (ny refl)
    unmarked false false nx ny = refl
