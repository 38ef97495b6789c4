-- The words with which a board is opened, vertex by vertex.
use Rattle.std.proofs.Common.{◌≡◌, ◌∙◌, ℕ, zero, suc, ◌+◌, ◌*◌, ◌<◌, ◌≤◌, List, [], ◌∷◌, ◌++◌, Option, None, Some, IfSome, IfNone, replicate, take, length, get_or, sym, ap, subst, arith, append_assoc}
use Rattle.std.proofs.lemmas.List.{get_or_read, length-append, length-map, length-take-le, map-append, take_more}
use Rattle.std.proofs.lemmas.Option.{none-some, same_Some}
use Rattle.bip_defs.specs.Lists.{Among, AreDistinct}
use Rattle.bip_defs.specs.Matching.{cols_of, rows_of}
use Rattle.bip_defs.specs.Matrix.{Place}
use Rattle.bip_defs.specs.WordValues.{held}
use Rattle.bip_defs.proofs.Sets.{col_among, one_col, one_row, row_among}
use Rattle.bip_graph.specs.Matching.{Pairing}
use Rattle.flip_words.specs.Board.{AreTrees}
use Rattle.flip_words.specs.WordCodes.{code_of, half, mate_of, tree_of, vertex_word}
use Rattle.flip_words.specs.OpenedBoards.{AreLaid, IsMateIn}
use Rattle.flip_words.proofs.WordCodes.{mate_coded, tree_coded}

-- Codes fit half a word.

pub tree_fits : {vertices cols : ℕ} {trees : List (Option ℕ)} → AreTrees vertices cols trees → cols < half → (v : ℕ) (x : Option ℕ) → v < length trees → x ≡ get_or trees v x → code_of x < half
tree_fits {cols = cols} {trees = trees} a few v x lt is = by x (sym (get_or_read trees v x lt is None))
  where
    by : (x : Option ℕ) → held trees v ≡ x → code_of x < half
    by None e = omega arith
    by (Some root) e = let below = a.roots v root e in omega (arith, below, few)

pub mate_fits : (mate : Option ℕ) (count : ℕ) → IfSome mate (λ x. x < count) → count < half → code_of mate < half
mate_fits None count within few = omega arith
mate_fits (Some x) count within few = omega arith

-- The mate of a vertex, as a matching tells it.

pub col_within : (pairs : List Place) (r cols : ℕ) (mate : Option ℕ) → IfSome mate (λ c. Among (r, c) pairs) → ((r c : ℕ) → Among (r, c) pairs → c < cols) → IfSome mate (λ c. c < cols)
col_within pairs r cols None found within = tt
col_within pairs r cols (Some c) found within = within r c found

pub row_within : (pairs : List Place) (c rows : ℕ) (mate : Option ℕ) → IfSome mate (λ r. Among (r, c) pairs) → ((r c : ℕ) → Among (r, c) pairs → r < rows) → IfSome mate (λ r. r < rows)
row_within pairs c rows None found within = tt
row_within pairs c rows (Some r) found within = within r c found

pub mate_of_row : (m : Pairing) (r : ℕ) (mate : Option ℕ) → AreDistinct (rows_of m.pairs) → r < m.rows → IfSome mate (λ c. Among (r, c) m.pairs) → IfNone mate (¬ Among r (rows_of m.pairs)) → IsMateIn m r mate
mate_of_row m r None differ lt found none = record {
  of_row = λ c within. ((λ e. absurd (none-some _ e)), (λ h. absurd (none (row_among r c m.pairs h))));
  of_col = λ s c e. absurd (omega (arith, e));
}
mate_of_row m r (Some d) differ lt found none = record {
  of_row = λ c within. ((λ e. subst (λ x. Among (r, x) m.pairs) (same_Some _ _ e) found), (λ h. ap Some (one_col m.pairs differ r d c found h)));
  of_col = λ s c e. absurd (omega (arith, e));
}

pub mate_of_col : (m : Pairing) (c : ℕ) (mate : Option ℕ) → AreDistinct (cols_of m.pairs) → IfSome mate (λ r. Among (r, c) m.pairs) → IfNone mate (¬ Among c (cols_of m.pairs)) → IsMateIn m (m.rows + c) mate
mate_of_col m c None differ found none = record {
  of_row = λ d within. absurd (omega arith);
  of_col = λ r d e. ((λ f. absurd (none-some _ f)), (λ h. absurd (none (subst (λ x. Among x (cols_of m.pairs)) (let s : d ≡ c = omega (arith, e) in s) (col_among r d m.pairs h)))));
}
mate_of_col m c (Some s) differ found none = record {
  of_row = λ d within. absurd (omega arith);
  of_col = λ r d e. let same : c ≡ d = omega (arith, e) in (
    (λ f. subst (λ x. Among (r, x) m.pairs) same (subst (λ x. Among (x, c) m.pairs) (same_Some _ _ f) found)),
    (λ h. ap Some (one_row m.pairs differ s r c found (subst (λ x. Among (r, x) m.pairs) (sym same) h))),
  );
}

-- Vertex by vertex.

last_or_before : (P : ℕ → ℕ → Type 0) (xs : List ℕ) (y : ℕ) → ((v : ℕ) → v < length xs → P v (get_or xs v 0)) → P (length xs) y → (v : ℕ) → v < length (xs ++ y ∷ []) → P v (get_or (xs ++ y ∷ []) v 0)
last_or_before P [] y before last zero lt = last
last_or_before P [] y before last (suc v) lt = absurd (omega arith)
last_or_before P (x ∷ xs) y before last zero lt = before 0 (omega arith)
last_or_before P (x ∷ xs) y before last (suc v) lt = last_or_before (λ w z. P (suc w) z) xs y (λ w w_lt. before (suc w) (omega arith)) last v (omega arith)

pub laid_more : (m : Pairing) (trees : List (Option ℕ)) (words new : List ℕ) (tree mate : Option ℕ) (code : ℕ) → AreLaid m trees words → code ≡ code_of mate → code_of mate < half → IsMateIn m (length trees) mate → new ≡ words ++ (code_of tree * half + code) ∷ [] → AreLaid m (trees ++ tree ∷ []) new
laid_more m trees words new tree mate code a is few has e = record {
  vertices = a.vertices ++ vertex_word tree mate ∷ [];
  order = e ∙ (λ i. a.order i ++ (code_of tree * half + is i) ∷ []) ∙ append_assoc (replicate (1 + m.cols) 0) a.vertices (vertex_word tree mate ∷ []);
  their_trees = map-append tree_of a.vertices (vertex_word tree mate ∷ []) ∙ (λ i. a.their_trees i ++ tree_coded tree mate few i ∷ []);
  mates = last_or_before (λ v w. IsMateIn m v (mate_of w)) a.vertices (vertex_word tree mate) a.mates (subst (IsMateIn m (length a.vertices)) (sym (mate_coded tree mate few)) (subst (λ n. IsMateIn m n mate) (ap length (sym a.their_trees) ∙ length-map a.vertices tree_of) has));
}

-- the trees are read one after the other
pub laid_row : (m : Pairing) (trees : List (Option ℕ)) (r : ℕ) (words new : List ℕ) (tree mate : Option ℕ) (code : ℕ) → AreLaid m (take r trees) words → r < length trees → tree ≡ get_or trees r tree → code ≡ code_of mate → code_of mate < half → IsMateIn m r mate
    → new ≡ words ++ (code_of tree * half + code) ∷ [] → AreLaid m (take (r + 1) trees) new
laid_row m trees r words new tree mate code a lt at is few has e = subst (λ ts. AreLaid m ts new) (sym (take_more trees r tree lt ∙ ap (λ t. take r trees ++ t ∷ []) (sym at)))
    (laid_more m (take r trees) words new tree mate code a is few (subst (λ n. IsMateIn m n mate) (sym (length-take-le r trees (omega arith))) has) e)

pub laid_col : (m : Pairing) (row_trees trees : List (Option ℕ)) (c : ℕ) (words new : List ℕ) (tree mate : Option ℕ) (code : ℕ) → AreLaid m (row_trees ++ take c trees) words → length row_trees ≡ m.rows → c < length trees → tree ≡ get_or trees c tree → code ≡ code_of mate → code_of mate < half
    → IsMateIn m (m.rows + c) mate → new ≡ words ++ (code_of tree * half + code) ∷ [] → AreLaid m (row_trees ++ take (c + 1) trees) new
laid_col m row_trees trees c words new tree mate code a many lt at is few has e =
    subst (λ ts. AreLaid m ts new) (append_assoc row_trees (take c trees) (tree ∷ []) ∙ ap (λ ts. row_trees ++ ts) (sym (take_more trees c tree lt ∙ ap (λ t. take c trees ++ t ∷ []) (sym at))))
    (laid_more m (row_trees ++ take c trees) words new tree mate code a is few (subst (λ n. IsMateIn m n mate) (sym (length-append row_trees (take c trees) ∙ (λ i. many i + length-take-le c trees (let le : c ≤ length trees = omega arith in le) i))) has) e)
