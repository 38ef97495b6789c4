-- One column more was searched from.
use Rattle.std.proofs.Common.{◌≡◌, ◌∙◌, ℕ, ◌+◌, List, Bool, ap, length, sym, subst}
use Rattle.bip_defs.specs.Lists.{Among}
use Rattle.bip_defs.specs.Marks.{AreClosed, IsExplored}
use Rattle.bip_defs.specs.Matching.{Covers, cols_of}
use Rattle.bip_defs.specs.Matrix.{Matrix}
use Rattle.bip_defs.proofs.Below.{below_more}
use Rattle.bip_graph.specs.Matching.{Pairing}
use Rattle.mc21_match.specs.Searched.{AreTriedBelow}
use Rattle.path_search.specs.Search.{Augments, Fails, HasMarked, SearchState}

pub searched_matched : (a : Matrix) (m : Pairing) (s : SearchState) (n : ℕ) → AreTriedBelow a m s n → Among n (cols_of m.pairs) → AreTriedBelow a m s (n + 1)
searched_matched a m s n k on = record {
  rows = k.rows;
  cols = k.cols;
  closed = k.closed;
  searched = below_more (λ c. ¬ Among c (cols_of m.pairs) → IsExplored a s.marks c) n k.searched (λ free. absurd (free on));
}

-- a path was exchanged, and the marks are those from before its search
pub searched_found : (a : Matrix) (m g : Pairing) (s t u : SearchState) (n : ℕ) → AreTriedBelow a m s n → t.cols ≡ s.cols → u.cols ≡ t.cols → HasMarked t.visited s.marks t.marks → ((start : List Bool) → HasMarked t.visited start t.marks → u.marks ≡ start) → Covers m.pairs g.pairs → Augments n s.marks m.pairs g.pairs → AreTriedBelow a g u (n + 1)
searched_found a m g s t u n k looks after marks restored covers found = record {
  rows = ap length same ∙ k.rows;
  cols = after ∙ looks ∙ k.cols;
  closed = subst (AreClosed a g.pairs) (sym same) (λ r h. let (d, pair, explored) = k.closed r h in (d, found.kept r d h pair, explored));
  searched = below_more (λ c. ¬ Among c (cols_of g.pairs) → IsExplored a u.marks c) n (λ c lt free. subst (λ z. IsExplored a z c) (sym same) (k.searched c lt (λ on. free (covers.cols c on)))) (λ free. absurd (free found.root_matched));
}
  where
    same : u.marks ≡ s.marks
    same = restored s.marks marks

pub searched_failed : (a : Matrix) (m g : Pairing) (s t : SearchState) (n : ℕ) → AreTriedBelow a m s n → t.cols ≡ s.cols → HasMarked t.visited s.marks t.marks → g ≡ m → Fails a m.pairs s.marks t.marks n → AreTriedBelow a g t (n + 1)
searched_failed a m g s t n k looks marks same fails = subst (λ p. AreTriedBelow a p t (n + 1)) (sym same) (record {
  rows = marks.size ∙ k.rows;
  cols = looks ∙ k.cols;
  closed = fails.closed k.closed;
  searched = below_more (λ c. ¬ Among c (cols_of m.pairs) → IsExplored a t.marks c) n (λ c lt free r e. fails.marked r (k.searched c lt free r e)) (λ free. fails.of_root);
})
