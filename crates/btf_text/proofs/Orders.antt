-- Blocks one after another, and lists over three lists.
use Rattle.std.proofs.Common.{arith, codes, decimal, map, ◌≡◌, ◌<◌, ◌+◌, ℕ, suc, List, [], ◌∷◌, ◌++◌, length, take, append_assoc, sym, ap, ap₂, ◌∙◌}
use Rattle.std.proofs.lemmas.List.{length-take-le, map-append, take_more}
use Rattle.std.proofs.lemmas.Grind.{flat_map-append}
use Rattle.bip_defs.specs.Blocks.{Block, block_at, no_block}
use Rattle.bip_graph.specs.Texts.{TextLine, block_lines, component_lines, counted, line, lists, spaced, spelled}
use Rattle.btf_text.proofs.Parts.{same_ids}

blocks_more : (k n : ℕ) (bs : List Block) (b : Block) → n ≡ k + length bs
    → block_lines k (bs ++ b ∷ []) ≡ block_lines k bs ++ (line (codes "block") (n ∷ length b.rows ∷ []) ∷ lists b.rows b.cols)
blocks_more k n [] b e = ap (λ (m : ℕ). line (codes "block") (m ∷ length b.rows ∷ []) ∷ lists b.rows b.cols) (omega (arith, e))
blocks_more k n (x ∷ xs) b e =
    ap (λ (ls : List TextLine). line (codes "block") (k ∷ length x.rows ∷ []) ∷ lists x.rows x.cols ++ ls) (blocks_more (suc k) n xs b (omega (arith, e)))

-- one block more
pub blocks_go_on : (bs : List Block) (i n : ℕ) {rows cols : List ℕ} → i < length bs → n ≡ suc i → rows ≡ (block_at bs i).rows → cols ≡ (block_at bs i).cols
    → block_lines 1 (take i bs) ++ (line (codes "block") (n ∷ length rows ∷ []) ∷ lists rows cols) ≡ block_lines 1 (take (i + 1) bs)
blocks_go_on bs i n inside number rows_are cols_are =
    ap₂ (λ (r c : List ℕ). block_lines 1 (take i bs) ++ (line (codes "block") (n ∷ length r ∷ []) ∷ lists r c)) rows_are cols_are
    ∙ sym (ap (block_lines 1) (take_more bs i no_block inside) ∙ blocks_more 1 n (take i bs) (block_at bs i) (omega (arith, number, length-take-le i bs (omega (arith, inside)))))

components_more : (k n : ℕ) (bs : List Block) (b : Block) → n ≡ k + length bs
    → component_lines k (bs ++ b ∷ []) ≡ component_lines k bs ++ (line (codes "component") (n ∷ length b.rows ∷ length b.cols ∷ []) ∷ lists b.rows b.cols)
components_more k n [] b e = ap (λ (m : ℕ). line (codes "component") (m ∷ length b.rows ∷ length b.cols ∷ []) ∷ lists b.rows b.cols) (omega (arith, e))
components_more k n (x ∷ xs) b e =
    ap (λ (ls : List TextLine). line (codes "component") (k ∷ length x.rows ∷ length x.cols ∷ []) ∷ lists x.rows x.cols ++ ls) (components_more (suc k) n xs b (omega (arith, e)))

-- one component more
pub components_go_on : (bs : List Block) (i n : ℕ) {rows cols : List ℕ} → i < length bs → n ≡ suc i → rows ≡ (block_at bs i).rows → cols ≡ (block_at bs i).cols
    → component_lines 1 (take i bs) ++ (line (codes "component") (n ∷ length rows ∷ length cols ∷ []) ∷ lists rows cols) ≡ component_lines 1 (take (i + 1) bs)
components_go_on bs i n inside number rows_are cols_are =
    ap₂ (λ (r c : List ℕ). component_lines 1 (take i bs) ++ (line (codes "component") (n ∷ length r ∷ length c ∷ []) ∷ lists r c)) rows_are cols_are
    ∙ sym (ap (component_lines 1) (take_more bs i no_block inside) ∙ components_more 1 n (take i bs) (block_at bs i) (omega (arith, number, length-take-le i bs (omega (arith, inside)))))

joined : {N : Type 0} (number : N → ℕ) (a b : List N) → spaced (counted (map number (a ++ b))) ≡ spaced (counted (map number a)) ++ spaced (counted (map number b))
joined number a b =
    ap (λ (t : List ℕ). spaced (counted t)) (map-append number a b)
    ∙ ap spaced (map-append suc (map number a) (map number b))
    ∙ flat_map-append (λ (n : ℕ). 32 ∷ decimal n) (counted (map number a)) (counted (map number b))

-- three lists on one line
pub three_lists : {N : Type 0} (number : N → ℕ) (word : List ℕ) (a b c : List N)
    → ((word ++ spaced (counted (map number a))) ++ spaced (counted (map number b))) ++ spaced (counted (map number c)) ≡ word ++ spaced (counted (map number (a ++ b ++ c)))
three_lists number word a b c =
    ap (λ (t : List ℕ). t ++ spaced (counted (map number c))) (append_assoc word (spaced (counted (map number a))) (spaced (counted (map number b))))
    ∙ append_assoc word (spaced (counted (map number a)) ++ spaced (counted (map number b))) (spaced (counted (map number c)))
    ∙ ap (λ (t : List ℕ). word ++ t) (sym (joined number (a ++ b) c ∙ ap (λ (t : List ℕ). t ++ spaced (counted (map number c))) (joined number a b)))

-- and the line ends
pub three_ends : {N : Type 0} (number : N → ℕ) (word : List ℕ) (a b c : List N)
    → (((word ++ spaced (counted (map number a))) ++ spaced (counted (map number b))) ++ spaced (counted (map number c))) ++ 10 ∷ [] ≡ spelled (line word (counted (map number (a ++ b ++ c))))
three_ends number word a b c = ap (λ (t : List ℕ). t ++ 10 ∷ []) (three_lists number word a b c)

-- orders over equal lists
pub same_order : (word : List ℕ) {a b c d e f : List ℕ} → a ≡ d → b ≡ e → c ≡ f
    → line word (counted (map (λ (n : ℕ). n) (a ++ b ++ c))) ∷ [] ≡ line word (counted (d ++ e ++ f)) ∷ []
same_order word {b = b} {c = c} {d = d} {e = e} {f = f} one two three =
    ap (λ (t : List ℕ). line word (counted t) ∷ []) (same_ids _ ∙ ap (λ (t : List ℕ). t ++ b ++ c) one ∙ ap (λ (t : List ℕ). d ++ t ++ c) two ∙ ap (λ (t : List ℕ). d ++ e ++ t) three)
