-- Blocks, one after the other.
use Rattle.std.proofs.Common.{codes, ◌≡◌, ◌<◌, ◌≤◌, ◌+◌, ◌-◌, ◌^◌, eqb, ℕ, zero, suc, cond, List, [], ◌∷◌, ◌++◌, length, Option, Some, None, refl, sym, ap, ap₂, ◌∙◌, subst, append-nil, append_assoc, length-append, arith, eqb-true, eq-eqb}
use Rattle.std.specs.List.{AllByRecursion}
use Rattle.std.proofs.lemmas.Grind.{flat_map-append}
use Rattle.std.proofs.lemmas.List.Concat.{length-flat_map}
use Rattle.std.proofs.lemmas.List.Sums.{sum_by-cons}
use Rattle.bip_defs.specs.Blocks.{Block, all_cols, all_rows}
use Rattle.bip_graph.specs.Texts.{block_lines, line, lists, spelled, square_line, square_lines, square_size, text_of}
use Rattle.report_reader.specs.declared.stop.Stop.{Stop}
use Rattle.report_reader.specs.Readable.{AreBlocksLike, IsBlockLike}
use Rattle.report_reader.specs.ReportGrammar.{◌>>=◌, Stops, block_at, blocks_at, square_at, two_at}
use Rattle.report_reader.proofs.Prefixes.{no_prefix, regroup, stops_so, with_prefix}
use Rattle.report_reader.proofs.ListLines.{two_again, two_takes}
use Rattle.report_reader.proofs.Listed.{block_again, block_takes, line_first, of_lists}
use Rattle.report_reader.proofs.Spelled.{bind_some, some_is, where_some}
use Rattle.bip_defs.proofs.Together.{more_rows}

-- ---- in a loop

-- So many blocks were read. What is read from here on, behind them, is what is read of all; there is room for what is read.
pub record HaveRead (size : ℕ) (blocks : List Block) (count at room : ℕ) (rest : List ℕ) (total : Option (List Block × List ℕ)) : Type 0 where
  pub same : with_prefix blocks (blocks_at (count - at) (at + 1) room rest) ≡ total
  pub rows_fit : length (all_rows blocks) + room ≤ size
  pub cols_fit : length (all_cols blocks) + room ≤ size

pub blocks_begin : (size count : ℕ) (bytes : List ℕ) → HaveRead size [] count 0 size bytes (blocks_at count 1 size bytes)
blocks_begin size count bytes = record {
  same = no_prefix (blocks_at (count - 0) 1 size bytes) ∙ ap (λ (k : ℕ). blocks_at k 1 size bytes) (omega arith);
  rows_fit = omega arith;
  cols_fit = omega arith;
}

next : (blocks : List Block) (count at room : ℕ) (bytes : List ℕ) (b : (List ℕ × List ℕ) × List ℕ) → at < count → block_at (at + 1) room bytes ≡ Some b
    → with_prefix blocks (blocks_at (count - at) (at + 1) room bytes) ≡ with_prefix (blocks ++ of_lists b.0 ∷ []) (blocks_at (count - (at + 1)) (at + 1 + 1) (room - length b.0.0) b.1)
unfolding blocks_at
next blocks count at room bytes b inside block =
    let k : count - at ≡ suc (count - (at + 1)) = omega (arith, inside) in
    rw (k, block) (regroup blocks (of_lists b.0) (blocks_at (count - (at + 1)) (suc (at + 1)) (room - length b.0.0) b.1)
    ∙ ap (λ (n : ℕ). with_prefix (blocks ++ of_lists b.0 ∷ []) (blocks_at (count - (at + 1)) n (room - length b.0.0) b.1)) (omega arith))

more_cols : (blocks : List Block) (b : Block) → length (all_cols (blocks ++ b ∷ [])) ≡ length (all_cols blocks) + length b.cols
more_cols blocks b = ap length (flat_map-append (λ (b : Block). b.cols) blocks (b ∷ [])) ∙ length-append (all_cols blocks) (b.cols ++ []) ∙ ap (λ (xs : List ℕ). length (all_cols blocks) + length xs) (append-nil b.cols)

pub blocks_more : (size : ℕ) (blocks : List Block) (count at room : ℕ) (bytes : List ℕ) (b : (List ℕ × List ℕ) × List ℕ) (total : Option (List Block × List ℕ))
    → HaveRead size blocks count at room bytes total → at < count → block_at (at + 1) room bytes ≡ Some b
    → HaveRead size (blocks ++ of_lists b.0 ∷ []) count (at + 1) (room - length b.0.0) b.1 total
blocks_more size blocks count at room bytes b total so_far inside block = let t = block_takes (at + 1) room bytes b block in record {
  same = sym (next blocks count at room bytes b inside block) ∙ so_far.same;
  rows_fit = omega (arith, so_far.rows_fit, t.fits, more_rows blocks (of_lists b.0));
  cols_fit = omega (arith, so_far.cols_fit, t.fits, t.like.same, more_cols blocks (of_lists b.0));
}

none_next : (blocks : List Block) (count at room : ℕ) (bytes : List ℕ) → at < count → block_at (at + 1) room bytes ≡ None → with_prefix blocks (blocks_at (count - at) (at + 1) room bytes) ≡ None
unfolding blocks_at
none_next blocks count at room bytes inside block =
    let k : count - at ≡ suc (count - (at + 1)) = omega (arith, inside) in
    rw (k, block) refl

pub blocks_stop : (e : Stop) (size : ℕ) (blocks : List Block) (count at room : ℕ) (bytes : List ℕ) (total : Option (List Block × List ℕ))
    → HaveRead size blocks count at room bytes total → at < count → Stops e (block_at (at + 1) room bytes) → Stops e total
blocks_stop e size blocks count at room bytes total so_far inside =
    stops_so e (block_at (at + 1) room bytes) total (λ none. sym so_far.same ∙ none_next blocks count at room bytes inside none)

pub blocks_done : (size : ℕ) (blocks : List Block) (count at room : ℕ) (bytes : List ℕ) (total : Option (List Block × List ℕ))
    → HaveRead size blocks count at room bytes total → count ≤ at → total ≡ Some (blocks, bytes)
unfolding blocks_at
blocks_done size blocks count at room bytes total so_far ended =
    let k : count - at ≡ 0 = omega (arith, ended) in
    let one : with_prefix blocks (blocks_at (count - at) (at + 1) room bytes) ≡ Some (blocks, bytes) = rw k (ap (λ (bs : List Block). Some (bs, bytes)) (append-nil blocks)) in
    sym so_far.same ∙ one

-- ---- as a text

pub size_more : (b : Block) (bs : List Block) → square_size (b ∷ bs) ≡ length b.rows + square_size bs
size_more b bs = sum_by-cons (λ (b : Block). length b.rows) b bs

pub record AreBlocksOf (count number room : ℕ) (bytes : List ℕ) (x : List Block × List ℕ) : Type 0 where
  pub spells : bytes ≡ text_of (block_lines number x.0) ++ x.1
  pub like : AllByRecursion IsBlockLike x.0
  pub many : length x.0 ≡ count
  pub fits : square_size x.0 ≤ room

blocks_before : (number : ℕ) (b : Block) (bs : List Block) (rest : List ℕ)
    → text_of (block_lines number (b ∷ bs)) ++ rest ≡ text_of (line (codes "block") (number ∷ length b.rows ∷ []) ∷ lists b.rows b.cols) ++ (text_of (block_lines (suc number) bs) ++ rest)
blocks_before number b bs rest =
    ap (λ (t : List ℕ). t ++ rest) (flat_map-append spelled (line (codes "block") (number ∷ length b.rows ∷ []) ∷ lists b.rows b.cols) (block_lines (suc number) bs))
    ∙ append_assoc (text_of (line (codes "block") (number ∷ length b.rows ∷ []) ∷ lists b.rows b.cols)) (text_of (block_lines (suc number) bs)) rest

pub blocks_take : (count number room : ℕ) (bytes : List ℕ) (x : List Block × List ℕ) → blocks_at count number room bytes ≡ Some x → AreBlocksOf count number room bytes x
unfolding blocks_at
blocks_take zero number room bytes x e = subst (AreBlocksOf zero number room bytes) (some_is ([], bytes) x e) (record { spells = refl; like = tt; many = refl; fits = omega arith })
blocks_take (suc count) number room bytes x e =
    let b = bind_some (block_at number room bytes) (λ b. blocks_at count (suc number) (room - length b.0.0) b.1 >>= λ others. Some (of_lists b.0 ∷ others.0, others.1)) x e in
    let o = bind_some (blocks_at count (suc number) (room - length b.0.0.0) b.0.1) (λ others. Some (of_lists b.0.0 ∷ others.0, others.1)) x b.2 in
    let one = block_takes number room bytes b.0 b.1 in
    let rest = blocks_take count (suc number) (room - length b.0.0.0) b.0.1 o.0 o.1 in
    subst (AreBlocksOf (suc count) number room bytes) (some_is (of_lists b.0.0 ∷ o.0.0, o.0.1) x o.2)
    (record {
      spells = one.spells ∙ ap (λ (t : List ℕ). text_of (line (codes "block") (number ∷ length b.0.0.0 ∷ []) ∷ lists b.0.0.0 b.0.0.1) ++ t) rest.spells ∙ sym (blocks_before number (of_lists b.0.0) o.0.0 o.0.1);
      like = (one.like, rest.like);
      many = ap suc rest.many;
      fits = omega (arith, one.fits, rest.fits, size_more (of_lists b.0.0) o.0.0);
    })

pub blocks_again : (number room : ℕ) (bs : List Block) (rest : List ℕ) → AllByRecursion IsBlockLike bs → number + length bs ≤ 2 ^ 32 → square_size bs ≤ room
    → blocks_at (length bs) number room (text_of (block_lines number bs) ++ rest) ≡ Some (bs, rest)
unfolding blocks_at
blocks_again number room [] rest like few fits = refl
blocks_again number room (b ∷ bs) rest like few fits =
    ap (blocks_at (suc (length bs)) number room) (blocks_before number b bs rest)
    ∙ rw (
      block_again number room b (text_of (block_lines (suc number) bs) ++ rest) like.0 (omega (arith, few)) (omega (arith, fits, size_more b bs)),
      blocks_again (suc number) (room - length b.rows) bs rest like.1 (omega (arith, few)) (omega (arith, fits, size_more b bs)),
    ) refl

-- as many rows as in all blocks
pub rows_of_blocks : (bs : List Block) → length (all_rows bs) ≡ square_size bs
rows_of_blocks bs = length-flat_map (λ (b : Block). b.rows) bs

pub record IsSquareOf (bytes : List ℕ) (x : List Block × List ℕ) : Type 0 where
  pub spells : bytes ≡ text_of (square_lines x.0) ++ x.1
  pub like : AreBlocksLike x.0

pub square_takes : (bytes : List ℕ) (x : List Block × List ℕ) → square_at bytes ≡ Some x → IsSquareOf bytes x
unfolding square_at
square_takes bytes x e =
    let h = bind_some (two_at (codes "square") bytes) (λ head. blocks_at head.0.1 1 head.0.0 head.1 >>= λ blocks. cond (eqb (length (all_rows blocks.0)) head.0.0) (Some blocks) None) x e in
    let b = bind_some (blocks_at h.0.0.1 1 h.0.0.0 h.0.1) (λ blocks. cond (eqb (length (all_rows blocks.0)) h.0.0.0) (Some blocks) None) x h.2 in
    let g = where_some (eqb (length (all_rows b.0.0)) h.0.0.0) (Some b.0) x b.2 in
    let head = two_takes (codes "square") bytes h.0 h.1 in
    let blocks = blocks_take h.0.0.1 1 h.0.0.0 h.0.1 b.0 b.1 in
    let size : square_size b.0.0 ≡ h.0.0.0 = sym (rows_of_blocks b.0.0) ∙ eqb-true (length (all_rows b.0.0)) h.0.0.0 g.0 in
    subst (IsSquareOf bytes) (some_is b.0 x g.1)
    (record {
      spells = head.0 ∙ ap₂ (λ (s n : ℕ). spelled (line (codes "square") (s ∷ n ∷ [])) ++ h.0.1) (sym size) (sym blocks.many)
          ∙ ap (λ (t : List ℕ). spelled (square_line b.0.0) ++ t) blocks.spells ∙ sym (line_first (square_line b.0.0) (block_lines 1 b.0.0) b.0.1);
      like = record { each = blocks.like; few = omega (arith, blocks.many, head.2); few_rows = omega (arith, size, head.1) };
    })

pub square_again : (bs : List Block) (rest : List ℕ) → AreBlocksLike bs → square_at (text_of (square_lines bs) ++ rest) ≡ Some (bs, rest)
unfolding square_at
square_again bs rest like =
    ap square_at (line_first (square_line bs) (block_lines 1 bs) rest)
    ∙ rw (
      two_again (codes "square") (square_size bs) (length bs) (text_of (block_lines 1 bs) ++ rest) like.few_rows like.few,
      blocks_again 1 (square_size bs) bs rest like.each (omega (arith, like.few)) (omega arith),
      eq-eqb (length (all_rows bs)) (square_size bs) (rows_of_blocks bs),
    ) refl
