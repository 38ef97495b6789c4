-- From the arrays of listed components to the components, and back.
use Rattle.std.proofs.Common.{◌≡◌, ◌<◌, ◌∙◌, ℕ, zero, suc, List, [], ◌∷◌, ◌++◌, length, map, get_or, refl, sym, ap, ap₂, subst, append-nil, arith}
use Rattle.std.proofs.Math.Seq.{drop-append_seam, take-append_seam}
use Rattle.std.proofs.lemmas.Grind.{flat_map-append}
use Rattle.std.proofs.lemmas.List.{map-append}
use Rattle.bip_defs.specs.Blocks.{Block, all_cols, all_rows, block_at, no_block}
use Rattle.report_reader.specs.ComponentArrays.{AreArraysOf, height, shown, width}

-- the arrays of components show them
pub packed : (bs : List Block) → shown (map height bs) (map width bs) (all_rows bs) (all_cols bs) ≡ bs
packed [] = refl
packed (b ∷ bs) =
    rw (take-append_seam b.rows (all_rows bs), take-append_seam b.cols (all_cols bs), drop-append_seam b.rows (all_rows bs), drop-append_seam b.cols (all_cols bs), packed bs) refl

pub shows : {heights widths rows cols : List ℕ} {bs : List Block} → AreArraysOf heights widths rows cols bs → shown heights widths rows cols ≡ bs
shows {bs = bs} a = (λ i. shown (a.heights_are i) (a.widths_are i) (a.rows_are i) (a.cols_are i)) ∙ packed bs

-- what a contract says of the components is so of the arrays
pub seen : {heights widths rows cols : List ℕ} {bs : List Block} → AreArraysOf heights widths rows cols (shown heights widths rows cols) → shown heights widths rows cols ≡ bs → AreArraysOf heights widths rows cols bs
seen {heights = h} {widths = w} {rows = r} {cols = c} a e = subst (AreArraysOf h w r c) e a

-- and back
pub holds : {heights widths rows cols : List ℕ} {bs : List Block} → AreArraysOf heights widths rows cols bs → AreArraysOf heights widths rows cols (shown heights widths rows cols)
holds {heights = h} {widths = w} {rows = r} {cols = c} a = subst (AreArraysOf h w r c) (sym (shows a)) a

-- one more
pub grown : {heights widths rows cols heights2 widths2 rows2 cols2 : List ℕ} {bs : List Block} (b : Block) → AreArraysOf heights widths rows cols bs
    → heights2 ≡ heights ++ height b ∷ [] → widths2 ≡ widths ++ width b ∷ [] → rows2 ≡ rows ++ b.rows → cols2 ≡ cols ++ b.cols → AreArraysOf heights2 widths2 rows2 cols2 (bs ++ b ∷ [])
grown {bs = bs} b a h w r c = record {
  heights_are = h ∙ ap (λ (ns : List ℕ). ns ++ height b ∷ []) a.heights_are ∙ sym (map-append height bs (b ∷ []));
  widths_are = w ∙ ap (λ (ns : List ℕ). ns ++ width b ∷ []) a.widths_are ∙ sym (map-append width bs (b ∷ []));
  rows_are = r ∙ ap₂ (λ (xs ys : List ℕ). xs ++ ys) a.rows_are (sym (append-nil b.rows)) ∙ sym (flat_map-append (λ (x : Block). x.rows) bs (b ∷ []));
  cols_are = c ∙ ap₂ (λ (xs ys : List ℕ). xs ++ ys) a.cols_are (sym (append-nil b.cols)) ∙ sym (flat_map-append (λ (x : Block). x.cols) bs (b ∷ []));
}

-- components of the same sizes, rows and columns are the same
pub same : (bs cs : List Block) → map height bs ≡ map height cs → map width bs ≡ map width cs → all_rows bs ≡ all_rows cs → all_cols bs ≡ all_cols cs → bs ≡ cs
same bs cs h w r c = sym (packed bs) ∙ (λ i. shown (h i) (w i) (r i) (c i)) ∙ packed cs

-- ---- sizes, component by component

at_map : (f : Block → ℕ) → f no_block ≡ 0 → (bs : List Block) (k : ℕ) → get_or (map f bs) k 0 ≡ f (block_at bs k)
at_map f e [] k = sym e
at_map f e (b ∷ bs) zero = refl
at_map f e (b ∷ bs) (suc k) = at_map f e bs k

-- a size as the arrays hold it
pub height_at : (heights : List ℕ) (bs : List Block) (k : ℕ) → heights ≡ map height bs → get_or heights k 0 ≡ height (block_at bs k)
height_at heights bs k e = ap (λ (ns : List ℕ). get_or ns k 0) e ∙ at_map height refl bs k

pub width_at : (widths : List ℕ) (bs : List Block) (k : ℕ) → widths ≡ map width bs → get_or widths k 0 ≡ width (block_at bs k)
width_at widths bs k e = ap (λ (ns : List ℕ). get_or ns k 0) e ∙ at_map width refl bs k

pub same_heights : (bs cs : List Block) (k : ℕ) → map height bs ≡ map height cs → height (block_at bs k) ≡ height (block_at cs k)
same_heights bs cs k e = sym (at_map height refl bs k) ∙ height_at (map height bs) cs k e

pub same_widths : (bs cs : List Block) (k : ℕ) → map width bs ≡ map width cs → width (block_at bs k) ≡ width (block_at cs k)
same_widths bs cs k e = sym (at_map width refl bs k) ∙ width_at (map width bs) cs k e

pub all_same : (f : Block → ℕ) (bs cs : List Block) → length bs ≡ length cs → ((k : ℕ) → k < length bs → f (block_at bs k) ≡ f (block_at cs k)) → map f bs ≡ map f cs
all_same f [] [] long each = refl
all_same f [] (c ∷ cs) long each = absurd (omega (arith, long))
all_same f (b ∷ bs) [] long each = absurd (omega (arith, long))
all_same f (b ∷ bs) (c ∷ cs) long each =
    ap₂ (λ (n : ℕ) (ns : List ℕ). n ∷ ns) (each 0 (omega arith)) (all_same f bs cs (omega (arith, long)) (λ k lt. each (suc k) (omega (arith, lt))))
