-- Texts of several lines, and parts.
use Rattle.std.proofs.Common.{codes, inl, inr, map, ◌≡◌, ◌≢◌, ◌+◌, ◌==◌, if◌then◌else◌, ℕ, Bool, false, List, [], ◌∷◌, length, sym, ap, ap₂, ◌∙◌, Option}
use Rattle.std.proofs.lemmas.List.{map-id}
use Rattle.std.proofs.lemmas.Bool.Decides.{eqb_tells}
use Rattle.std.proofs.lemmas.List.Concat.{length-flat_map}
use Rattle.bip_defs.specs.Blocks.{Block, all_rows}
use Rattle.bip_graph.specs.Answers.{where_asked}
use Rattle.bip_graph.specs.Texts.{line, lists, part, square_line}
use Rattle.btf_text.specs.Reports.{lengths_line}

pub part-empty : (word rows cols : List ℕ) → length rows + length cols ≡ 0 → line word (length rows ∷ length cols ∷ []) ∷ [] ≡ part word rows cols
part-empty word rows cols e = sym (ap (λ (n : ℕ). line word (length rows ∷ length cols ∷ []) ∷ (if n == 0 then [] else lists rows cols)) e)

differs : (n : ℕ) → n ≢ 0 → (n == 0) ≡ false
differs n ne = elim (eqb_tells n 0) [ inl p ↦ absurd (ne p.1) | inr p ↦ p.0 ]

-- a part of equal lists
pub same_part : (word : List ℕ) {rows cols r c : List ℕ} → rows ≡ r → cols ≡ c → part word rows cols ≡ part word r c
same_part word rows_are cols_are = ap₂ (λ (r c : List ℕ). part word r c) rows_are cols_are

-- rows and columns stand for their numbers
pub same_ids : (list : List ℕ) → map (λ (n : ℕ). n) list ≡ list
same_ids list = map-id list

pub part-lists : (word rows cols : List ℕ) → length rows + length cols ≢ 0
    → line word (length rows ∷ length cols ∷ []) ∷ lists (map (λ (n : ℕ). n) rows) (map (λ (n : ℕ). n) cols) ≡ part word rows cols
part-lists word rows cols ne =
    ap₂ (λ (r c : List ℕ). line word (length rows ∷ length cols ∷ []) ∷ lists r c) (same_ids rows) (same_ids cols) ∙ sym (ap (λ (b : Bool). line word (length rows ∷ length cols ∷ []) ∷ (if b then [] else lists rows cols)) (differs (length rows + length cols) ne))

-- a line of one number, and a line of three
pub same_number : (word : List ℕ) {a b : ℕ} → a ≡ b → line word (a ∷ []) ∷ [] ≡ line word (b ∷ []) ∷ []
same_number word e = ap (λ (n : ℕ). line word (n ∷ []) ∷ []) e

pub same_numbers : (word : List ℕ) {a b c d e f : ℕ} → a ≡ b → c ≡ d → e ≡ f → line word (a ∷ c ∷ e ∷ []) ∷ [] ≡ line word (b ∷ d ∷ f ∷ []) ∷ []
same_numbers word {b = b} {c = c} {d = d} {e = e} one two three =
    ap (λ (n : ℕ). line word (n ∷ c ∷ e ∷ []) ∷ []) one ∙ ap (λ (n : ℕ). line word (b ∷ n ∷ e ∷ []) ∷ []) two ∙ ap (λ (n : ℕ). line word (b ∷ d ∷ n ∷ []) ∷ []) three

-- lines over the lengths of equal lists
pub same_lengths : (word : List ℕ) {rows cols r c : List ℕ} → rows ≡ r → cols ≡ c → lengths_line word rows cols ∷ [] ≡ lengths_line word r c ∷ []
same_lengths word rows_are cols_are = ap₂ (λ (r c : List ℕ). lengths_line word r c ∷ []) rows_are cols_are

pub same_square : {rows : List ℕ} {count : ℕ} (blocks : List Block) → rows ≡ all_rows blocks → count ≡ length blocks
    → line (codes "square") (length rows ∷ count ∷ []) ∷ [] ≡ square_line blocks ∷ []
same_square blocks rows_are count_is =
    ap₂ (λ (s b : ℕ). line (codes "square") (s ∷ b ∷ []) ∷ []) (ap length rows_are ∙ length-flat_map (λ (b : Block). b.rows) blocks) count_is

-- what is written of something that is asked for or not
pub asked_for : {X Y : Type 0} (f : Option X → Y) (x : X) {asked told : Bool} → asked ≡ told → f (where_asked told x) ≡ f (where_asked asked x)
asked_for f x e = sym (ap (λ (b : Bool). f (where_asked b x)) e)
