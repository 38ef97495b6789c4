-- Lines, byte by byte.
use Rattle.std.proofs.Common.{◌≡◌, ℕ, Bool, true, false, if◌then◌else◌, List, [], ◌∷◌, ◌++◌, refl, ◌∙◌, append-nil}
use Rattle.std.specs.List.{slice_split}
use Rattle.mm_defs.specs.Words.{but_last, but_empty_last, last_part, has_bytes, is_lf, lines, open_line}
use Rattle.mm_defs.proofs.SplitLemmas.{joined_to, split_cons, split-append, but_last-append, but_empty_last-append, last_part-append, but_empty_last-is, parts_are, split-push_yes, split-push_no}

-- no byte, no line
pub lines-none : (ended : Bool) → lines ended [] ≡ []
unfolding lines
lines-none true = refl
lines-none false = refl

pub open_line-none : open_line [] ≡ []
unfolding open_line
open_line-none = refl

-- an LF ends the open line
pub lines-push_lf : (bytes : List ℕ) (b : ℕ) → is_lf b ≡ true → lines false (bytes ++ b ∷ []) ≡ lines false bytes ++ open_line bytes ∷ []
unfolding lines open_line
lines-push_lf bytes b e =
    let c = split_cons is_lf bytes in
    rw (split-push_yes is_lf bytes b e, c.2) (but_last-append (c.0 ∷ c.1) [] [] ∙ append-nil (c.0 ∷ c.1) ∙ parts_are c.0 c.1)

pub open_line-push_lf : (bytes : List ℕ) (b : ℕ) → is_lf b ≡ true → open_line (bytes ++ b ∷ []) ≡ []
unfolding open_line
open_line-push_lf bytes b e = rw (split-push_yes is_lf bytes b e) (last_part-append (slice_split is_lf bytes) [] [])

-- another byte goes on with the open line
pub lines-push : (bytes : List ℕ) (b : ℕ) → is_lf b ≡ false → lines false (bytes ++ b ∷ []) ≡ lines false bytes
unfolding lines
lines-push bytes b e = rw (split-push_no is_lf bytes b e) (but_last-append _ _ [] ∙ append-nil _)

pub open_line-push : (bytes : List ℕ) (b : ℕ) → is_lf b ≡ false → open_line (bytes ++ b ∷ []) ≡ open_line bytes ++ b ∷ []
unfolding open_line
open_line-push bytes b e = rw (split-push_no is_lf bytes b e) (last_part-append (but_last (slice_split is_lf bytes)) _ [])

-- at the end of the input the open line is a line, where it has bytes
pub lines-ended : (bytes : List ℕ) → lines true bytes ≡ lines false bytes ++ (if has_bytes (open_line bytes) then open_line bytes ∷ [] else [])
unfolding lines open_line
lines-ended bytes = but_empty_last-is (slice_split is_lf bytes)

-- lines that have ended stay as they are, whatever follows
pub lines-append : (ended : Bool) (bytes more : List ℕ) → (rest : List (List ℕ)) × (lines ended (bytes ++ more) ≡ lines false bytes ++ rest)
unfolding lines
lines-append true bytes more =
    let c = split_cons is_lf more in (
      but_empty_last (joined_to (last_part (slice_split is_lf bytes)) (c.0 ∷ c.1)),
      rw (split-append is_lf bytes more, c.2) (but_empty_last-append (but_last (slice_split is_lf bytes)) _ c.1),
    )
lines-append false bytes more =
    let c = split_cons is_lf more in (
      but_last (joined_to (last_part (slice_split is_lf bytes)) (c.0 ∷ c.1)),
      rw (split-append is_lf bytes more, c.2) (but_last-append (but_last (slice_split is_lf bytes)) _ c.1),
    )
