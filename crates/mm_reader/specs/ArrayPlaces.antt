-- The value lines of array files: which place is the next one's, and what a line says there.
use Rattle.std.specs.Prelude.{◌≡◌, ◌<◌, ℕ, true, List, [], ◌∷◌, slice_index_or}
use Rattle.sp_ids.specs.Entries.{Triple}
use Rattle.mm_defs.specs.declared.header.Format.{Format}
use Rattle.mm_defs.specs.declared.header.Format.TheVariants.{Coordinate, Array}
use Rattle.mm_defs.specs.declared.header.Header.{Header}
use Rattle.mm_defs.specs.declared.header.Size.{Size}
use Rattle.mm_defs.specs.Words.{Word, word}
use Rattle.mm_defs.specs.Numbers.{integer}
use Rattle.mm_defs.specs.Header.{is_array}
use Rattle.mm_defs.specs.Arrays.{array_places}
use Rattle.mm_defs.specs.File.{triple, placed}
use Rattle.mm_reader.specs.declared.array.ArrayPlace.{ArrayPlace}

abbrev pub place_of : ArrayPlace → ℕ × ℕ
place_of p = (p.row, p.col)

abbrev pub array_place : ℕ × ℕ → ArrayPlace
array_place p = record { row = p.0; col = p.1 }

-- the place of the value behind so many others
abbrev pub place_at : Header → Size → ℕ → ℕ × ℕ
place_at h s done = slice_index_or (array_places h.symmetry s.rows s.cols) done (0, 0)

-- where a value is to come behind so many others, this is its place
abbrev pub IsNext : Header → Size → ℕ → ArrayPlace → Type 0
IsNext h s done next = is_array h.format ≡ true → done < s.count
    → place_at h s done ≡ place_of next

-- what a line says behind so many others
abbrev pub said_next : Format → Header → Size → ℕ → List Word → List Triple
said_next Coordinate h s done ws = triple h ws ∷ []
said_next Array h s done ws = placed (place_at h s done) (integer (word ws 0))
