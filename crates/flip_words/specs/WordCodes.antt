-- How a board's words are kept: the spare word first, then the words of the trees, then those of
-- the vertices. A tree's word is 0, or 1 more than the number of the seat that took the tree. A
-- vertex's word has the tree in its upper half and the mate in its lower half, each 0 for none and
-- else 1 more than its number.
use Rattle.std.specs.Prelude.{ℕ, ◌+◌, ◌*◌, ◌/◌, ◌%◌, List, Option, None, Some}
use Rattle.bip_defs.specs.WordValues.{value_of}
use Rattle.board_seats.specs.WordCodes.{firsts_in, rest_in}

-- one more than the largest number of half a word
abbrev pub half : ℕ
half = 4294967296

abbrev pub code_of : Option ℕ → ℕ
code_of None = 0
code_of (Some x) = 1 + x

abbrev pub mate_of : ℕ → Option ℕ
mate_of word = value_of (word % half)

abbrev pub tree_of : ℕ → Option ℕ
tree_of word = value_of (word / half)

-- the word of a vertex with this tree and mate
abbrev pub vertex_word : Option ℕ → Option ℕ → ℕ
vertex_word tree mate = code_of tree * half + code_of mate

-- Of the words of a board, of which so many are the trees'.

abbrev pub takers_in : ℕ → List ℕ → List (Option ℕ)
takers_in = firsts_in

abbrev pub mates_in : ℕ → List ℕ → List (Option ℕ)
mates_in = rest_in mate_of

abbrev pub trees_in : ℕ → List ℕ → List (Option ℕ)
trees_in = rest_in tree_of
