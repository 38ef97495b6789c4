-- Words as numbers: coding and decoding.
use Rattle.std.proofs.Common.{◌≡◌, ◌∙◌, ℕ, ◌+◌, ◌-◌, ◌%◌, ◌<◌, Option, None, Some, refl, ap, arith}
use Rattle.std.proofs.lemmas.Nat.{div-mul-add, mod-mul-add}
use Rattle.bip_defs.specs.WordValues.{value_of}
use Rattle.bip_defs.proofs.WordValues.{value_there}
use Rattle.flip_words.specs.WordCodes.{code_of, half, mate_of, tree_of, vertex_word}

pub value_coded : (o : Option ℕ) → value_of (code_of o) ≡ o
value_coded None = refl
value_coded (Some x) = value_there x

pub mate_coded : (tree mate : Option ℕ) → code_of mate < half → mate_of (vertex_word tree mate) ≡ mate
mate_coded tree mate lt = ap value_of (mod-mul-add (code_of tree) half (code_of mate) lt) ∙ value_coded mate

pub tree_coded : (tree mate : Option ℕ) → code_of mate < half → tree_of (vertex_word tree mate) ≡ tree
tree_coded tree mate lt = ap value_of (div-mul-add (code_of tree) half (code_of mate) lt) ∙ value_coded tree

-- the lower half of a word tells the mate
pub mate_known : (tree : Option ℕ) (mate : ℕ) → 1 + mate < half → vertex_word tree (Some mate) % half - 1 ≡ mate
mate_known tree mate lt = ap (λ n. n - 1) (mod-mul-add (code_of tree) half (1 + mate) lt) ∙ (let e : 1 + mate - 1 ≡ mate = omega arith in e)
