-- What is kept of a line, by its words.
use Rattle.std.proofs.Common.{◌≡◌, ℕ, zero, suc, ◌<◌, Bool, ◌&&◌, ◌==◌, List, [], ◌∷◌, length, take, get_or, map, refl, sym, ap, ◌∙◌, arith, bytes_eq, get_or-take, length-take}
use Rattle.std.specs.Char.{to_ascii_lowercase}
use Rattle.std.proofs.lemmas.List.{take-map}
use Rattle.mm_defs.specs.Words.{Word, words, word}
use Rattle.mm_defs.specs.Header.{spells}
use Rattle.mm_lines.specs.declared.line.Token.{Token}
use Rattle.mm_lines.specs.Tokens.{token_of}
use Rattle.mm_lines.proofs.LineSteps.{HasLine}

get_or-map : (ws : List Word) (k : ℕ) (d : Token) → k < length ws → get_or (map token_of ws) k d ≡ token_of (get_or ws k [])
get_or-map [] k d h = absurd (omega arith)
get_or-map (w ∷ ws) zero d h = refl
get_or-map (w ∷ ws) (suc k) d h = get_or-map ws k d (omega arith)

module _ (tokens : List Token) (count : ℕ) (inside : Bool) (line : List ℕ) (l : HasLine tokens count inside line) where
  -- a word that is kept
  pub token_at : (k : ℕ) (d : Token) → k < 5 → k < count → get_or tokens k d ≡ token_of (word (words line) k)
  token_at k d few kept =
      let n = length-take 5 (words line) in
      let long : k < length (take 5 (words line)) = omega (arith, l.count_is) in
      sym (get_or-take count tokens k d kept) ∙ ap (λ (t : List Token). get_or t k d) l.tokens_are
      ∙ get_or-map (take 5 (words line)) k d long ∙ ap token_of (get_or-take 5 (words line) k [] few)

-- texts of less bytes than are kept
bytes_eq-take : (n : ℕ) (w text : List ℕ) → length text < n → bytes_eq (take n w) text ≡ bytes_eq w text
bytes_eq-take zero w text h = absurd (omega arith)
bytes_eq-take (suc n) [] text h = refl
bytes_eq-take (suc n) (a ∷ w) [] h = refl
bytes_eq-take (suc n) (a ∷ w) (t ∷ text) h = ap (λ b. (a == t) && b) (bytes_eq-take n w text (omega arith))

pub text_at : (w text : List ℕ) → length text < 15 → bytes_eq (take 15 w) text ≡ bytes_eq w text
text_at w text h = bytes_eq-take 15 w text h

pub spells_at : (w text : List ℕ) → length text < 15 → bytes_eq (map to_ascii_lowercase (take 15 w)) text ≡ spells text w
spells_at w text h = rw (← take-map to_ascii_lowercase 15 w) (bytes_eq-take 15 (map to_ascii_lowercase w) text h)
