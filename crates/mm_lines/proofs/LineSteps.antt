-- What is kept of a line, byte by byte.
use Rattle.std.proofs.Common.{◌≡◌, ◌≢◌, ℕ, suc, ◌+◌, ◌-◌, ◌<◌, ◌≤◌, Bool, true, false, List, [], ◌∷◌, ◌++◌, length, min, take, set, get_or, map, refl, sym, ap, ◌∙◌, subst, arith, length-append, length-set, take_all, take-suc-set, get_or-take, take-take, add-one}
use Rattle.std.proofs.Math.Seq.{take-append_seam, get_or-append_seam}
use Rattle.std.proofs.lemmas.List.{map-append, take-append-le, length-map}
use Rattle.mm_defs.specs.Words.{Word, words, is_blank}
use Rattle.mm_lines.specs.declared.line.Token.{Token}
use Rattle.mm_lines.specs.Tokens.{token_of}
use Rattle.mm_lines.specs.declared.line.LineSoFar.TheInside.{Inside}
use Rattle.mm_lines.specs.KeptLines.{KeptLine}
use Rattle.mm_lines.specs.Lines.{IsLine, in_word, kept_of}
use Rattle.mm_defs.proofs.WordLemmas.{words-none, words-blank}
use Rattle.mm_lines.proofs.Words.{GoesOn, in_word-blank, in_word-push, words-begin, words-go_on}

-- the same of the fields, of which those past the count say nothing
pub record HasLine (tokens : List Token) (count : ℕ) (inside : Bool) (line : List ℕ) : Type 0 where
  pub places : length tokens ≡ 5
  pub tokens_are : take count tokens ≡ map token_of (take 5 (words line))
  pub count_is : count ≡ min (length (words line)) 6
  pub inside_is : inside ≡ in_word line

pub fields_of : (l : Inside) (kept : KeptLine) → kept_of l ≡ kept → length l.tokens ≡ 5 → (line : List ℕ) → IsLine kept line → HasLine l.tokens l.count l.inside line
fields_of l kept view places line h =
    let k = rw (← view) at h in
    record { places = places; tokens_are = k.tokens_are; count_is = k.count_is; inside_is = k.inside_is }

pub as_line : (tokens : List Token) (count : ℕ) (inside : Bool) (line : List ℕ) → HasLine tokens count inside line → IsLine (record { tokens = take count tokens; count = count; inside = inside }) line
as_line tokens count inside line h = record { tokens_are = h.tokens_are; count_is = h.count_is; inside_is = h.inside_is }

pub nothing : IsLine (record { tokens = []; count = 0; inside = false }) []
nothing = record {
  tokens_are = rw words-none refl;
  count_is = rw words-none refl;
  inside_is = refl;
}

module _ (tokens : List Token) (count : ℕ) (inside : Bool) (line : List ℕ) (b : ℕ) (l : HasLine tokens count inside line) where
  pub blank_comes : is_blank b ≡ true → HasLine tokens count false (line ++ b ∷ [])
  blank_comes e = record {
    places = l.places;
    tokens_are = rw (words-blank line b e) l.tokens_are;
    count_is = rw (words-blank line b e) l.count_is;
    inside_is = sym (in_word-blank line b e);
  }

  length_more : words (line ++ b ∷ []) ≡ words line ++ (b ∷ []) ∷ [] → length (words (line ++ b ∷ [])) ≡ length (words line) + 1
  length_more k = ap length k ∙ length-append (words line) ((b ∷ []) ∷ [])

  pub word_begins : is_blank b ≡ false → inside ≡ false → count < 5 → HasLine (set tokens count (token_of (b ∷ []))) (count + 1) true (line ++ b ∷ [])
  word_begins e out low =
      let k : words (line ++ b ∷ []) ≡ words line ++ (b ∷ []) ∷ [] = words-begin line b e (sym l.inside_is ∙ out) in
      let n : length (words line) ≡ count = omega (arith, l.count_is) in
      let m = length_more k in
      let few : length (words (line ++ b ∷ [])) ≤ 5 = omega arith in
      let few_before : length (words line) ≤ 5 = omega arith in
      let room : count < length tokens = omega (arith, l.places) in
      let kept : take count tokens ≡ map token_of (words line) = l.tokens_are ∙ ap (map token_of) (take_all 5 (words line) few_before) in
      record {
        places = length-set tokens count (token_of (b ∷ [])) ∙ l.places;
        tokens_are =
            ap (λ i. take i (set tokens count (token_of (b ∷ [])))) (add-one count)
            ∙ take-suc-set tokens count (token_of (b ∷ [])) room
            ∙ ap (λ (t : List Token). t ++ token_of (b ∷ []) ∷ []) kept
            ∙ sym (map-append token_of (words line) ((b ∷ []) ∷ []))
            ∙ ap (map token_of) (sym k ∙ sym (take_all 5 (words (line ++ b ∷ [])) few));
        count_is = omega arith;
        inside_is = sym (in_word-push line b e);
      }

  pub word_past : is_blank b ≡ false → inside ≡ false → 5 ≤ count → HasLine tokens 6 true (line ++ b ∷ [])
  word_past e out high =
      let k : words (line ++ b ∷ []) ≡ words line ++ (b ∷ []) ∷ [] = words-begin line b e (sym l.inside_is ∙ out) in
      let m = length_more k in
      let many : 5 ≤ length (words line) = omega (arith, l.count_is) in
      let all : length tokens ≤ 6 = omega (arith, l.places) in
      let all_before : length tokens ≤ count = omega (arith, l.places) in
      record {
        places = l.places;
        tokens_are =
            take_all 6 tokens all ∙ sym (take_all count tokens all_before) ∙ l.tokens_are
            ∙ ap (map token_of) (sym (ap (take 5) k ∙ take-append-le 5 (words line) ((b ∷ []) ∷ []) many));
        count_is = omega arith;
        inside_is = sym (in_word-push line b e);
      }

  length_same : (g : GoesOn line b) → (length (words line) ≡ length g.prefix + 1) × (length (words (line ++ b ∷ [])) ≡ length g.prefix + 1)
  length_same g = (ap length g.before ∙ length-append g.prefix ((g.first ∷ g.others) ∷ []), ap length g.after ∙ length-append g.prefix (((g.first ∷ g.others) ++ b ∷ []) ∷ []))

  pub word_goes_on : (old new : Token) → is_blank b ≡ false → inside ≡ true → count ≢ 0 → count ≤ 5
      → ((c : ℕ) (cs : List ℕ) → get_or tokens (count - 1) old ≡ token_of (c ∷ cs) → new ≡ token_of ((c ∷ cs) ++ b ∷ []))
      → HasLine (set tokens (count - 1) new) count inside (line ++ b ∷ [])
  word_goes_on old new e isin some low pushed =
      let g = words-go_on line b e (sym l.inside_is ∙ isin) in
      let n = length_same g in
      let last : count - 1 ≡ length g.prefix = omega (arith, l.count_is, n.0) in
      let count_is2 : count ≡ suc (length g.prefix) = omega (arith, l.count_is, n.0) in
      let room : length g.prefix < length tokens = omega (arith, l.places) in
      let below : length g.prefix < count = omega arith in
      let few : length (words line) ≤ 5 = omega (arith, n.0) in
      let few_after : length (words (line ++ b ∷ [])) ≤ 5 = omega (arith, n.1) in
      let w : Word = g.first ∷ g.others in
      let kept : take count tokens ≡ map token_of g.prefix ++ token_of w ∷ [] =
      l.tokens_are ∙ ap (map token_of) (take_all 5 (words line) few ∙ g.before) ∙ map-append token_of g.prefix (w ∷ []) in
      let m : length (map token_of g.prefix) ≡ length g.prefix = length-map g.prefix token_of in
      let seam : get_or (map token_of g.prefix ++ token_of w ∷ []) (length g.prefix) old ≡ token_of w =
      subst (λ i. get_or (map token_of g.prefix ++ token_of w ∷ []) i old ≡ token_of w) m (get_or-append_seam (map token_of g.prefix) (token_of w) [] old) in
      let is : get_or tokens (count - 1) old ≡ token_of w =
      ap (λ i. get_or tokens i old) last ∙ sym (get_or-take count tokens (length g.prefix) old below) ∙ ap (λ (t : List Token). get_or t (length g.prefix) old) kept ∙ seam in
      let new_is : new ≡ token_of (w ++ b ∷ []) = pushed g.first g.others is in
      let prefix_is : take (length g.prefix) tokens ≡ map token_of g.prefix =
      sym (take-take (length g.prefix) count tokens (omega arith)) ∙ ap (take (length g.prefix)) kept
      ∙ subst (λ i. take i (map token_of g.prefix ++ token_of w ∷ []) ≡ map token_of g.prefix) m (take-append_seam (map token_of g.prefix) (token_of w ∷ [])) in
      record {
        places = length-set tokens (count - 1) new ∙ l.places;
        tokens_are =
            rw last (ap (λ i. take i (set tokens (length g.prefix) new)) count_is2 ∙ take-suc-set tokens (length g.prefix) new room)
            ∙ ap (λ (t : List Token). t ++ new ∷ []) prefix_is
            ∙ ap (λ (t : Token). map token_of g.prefix ++ t ∷ []) new_is
            ∙ sym (map-append token_of g.prefix ((w ++ b ∷ []) ∷ []))
            ∙ ap (map token_of) (sym g.after ∙ sym (take_all 5 (words (line ++ b ∷ [])) few_after));
        count_is = omega (arith, l.count_is, n.0, n.1);
        inside_is = isin ∙ sym (in_word-push line b e);
      }

  pub word_goes_on_past : is_blank b ≡ false → inside ≡ true → 5 < count → HasLine tokens count inside (line ++ b ∷ [])
  word_goes_on_past e isin high =
      let g = words-go_on line b e (sym l.inside_is ∙ isin) in
      let n = length_same g in
      let many : 5 ≤ length g.prefix = omega (arith, l.count_is, n.0) in
      let same : take 5 (words (line ++ b ∷ [])) ≡ take 5 (words line) =
      ap (take 5) g.after ∙ take-append-le 5 g.prefix (((g.first ∷ g.others) ++ b ∷ []) ∷ []) many
      ∙ sym (ap (take 5) g.before ∙ take-append-le 5 g.prefix ((g.first ∷ g.others) ∷ []) many) in
      record {
        places = l.places;
        tokens_are = l.tokens_are ∙ ap (map token_of) (sym same);
        count_is = omega (arith, l.count_is, n.0, n.1);
        inside_is = isin ∙ sym (in_word-push line b e);
      }

  pub none_goes_on : inside ≡ true → is_blank b ≡ false → count ≡ 0 → ⊥
  none_goes_on isin e none =
      let g = words-go_on line b e (sym l.inside_is ∙ isin) in
      let n = length_same g in
      omega (arith, l.count_is, n.0)
