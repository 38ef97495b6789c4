-- Lines that grow number by number.
use Rattle.std.proofs.Common.{◌≡◌, ◌<◌, ◌+◌, ℕ, suc, List, [], ◌∷◌, ◌++◌, length, take, map, get_or, decimal, append_assoc, append-nil, sym, ap, ◌∙◌, Option}
use Rattle.std.proofs.lemmas.List.{take_more, map-append}
use Rattle.std.proofs.lemmas.Grind.{flat_map-append}
use Rattle.bip_graph.specs.Texts.{TextLine, counted, line, spaced, spelled, text_of}
use Rattle.btf_text.specs.Buffered.{Appends, Buffered, since}
use Rattle.btf_text.proofs.BufferLaws.{appends_as}

pub spaced-more : (numbers : List ℕ) (n : ℕ) → spaced (numbers ++ n ∷ []) ≡ spaced numbers ++ 32 ∷ decimal n
spaced-more numbers n = flat_map-append (λ (m : ℕ). 32 ∷ decimal m) numbers (n ∷ []) ∙ ap (λ (t : List ℕ). spaced numbers ++ 32 ∷ t) (append-nil (decimal n))

-- one more number of a list
pub numbers_go_on : (word numbers : List ℕ) (i d : ℕ) → i < length numbers
    → (word ++ spaced (take i numbers)) ++ 32 ∷ decimal (get_or numbers i d) ≡ word ++ spaced (take (i + 1) numbers)
numbers_go_on word numbers i d inside =
    append_assoc word (spaced (take i numbers)) (32 ∷ decimal (get_or numbers i d))
    ∙ ap (λ (t : List ℕ). word ++ t) (sym (ap spaced (take_more numbers i d inside) ∙ spaced-more (take i numbers) (get_or numbers i d)))

-- one more row or column of a list
pub ids_go_on : {N : Type 0} (number : N → ℕ) (list : List N) (i : ℕ) (d : N) (n : ℕ) → i < length list → n ≡ suc (number (get_or list i d))
    → spaced (counted (map number (take i list))) ++ 32 ∷ decimal n ≡ spaced (counted (map number (take (i + 1) list)))
ids_go_on number list i d n inside is =
    sym (ap (λ (t : List ℕ). spaced (counted t)) (ap (map number) (take_more list i d inside) ∙ map-append number (take i list) (get_or list i d ∷ []))
    ∙ ap spaced (map-append suc (map number (take i list)) (number (get_or list i d) ∷ []))
    ∙ spaced-more (counted (map number (take i list))) (suc (number (get_or list i d)))
    ∙ ap (λ (m : ℕ). spaced (counted (map number (take i list))) ++ 32 ∷ decimal m) (sym is))

-- the line ends
pub line_ends : (word numbers prefix : List ℕ) → prefix ≡ numbers → (word ++ spaced prefix) ++ 10 ∷ [] ≡ spelled (line word numbers)
line_ends word numbers prefix e = ap (λ (t : List ℕ). word ++ spaced t ++ 10 ∷ []) e

-- a line alone
pub line_alone : {t0 t1 : Option (List ℕ)} {f0 f1 : ℕ} {buf after : Buffered} (l : TextLine)
    → Appends (since t0 f0 t1 f1) buf after (spelled l) → Appends (since t0 f0 t1 f1) buf after (text_of (l ∷ []))
line_alone l p = appends_as (spelled l) (text_of (l ∷ [])) (sym (append-nil (spelled l))) p
