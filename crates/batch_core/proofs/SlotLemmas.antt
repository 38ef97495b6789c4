-- The slots of answers.
use Rattle.std.proofs.Common.{◌≡◌, ◌≢◌, ◌↔◌, ◌⊎◌, ◌∙◌, ◌<◌, ◌≤◌, ◌+◌, ◌^◌, ℕ, zero, suc, List, [], ◌∷◌, ◌++◌, length, Option, Some, None, inl, inr, refl, sym, ap, subst, arith, get_or, set, get_or-set_same, get_or-set_other, length-set}
use Rattle.std.specs.Global.{Vec}
use Rattle.std.proofs.lemmas.List.{length-map}
use Rattle.std.proofs.Math.ListN.{get_or-map}
use Rattle.std.proofs.lemmas.Option.{slice_get-get_or}
use Rattle.bip_defs.proofs.Sets.{number_same}
use Rattle.btf_tool.specs.FileAnswer.{IsFileAnswer}
use Rattle.btf_tool.specs.declared.file_answer.FileAnswer.{FileAnswer}
use Rattle.sp_ids.specs.Limits.{max_batch_file_bytes}
use Rattle.mm_frames.specs.Batches.{files_of}
use Rattle.std.proofs.lemmas.List.Elements.{All-pop}
use Rattle.batch_core.specs.Shares.{AreAnswers, AreSlotsOf, FillsOnly, IsAnswerAt, IsWithinLimits, Slots, empty_slots, slot_at}
use Rattle.batch_core.specs.declared.answers.Put.{Put}
use Rattle.batch_core.specs.declared.answers.Put.TheVariants as variants

-- ---- empty slots

pub empty_length : (n : ℕ) → length (empty_slots n) ≡ n
empty_length zero = refl
empty_length (suc n) = ap suc (empty_length n)

pub empty_more : (n : ℕ) → empty_slots n ++ None ∷ [] ≡ empty_slots (n + 1)
empty_more n = over n ∙ ap empty_slots (let e : suc n ≡ n + 1 = omega arith in e)
  where
    over : (n : ℕ) → empty_slots n ++ None ∷ [] ≡ empty_slots (suc n)
    over zero = refl
    over (suc n) = ap (λ (t : List (Option FileAnswer)). None ∷ t) (over n)

none_full : (n i : ℕ) (answer : FileAnswer) → slot_at (empty_slots n) i ≡ Some answer → ⊥
none_full zero i answer h = cc
none_full (suc n) zero answer h = cc
none_full (suc n) (suc i) answer h = none_full n i answer h

pub empty_are : (files : List (List ℕ)) → AreSlotsOf files (empty_slots (length files))
empty_are files = record { count = empty_length (length files); right = λ i answer h. absurd (none_full (length files) i answer h) }

-- ---- one more full slot

within : (slots : List (Option FileAnswer)) (i : ℕ) (answer : FileAnswer) → slot_at slots i ≡ Some answer → i < length slots
within [] i answer h = cc
within (slot ∷ slots) zero answer h = omega arith
within (slot ∷ slots) (suc i) answer h = let w = within slots i answer h in omega (arith, w)

of_some : (x y : FileAnswer) → Some x ≡ Some y → x ≡ y
of_some x y e = cc

pub filled : (files : List (List ℕ)) (slots : List (Option FileAnswer)) (i : ℕ) (answer : FileAnswer) → AreSlotsOf files slots → IsAnswerAt files i answer
    → AreSlotsOf files (set slots i (Some answer))
filled files slots i answer are is = record {
  count = length-set slots i (Some answer) ∙ are.count;
  right = λ j other h. by j other h (number_same j i);
}
  where
    by : (j : ℕ) (other : FileAnswer) → slot_at (set slots i (Some answer)) j ≡ Some other → (j ≡ i) ⊎ (j ≢ i) → IsAnswerAt files j other
    by j other h (inl e) =
        let lt : i < length slots = let w = within (set slots i (Some answer)) j other h in let k = length-set slots i (Some answer) in omega (arith, w, k, e) in
        let at : slot_at (set slots i (Some answer)) i ≡ Some other = subst (λ (k : ℕ). slot_at (set slots i (Some answer)) k ≡ Some other) e h in
        let same : Some answer ≡ Some other = sym (get_or-set_same slots i (Some answer) None lt) ∙ at in
        subst (λ (k : ℕ). IsAnswerAt files k other) (sym e) (subst (λ (x : FileAnswer). IsAnswerAt files i x) (of_some answer other same) is)
    by j other h (inr ne) = are.right j other (sym (get_or-set_other slots i j (Some answer) None ne) ∙ h)

pub fills_one : (slots : List (Option FileAnswer)) (i : ℕ) (answer : FileAnswer) → slot_at slots i ≡ None → FillsOnly slots (set slots i (Some answer))
fills_one slots i answer none j other h = by (number_same j i)
  where
    by : (j ≡ i) ⊎ (j ≢ i) → slot_at (set slots i (Some answer)) j ≡ Some other
    by (inl e) = let at : slot_at slots i ≡ Some other = subst (λ (k : ℕ). slot_at slots k ≡ Some other) e h in absurd cc
    by (inr ne) = get_or-set_other slots i j (Some answer) None ne ∙ h

-- ---- a file

pub file_small : (files : List (Vec ℕ)) (i : ℕ) (d : Vec ℕ) (bytes : List ℕ) → IsWithinLimits (files_of files) → i < length files → bytes ≡ (get_or files i d).items
    → length bytes ≤ max_batch_file_bytes
file_small files i d bytes h lt is =
    let items = λ (file : Vec ℕ). file.items in
    let lt' : i < length (files_of files) = rw (length-map files items) lt in
    let small : length (get_or (files_of files) i d.items) ≤ max_batch_file_bytes = h.small i d.items lt' in
    rw is (rw (get_or-map items files i d) at small)

-- as many files as lists of bytes
pub file_within : (files : List (Vec ℕ)) (i : ℕ) → i < length (files_of files) → i < length files
file_within files i lt = rw (length-map files (λ (file : Vec ℕ). file.items)) at lt

pub file_fits : (files : List (Vec ℕ)) (i : ℕ) → IsWithinLimits (files_of files) → i < length (files_of files) → i < 2 ^ 32
file_fits files i h lt = let few = h.few in omega (arith, few, lt)

-- ---- the answer to a file

pub answer_at : (files : List (Vec ℕ)) (i : ℕ) (d : Vec ℕ) (bytes : List ℕ) (answer : FileAnswer) → i < length files → bytes ≡ (get_or files i d).items → IsFileAnswer bytes answer
    → IsAnswerAt (files_of files) i answer
answer_at files i d bytes answer lt same is = record {
  file = bytes;
  at = let lt' : i < length (files_of files) = rw (length-map files (λ (file : Vec ℕ). file.items)) lt in
      slice_get-get_or (files_of files) i d.items lt' ∙ ap (λ (x : List ℕ). Some x) (get_or-map (λ (file : Vec ℕ). file.items) files i d ∙ sym same);
  is_answer = is;
}

-- ---- one slot after the other

-- what is put into a slot leaves the full ones
pub put_fills : (old new : Slots) (file : ℕ) (answer : FileAnswer) (result : Put) → (result ≡ variants.Held) ↔ (slot_at old.slots file ≢ None)
    → (result ≡ variants.Held → new ≡ old) → (result ≡ variants.Stored → new ≡ record { files = old.files; slots = set old.slots file (Some answer) }) → FillsOnly old.slots new.slots
put_fills old new file answer variants.Held held unchanged stored i other h = subst (λ (s : Slots). slot_at s.slots i ≡ Some other) (sym (unchanged refl)) h
put_fills old new file answer variants.Stored held unchanged stored i other h =
    subst (λ (s : Slots). slot_at s.slots i ≡ Some other) (sym (stored refl)) (fills_one old.slots file answer (empty (slot_at old.slots file) refl) i other h)
  where
    empty : (o : Option FileAnswer) → slot_at old.slots file ≡ o → slot_at old.slots file ≡ None
    empty None e = e
    empty (Some x) e = let is : variants.Stored ≡ variants.Held = held.1 (λ none. absurd cc) in absurd cc

stays_full : (old new : List (Option FileAnswer)) (i : ℕ) → FillsOnly old new → slot_at old i ≢ None → slot_at new i ≢ None
stays_full old new i kept full = by (slot_at old i) refl
  where
    by : (o : Option FileAnswer) → slot_at old i ≡ o → slot_at new i ≢ None
    by None e = λ h. full e
    by (Some answer) e = λ h. let k = kept i answer e in absurd cc

pub full_next : (old new : List (Option FileAnswer)) (n : ℕ) → FillsOnly old new → ((i : ℕ) → i < n → slot_at old i ≢ None) → slot_at new n ≢ None
    → (i : ℕ) → i < n + 1 → slot_at new i ≢ None
full_next old new n kept before now i lt = by (number_same i n)
  where
    by : (i ≡ n) ⊎ (i ≢ n) → slot_at new i ≢ None
    by (inl e) = subst (λ (j : ℕ). slot_at new j ≢ None) (sym e) now
    by (inr ne) = stays_full old new i kept (before i (omega (arith, lt, ne)))

-- ---- answers that are taken from the end of a list

pub last_answer : (files : List (List ℕ)) (all others : List (ℕ × FileAnswer)) (i : ℕ) (answer : FileAnswer) → all ≡ others ++ (i, answer) ∷ [] → AreAnswers files all → IsAnswerAt files i answer
last_answer files all others i answer is are =
    (All-pop (λ (p : ℕ × FileAnswer). IsAnswerAt files p.0 p.1) all others (Some (i, answer)) is are).1

pub other_answers : (files : List (List ℕ)) (all others : List (ℕ × FileAnswer)) (i : ℕ) (answer : FileAnswer) → all ≡ others ++ (i, answer) ∷ [] → AreAnswers files all → AreAnswers files others
other_answers files all others i answer is are =
    (All-pop (λ (p : ℕ × FileAnswer). IsAnswerAt files p.0 p.1) all others (Some (i, answer)) is are).0
