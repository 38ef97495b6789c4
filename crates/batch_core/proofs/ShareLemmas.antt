-- What a worker's share is after one step of its round, and after several.
use Rattle.std.proofs.Common.{◌≡◌, ◌≢◌, ◌⊎◌, ◌∙◌, ◌<◌, ◌+◌, ℕ, List, [], ◌∷◌, ◌++◌, Option, Some, None, inl, inr, ⊎_elim, refl, sym, ap, subst, append_assoc, arith}
use Rattle.std.proofs.lemmas.List.{append-nil}
use Rattle.bip_defs.specs.Lists.{Among}
use Rattle.bip_defs.proofs.Sets.{among_either, among_left, among_map, among_right, number_same}
use Rattle.btf_tool.specs.declared.file_answer.FileAnswer.{FileAnswer}
use Rattle.claim_words.specs.Listed.{Listed, claimed, followed_by, nothing, row_word}
use Rattle.claim_words.specs.Seat.{Seat, after_claim, with_listed}
use Rattle.batch_core.specs.Shares.{AnswersItsClaims, Continues, IsKnown, Share, answered}

-- ---- what a seat lists

listed_nothing : (l : Listed) → followed_by l nothing ≡ l
listed_nothing l = λ i. record { claims = append-nil l.claims i; wins = append-nil l.wins i; seen = append-nil l.seen i }

listed_both : (l m n : Listed) → followed_by (followed_by l m) n ≡ followed_by l (followed_by m n)
listed_both l m n = λ i. record { claims = append_assoc l.claims m.claims n.claims i; wins = append_assoc l.wins m.wins n.wins i; seen = append_assoc l.seen m.seen n.seen i }

-- what one claim lists
one_claim : ℕ → ℕ → Option ℕ → Listed
one_claim row col None = record { claims = (row, col) ∷ []; wins = []; seen = [] }
one_claim row col (Some found) = record { claims = []; wins = []; seen = row_word row (Some found) ∷ [] }

claim_listed : (l : Listed) (row col : ℕ) (found : Option ℕ) → claimed l row col found ≡ followed_by l (one_claim row col found)
unfolding one_claim
claim_listed l row col None = λ i. record { claims = l.claims ++ (row, col) ∷ []; wins = sym (append-nil l.wins) i; seen = sym (append-nil l.seen) i }
claim_listed l row col (Some found) = λ i. record { claims = sym (append-nil l.claims) i; wins = sym (append-nil l.wins) i; seen = l.seen ++ row_word row (Some found) ∷ [] }

-- a seat that has claimed a row lists it, or has seen it held
pub claim_known : (s : Seat) (row col : ℕ) (found : Option ℕ) → IsKnown (after_claim s row col found) row
claim_known s row col None = (col, inl (among_right (row, col) s.listed.claims ((row, col) ∷ []) (inl refl)))
claim_known s row col (Some found) = (found, inr (among_right (row_word row (Some found)) s.listed.seen (row_word row (Some found) ∷ []) (inl refl)))

-- what it knows it knows when it has listed more
known_later : (s : Seat) (more : Listed) (row : ℕ) → IsKnown s row → IsKnown (with_listed s (followed_by s.listed more)) row
known_later s more row (col, inl own) = (col, inl (among_left (row, col) s.listed.claims more.claims own))
known_later s more row (col, inr seen) = (col, inr (among_left (row_word row (Some col)) s.listed.seen more.seen seen))

pub known_on : (old new : Share) (row : ℕ) → Continues old new → IsKnown old.seat row → IsKnown new.seat row
known_on old new row h known = subst (λ (s : Seat). IsKnown s row) (sym h.seat) (known_later old.seat h.listed row known)

-- ---- no step, one step, and several

nothing_happens : (s : Share) → Continues s s
nothing_happens s = record {
  files = refl;
  listed = nothing;
  seat = ap (λ (l : Listed). with_listed s.seat l) (sym (listed_nothing s.seat.listed));
  more = [];
  answers = sym (append-nil s.answers);
}

-- at the start of a round
pub none_claimed : (worker : ℕ) (s : Share) → AnswersItsClaims worker s s
unfolding nothing_happens
none_claimed worker s = record { continues = nothing_happens s; claimed = λ i other h. absurd h }

-- a claim, and what was listed behind it
continues_by : (old new : Share) (row col : ℕ) (found : Option ℕ) (more : List (ℕ × FileAnswer)) → new.files ≡ old.files
    → new.seat ≡ after_claim old.seat row col found → new.answers ≡ old.answers ++ more → Continues old new
continues_by old new row col found more files seat answers = record {
  files = files;
  listed = one_claim row col found;
  seat = seat ∙ ap (λ (l : Listed). with_listed old.seat l) (claim_listed old.seat.listed row col found);
  more = more;
  answers = answers;
}

pub claim_continues : (seen old new : Share) (row col : ℕ) (found : Option ℕ) (more : List (ℕ × FileAnswer)) → seen ≡ old → new.files ≡ seen.files
    → new.seat ≡ after_claim seen.seat row col found → new.answers ≡ seen.answers ++ more → Continues old new
claim_continues seen old new row col found more is files seat answers =
    subst (λ (s : Share). Continues s new) is (continues_by seen new row col found more files seat answers)

-- a claim that found another worker lists no claim
held_by : (old new : Share) (row col found : ℕ) → new.files ≡ old.files → new.seat ≡ after_claim old.seat row col (Some found) → new.answers ≡ old.answers
    → AnswersItsClaims col old new
unfolding continues_by one_claim
held_by old new row col found files seat answers = record {
  continues = continues_by old new row col (Some found) [] files seat (answers ∙ sym (append-nil old.answers));
  claimed = λ i other h. absurd h;
}

pub held_answered : (seen old new : Share) (row col found : ℕ) → seen ≡ old → new.files ≡ seen.files → new.seat ≡ after_claim seen.seat row col (Some found)
    → new.answers ≡ seen.answers → AnswersItsClaims col old new
held_answered seen old new row col found is files seat answers =
    subst (λ (s : Share). AnswersItsClaims col s new) is (held_by seen new row col found files seat answers)

-- a claim that was got, and its answer
own_by : (old new : Share) (row col : ℕ) (answer : FileAnswer) → new.files ≡ old.files → new.seat ≡ after_claim old.seat row col None
    → new.answers ≡ old.answers ++ (row, answer) ∷ [] → AnswersItsClaims col old new
unfolding continues_by one_claim
own_by old new row col answer files seat answers = record {
  continues = continues_by old new row col None ((row, answer) ∷ []) files seat answers;
  claimed = λ i other (h : Among (i, other) ((row, col) ∷ [])).
      ⊎_elim (λ (e : (i, other) ≡ (row, col)). (ap (λ (p : ℕ × ℕ). p.1) e, subst (λ (x : ℕ). Among x (answered new.answers)) (sym (ap (λ (p : ℕ × ℕ). p.0) e)) listed))
      (λ (none : ⊥). absurd none) h;
}
  where
    listed : Among row (answered new.answers)
    listed = subst (λ (xs : List (ℕ × FileAnswer)). Among row (answered xs)) (sym answers)
        (among_map (λ (p : ℕ × FileAnswer). p.0) (row, answer) (old.answers ++ (row, answer) ∷ []) (among_right (row, answer) old.answers ((row, answer) ∷ []) (inl refl)))

pub own_answered : (seen old new : Share) (row col : ℕ) (answer : FileAnswer) → seen ≡ old → new.files ≡ seen.files → new.seat ≡ after_claim seen.seat row col None
    → new.answers ≡ seen.answers ++ (row, answer) ∷ [] → AnswersItsClaims col old new
own_answered seen old new row col answer is files seat answers =
    subst (λ (s : Share). AnswersItsClaims col s new) is (own_by seen new row col answer files seat answers)

pub continues_on : (a b c : Share) → Continues a b → Continues b c → Continues a c
continues_on a b c h k = record {
  files = k.files ∙ h.files;
  listed = followed_by h.listed k.listed;
  seat = k.seat ∙ ap (λ (s : Seat). with_listed s (followed_by s.listed k.listed)) h.seat ∙ ap (λ (l : Listed). with_listed a.seat l) (listed_both a.seat.listed h.listed k.listed);
  more = h.more ++ k.more;
  answers = k.answers ∙ ap (λ (xs : List (ℕ × FileAnswer)). xs ++ k.more) h.answers ∙ append_assoc a.answers h.more k.more;
}

answered_on : (old new : Share) (i : ℕ) → Continues old new → Among i (answered old.answers) → Among i (answered new.answers)
answered_on old new i h own = subst (λ (xs : List (ℕ × FileAnswer)). Among i (answered xs)) (sym h.answers) (over old.answers own)
  where
    over : (xs : List (ℕ × FileAnswer)) → Among i (answered xs) → Among i (answered (xs ++ h.more))
    over [] own = absurd own
    over (x ∷ xs) (inl e) = inl e
    over (x ∷ xs) (inr own) = inr (over xs own)

pub answers_on : (worker : ℕ) (a b c : Share) → AnswersItsClaims worker a b → AnswersItsClaims worker b c → AnswersItsClaims worker a c
unfolding continues_on
answers_on worker a b c h k = record {
  continues = continues_on a b c h.continues k.continues;
  claimed = λ i other (own : Among (i, other) (h.continues.listed.claims ++ k.continues.listed.claims)).
      ⊎_elim (λ before. let was = h.claimed i other before in (was.0, answered_on b c i k.continues was.1)) (λ now. k.claimed i other now)
      (among_either (i, other) h.continues.listed.claims k.continues.listed.claims own);
}

-- one more file is known
pub known_next : (old new : Share) (n : ℕ) → Continues old new → ((i : ℕ) → i < n → IsKnown old.seat i) → IsKnown new.seat n → (i : ℕ) → i < n + 1 → IsKnown new.seat i
known_next old new n h before now i lt = by (number_same i n)
  where
    by : (i ≡ n) ⊎ (i ≢ n) → IsKnown new.seat i
    by (inl e) = subst (λ (j : ℕ). IsKnown new.seat j) (sym e) now
    by (inr ne) = known_on old new i h (before i (omega (arith, lt, ne)))
