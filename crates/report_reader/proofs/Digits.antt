-- Digits, one after the other.
use Rattle.std.proofs.Common.{◌≡◌, ◌<◌, ◌≤◌, ◌+◌, ◌-◌, ◌*◌, ℕ, true, false, List, ◌∷◌, length, get_or, drop, take, take_all, length-drop, Some, None, refl, arith, add-one, drop-cons, lt-ltb, le-ltb}
use Rattle.std.proofs.lemmas.List.{drop_all}
use Rattle.std.specs.Char.{is_ascii_digit}
use Rattle.report_reader.specs.ReportGrammar.{digits_on}

prefix : (bytes : List ℕ) (at d : ℕ) → at < length bytes → drop at bytes ≡ get_or bytes at d ∷ drop (at + 1) bytes
prefix bytes at d inside = rw (add-one, drop-cons bytes at d) refl

-- no digit stands there
pub digits_stop : (n : ℕ) (bytes : List ℕ) (at d : ℕ) → at < length bytes → is_ascii_digit (get_or bytes at d) ≡ false → digits_on n (drop at bytes) ≡ Some (n, drop at bytes)
unfolding digits_on
digits_stop n bytes at d inside test = rw (prefix bytes at d inside, test) refl

-- a digit stands there
pub digits_more : (n : ℕ) (bytes : List ℕ) (at d : ℕ) → at < length bytes → is_ascii_digit (get_or bytes at d) ≡ true → n * 10 + (get_or bytes at d - 48) ≤ 4294967295
    → digits_on n (drop at bytes) ≡ digits_on (n * 10 + (get_or bytes at d - 48)) (drop (at + 1) bytes)
unfolding digits_on
digits_more n bytes at d inside test small = rw (prefix bytes at d inside, test, le-ltb _ _ small) refl

-- the number is too large
pub digits_over : (n : ℕ) (bytes : List ℕ) (at d : ℕ) → at < length bytes → is_ascii_digit (get_or bytes at d) ≡ true → 4294967295 < n * 10 + (get_or bytes at d - 48)
    → digits_on n (drop at bytes) ≡ None
unfolding digits_on
digits_over n bytes at d inside test large = rw (prefix bytes at d inside, test, lt-ltb _ _ large) refl

-- all that is left
pub rest_of : (bytes : List ℕ) (at : ℕ) → take (length bytes - at) (drop at bytes) ≡ drop at bytes
rest_of bytes at = take_all (length bytes - at) (drop at bytes) (omega (arith, length-drop at bytes))

pub digits_end : (n : ℕ) (bytes : List ℕ) (at : ℕ) → length bytes ≤ at → digits_on n (drop at bytes) ≡ Some (n, drop (length bytes) bytes)
unfolding digits_on
digits_end n bytes at ended = rw (drop_all at bytes ended, drop_all (length bytes) bytes (omega arith)) refl
