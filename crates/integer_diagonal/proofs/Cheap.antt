-- The entries that cost as much as their columns' dual variables.
use Rattle.std.proofs.Common.{◌≡◌, ◌≢◌, ◌∙◌, ℕ, zero, suc, ◌+◌, ◌<◌, false, true, [], get_or, nat_eq, sym, ap, subst, arith}
use Rattle.std.proofs.lemmas.Bool.Decides.{nat_tests}
use Rattle.std.proofs.lemmas.List.{get_or-map, length-map}
use Rattle.bip_defs.specs.Lists.{Among}
use Rattle.bip_defs.specs.Matrix.{IsEntry, cols, column, upto, upto_from}
use Rattle.bip_defs.proofs.Sets.{entry_col, filter_complete, filter_sound, upto_length}
use Rattle.integer_diagonal.specs.Duals.{Priced, cheap, cheap_rows, dual, paid}

pub cheap_cols : (x : Priced) → cols (cheap x) ≡ cols x.weighing.matrix
cheap_cols x = length-map (upto (cols x.weighing.matrix)) (cheap_rows x) ∙ upto_length 0 (cols x.weighing.matrix)

-- the numbers from k on stand in order
upto_at : (k n i d : ℕ) → i < n → get_or (upto_from k n) i d ≡ k + i
upto_at k zero i d lt = absurd (omega arith)
upto_at k (suc n) zero d lt = omega arith
upto_at k (suc n) (suc i) d lt = upto_at (suc k) n i d (omega arith) ∙ omega arith

cheap_column : (x : Priced) (c : ℕ) → c < cols x.weighing.matrix → column (cheap x) c ≡ cheap_rows x c
cheap_column x c lt = get_or-map (cheap_rows x) (upto (cols x.weighing.matrix)) c 0 [] (rw upto_length lt) ∙ ap (cheap_rows x) (upto_at 0 (cols x.weighing.matrix) c 0 lt ∙ omega arith)

test_true : (a b : ℕ) → nat_eq a b ≡ true → a ≡ b
test_true a b e = grind (arith, nat_tests)

pub true_test : (a b : ℕ) → a ≡ b → nat_eq a b ≡ true
true_test a b e = grind (arith, nat_tests)

pub false_test : (a b : ℕ) → a ≢ b → nat_eq a b ≡ false
false_test a b ne = grind (arith, nat_tests)

pub cheap_entry : (x : Priced) (r c : ℕ) → IsEntry (cheap x) r c → IsEntry x.weighing.matrix r c × (paid x r c ≡ dual x c)
cheap_entry x r c e =
    let lt : c < cols x.weighing.matrix = subst (λ n. c < n) (cheap_cols x) (entry_col (cheap x) r c e) in
    let (on, is) = filter_sound (λ s. nat_eq (paid x s c) (dual x c)) r (column x.weighing.matrix c) (subst (λ rows. Among r rows) (cheap_column x c lt) e.1) in
    ((e.0, on), test_true (paid x r c) (dual x c) is)

pub entry_cheap : (x : Priced) (r c : ℕ) → IsEntry x.weighing.matrix r c → paid x r c ≡ dual x c → IsEntry (cheap x) r c
entry_cheap x r c e is = (e.0, subst (λ rows. Among r rows) (sym (cheap_column x c (entry_col x.weighing.matrix r c e))) (filter_complete (λ s. nat_eq (paid x s c) (dual x c)) r (column x.weighing.matrix c) e.1 (true_test (paid x r c) (dual x c) is)))
