-- A path of which the pairs before a place are exchanged.
use Rattle.std.proofs.Common.{◌≡◌, ◌∙◌, ◌-◌, ℕ, suc, ◌+◌, ◌<◌, ◌≤◌, List, length, get_or, refl, sym, subst, arith}
use Rattle.std.proofs.lemmas.List.{get_or_default}
use Rattle.bip_defs.specs.Lists.{Among, AreDistinct}
use Rattle.bip_defs.specs.Matching.{cols_of, rows_of}
use Rattle.bip_defs.specs.Matrix.{Place}
use Rattle.bip_defs.specs.Paths.{Exchanges, Reassigns, IsAugmenting}
use Rattle.bip_defs.proofs.Exchange.{Flipping, flipping_col_free, flipping_end, flipping_in_range, flipping_row_free, flipping_row_taken, flipping_start, flipping_step, pair_at}
use Rattle.bip_defs.proofs.Sets.{among_at}
use Rattle.bip_graph.specs.Matching.{Pairing}

pub record IsHalfway (path : List Place) (old now : Pairing) (k : ℕ) : Type 0 where
  pub flipping : Flipping path old.pairs now.pairs k
  pub rows : now.rows ≡ old.rows
  pub cols : now.cols ≡ old.cols
  pub count : length now.pairs ≡ length old.pairs

pub halfway_start : (path : List Place) (old : Pairing) → IsAugmenting old.pairs path → IsHalfway path old old 0
halfway_start path old aug = record { flipping = flipping_start path old.pairs aug; rows = refl; cols = refl; count = refl }

pub halfway_within : {path : List Place} {old now : Pairing} {k : ℕ} → IsHalfway path old now k → k < length path
halfway_within {path = path} {old = old} {now = now} {k = k} h = flipping_in_range path old.pairs now.pairs k h.flipping

-- what is read at the place is the pair there
at : {path : List Place} {old now : Pairing} {k : ℕ} {step : Place} → step ≡ get_or path k step → IsHalfway path old now k → step ≡ pair_at path k
at {path = path} {k = k} {step = step} e h = e ∙ get_or_default path k step (0, 0) (halfway_within h)

in_path : {path : List Place} {old now : Pairing} {k : ℕ} → IsHalfway path old now k → Among (pair_at path k) path
in_path {path = path} {k = k} h = among_at path k (0, 0) (halfway_within h)

pub halfway_row_in : {path : List Place} {old now : Pairing} {k : ℕ} {step : Place} → step ≡ get_or path k step → ((r c : ℕ) → Among (r, c) path → (r < old.rows) × (c < old.cols)) → IsHalfway path old now k → step.0 < now.rows
halfway_row_in {path = path} {now = now} {k = k} is within h = subst (λ (p : Place). p.0 < now.rows) (sym (at is h)) (subst (λ n. (pair_at path k).0 < n) (sym h.rows) (within (pair_at path k).0 (pair_at path k).1 (in_path h)).0)

pub halfway_col_in : {path : List Place} {old now : Pairing} {k : ℕ} {step : Place} → step ≡ get_or path k step → ((r c : ℕ) → Among (r, c) path → (r < old.rows) × (c < old.cols)) → IsHalfway path old now k → step.1 < now.cols
halfway_col_in {path = path} {now = now} {k = k} is within h = subst (λ (p : Place). p.1 < now.cols) (sym (at is h)) (subst (λ n. (pair_at path k).1 < n) (sym h.cols) (within (pair_at path k).0 (pair_at path k).1 (in_path h)).1)

pub halfway_col_free : {path : List Place} {old now : Pairing} {k : ℕ} {step : Place} → step ≡ get_or path k step → IsHalfway path old now k → ¬ Among step.1 (cols_of now.pairs)
halfway_col_free {path = path} {old = old} {now = now} {k = k} is h = subst (λ (p : Place). ¬ Among p.1 (cols_of now.pairs)) (sym (at is h)) (flipping_col_free path old.pairs now.pairs k h.flipping)

pub halfway_row_taken : {path : List Place} {old now : Pairing} {k : ℕ} {step : Place} → step ≡ get_or path k step → IsHalfway path old now k → k < length path - 1 → Among step.0 (rows_of now.pairs)
halfway_row_taken {path = path} {old = old} {now = now} {k = k} is h lt = subst (λ (p : Place). Among p.0 (rows_of now.pairs)) (sym (at is h)) (flipping_row_taken path old.pairs now.pairs k h.flipping (omega arith))

pub halfway_row_free : {path : List Place} {old now : Pairing} {k : ℕ} {step : Place} → step ≡ get_or path k step → IsHalfway path old now k → suc k ≡ length path → ¬ Among step.0 (rows_of now.pairs)
halfway_row_free {path = path} {old = old} {now = now} {k = k} is h e = subst (λ (p : Place). ¬ Among p.0 (rows_of now.pairs)) (sym (at is h)) (flipping_row_free path old.pairs now.pairs k h.flipping e)

-- one pair more
pub halfway_more : {path : List Place} {old now next : Pairing} {k : ℕ} {step : Place} → step ≡ get_or path k step → IsHalfway path old now k → k < length path - 1 → AreDistinct (cols_of now.pairs) → Reassigns (step.0, step.1) now.pairs next.pairs → length next.pairs ≡ length now.pairs → (next.rows ≡ now.rows) × (next.cols ≡ now.cols) → IsHalfway path old next (k + 1)
halfway_more {path = path} {old = old} {now = now} {next = next} {k = k} is h lt differ g count sizes = record {
  flipping = subst (Flipping path old.pairs next.pairs) (let e : suc k ≡ k + 1 = omega arith in e) (flipping_step path old.pairs now.pairs next.pairs k h.flipping (omega arith) differ (subst (λ (p : Place). Reassigns (p.0, p.1) now.pairs next.pairs) (at is h) g));
  rows = sizes.0 ∙ h.rows;
  cols = sizes.1 ∙ h.cols;
  count = count ∙ h.count;
}

-- the last place
pub halfway_last : {path : List Place} {old now : Pairing} {k : ℕ} → IsHalfway path old now k → k ≤ length path - 1 → length path - 1 ≤ k → IsHalfway path old now (length path - 1)
halfway_last {path = path} {old = old} {now = now} {k = k} h le ge = subst (IsHalfway path old now) (let e : k ≡ length path - 1 = omega arith in e) h

pub last_place : {path : List Place} {old now : Pairing} → IsHalfway path old now (length path - 1) → suc (length path - 1) ≡ length path
last_place h = let lt = halfway_within h in omega arith

pub halfway_end : {path : List Place} {old now : Pairing} (new : List Place) {step : Place} → step ≡ get_or path (length path - 1) step → IsHalfway path old now (length path - 1) → Reassigns (step.0, step.1) now.pairs new → Exchanges path old.pairs new
halfway_end {path = path} {old = old} {now = now} new is h g = flipping_end path old.pairs now.pairs new (length path - 1) h.flipping (last_place h) (subst (λ (p : Place). Reassigns (p.0, p.1) now.pairs new) (at is h) g)
