-- How many rows and columns a part has.
use Rattle.std.proofs.Common.{ℕ, ◌<◌, ◌^◌, List, arith, length}
use Rattle.bip_defs.specs.Lists.{Lists}
use Rattle.bip_defs.proofs.Full.{few_below}
use Rattle.bip_defs.proofs.Sets.{rising_distinct}

-- numbers below n that are listed once are few
pub few_listed : (P : ℕ → Type 0) (n : ℕ) (xs : List ℕ) → Lists P xs → ((x : ℕ) → P x → x < n) → n < 2 ^ 32 → length xs < 2 ^ 32
few_listed P n xs all below small =
    let few = few_below n xs (rising_distinct xs all.rising) (λ x h. below x (all.sound x h)) in
    omega (arith, few, small)
