use Rattle.std.proofs.Common.{◌≡◌, ◌≢◌, ◌⊎◌, ◌∙◌, ◌*◌, ◌/◌, ◌%◌, ◌^◌, slice_index, slice_set, sym, inl, inr, arith}
use Rattle.std.specs.Int.{bit_not, w64}
use Rattle.std.specs.Int.Bits.{bit_and}
use Rattle.int_set.proofs.Bits.{cleared, written}
use Rattle.int_set.proofs.RemoveLemmas.{clearing_begins, clearing_ends, clearing_goes_on}
use Rattle.int_set.proofs.tree.clear.Goals as goal
use Rattle.int_set.proofs.tree.clear.Goals.{then-word-ne0-via-then-word-ne0, then-word-ne0-via-else-word-ne0+then-at-eq0}

pub loop-bit-init : goal.loop-bit-init
loop-bit-init c = clearing_begins c.args.words.now c.args.first c.args.number c.requires.tree c.requires.holds

pub returns-then-word-ne0 : goal.returns-then-word-ne0
returns-then-word-ne0 c =
    let p = c.loop-bit.bit in
    let words = c.loop-bit.words in
    let value = bit_and (slice_index words (p / 64)) (bit_not w64 (1 * 2 ^ (p % 64) % 2 ^ 64)) in
    let over : (slice_index (slice_set words (p / 64) value) (p / 64) ≢ 0) ⊎ (p / 64 ≡ 0) =
    elim c.then-word-ne0.branch [
      | then-word-ne0-via-then-word-ne0 w ↦ inl (λ zero. w.if-word-ne0.true (sym (written words p value c.loop-bit.invariant.room).word ∙ zero))
      | then-word-ne0-via-else-word-ne0+then-at-eq0 w ↦ inr w.if-at-eq0.true
    ] in
    let done = clearing_ends _ _ _ _ _ _ c.loop-bit.invariant (cleared words p c.loop-bit.invariant.room) (omega (arith, c.loop-bit.invariant.long)) over in
    record { tree = done.tree; clear = λ one. absurd (omega (arith, one, done.clear)); others = done.others }

pub loop-bit-preserved : goal.loop-bit-preserved
loop-bit-preserved c =
    let p = c.loop-bit.bit in
    let words = c.loop-bit.words in
    let value = bit_and (slice_index words (p / 64)) (bit_not w64 (1 * 2 ^ (p % 64) % 2 ^ 64)) in
    clearing_goes_on _ _ _ _ _ _ c.loop-bit.invariant (cleared words p c.loop-bit.invariant.room) (omega (arith, c.loop-bit.invariant.long))
    ((written words p value c.loop-bit.invariant.room).word ∙ c.if-word-ne0.false) c.if-at-eq0.false
