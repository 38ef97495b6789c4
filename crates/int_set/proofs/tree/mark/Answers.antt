use Rattle.std.proofs.Common.{◌≡◌, ◌≢◌, ◌⊎◌, ◌/◌, slice_index, inl, inr, arith}
use Rattle.int_set.proofs.Bits.{marked}
use Rattle.int_set.proofs.InsertLemmas.{marking_begins, marking_ends, marking_goes_on}
use Rattle.int_set.proofs.tree.mark.Goals as goal
use Rattle.int_set.proofs.tree.mark.Goals.{then-word-ne0-via-then-word-ne0, then-word-ne0-via-else-word-ne0+then-at-eq0}

pub loop-bit-init : goal.loop-bit-init
loop-bit-init c = marking_begins c.args.words.now c.args.first c.args.number c.requires.tree c.requires.holds

pub returns-then-word-ne0 : goal.returns-then-word-ne0
returns-then-word-ne0 c =
    let p = c.loop-bit.bit in
    let over : (slice_index c.loop-bit.words (p / 64) ≢ 0) ⊎ (p / 64 ≡ 0) =
    elim c.then-word-ne0.branch [
      | then-word-ne0-via-then-word-ne0 w ↦ inl w.if-word-ne0.true
      | then-word-ne0-via-else-word-ne0+then-at-eq0 w ↦ inr w.if-at-eq0.true
    ] in
    let done = marking_ends _ _ _ _ _ _ c.loop-bit.invariant (marked c.loop-bit.words p c.loop-bit.invariant.room) (omega (arith, c.loop-bit.invariant.long)) over in
    record { tree = done.tree; set = done.set; others = done.others }

pub loop-bit-preserved : goal.loop-bit-preserved
loop-bit-preserved c =
    marking_goes_on _ _ _ _ _ _ c.loop-bit.invariant (marked c.loop-bit.words c.loop-bit.bit c.loop-bit.invariant.room) (omega (arith, c.loop-bit.invariant.long)) c.if-at-eq0.false
