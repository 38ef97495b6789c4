use Rattle.std.proofs.Common.{◌≡◌, ◌<◌, ◌+◌, ◌-◌, ◌/◌, length, arith, subst, sym, ◌∙◌, eqb-true, eq-eqb}
use Rattle.std.proofs.lemmas.List.{get_or_default}
use Rattle.bip_defs.specs.Lists.{Among}
use Rattle.bip_defs.proofs.Sets.{among_at}
use Rattle.btf_text.proofs.Halves.{searched_half, searched_one, searched_places, spread}
use Rattle.btf_text.proofs.hall.has_by_halves.Goals as goal

pub overflow_sub-missing-2 : goal.overflow_sub-missing-2
overflow_sub-missing-2 c =
    let some = c.if-hall-eq0.false in
    let far = spread c.args.hall.now (length c.args.hall.now - 1) c.index-hall-0.result c.index-hall-last.result c.requires (omega (arith, some)) c.index-hall-0.is c.index-hall-last.is in
    omega (arith, far, c.number.ensures, c.number-least.ensures)

pub overflow_sub-missing : goal.overflow_sub-missing
overflow_sub-missing c =
    let some = c.if-hall-eq0.false in
    let far = spread c.args.hall.now (length c.args.hall.now - 1) c.index-hall-0.result c.index-hall-last.result c.requires (omega (arith, some)) c.index-hall-0.is c.index-hall-last.is in
    omega (arith, far, c.number.ensures, c.number-least.ensures)

pub loop-len-init : goal.loop-len-init
loop-len-init c =
    let some = c.if-hall-eq0.false in
    searched_places c.args.hall.now c.args.col (length c.args.hall.now - 1) c.index-hall-0.result c.index-hall-last.result c.saturating_sub-before.result c.min-first.result c.min.result c.requires (omega (arith, some)) c.index-hall-0.is c.index-hall-last.is
    (omega (arith, c.saturating_sub-before.ensures, c.number-2.ensures, c.number-least.ensures)) (omega (arith, c.min-first.ensures, c.saturating_sub.ensures, c.number.ensures, c.number-least.ensures)) c.min.ensures

pub loop-len-preserved : goal.loop-len-preserved
loop-len-preserved c =
    let xs = c.args.hall.now in
    let x : c.from.result ≡ c.args.col = c.from.ensures ∙ c.number-in-loop-len.ensures in
    let y : c.from-in-loop-len.result ≡ c.index-hall-first.result = c.from-in-loop-len.ensures ∙ c.number-in-loop-len-2.ensures in
    let within = c.loop-len.invariant.within in
    let more = c.loop-len-test.true in
    let inside : c.loop-len.first + c.loop-len.len / 2 < length xs = omega (arith, within, more) in
    rw (x, y) (searched_half xs c.args.col c.index-hall-first.result c.loop-len.first c.loop-len.len c.requires c.loop-len.invariant more
    (omega (arith, c.number-in-loop-len.ensures, c.number-in-loop-len.type_inv)) (omega (arith, c.number-in-loop-len-2.ensures, c.number-in-loop-len-2.type_inv))
    (c.index-hall-first.is ∙ get_or_default xs (c.loop-len.first + c.loop-len.len / 2) c.index-hall-first.result 0 inside))

pub returns : goal.returns
returns c =
    let xs = c.args.hall.now in
    let within = c.loop-len.invariant.within in
    let some = c.loop-len.invariant.some (let not_none = c.if-hall-eq0.false in omega (arith, not_none)) in
    let few = c.loop-len-test.false in
    let inside : c.loop-len.first < length xs = omega (arith, within, some) in (
      λ e. subst (λ x. Among x xs) (sym c.index-hall-first-2.is ∙ eqb-true _ _ (sym c.eq.ensures ∙ e)) (among_at xs c.loop-len.first c.index-hall-first-2.result inside),
      λ h. c.eq.ensures ∙ eq-eqb _ _ (c.index-hall-first-2.is ∙ get_or_default xs c.loop-len.first c.index-hall-first-2.result 0 inside ∙ searched_one xs c.args.col c.loop-len.first c.loop-len.len c.requires c.loop-len.invariant (omega (arith, some, few)) h),
    )
