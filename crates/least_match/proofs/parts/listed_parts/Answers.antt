use Rattle.std.proofs.Common.{◌≡◌, ◌∙◌, ◌++◌, List, ap, arith, drop, length, replicate, rules, subst, sym, take}
use Rattle.std.proofs.lemmas.List.{length-replicate}
use Rattle.bip_defs.specs.Lists.{Among, Lists}
use Rattle.bip_defs.proofs.Sets.{entry_col, written_over}
use Rattle.least_match.specs.Outcomes.{IsGiven}
use Rattle.least_match.specs.declared.parts.ColPart.{ColPart}
use Rattle.least_match.specs.declared.parts.ColPart.TheVariants.{Horizontal, Square, Vertical}
use Rattle.least_match.proofs.PartLemmas.{parted_by_lists}
use Rattle.least_match.proofs.parts.listed_parts.Goals as goal

pub give-requires : goal.give-requires
give-requires c = record {
  cols = λ x h. let within = (c.requires.horizontal_cols.sound x (subst (Among x) c.as_slice.ensures.value h)).0 in
      let start : length c.in_ok-of_cols.of_cols.items ≡ c.cols.result = ap length (c.in_ok-of_cols.ensures.items_if_clones_equal (λ y same. same)) ∙ length-replicate {A = ColPart} c.cols.result Square in
      let same = ap length c.as_mut_slice.ensures.value in
      omega (arith, within, start, same, c.cols.ensures);
}

pub give-requires-2 : goal.give-requires-2
give-requires-2 c = record {
  cols = λ x h. let (r, row, e) = c.requires.vertical_cols.sound x (subst (Among x) c.as_slice-2.ensures.value h) in
      let within = entry_col _ r x e in
      let start : length c.in_ok-of_cols.of_cols.items ≡ c.cols.result = ap length (c.in_ok-of_cols.ensures.items_if_clones_equal (λ y same. same)) ∙ length-replicate {A = ColPart} c.cols.result Square in
      let long : length c.give.new.parts ≡ length c.in_ok-of_cols.of_cols.items = c.give.ensures.long ∙ ap length c.as_mut_slice.ensures.value in
      let same = ap length (c.as_mut_slice-2.ensures.value ∙ written_over c.give.new.parts c.in_ok-of_cols.of_cols.items c.in_ok-of_cols.of_cols.len long (search rules)) in
      omega (arith, within, start, same, long, c.cols.ensures);
}

pub returns : goal.returns
returns c =
    let first = c.in_ok-of_cols.of_cols.items in
    let second = c.give.new.parts in
    let third = c.give-2.new.parts in
    let len = c.in_ok-of_cols.of_cols.len in
    let start : first ≡ replicate c.cols.result Square = c.in_ok-of_cols.ensures.items_if_clones_equal (λ y same. same) in
    let long : length second ≡ length first = c.give.ensures.long ∙ ap length c.as_mut_slice.ensures.value in
    let back : take len (second ++ drop (length second) first) ≡ second = written_over second first len long (search rules) in
    let again = c.as_mut_slice-2.ensures.value ∙ back in
    let long2 : length third ≡ length second = c.give-2.ensures.long ∙ ap length again in
    let gave = subst (λ (z : List ColPart). IsGiven z Horizontal c.as_slice.result.now second) c.as_mut_slice.ensures.value c.give.ensures in
    let gave2 = subst (λ (z : List ColPart). IsGiven z Vertical c.as_slice-2.result.now third) again c.give-2.ensures in
    let parted = parted_by_lists c.args.pattern.now _ _ first second third (subst (Lists _) (sym c.as_slice.ensures.value) c.requires.horizontal_cols) (subst (Lists _) (sym c.as_slice-2.ensures.value) c.requires.vertical_cols) (start ∙ ap (λ n. replicate n Square) c.cols.ensures) gave gave2 in
    rw back (rw (written_over third second len long2 (search rules)) parted)
