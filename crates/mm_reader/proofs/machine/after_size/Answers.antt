use Rattle.std.proofs.Common.{◌++◌, ◌∷◌, [], subst, sym, ◌∙◌}
use Rattle.sp_ids.specs.Entries as entries
use Rattle.mm_reader.specs.Machine.{HasLines}
use Rattle.mm_reader.proofs.ArrayLaws.{first_room}
use Rattle.mm_reader.proofs.StepLaws.{entries_phase, sizes_skipped, size_good, size_bad}
use Rattle.mm_reader.proofs.machine.after_size.Goals as goal

pub returns-then-is_skipped-clause-steps : goal.returns-then-is_skipped-clause-steps
returns-then-is_skipped-clause-steps c end ls bytes l b none good n =
    sizes_skipped end ls bytes c.args.header c.args.number b n good c.args.triples.now none (sym (c.is_skipped.ensures bytes l) ∙ c.if-is_skipped.true)

pub returns-in-Err-clause-steps : goal.returns-in-Err-clause-steps
returns-in-Err-clause-steps c end ls bytes l b none good n =
    size_bad end ls bytes c.args.header c.args.number b n good (sym (c.is_skipped.ensures bytes l) ∙ c.if-is_skipped.false) c.in-Err.kind none (c.in-Err.ensures.judged bytes l)

pub returns-clause-steps : goal.returns-clause-steps
returns-clause-steps c end ls bytes l b none good n =
    let j = c.in-Ok.ensures.judged bytes l in
    let h = size_good end ls bytes c.args.header c.args.number b n good (sym (c.is_skipped.ensures bytes l) ∙ c.if-is_skipped.false) c.in-Ok.size c.first_place.result none j.0 j.1 in
    subst (λ (t : entries.Entries). HasLines end (entries_phase c.args.header c.in-Ok.size 0 c.first_place.result) t (ls ++ bytes ∷ [])) (sym c.in-Ok-new.ensures) h

pub returns-clause-ready : goal.returns-clause-ready
returns-clause-ready c = first_room c.args.header c.in-Ok.size c.first_place.result c.in-Ok-new.empty c.requires c.in-Ok.ensures.within c.first_place.ensures c.in-Ok-new.ensures
