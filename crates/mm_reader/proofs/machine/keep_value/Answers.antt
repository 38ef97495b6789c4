use Rattle.std.proofs.Common.{refl, sym, ap, subst, ◌∙◌, arith, ◌+◌, rules, to_z-of_z, SFits, w64}
use Rattle.mm_defs.specs.File.{placed, with_mirrors}
use Rattle.mm_reader.specs.Additions.{with_entries}
use Rattle.mm_reader.specs.ArrayPlaces.{place_of}
use Rattle.mm_reader.specs.declared.array.ArrayPlace.{ArrayPlace}
use Rattle.mm_reader.specs.Machine.{HasRoom}
use Rattle.mm_reader.proofs.ArrayLaws.{more_room, next_inside}
use Rattle.mm_reader.proofs.machine.keep_value.Goals as goal

pub add_value-requires-clause-row : goal.add_value-requires-clause-row
add_value-requires-clause-row c =
    let r = c.requires.room in
    let i = next_inside c.args.preamble.header c.args.preamble.size r.within (rw c.requires.format refl) c.args.at.done c.args.at.place c.requires.low r.next_is in
    omega (arith, i.0, r.rows)

pub add_value-requires-clause-col : goal.add_value-requires-clause-col
add_value-requires-clause-col c =
    let r = c.requires.room in
    let i = next_inside c.args.preamble.header c.args.preamble.size r.within (rw c.requires.format refl) c.args.at.done c.args.at.place c.requires.low r.next_is in
    omega (arith, i.1, r.cols)

pub following-requires-clause-row : goal.following-requires-clause-row
following-requires-clause-row c =
    let r = c.requires.room in
    (next_inside c.args.preamble.header c.args.preamble.size r.within (rw c.requires.format refl) c.args.at.done c.args.at.place c.requires.low r.next_is).0

pub following-requires-clause-col : goal.following-requires-clause-col
following-requires-clause-col c =
    let r = c.requires.room in
    let i = next_inside c.args.preamble.header c.args.preamble.size r.within (rw c.requires.format refl) c.args.at.done c.args.at.place c.requires.low r.next_is in
    omega (arith, i.1, r.within.cols)

pub returns-in-Ok-clause-ready : goal.returns-in-Ok-clause-ready
returns-in-Ok-clause-ready c =
    let fits : SFits w64 c.args.value = search rules in
    let added = c.in-Ok.ensures ∙ ap (λ v. with_entries c.args.triples.now (with_mirrors c.args.preamble.header.symmetry (placed (place_of c.args.at.place) v))) (to_z-of_z fits) in
    subst (λ (p : ArrayPlace). HasRoom c.args.preamble (record { done = c.args.at.done + 1; place = p }) c.add_value.new.triples) (sym c.following.ensures)
    (more_room c.args.preamble c.args.at c.args.triples.now c.add_value.new.triples c.args.value c.requires.room c.requires.format c.requires.low added)
