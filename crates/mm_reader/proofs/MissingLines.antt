-- While the matrix is not read, some of its lines are missing.
use Rattle.std.proofs.Common.{◌≡◌, ◌≢◌, ℕ, ◌<◌, true, false, nat_lt, List, [], ◌∷◌, length, take, ap, arith, take_all, lt-ltb, eq-eqb}
use Rattle.sp_ids.specs.Entries as entries
use Rattle.mm_defs.specs.declared.answers.End.{End}
use Rattle.mm_defs.specs.declared.answers.End.TheVariants.{File, LastEntry}
use Rattle.mm_defs.specs.declared.header.Header.{Header}
use Rattle.mm_defs.specs.declared.header.Size.{Size}
use Rattle.mm_defs.specs.Words.{Line}
use Rattle.mm_defs.specs.Header.{size}
use Rattle.mm_defs.specs.File.{header_of, later_lines, missing}
use Rattle.mm_defs.specs.Calls.{LacksLines}
use Rattle.mm_reader.specs.declared.machine.Phase.{Phase}
use Rattle.mm_reader.specs.declared.machine.Phase.TheVariants as phases
use Rattle.mm_reader.specs.Machine.{HasBanner, HasEntries, HasLines, is_complete}
use Rattle.mm_reader.proofs.StepLaws.{size_said}

too_few : (ls : List (List ℕ)) (s : Line) (es : List Line) → later_lines ls ≡ s ∷ es → length es < (size (header_of ls) s.words).count → missing ls ≢ []
too_few ls s es e few none =
    let all : take (size (header_of ls) s.words).count es ≡ es = take_all (size (header_of ls) s.words).count es (omega arith) in
    let n : nat_lt (length es) (size (header_of ls) s.words).count ≡ true = lt-ltb (length es) (size (header_of ls) s.words).count few in
    let k = rw (e, all, n) at none in
    cc

few_entries : (h : Header) (s : Size) (done : ℕ) (t : entries.Entries) (ls : List (List ℕ)) → HasBanner h ls → (has : HasEntries h s done t (later_lines ls)) → done ≢ s.count → length has.entry_lines < (size (header_of ls) has.size_line.words).count
few_entries h s done t ls b has ne =
    let c : s.count ≡ (size (header_of ls) has.size_line.words).count = ap (λ (x : Size). x.count) (size_said h s done t ls b has) in
    omega (arith, has.done_is, has.in_count)

pub lacks_lines : (end : End) (phase : Phase) (t : entries.Entries) (ls : List (List ℕ)) → HasLines end phase t ls → is_complete end phase ≡ false → LacksLines end ls
lacks_lines File phase t ls l e = tt
lacks_lines LastEntry phases.Banner t ls l e = λ none. let k = rw l.phase_is at none in cc
lacks_lines LastEntry (phases.Sizes h) t ls l e = λ none. let k = rw l.phase_is.1 at none in cc
lacks_lines LastEntry (phases.Entries b at) t ls l e =
    let ne : at.done ≢ b.size.count = λ x. let y = eq-eqb at.done b.size.count x in cc in
    too_few ls l.phase_is.1.size_line l.phase_is.1.entry_lines l.phase_is.1.later_are (few_entries b.header b.size at.done t ls l.phase_is.0 l.phase_is.1 ne)
