use Rattle.std.proofs.Common.{◌<◌, ◌≡◌, ◌∙◌, ℕ, List, Bool, length, ap, rules, sym, subst}
use Rattle.bip_defs.proofs.Slices.{written}
use Rattle.bip_defs.proofs.Sets.{marked_below}
use Rattle.bip_defs.specs.Lists.{Among}
use Rattle.path_search.specs.Search.{SearchState, Unmarks}
use Rattle.path_search.proofs.FailedSearches.{marks_restored}
use Rattle.path_search.proofs.search.Search.forget.Goals as goal

pub unmark-requires : goal.unmark-requires
unmark-requires c = λ r h.
    let marks : c.as_mut_slice.result.now ≡ c.args.self.now.marks = c.as_mut_slice.ensures.value ∙ ap (λ (s : SearchState). s.marks) c.self.view_is in
    let visited : c.as_slice.result.now ≡ c.args.self.now.visited = c.as_slice.ensures.value ∙ ap (λ (s : SearchState). s.visited) c.self.view_is in
    subst (λ (xs : List Bool). r < length xs) (sym marks) (marked_below c.args.self.now.marks r (c.requires.1.marked r (subst (λ (xs : List ℕ). Among r xs) visited h)))

pub returns-clause-marks : goal.returns-clause-marks
returns-clause-marks c = λ start k.
    let marks : c.as_mut_slice.result.now ≡ c.args.self.now.marks = c.as_mut_slice.ensures.value ∙ ap (λ (s : SearchState). s.marks) c.self.view_is in
    let visited : c.as_slice.result.now ≡ c.args.self.now.visited = c.as_slice.ensures.value ∙ ap (λ (s : SearchState). s.visited) c.self.view_is in
    let taken : Unmarks c.args.self.now.visited c.args.self.now.marks c.unmark.new.marks = subst (λ (xs : List Bool). Unmarks c.args.self.now.visited xs c.unmark.new.marks) marks (subst (λ (rows : List ℕ). Unmarks rows c.as_mut_slice.result.now c.unmark.new.marks) visited c.unmark.ensures) in
    let long : c.self.inside.marks.len ≡ length c.self.inside.marks.items = search rules in
    written c.unmark.new.marks c.self.inside.marks.items c.self.inside.marks.len long (taken.size ∙ sym (ap (λ (s : SearchState). length s.marks) c.self.view_is)) ∙ marks_restored _ _ _ _ k taken
