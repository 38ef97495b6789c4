use Rattle.std.proofs.Common.{◌≡◌, ◌≢◌, ◌∙◌, ℕ, ◌<◌, ◌≤◌, ◌+◌, List, length, get_or, arith, ap, sym, subst}
use Rattle.bip_defs.specs.Lists.{Among}
use Rattle.bip_defs.specs.Matrix.{Matrix, Place}
use Rattle.bip_defs.specs.Parts.{IsSquareRow}
use Rattle.square_components.specs.Found.{col_in}
use Rattle.square_components.specs.Numbers.{look}
use Rattle.square_components.specs.Stacks.{IsDepthFirst, PathState, work}
use Rattle.square_components.specs.Steps.{HasRoom, StaysMet, entering, with_top}
use Rattle.square_components.proofs.Exploring.{Waits, entered_top, fresh_inside, less_back, list_after, met_back, next_fresh, next_in, room_next, scanned, top_few, waits_after, waits_back, waits_first, waits_left, waits_next, work_after}
use Rattle.square_components.proofs.SearchLemmas.{count_few, enters_first, enters_next, entered_met, goes_on, has_frame, has_room, has_start, leaves, left_met, less_entered, top_first, top_in, top_inside, top_rows}
use Rattle.square_components.proofs.search.ComponentSearch.explore.Goals as goal

pub enter-place-requires-clause-room : goal.enter-place-requires-clause-room
enter-place-requires-clause-room g c =
    let a : Matrix = g.C.ColumnLists.matrix c.args.columns in
    let line : ℕ → List ℕ = g.C.ColumnLists.listed c.args.columns in
    let pairs : List Place = g.S.SquarePart.pairs c.args.part in
    let s = c.args.self.now in
    let lt : c.args.root < length s.state = (let i = c.requires.root.0.0 in let e = c.requires.search.state.long in omega (arith, i, e)) in
    has_room a line pairs s c.args.root c.requires.search lt c.requires.root.1

pub search-init : goal.search-init
search-init g c =
    let a : Matrix = g.C.ColumnLists.matrix c.args.columns in
    let line : ℕ → List ℕ = g.C.ColumnLists.listed c.args.columns in
    let pairs : List Place = g.S.SquarePart.pairs c.args.part in
    let s = c.args.self.now in
    let lt : c.args.root < length s.state = (let i = c.requires.root.0.0 in let e = c.requires.search.state.long in omega (arith, i, e)) in
    let h : c.enter-place.new.self ≡ entering s c.args.root = c.enter-place.ensures.state ∙ ap (entering s) c.root.view_is in
    let e = c.enter-place.ensures.place in
    let u = c.enter-place.new.self in
    let met = entered_met s c.args.root lt in
    record {
      search = subst (λ n. IsDepthFirst a line pairs (with_top u n 0)) (sym e) (subst (λ (x : PathState). IsDepthFirst a line pairs (with_top x (length s.stack) 0)) (sym h) (enters_first a line pairs s c.args.root c.requires.search c.requires.root.0 c.requires.root.1 c.requires.empty));
      list = c.list_of-list.ensures ∙ ap (λ r. line (col_in pairs r)) (sym (entered_top s u c.args.root c.enter-place.result h e));
      within = omega arith;
      root = subst (λ (x : PathState). look x.state c.args.root ≢ 0) (sym h) met.1;
      met = subst (λ (x : PathState). StaysMet s.state x.state) (sym h) met.0;
      waits = waits_first line pairs u (ap (λ (x : PathState). x.frames) h ∙ c.requires.empty);
    }

pub scan-at-requires-clause-first : goal.scan-at-requires-clause-first
scan-at-requires-clause-first g c =
    let a : Matrix = g.C.ColumnLists.matrix c.args.columns in
    let line : ℕ → List ℕ = g.C.ColumnLists.listed c.args.columns in
    let pairs : List Place = g.S.SquarePart.pairs c.args.part in
    let s = c.search.self in
    let p = c.search.place in
    let k = c.search.invariant in
    top_first a line pairs s p c.search.at k.search

pub scan-at-requires-clause-rows : goal.scan-at-requires-clause-rows
scan-at-requires-clause-rows g c =
    let a : Matrix = g.C.ColumnLists.matrix c.args.columns in
    let line : ℕ → List ℕ = g.C.ColumnLists.listed c.args.columns in
    let pairs : List Place = g.S.SquarePart.pairs c.args.part in
    let s = c.search.self in
    let p = c.search.place in
    let k = c.search.invariant in
    λ r h. top_rows a line pairs s p c.search.at r k.search (subst (Among r) k.list h)

pub overflow_cast-at : goal.overflow_cast-at
overflow_cast-at g c =
    let a : Matrix = g.C.ColumnLists.matrix c.args.columns in
    let line : ℕ → List ℕ = g.C.ColumnLists.listed c.args.columns in
    let pairs : List Place = g.S.SquarePart.pairs c.args.part in
    let s = c.search.self in
    let p = c.search.place in
    let k = c.search.invariant in
    let t = c.scan-at.new.self in
    let at = c.scan-at.result in
    let list : List ℕ = g.C.Rows.NumberList.numbers c.search.list in
    let same = c.scan-at.ensures.same in
    let after : IsDepthFirst a line pairs (with_top t p at) = scanned a line pairs s t p c.search.at at list k.search k.list same c.scan-at.ensures.passes in
    let is : list ≡ line (col_in pairs (get_or t.stack p 0)) = list_after line pairs s t p list k.list same in
    let within : at < length list = (let h = c.if-at-len.true in let e = c.len.ensures in omega (arith, h, e)) in
    let few = top_few a line pairs t p at list after is in omega (arith, few, within)

pub overflow_add-at : goal.overflow_add-at
overflow_add-at g c =
    let a : Matrix = g.C.ColumnLists.matrix c.args.columns in
    let line : ℕ → List ℕ = g.C.ColumnLists.listed c.args.columns in
    let pairs : List Place = g.S.SquarePart.pairs c.args.part in
    let s = c.search.self in
    let p = c.search.place in
    let k = c.search.invariant in
    let t = c.scan-at.new.self in
    let at = c.scan-at.result in
    let list : List ℕ = g.C.Rows.NumberList.numbers c.search.list in
    let same = c.scan-at.ensures.same in
    let after : IsDepthFirst a line pairs (with_top t p at) = scanned a line pairs s t p c.search.at at list k.search k.list same c.scan-at.ensures.passes in
    let is : list ≡ line (col_in pairs (get_or t.stack p 0)) = list_after line pairs s t p list k.list same in
    let within : at < length list = (let h = c.if-at-len.true in let e = c.len.ensures in omega (arith, h, e)) in
    let few = top_few a line pairs t p at list after is in omega (arith, few, within)

pub wait-requires : goal.wait-requires
wait-requires g c =
    let a : Matrix = g.C.ColumnLists.matrix c.args.columns in
    let line : ℕ → List ℕ = g.C.ColumnLists.listed c.args.columns in
    let pairs : List Place = g.S.SquarePart.pairs c.args.part in
    let s = c.search.self in
    let p = c.search.place in
    let k = c.search.invariant in
    let t = c.scan-at.new.self in
    let at = c.scan-at.result in
    let list : List ℕ = g.C.Rows.NumberList.numbers c.search.list in
    let same = c.scan-at.ensures.same in
    let after : IsDepthFirst a line pairs (with_top t p at) = scanned a line pairs s t p c.search.at at list k.search k.list same c.scan-at.ensures.passes in
    let is : list ≡ line (col_in pairs (get_or t.stack p 0)) = list_after line pairs s t p list k.list same in
    has_frame a line pairs t p at after

pub enter-place-requires-then-at-len-clause-room : goal.enter-place-requires-then-at-len-clause-room
enter-place-requires-then-at-len-clause-room g c =
    let a : Matrix = g.C.ColumnLists.matrix c.args.columns in
    let line : ℕ → List ℕ = g.C.ColumnLists.listed c.args.columns in
    let pairs : List Place = g.S.SquarePart.pairs c.args.part in
    let s = c.search.self in
    let p = c.search.place in
    let k = c.search.invariant in
    let t = c.scan-at.new.self in
    let at = c.scan-at.result in
    let list : List ℕ = g.C.Rows.NumberList.numbers c.search.list in
    let same = c.scan-at.ensures.same in
    let after : IsDepthFirst a line pairs (with_top t p at) = scanned a line pairs s t p c.search.at at list k.search k.list same c.scan-at.ensures.passes in
    let is : list ≡ line (col_in pairs (get_or t.stack p 0)) = list_after line pairs s t p list k.list same in
    let within : at < length list = (let h = c.if-at-len.true in let e = c.len.ensures in omega (arith, h, e)) in
    let d : ℕ = c.at-next.result in
    let d_is : d ≡ get_or list at 0 = c.at-next.ensures in
    let lt : d < length t.state = next_in a line pairs t p at d list after is within d_is in
    let fresh : look t.state d ≡ 0 = next_fresh s t at d list same c.scan-at.ensures.stops within d_is in
    subst HasRoom (sym c.wait.ensures) (room_next a line pairs t p at (at + 1) d after lt fresh)

pub list_of-list-requires-then-at-len-clause-square : goal.list_of-list-requires-then-at-len-clause-square
list_of-list-requires-then-at-len-clause-square g c =
    let a : Matrix = g.C.ColumnLists.matrix c.args.columns in
    let line : ℕ → List ℕ = g.C.ColumnLists.listed c.args.columns in
    let pairs : List Place = g.S.SquarePart.pairs c.args.part in
    let s = c.search.self in
    let p = c.search.place in
    let k = c.search.invariant in
    let t = c.scan-at.new.self in
    let at = c.scan-at.result in
    let list : List ℕ = g.C.Rows.NumberList.numbers c.search.list in
    let same = c.scan-at.ensures.same in
    let after : IsDepthFirst a line pairs (with_top t p at) = scanned a line pairs s t p c.search.at at list k.search k.list same c.scan-at.ensures.passes in
    let is : list ≡ line (col_in pairs (get_or t.stack p 0)) = list_after line pairs s t p list k.list same in
    let within : at < length list = (let h = c.if-at-len.true in let e = c.len.ensures in omega (arith, h, e)) in
    let d : ℕ = c.at-next.result in
    let d_is : d ≡ get_or list at 0 = c.at-next.ensures in
    let lt : d < length t.state = next_in a line pairs t p at d list after is within d_is in
    let fresh : look t.state d ≡ 0 = next_fresh s t at d list same c.scan-at.ensures.stops within d_is in
    fresh_inside a line pairs (with_top t p at) d after fresh

pub search-smaller-then-at-len : goal.search-smaller-then-at-len
search-smaller-then-at-len g c =
    let a : Matrix = g.C.ColumnLists.matrix c.args.columns in
    let line : ℕ → List ℕ = g.C.ColumnLists.listed c.args.columns in
    let pairs : List Place = g.S.SquarePart.pairs c.args.part in
    let s = c.search.self in
    let p = c.search.place in
    let k = c.search.invariant in
    let t = c.scan-at.new.self in
    let at = c.scan-at.result in
    let list : List ℕ = g.C.Rows.NumberList.numbers c.search.list in
    let same = c.scan-at.ensures.same in
    let after : IsDepthFirst a line pairs (with_top t p at) = scanned a line pairs s t p c.search.at at list k.search k.list same c.scan-at.ensures.passes in
    let is : list ≡ line (col_in pairs (get_or t.stack p 0)) = list_after line pairs s t p list k.list same in
    let within : at < length list = (let h = c.if-at-len.true in let e = c.len.ensures in omega (arith, h, e)) in
    let d : ℕ = c.at-next.result in
    let d_is : d ≡ get_or list at 0 = c.at-next.ensures in
    let lt : d < length t.state = next_in a line pairs t p at d list after is within d_is in
    let fresh : look t.state d ≡ 0 = next_fresh s t at d list same c.scan-at.ensures.stops within d_is in
    let u = c.enter-place-then-at-len.new.self in
    let u_is : u ≡ entering (with_top t p (at + 1)) d = c.enter-place-then-at-len.ensures.state ∙ ap (λ (x : PathState). entering x d) c.wait.ensures in
    subst (λ n. work u < n) (work_after s t same) (subst (λ (x : PathState). work x < work t) (sym u_is) (less_entered t p (at + 1) d lt fresh))

pub search-preserved-then-at-len : goal.search-preserved-then-at-len
search-preserved-then-at-len g c =
    let a : Matrix = g.C.ColumnLists.matrix c.args.columns in
    let line : ℕ → List ℕ = g.C.ColumnLists.listed c.args.columns in
    let pairs : List Place = g.S.SquarePart.pairs c.args.part in
    let s = c.search.self in
    let p = c.search.place in
    let k = c.search.invariant in
    let t = c.scan-at.new.self in
    let at = c.scan-at.result in
    let list : List ℕ = g.C.Rows.NumberList.numbers c.search.list in
    let same = c.scan-at.ensures.same in
    let after : IsDepthFirst a line pairs (with_top t p at) = scanned a line pairs s t p c.search.at at list k.search k.list same c.scan-at.ensures.passes in
    let is : list ≡ line (col_in pairs (get_or t.stack p 0)) = list_after line pairs s t p list k.list same in
    let within : at < length list = (let h = c.if-at-len.true in let e = c.len.ensures in omega (arith, h, e)) in
    let d : ℕ = c.at-next.result in
    let d_is : d ≡ get_or list at 0 = c.at-next.ensures in
    let lt : d < length t.state = next_in a line pairs t p at d list after is within d_is in
    let fresh : look t.state d ≡ 0 = next_fresh s t at d list same c.scan-at.ensures.stops within d_is in
    let u = c.enter-place-then-at-len.new.self in
    let u_is : u ≡ entering (with_top t p (at + 1)) d = c.enter-place-then-at-len.ensures.state ∙ ap (λ (x : PathState). entering x d) c.wait.ensures in
    let place : c.enter-place-then-at-len.result ≡ length t.stack = c.enter-place-then-at-len.ensures.place ∙ ap (λ (x : PathState). length x.stack) c.wait.ensures in
    let met = entered_met (with_top t p (at + 1)) d lt in
    let within_is : at < length (line (col_in pairs (get_or t.stack p 0))) = subst (λ xs. at < length xs) is within in
    let kept : StaysMet s.state u.state = subst (λ (x : PathState). StaysMet s.state x.state) (sym u_is) (subst (λ xs. StaysMet xs (entering (with_top t p (at + 1)) d).state) (ap (λ (x : PathState). x.state) same) met.0) in
    record {
      search = subst (λ n. IsDepthFirst a line pairs (with_top u n 0)) (sym place) (subst (λ (x : PathState). IsDepthFirst a line pairs (with_top x (length t.stack) 0)) (sym u_is) (enters_next a line pairs t p at d after within_is (d_is ∙ ap (λ xs. get_or xs at 0) is) fresh));
      list = c.list_of-list-then-at-len.ensures ∙ ap (λ r. line (col_in pairs r)) (sym (entered_top (with_top t p (at + 1)) u d c.enter-place-then-at-len.result u_is place));
      within = omega arith;
      root = kept c.args.root k.root;
      met = λ r h. kept r (k.met r h);
      waits = subst (Waits line pairs) (sym u_is) (waits_next a line pairs t p at d after (waits_after line pairs s t k.waits same) within_is);
    }

pub leave-requires-clause-starts : goal.leave-requires-clause-starts
leave-requires-clause-starts g c =
    let a : Matrix = g.C.ColumnLists.matrix c.args.columns in
    let line : ℕ → List ℕ = g.C.ColumnLists.listed c.args.columns in
    let pairs : List Place = g.S.SquarePart.pairs c.args.part in
    let s = c.search.self in
    let p = c.search.place in
    let k = c.search.invariant in
    let t = c.scan-at.new.self in
    let at = c.scan-at.result in
    let list : List ℕ = g.C.Rows.NumberList.numbers c.search.list in
    let same = c.scan-at.ensures.same in
    let after : IsDepthFirst a line pairs (with_top t p at) = scanned a line pairs s t p c.search.at at list k.search k.list same c.scan-at.ensures.passes in
    let is : list ≡ line (col_in pairs (get_or t.stack p 0)) = list_after line pairs s t p list k.list same in
    has_start a line pairs t p at after

pub leave-requires-clause-on : goal.leave-requires-clause-on
leave-requires-clause-on g c =
    let a : Matrix = g.C.ColumnLists.matrix c.args.columns in
    let line : ℕ → List ℕ = g.C.ColumnLists.listed c.args.columns in
    let pairs : List Place = g.S.SquarePart.pairs c.args.part in
    let s = c.search.self in
    let p = c.search.place in
    let k = c.search.invariant in
    let t = c.scan-at.new.self in
    let at = c.scan-at.result in
    let list : List ℕ = g.C.Rows.NumberList.numbers c.search.list in
    let same = c.scan-at.ensures.same in
    let after : IsDepthFirst a line pairs (with_top t p at) = scanned a line pairs s t p c.search.at at list k.search k.list same c.scan-at.ensures.passes in
    let is : list ≡ line (col_in pairs (get_or t.stack p 0)) = list_after line pairs s t p list k.list same in
    top_in a line pairs t p at after

pub leave-requires-clause-count : goal.leave-requires-clause-count
leave-requires-clause-count g c =
    let a : Matrix = g.C.ColumnLists.matrix c.args.columns in
    let line : ℕ → List ℕ = g.C.ColumnLists.listed c.args.columns in
    let pairs : List Place = g.S.SquarePart.pairs c.args.part in
    let s = c.search.self in
    let p = c.search.place in
    let k = c.search.invariant in
    let t = c.scan-at.new.self in
    let at = c.scan-at.result in
    let list : List ℕ = g.C.Rows.NumberList.numbers c.search.list in
    let same = c.scan-at.ensures.same in
    let after : IsDepthFirst a line pairs (with_top t p at) = scanned a line pairs s t p c.search.at at list k.search k.list same c.scan-at.ensures.passes in
    let is : list ≡ line (col_in pairs (get_or t.stack p 0)) = list_after line pairs s t p list k.list same in
    count_few a line pairs t p at after

pub returns-in_default-clause-search : goal.returns-in_default-clause-search
returns-in_default-clause-search g c =
    let a : Matrix = g.C.ColumnLists.matrix c.args.columns in
    let line : ℕ → List ℕ = g.C.ColumnLists.listed c.args.columns in
    let pairs : List Place = g.S.SquarePart.pairs c.args.part in
    let s = c.search.self in
    let p = c.search.place in
    let k = c.search.invariant in
    let t = c.scan-at.new.self in
    let at = c.scan-at.result in
    let list : List ℕ = g.C.Rows.NumberList.numbers c.search.list in
    let same = c.scan-at.ensures.same in
    let after : IsDepthFirst a line pairs (with_top t p at) = scanned a line pairs s t p c.search.at at list k.search k.list same c.scan-at.ensures.passes in
    let is : list ≡ line (col_in pairs (get_or t.stack p 0)) = list_after line pairs s t p list k.list same in
    let all : length (line (col_in pairs (get_or t.stack p 0))) ≤ at = (let h = c.if-at-len.false in let e = c.len.ensures in let f = ap length is in omega (arith, h, e, f)) in
    let v = c.leave.new.self in
    let left : IsDepthFirst a line pairs v = leaves a line pairs t v p at after all c.leave.ensures in
    let kept = left_met a line pairs t v p at after c.leave.ensures in
    let state_is = ap (λ (x : PathState). x.state) same in
    subst (IsDepthFirst a line pairs) (sym c.in_default.ensures.none.1) left

pub returns-in_default-clause-root : goal.returns-in_default-clause-root
returns-in_default-clause-root g c =
    let a : Matrix = g.C.ColumnLists.matrix c.args.columns in
    let line : ℕ → List ℕ = g.C.ColumnLists.listed c.args.columns in
    let pairs : List Place = g.S.SquarePart.pairs c.args.part in
    let s = c.search.self in
    let p = c.search.place in
    let k = c.search.invariant in
    let t = c.scan-at.new.self in
    let at = c.scan-at.result in
    let list : List ℕ = g.C.Rows.NumberList.numbers c.search.list in
    let same = c.scan-at.ensures.same in
    let after : IsDepthFirst a line pairs (with_top t p at) = scanned a line pairs s t p c.search.at at list k.search k.list same c.scan-at.ensures.passes in
    let is : list ≡ line (col_in pairs (get_or t.stack p 0)) = list_after line pairs s t p list k.list same in
    let all : length (line (col_in pairs (get_or t.stack p 0))) ≤ at = (let h = c.if-at-len.false in let e = c.len.ensures in let f = ap length is in omega (arith, h, e, f)) in
    let v = c.leave.new.self in
    let left : IsDepthFirst a line pairs v = leaves a line pairs t v p at after all c.leave.ensures in
    let kept = left_met a line pairs t v p at after c.leave.ensures in
    let state_is = ap (λ (x : PathState). x.state) same in
    subst (λ (x : PathState). look x.state c.args.root ≢ 0) (sym c.in_default.ensures.none.1) (kept.0 c.args.root (subst (λ xs. look xs c.args.root ≢ 0) (sym state_is) k.root))

pub returns-in_default-clause-met : goal.returns-in_default-clause-met
returns-in_default-clause-met g c =
    let a : Matrix = g.C.ColumnLists.matrix c.args.columns in
    let line : ℕ → List ℕ = g.C.ColumnLists.listed c.args.columns in
    let pairs : List Place = g.S.SquarePart.pairs c.args.part in
    let s = c.search.self in
    let p = c.search.place in
    let k = c.search.invariant in
    let t = c.scan-at.new.self in
    let at = c.scan-at.result in
    let list : List ℕ = g.C.Rows.NumberList.numbers c.search.list in
    let same = c.scan-at.ensures.same in
    let after : IsDepthFirst a line pairs (with_top t p at) = scanned a line pairs s t p c.search.at at list k.search k.list same c.scan-at.ensures.passes in
    let is : list ≡ line (col_in pairs (get_or t.stack p 0)) = list_after line pairs s t p list k.list same in
    let all : length (line (col_in pairs (get_or t.stack p 0))) ≤ at = (let h = c.if-at-len.false in let e = c.len.ensures in let f = ap length is in omega (arith, h, e, f)) in
    let v = c.leave.new.self in
    let left : IsDepthFirst a line pairs v = leaves a line pairs t v p at after all c.leave.ensures in
    let kept = left_met a line pairs t v p at after c.leave.ensures in
    let state_is = ap (λ (x : PathState). x.state) same in
    λ r h. subst (λ (x : PathState). look x.state r ≢ 0) (sym c.in_default.ensures.none.1) (kept.0 r (subst (λ xs. look xs r ≢ 0) (sym state_is) (k.met r h)))

pub row_at-requires : goal.row_at-requires
row_at-requires g c =
    let a : Matrix = g.C.ColumnLists.matrix c.args.columns in
    let line : ℕ → List ℕ = g.C.ColumnLists.listed c.args.columns in
    let pairs : List Place = g.S.SquarePart.pairs c.args.part in
    let s = c.search.self in
    let p = c.search.place in
    let k = c.search.invariant in
    let t = c.scan-at.new.self in
    let at = c.scan-at.result in
    let list : List ℕ = g.C.Rows.NumberList.numbers c.search.list in
    let same = c.scan-at.ensures.same in
    let after : IsDepthFirst a line pairs (with_top t p at) = scanned a line pairs s t p c.search.at at list k.search k.list same c.scan-at.ensures.passes in
    let is : list ≡ line (col_in pairs (get_or t.stack p 0)) = list_after line pairs s t p list k.list same in
    let all : length (line (col_in pairs (get_or t.stack p 0))) ≤ at = (let h = c.if-at-len.false in let e = c.len.ensures in let f = ap length is in omega (arith, h, e, f)) in
    let v = c.leave.new.self in
    let left : IsDepthFirst a line pairs v = leaves a line pairs t v p at after all c.leave.ensures in
    let kept = left_met a line pairs t v p at after c.leave.ensures in
    let state_is = ap (λ (x : PathState). x.state) same in
    let b = c.in-Some.ensures.some in
    let w = c.back.new.self in
    let on : IsDepthFirst a line pairs (with_top w c.in-Some.back c.in-Some.gone) = goes_on a line pairs v w c.in-Some.back c.in-Some.gone left b in
    top_in a line pairs w c.in-Some.back c.in-Some.gone on

pub list_of-list-requires-else-at-len-clause-square : goal.list_of-list-requires-else-at-len-clause-square
list_of-list-requires-else-at-len-clause-square g c =
    let a : Matrix = g.C.ColumnLists.matrix c.args.columns in
    let line : ℕ → List ℕ = g.C.ColumnLists.listed c.args.columns in
    let pairs : List Place = g.S.SquarePart.pairs c.args.part in
    let s = c.search.self in
    let p = c.search.place in
    let k = c.search.invariant in
    let t = c.scan-at.new.self in
    let at = c.scan-at.result in
    let list : List ℕ = g.C.Rows.NumberList.numbers c.search.list in
    let same = c.scan-at.ensures.same in
    let after : IsDepthFirst a line pairs (with_top t p at) = scanned a line pairs s t p c.search.at at list k.search k.list same c.scan-at.ensures.passes in
    let is : list ≡ line (col_in pairs (get_or t.stack p 0)) = list_after line pairs s t p list k.list same in
    let all : length (line (col_in pairs (get_or t.stack p 0))) ≤ at = (let h = c.if-at-len.false in let e = c.len.ensures in let f = ap length is in omega (arith, h, e, f)) in
    let v = c.leave.new.self in
    let left : IsDepthFirst a line pairs v = leaves a line pairs t v p at after all c.leave.ensures in
    let kept = left_met a line pairs t v p at after c.leave.ensures in
    let state_is = ap (λ (x : PathState). x.state) same in
    let b = c.in-Some.ensures.some in
    let w = c.back.new.self in
    let on : IsDepthFirst a line pairs (with_top w c.in-Some.back c.in-Some.gone) = goes_on a line pairs v w c.in-Some.back c.in-Some.gone left b in
    subst (IsSquareRow a) (sym c.row_at.ensures) (top_inside a line pairs w c.in-Some.back c.in-Some.gone on)

pub search-smaller : goal.search-smaller
search-smaller g c =
    let a : Matrix = g.C.ColumnLists.matrix c.args.columns in
    let line : ℕ → List ℕ = g.C.ColumnLists.listed c.args.columns in
    let pairs : List Place = g.S.SquarePart.pairs c.args.part in
    let s = c.search.self in
    let p = c.search.place in
    let k = c.search.invariant in
    let t = c.scan-at.new.self in
    let at = c.scan-at.result in
    let list : List ℕ = g.C.Rows.NumberList.numbers c.search.list in
    let same = c.scan-at.ensures.same in
    let after : IsDepthFirst a line pairs (with_top t p at) = scanned a line pairs s t p c.search.at at list k.search k.list same c.scan-at.ensures.passes in
    let is : list ≡ line (col_in pairs (get_or t.stack p 0)) = list_after line pairs s t p list k.list same in
    let all : length (line (col_in pairs (get_or t.stack p 0))) ≤ at = (let h = c.if-at-len.false in let e = c.len.ensures in let f = ap length is in omega (arith, h, e, f)) in
    let v = c.leave.new.self in
    let left : IsDepthFirst a line pairs v = leaves a line pairs t v p at after all c.leave.ensures in
    let kept = left_met a line pairs t v p at after c.leave.ensures in
    let state_is = ap (λ (x : PathState). x.state) same in
    let b = c.in-Some.ensures.some in
    let w = c.back.new.self in
    let on : IsDepthFirst a line pairs (with_top w c.in-Some.back c.in-Some.gone) = goes_on a line pairs v w c.in-Some.back c.in-Some.gone left b in
    subst (λ n. work w < n) (kept.1 ∙ work_after s t same) (less_back v w (c.in-Some.back, c.in-Some.gone) b)

pub search-preserved : goal.search-preserved
search-preserved g c =
    let a : Matrix = g.C.ColumnLists.matrix c.args.columns in
    let line : ℕ → List ℕ = g.C.ColumnLists.listed c.args.columns in
    let pairs : List Place = g.S.SquarePart.pairs c.args.part in
    let s = c.search.self in
    let p = c.search.place in
    let k = c.search.invariant in
    let t = c.scan-at.new.self in
    let at = c.scan-at.result in
    let list : List ℕ = g.C.Rows.NumberList.numbers c.search.list in
    let same = c.scan-at.ensures.same in
    let after : IsDepthFirst a line pairs (with_top t p at) = scanned a line pairs s t p c.search.at at list k.search k.list same c.scan-at.ensures.passes in
    let is : list ≡ line (col_in pairs (get_or t.stack p 0)) = list_after line pairs s t p list k.list same in
    let all : length (line (col_in pairs (get_or t.stack p 0))) ≤ at = (let h = c.if-at-len.false in let e = c.len.ensures in let f = ap length is in omega (arith, h, e, f)) in
    let v = c.leave.new.self in
    let left : IsDepthFirst a line pairs v = leaves a line pairs t v p at after all c.leave.ensures in
    let kept = left_met a line pairs t v p at after c.leave.ensures in
    let state_is = ap (λ (x : PathState). x.state) same in
    let b = c.in-Some.ensures.some in
    let w = c.back.new.self in
    let on : IsDepthFirst a line pairs (with_top w c.in-Some.back c.in-Some.gone) = goes_on a line pairs v w c.in-Some.back c.in-Some.gone left b in
    let list_is = c.list_of-list-else-at-len.ensures ∙ ap (λ r. line (col_in pairs r)) c.row_at.ensures in
    let waits = waits_back line pairs v w c.in-Some.back c.in-Some.gone (waits_left a line pairs t v p at after (waits_after line pairs s t k.waits same) c.leave.ensures) b in
    let back_is : w.state ≡ v.state = met_back v w (c.in-Some.back, c.in-Some.gone) b in
    let stays : StaysMet s.state w.state = subst (StaysMet s.state) (sym back_is) (subst (λ xs. StaysMet xs v.state) state_is kept.0) in
    record {
      search = on;
      list = list_is;
      within = subst (λ xs. c.in-Some.gone ≤ length xs) (sym list_is) waits.1;
      root = stays c.args.root k.root;
      met = λ r h. stays r (k.met r h);
      waits = waits.0;
    }
