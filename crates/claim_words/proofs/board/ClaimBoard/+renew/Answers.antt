use Rattle.std.proofs.Common.{◌≡◌, ◌∙◌, ◌+◌, length, sym, ap, subst, arith, ◌++◌, ◌∷◌, []}
use Rattle.claim_words.specs.Listed.{all_listed, followed_by}
use Rattle.claim_words.specs.Seat.{Seat, first_seat, lists_of, new_seat}
use Rattle.claim_words.specs.Stored.{seat_in}
use Rattle.claim_words.specs.WorkerState.{WorkerState, re_seated, seats_of, with_seat}
use Rattle.claim_words.proofs.GatherLemmas.{gathering}
use Rattle.claim_words.proofs.Reseated.{last_first, last_out, renewed_at, renewed_first, renewed_others}
use Rattle.claim_words.proofs.board.ClaimBoard.+renew.Goals as goal
use Rattle.board_seats.proofs.Numbered.{listed_last}

pub join-requires-clause-first : goal.join-requires-clause-first
join-requires-clause-first t c =
    let out = last_out _ _ _ _ _ c.requires.others c.in-Some.ensures.cases.0 (sym (ap (λ (w : WorkerState). w.seat) c.last.view_is) ∙ ap seat_in (sym c.take.ensures.value ∙ c.in-Some-take.is)) in
    last_first _ _ _ _ _ _ out c.requires.first

pub join-requires-clause-last : goal.join-requires-clause-last
join-requires-clause-last t c =
    let out = last_out _ _ _ _ _ c.requires.others c.in-Some.ensures.cases.0 (sym (ap (λ (w : WorkerState). w.seat) c.last.view_is) ∙ ap seat_in (sym c.take.ensures.value ∙ c.in-Some-take.is)) in
    out.board

pub renew-requires : goal.renew-requires
renew-requires t c =
    let out = last_out _ _ _ _ _ c.requires.others c.in-Some.ensures.cases.0 (sym (ap (λ (w : WorkerState). w.seat) c.last.view_is) ∙ ap seat_in (sym c.take.ensures.value ∙ c.in-Some-take.is)) in
    (omega (arith, out.long, c.decreases), (renewed_first _ _ _ _ _ _ out c.join.ensures, out.before))

pub split-requires-clause-first : goal.split-requires-clause-first
split-requires-clause-first t c =
    let out = last_out _ _ _ _ _ c.requires.others c.in-Some.ensures.cases.0 (sym (ap (λ (w : WorkerState). w.seat) c.last.view_is) ∙ ap seat_in (sym c.take.ensures.value ∙ c.in-Some-take.is)) in
    renewed_at _ _ _ _ _ c.renew.ensures.first (c.number-number.ensures.number ∙ out.number)

pub returns-clause-first : goal.returns-clause-first
returns-clause-first t c =
    let out = last_out _ _ _ _ _ c.requires.others c.in-Some.ensures.cases.0 (sym (ap (λ (w : WorkerState). w.seat) c.last.view_is) ∙ ap seat_in (sym c.take.ensures.value ∙ c.in-Some-take.is)) in
    let count : 1 + c.number-number.result ≡ 1 + length c.args.others.now = omega (arith, c.number-number.ensures.number, out.number, out.long) in
    let listed = ap (λ (s : Seat). s.listed) c.renew.ensures.first ∙ (λ i. followed_by (all_listed (lists_of (seats_of c.in-Some.rest.now))) (c.join.ensures i).listed) ∙ sym (listed_last gathering (seats_of c.in-Some.rest.now) c.in-Some-take.seat c.args.first.now.listed) ∙ ap (λ ss. followed_by (all_listed (lists_of ss)) c.args.first.now.listed) (sym out.seats) in
    c.split.ensures.first ∙ (λ i. first_seat c.args.self.now (count i) (listed i))

pub returns-clause-others : goal.returns-clause-others
returns-clause-others t c =
    let out = last_out _ _ _ _ _ c.requires.others c.in-Some.ensures.cases.0 (sym (ap (λ (w : WorkerState). w.seat) c.last.view_is) ∙ ap seat_in (sym c.take.ensures.value ∙ c.in-Some-take.is)) in
    subst (λ (w : WorkerState). c.renew.new.others ++ with_seat w c.split.result ∷ [] ≡ re_seated c.args.self.now 1 c.args.others.now) (sym c.last.view_is)
    (renewed_others _ _ _ _ _ _ c.in-Some.ensures.cases.0 c.renew.ensures.others (c.split.ensures.new ∙ ap (new_seat c.args.self.now) (c.number-number.ensures.number ∙ out.number)))
