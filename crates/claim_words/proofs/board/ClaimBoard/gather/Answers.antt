use Rattle.std.proofs.Common.{◌≡◌, ◌∙◌, ◌+◌, ◌∷◌, length, sym, ap, subst}
use Rattle.claim_words.specs.Board.{Words}
use Rattle.claim_words.specs.Listed.{all_listed, followed_by}
use Rattle.claim_words.specs.Seat.{first_seat, lists_of}
use Rattle.claim_words.specs.Settles.{SettlesAll}
use Rattle.claim_words.specs.Stored.{seat_in}
use Rattle.claim_words.specs.WorkerState.{AreAllWorkers, WorkerState, fresh_lists, seats_of, with_seat}
use Rattle.claim_words.proofs.Reseated.{all_renewed, gathered_all, gathered_fresh, gathered_words}
use Rattle.claim_words.proofs.board.ClaimBoard.gather.Goals as goal

pub returns-clause-all : goal.returns-clause-all
returns-clause-all c =
    let same = sym (ap (λ (w : WorkerState). w.seat) c.first.view_is) ∙ ap seat_in c.in-Some-seat.is in
    let first : c.renew.new.first ≡ first_seat c.args.self.now (1 + length c.in-Some.others.now) (followed_by (all_listed (lists_of (seats_of c.in-Some.others.now))) c.in-Some.first.now.seat.listed) =
    c.renew.ensures.first ∙ ap (λ s. first_seat c.args.self.now (1 + length c.in-Some.others.now) (followed_by (all_listed (lists_of (seats_of c.in-Some.others.now))) s.listed)) (sym same) in
    let e = ap (λ w. with_seat w c.renew.new.first ∷ c.renew.new.others) c.first.view_is ∙ all_renewed _ _ _ _ _ _ c.requires c.in-Some.ensures.cases.0 first c.renew.ensures.others in
    subst (AreAllWorkers c.args.self.now) (sym e) (gathered_all _ _ c.requires)

pub returns-clause-fresh : goal.returns-clause-fresh
returns-clause-fresh c =
    let same = sym (ap (λ (w : WorkerState). w.seat) c.first.view_is) ∙ ap seat_in c.in-Some-seat.is in
    let first : c.renew.new.first ≡ first_seat c.args.self.now (1 + length c.in-Some.others.now) (followed_by (all_listed (lists_of (seats_of c.in-Some.others.now))) c.in-Some.first.now.seat.listed) =
    c.renew.ensures.first ∙ ap (λ s. first_seat c.args.self.now (1 + length c.in-Some.others.now) (followed_by (all_listed (lists_of (seats_of c.in-Some.others.now))) s.listed)) (sym same) in
    let e = ap (λ w. with_seat w c.renew.new.first ∷ c.renew.new.others) c.first.view_is ∙ all_renewed _ _ _ _ _ _ c.requires c.in-Some.ensures.cases.0 first c.renew.ensures.others in
    ap fresh_lists e ∙ gathered_fresh c.args.self.now c.args.workers.now

pub returns-clause-words : goal.returns-clause-words
returns-clause-words c =
    let same = sym (ap (λ (w : WorkerState). w.seat) c.first.view_is) ∙ ap seat_in c.in-Some-seat.is in
    let first : c.renew.new.first ≡ first_seat c.args.self.now (1 + length c.in-Some.others.now) (followed_by (all_listed (lists_of (seats_of c.in-Some.others.now))) c.in-Some.first.now.seat.listed) =
    c.renew.ensures.first ∙ ap (λ s. first_seat c.args.self.now (1 + length c.in-Some.others.now) (followed_by (all_listed (lists_of (seats_of c.in-Some.others.now))) s.listed)) (sym same) in
    let e = ap (λ w. with_seat w c.renew.new.first ∷ c.renew.new.others) c.first.view_is ∙ all_renewed _ _ _ _ _ _ c.requires c.in-Some.ensures.cases.0 first c.renew.ensures.others in
    subst (λ ws. (words : Words) × SettlesAll c.args.self.now words (seats_of c.args.workers.now) × SettlesAll c.args.self.now words (seats_of ws)) (sym e)
    (gathered_words _ _ _ _ c.renew.new.first c.in-Some.ensures.cases.0 first c.renew.ensures.words)
