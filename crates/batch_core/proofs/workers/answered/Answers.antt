use Rattle.std.proofs.Common.{◌≡◌, ◌∙◌, ◌≤◌, length, map, List, ap, arith, sym, subst}
use Rattle.std.specs.List.{All}
use Rattle.std.proofs.lemmas.List.{length-map}
use Rattle.claim_words.specs.Seat.{Seat, new_seats}
use Rattle.sp_ids.specs.Limits.{max_workers}
use Rattle.mm_frames.specs.Batches.{files_of}
use Rattle.batch_core.specs.Shares.{IsAtBoard, Share, files_in, new_share}
use Rattle.batch_core.proofs.WorkerLemmas.{IsOver, all_at_board, all_written, new_files, same_files}
use Rattle.batch_core.proofs.workers.answered.Goals as goal

pub work_all-requires-clause-at_board : goal.work_all-requires-clause-at_board
work_all-requires-clause-at_board g c κs within =
    let files = files_of c.args.files.now in
    let shares : c.as_mut_slice.result.now ≡ map (new_share files) (new_seats c.in_ok-board.board c.number-workers.result) =
    c.as_mut_slice.ensures.value ∙ c.in_ok-shares.ensures ∙ ap (λ (seats : List Seat). map (new_share files) seats) c.in_ok-board.ensures.seats in
    let rows : length c.in_ok-board.board.rows ≡ length files =
    ap length c.in_ok-board.ensures.board.0 ∙ ap length c.as_slice.ensures.value ∙ sym c.in_ok-rows.rows.ok.0 ∙ c.in_ok-rows.ensures.len ∙ sym (length-map c.args.files.now _) in
    subst (λ (xs : List Share). All (IsAtBoard c.in_ok-board.board) xs) (sym shares) (all_at_board c.in_ok-board.board files c.number-workers.result rows)

pub work_all-requires-clause-columns : goal.work_all-requires-clause-columns
work_all-requires-clause-columns g c κs within =
    let files = files_of c.args.files.now in
    let count : length c.as_mut_slice.result.now ≡ c.number-workers.result =
    ap length c.as_mut_slice.ensures.value ∙ ap length c.in_ok-shares.ensures ∙ ap (λ (seats : List Seat). length (map (new_share files) seats)) c.in_ok-board.ensures.seats ∙ length-map (new_seats c.in_ok-board.board c.number-workers.result) (new_share files) ∙ c.new_seats_are_all.ensures.many c.in_ok-board.board c.number-workers.result in
    let roots : length c.in_ok-board.board.roots ≡ c.number-workers.result =
    ap length c.in_ok-board.ensures.board.1 ∙ ap length c.as_slice-2.ensures.value ∙ sym c.in_ok-columns.columns.ok.0 ∙ c.in_ok-columns.ensures.len in
    omega (arith, count, roots)

pub work_all-requires-clause-few : goal.work_all-requires-clause-few
work_all-requires-clause-few g c κs within =
    let files = files_of c.args.files.now in
    let count : length c.as_mut_slice.result.now ≡ c.number-workers.result =
    ap length c.as_mut_slice.ensures.value ∙ ap length c.in_ok-shares.ensures ∙ ap (λ (seats : List Seat). length (map (new_share files) seats)) c.in_ok-board.ensures.seats ∙ length-map (new_seats c.in_ok-board.board c.number-workers.result) (new_share files) ∙ c.new_seats_are_all.ensures.many c.in_ok-board.board c.number-workers.result in
    let few : c.number-workers.result ≤ max_workers = c.number-workers.ensures.few in
    omega (arith, count, few)

pub returns : goal.returns
returns g c =
    let files = files_of c.args.files.now in
    let old = c.in_ok-shares.shares in
    let kept : files_in c.work_all.new.shares ≡ files_in old.items = c.work_all.ensures ∙ ap files_in c.as_mut_slice.ensures.value in
    let before : All (IsOver files) old.items = subst (λ (xs : List Share). All (IsOver files) xs) (sym c.in_ok-shares.ensures) (new_files files c.in_ok-board.seats.items) in
    subst (λ (xs : List Share). All (IsOver files) xs) (sym (all_written old.items c.work_all.new.shares old.len old.ok.0 kept)) (same_files files old.items c.work_all.new.shares kept before)
