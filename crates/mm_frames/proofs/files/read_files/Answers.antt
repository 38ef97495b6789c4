use Rattle.std.proofs.Common.{◌≡◌, ◌≤◌, ℕ, [], ◌∷◌, length, refl, ap, ◌∙◌, arith}
use Rattle.std.specs.Global.{Vec}
use Rattle.std.specs.Vec.{vec_len}
use Rattle.std.proofs.lemmas.List.{length-map, map-append}
use Rattle.std.proofs.lemmas.List.Elements.{All-push}
use Rattle.std.proofs.lemmas.Result.{err_from_is_err_and}
use Rattle.sp_ids.specs.Limits.{max_batch_file_bytes}
use Rattle.mm_reader.specs.Fronts.{front}
use Rattle.mm_frames.specs.Batches.{files_of}
use Rattle.mm_frames.proofs.BatchLaws.{files_told}
use Rattle.mm_frames.proofs.UsedLaws.{asks_none, asks_then, most_known}
use Rattle.mm_frames.proofs.WholeLaws.{end_answered, file_answered, file_used, files_none, header_answered, header_used, last_answered, less_room, one_file_more}
use Rattle.mm_frames.proofs.files.read_files.Goals as goal

count : (files : Vec (Vec ℕ)) (n : ℕ) → n ≡ vec_len files → n ≡ length (files_of files.items)
count files n e = let m = length-map files.items (λ (file : Vec ℕ). file.items) in omega (arith, e, files.ok.0, m)

pub reading-init : goal.reading-init
reading-init g c =
    let e = c.new-files.ensures.items in
    let n : length c.new-files.result.items ≡ 0 = ap length e in
    record {
      files = rw e (files_none (front c.args.input.now) (g.S.Source.left c.args.source.now));
      small = λ k d low. absurd (omega arith);
      steady = refl;
      can = c.requires;
      asks = asks_none c.requires;
    }

pub returns-in_err-read_header-clause-tells : goal.returns-in_err-read_header-clause-tells
returns-in_err-read_header-clause-tells g c =
    let i = c.reading.invariant in
    let q = err_from_is_err_and c.from_residual.result c.from_residual.ensures.1 in
    rw (q.1, q.2)
    (files_told _ _ _ _ (header_answered _ _ _ _ _ _ _ _ _ i.steady _ i.files _ (count c.reading.files _ c.len-before.ensures)
    c.in_err-read_header.field-0.0 c.in_err-read_header.ensures.answer))

pub returns-in_err-read_header-clause-draws : goal.returns-in_err-read_header-clause-draws
returns-in_err-read_header-clause-draws g c =
    let i = c.reading.invariant in
    let u = c.in_err-read_header.ensures.answer in
    let k = header_used _ _ _ _ _ _ _ _ (g.S.Source.faults c.read_header.new.source) i.steady _ i.files _ (count c.reading.files _ c.len-before.ensures) u.used u.so_far in
    record {
      gave = (k.gave, k.given);
      most = most_known _ _ _ _ _ k (g.S.Source.faults c.args.source.now) (g.S.Source.faults c.read_header.new.source) c.in_err-read_header.ensures.most;
      asks = asks_then i.asks c.in_err-read_header.ensures.asks;
    }

pub returns-in-None-clause-tells : goal.returns-in-None-clause-tells
returns-in-None-clause-tells g c =
    let i = c.reading.invariant in
    let u = rw c.in-None.is at c.in_ok-read_header.ensures.answer in
    files_told _ _ _ _ (end_answered _ _ _ _ _ _ _ _ _ i.steady _ i.files _ (count c.reading.files _ c.len-before.ensures) u)

pub returns-then-header-clause-tells : goal.returns-then-header-clause-tells
returns-then-header-clause-tells g c =
    let i = c.reading.invariant in
    let u = rw c.in-Some.is at c.in_ok-read_header.ensures.answer in
    files_told _ _ _ _ (last_answered _ _ _ _ _ _ _ _ _ i.steady _ i.files _ (count c.reading.files _ c.len-before.ensures) c.in-Some.header u c.if-header.true c.end_with.result c.end_with.ensures.answer)

pub returns-then-header-clause-draws : goal.returns-then-header-clause-draws
returns-then-header-clause-draws g c =
    let i = c.reading.invariant in
    let u = c.in_ok-read_header.ensures.answer in
    let k = header_used _ _ _ _ _ _ _ _ (g.S.Source.faults c.read_header.new.source) i.steady _ i.files _ (count c.reading.files _ c.len-before.ensures) u.used u.so_far in
    record {
      gave = (k.gave, k.given);
      most = most_known _ _ _ _ _ k (g.S.Source.faults c.args.source.now) (g.S.Source.faults c.read_header.new.source) c.in_ok-read_header.ensures.most;
      asks = asks_then i.asks c.in_ok-read_header.ensures.asks;
    }

pub returns-in_err-file-clause-tells : goal.returns-in_err-file-clause-tells
returns-in_err-file-clause-tells g c =
    let i = c.reading.invariant in
    let u = rw c.in-Some.is at c.in_ok-read_header.ensures.answer in
    let q = err_from_is_err_and c.from_residual-in_err-file.result c.from_residual-in_err-file.ensures.1 in
    rw (q.1, q.2)
    (files_told _ _ _ _ (file_answered _ _ _ _ _ _ _ _ _ i.steady _ i.files _ (count c.reading.files _ c.len-before.ensures) c.in-Some.header u c.if-header.false
    c.in_ok-read_header.ensures.fares.cause.steady _ _ _ c.in_err-file.field-0.0 (c.in_err-file.ensures.answer u.such.line u.such.good)))

pub returns-in_err-file-clause-draws : goal.returns-in_err-file-clause-draws
returns-in_err-file-clause-draws g c =
    let i = c.reading.invariant in
    let u = rw c.in-Some.is at c.in_ok-read_header.ensures.answer in
    let v = c.in_err-file.ensures.answer u.such.line u.such.good in
    let k = file_used _ _ _ _ _ _ _ _ _ i.steady _ i.files _ (count c.reading.files _ c.len-before.ensures) c.in-Some.header u c.if-header.false
    c.in_ok-read_header.ensures.fares.cause.steady _ _ (g.S.Source.faults c.read_file.new.source) v.used v.so_far in
    record {
      gave = (k.gave, k.given);
      most = most_known _ _ _ _ _ k (g.S.Source.faults c.args.source.now) (g.S.Source.faults c.read_file.new.source) c.in_err-file.ensures.most;
      asks = asks_then i.asks (asks_then c.in_ok-read_header.ensures.asks c.in_err-file.ensures.asks);
    }

pub returns-in-Err-clause-draws : goal.returns-in-Err-clause-draws
returns-in-Err-clause-draws g c =
    let i = c.reading.invariant in
    let u = rw c.in-Some.is at c.in_ok-read_header.ensures.answer in
    let v = c.in_ok-file.ensures.answer u.such.line u.such.good in
    let k = file_used _ _ _ _ _ _ _ _ _ i.steady _ i.files _ (count c.reading.files _ c.len-before.ensures) c.in-Some.header u c.if-header.false
    c.in_ok-read_header.ensures.fares.cause.steady _ _ (g.S.Source.faults c.read_file.new.source) v.used v.so_far in
    record {
      gave = (k.gave, k.given);
      most = most_known _ _ _ _ _ k (g.S.Source.faults c.args.source.now) (g.S.Source.faults c.read_file.new.source) c.in_ok-file.ensures.most;
      asks = asks_then i.asks (asks_then c.in_ok-read_header.ensures.asks c.in_ok-file.ensures.asks);
    }

pub reading-smaller : goal.reading-smaller
reading-smaller g c =
    let i = c.reading.invariant in
    let u = rw c.in-Some.is at c.in_ok-read_header.ensures.answer in
    less_room _ _ _ _ _ _ _ _ _ i.steady _ i.files _ (count c.reading.files _ c.len-before.ensures) c.in-Some.header u c.if-header.false
    c.in_ok-read_header.ensures.fares.cause.steady _ _ _ c.in_ok-file.file (c.in_ok-file.ensures.answer u.such.line u.such.good)

pub reading-preserved : goal.reading-preserved
reading-preserved g c =
    let i = c.reading.invariant in
    let u = rw c.in-Some.is at c.in_ok-read_header.ensures.answer in
    let m = one_file_more _ _ _ _ _ _ _ _ _ i.steady _ i.files _ (count c.reading.files _ c.len-before.ensures) c.in-Some.header u c.if-header.false
    c.in_ok-read_header.ensures.fares.cause.steady _ _ _ c.in_ok-file.file (c.in_ok-file.ensures.answer u.such.line u.such.good) in
    let e = c.in_default.ensures.items in
    let a = map-append (λ (file : Vec ℕ). file.items) c.reading.files.items (c.in_ok-file.file ∷ []) in
    record {
      files = rw (e, a) m;
      small = rw e (All-push (λ (file : Vec ℕ). length file.items ≤ max_batch_file_bytes) c.reading.files.items c.in_ok-file.file i.small c.in_ok-file.ensures.gives.small);
      steady = c.in_ok-file.ensures.fares.cause.steady ∙ c.in_ok-read_header.ensures.fares.cause.steady ∙ i.steady;
      can = record { good = c.in_ok-file.ensures.fares.good; at_end = c.in_ok-file.ensures.asks.at_end };
      asks = asks_then i.asks (asks_then c.in_ok-read_header.ensures.asks c.in_ok-file.ensures.asks);
    }
