use Rattle.std.proofs.Common.{ℕ, ap, codes, map, rules, string_bytes, ◌∙◌}
use Rattle.clap.specs.Words.{app_of, found_of, rows_of}
use Rattle.btf_words.specs.Words.{number_in}
use Rattle.btf_words.proofs.BatchLemmas.{number_found, refused, taken}
use Rattle.btf_words.proofs.batch.read_batch_words.Goals as goal

pub returns-in-Ok-try_get_matches_from-clause-taken : goal.returns-in-Ok-try_get_matches_from-clause-taken
returns-in-Ok-try_get_matches_from-clause-taken c =
    taken (app_of c.in-Ok.program) (map string_bytes c.args.words.now) c.in-Ok.ensures c.in-Ok-try_get_matches_from.ensures.kinds

pub returns-in-Ok-try_get_matches_from-clause-workers : goal.returns-in-Ok-try_get_matches_from-clause-workers
returns-in-Ok-try_get_matches_from-clause-workers c =
    c.new.ensures
    ∙ number_found (app_of c.in-Ok.program) (map string_bytes c.args.words.now) c.in-Ok-try_get_matches_from.matches c.number_of-workers.result
    c.in-Ok.ensures c.in-Ok-try_get_matches_from.ensures.matches
    (c.number_of-workers.ensures.number ∙ ap (λ (high : ℕ). number_in 1 high (codes "workers") (rows_of (found_of c.in-Ok-try_get_matches_from.matches))) (search rules))

pub returns : goal.returns
returns c = record {
  taken = tt;
  workers = tt;
  limits = tt;
  usage = λ refusal taken. refused (app_of c.in-Ok.program) (map string_bytes c.args.words.now) c.in-Err.error c.in-Ok.ensures
      c.in-Err.ensures.kinds (λ memory. c.in_default-kind.not-OutOfMemory (c.kind.ensures ∙ memory)) taken;
}
