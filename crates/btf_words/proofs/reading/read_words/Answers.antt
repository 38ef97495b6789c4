use Rattle.std.proofs.Common.{string_bytes, map, sym, ◌∙◌}
use Rattle.clap.specs.Words.{app_of}
use Rattle.btf_words.proofs.TakenLemmas.{are_taken, has_one, is_job, refused}
use Rattle.btf_words.proofs.reading.read_words.Goals as goal

pub returns-in-Some-clause-taken : goal.returns-in-Some-clause-taken
returns-in-Some-clause-taken c =
    are_taken (app_of c.in-Ok.program) (map string_bytes c.args.words.now) c.in-Ok.ensures c.in-Ok-try_get_matches_from.ensures.kinds

pub returns-in-Some-clause-job : goal.returns-in-Some-clause-job
returns-in-Some-clause-job c =
    sym (is_job (app_of c.in-Ok.program) (map string_bytes c.args.words.now) _ _ c.in-Ok.ensures c.in-Ok-try_get_matches_from.ensures.matches c.job_in.ensures.job)
    ∙ c.in-Some.is

pub returns-in-Ok-try_get_matches_from-clause-usage : goal.returns-in-Ok-try_get_matches_from-clause-usage
returns-in-Ok-try_get_matches_from-clause-usage c = λ refusal taken.
    has_one (map string_bytes c.args.words.now) _ taken
    (is_job (app_of c.in-Ok.program) (map string_bytes c.args.words.now) _ _ c.in-Ok.ensures c.in-Ok-try_get_matches_from.ensures.matches c.job_in.ensures.job)
    c.in-None.is

pub returns : goal.returns
returns c = record {
  taken = tt;
  job = tt;
  limits = tt;
  usage = λ refusal taken. refused (app_of c.in-Ok.program) (map string_bytes c.args.words.now) c.in-Err.error c.in-Ok.ensures
      c.in-Err.ensures.kinds (λ memory. c.in_default-kind.not-OutOfMemory (c.kind.ensures ∙ memory)) taken;
}
